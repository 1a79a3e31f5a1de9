-- What holds of the peer's settings that have no meaning.
use Rattle.std.proofs.Common.{◌≡◌, ℕ, ◌==◌, List, [], ◌++◌, if◌then◌else◌, Option, Some, None, refl, ap, sym, ◌∙◌, subst}
use Rattle.h3_proto.specs.OtherSettings.{others_of}
use Rattle.h3_proto.specs.Settings.{value_of}
use Rattle.h3_frames.specs.Frames.{Whole, frame_by}
use Rattle.h3_frames.specs.Fronts.{IsFinished}
use Rattle.h3_frames.specs.OtherSettings.{others_at}
use Rattle.h3_frames.specs.OtherSettingsLaws.{settings_more}
use Rattle.h3_frames.specs.declared.frame.kinds.FrameKinds.{FrameKinds}
use Rattle.h3_frames.specs.declared.proto.frame.PayloadLen.{PayloadLen}
use Rattle.h3_frames.specs.declared.proto.frame.Frame.{Frame}
use Rattle.h3_frames.specs.declared.proto.frame.Frame.TheVariants as frame
use Rattle.h3_connection.specs.OtherSettings.{OtherSettings, setting_in, value_in, value_or, with_others, with_told}
use Rattle.h3_connection.specs.PeerReading.{Peer, having_frame, with_unread}

-- **An endpoint that keeps none reads none.**
pub none_told : (o : OtherSettings) (bytes : List ℕ) → o.most ≡ 0 → with_told o bytes ≡ o
none_told o bytes none = ap (λ n. if n == 0 then o else record o { kept = others_at o.most bytes }) none

pub none_kept : (settings : Option (List (ℕ × ℕ))) (f : Frame PayloadLen) (o : OtherSettings) (bytes : List ℕ) → o.most ≡ 0 → with_others settings f o bytes ≡ o
none_kept (Some pairs) f o bytes none = refl
none_kept None (frame.Settings pairs) o bytes none = none_told o bytes none
none_kept None (frame.Data len) o bytes none = refl
none_kept None (frame.Headers section) o bytes none = refl
none_kept None (frame.CancelPush id) o bytes none = refl
none_kept None (frame.PushPromise promise) o bytes none = refl
none_kept None (frame.PriorityUpdate u) o bytes none = refl
none_kept None (frame.Goaway id) o bytes none = refl
none_kept None (frame.MaxPushId id) o bytes none = refl
none_kept None (frame.WebTransportStream id) o bytes none = refl
none_kept None (frame.Grease kind) o bytes none = refl

pub none_read_of : (p : Peer) (f : Frame PayloadLen) (bytes rest : List ℕ) → p.others.most ≡ 0 → having_frame p f bytes rest ≡ with_unread p rest
none_read_of p f bytes rest none = ap (λ o. record p { unread = rest; others = o }) (none_kept p.settings f p.others bytes none)

-- and shows those that have a meaning.
pub none_shown : (settings : Option (List (ℕ × ℕ))) (others : OtherSettings) (id : ℕ) → others.kept ≡ [] → setting_in settings others id ≡ value_in settings id
none_shown settings others id none = ap (λ l. value_or (value_in settings id) (value_of id l)) none ∙ alone (value_in settings id)
  where
    alone : (o : Option ℕ) → value_or o None ≡ o
    alone (Some value) = refl
    alone None = refl

-- **Those of a frame are the same, whatever comes behind it.**
told_more : (kinds : FrameKinds) (o : OtherSettings) (bytes more : List ℕ) → IsFinished (frame_by kinds bytes) → with_told o (bytes ++ more) ≡ with_told o bytes
told_more kinds o bytes more there = ap (λ l. if o.most == 0 then o else record o { kept = others_of o.most l }) (settings_more kinds bytes more there)

pub others_more : (kinds : FrameKinds) (settings : Option (List (ℕ × ℕ))) (f : Frame PayloadLen) (o : OtherSettings) (bytes more rest : List ℕ) → frame_by kinds bytes ≡ Whole f rest → with_others settings f o (bytes ++ more) ≡ with_others settings f o bytes
others_more kinds (Some pairs) f o bytes more rest e = refl
others_more kinds None (frame.Settings pairs) o bytes more rest e = told_more kinds o bytes more (subst IsFinished (sym e) tt)
others_more kinds None (frame.Data len) o bytes more rest e = refl
others_more kinds None (frame.Headers section) o bytes more rest e = refl
others_more kinds None (frame.CancelPush id) o bytes more rest e = refl
others_more kinds None (frame.PushPromise promise) o bytes more rest e = refl
others_more kinds None (frame.PriorityUpdate u) o bytes more rest e = refl
others_more kinds None (frame.Goaway id) o bytes more rest e = refl
others_more kinds None (frame.MaxPushId id) o bytes more rest e = refl
others_more kinds None (frame.WebTransportStream id) o bytes more rest e = refl
others_more kinds None (frame.Grease kind) o bytes more rest e = refl
