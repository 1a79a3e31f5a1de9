-- The settings of no meaning that a control stream begins with, as they are read.
use Rattle.std.proofs.Common.{◌≡◌, ℕ, ◌==◌, true, false, if◌then◌else◌, List, Option, Some, None, refl, ap, sym, ◌∙◌, subst}
use Rattle.std.specs.Prelude.{is_some}
use Rattle.h3_proto.specs.declared.stream.Side.{Side}
use Rattle.h3_frames.specs.Known.{known_by}
use Rattle.h3_frames.specs.OtherSettings.{others_at}
use Rattle.h3_frames.specs.declared.proto.frame.PayloadLen.{PayloadLen}
use Rattle.h3_frames.specs.declared.proto.frame.Frame.{Frame}
use Rattle.h3_frames.specs.declared.proto.frame.Frame.TheVariants as frame
use Rattle.h3_frames.specs.declared.frame.kinds.FrameKinds.{FrameKinds}
use Rattle.h3_connection.specs.Codes.{missing_settings}
use Rattle.h3_connection.specs.OtherSettings.{OtherSettings, with_others, with_told}
use Rattle.h3_connection.specs.OtherSettingsLaws.{none_told}
use Rattle.h3_connection.specs.PeerReading.{Peer, PeerFound, having_frame, with_unread, read_frame}
use Rattle.h3_connection.specs.Updates.{Updates}
use Rattle.h3_unidirectional.specs.Judged.{TellsOthers, others_by}

-- The settings came before,
pub none_due : (kinds : FrameKinds) (p : Peer) → is_some p.settings ≡ true → TellsOthers kinds p None
none_due kinds p some none = let wrong : false ≡ true = sym (ap is_some none) ∙ some in absurd (cc)

-- or none of no meaning are kept.
pub none_wanted : (kinds : FrameKinds) (p : Peer) → p.others.most ≡ 0 → TellsOthers kinds p None
none_wanted kinds p none due = sym (none_told p.others (known_by kinds p.unread) none)

-- Room for more changes none.
pub tells_kept : (kinds : FrameKinds) (p : Peer) (goaways : List ℕ) (updates : Updates) (told : Option (List (ℕ × ℕ))) → TellsOthers kinds (record p { goaways = goaways; updates = updates }) told → TellsOthers kinds p told
tells_kept kinds p goaways updates None tells = tells
tells_kept kinds p goaways updates (Some kept) tells = tells

-- Where no settings come of a frame, none of no meaning do.
pub others_same : (side : Side) (q : Peer) (settings : Option (List (ℕ × ℕ))) (f : Frame PayloadLen) (o : OtherSettings) (bytes : List ℕ) (x : PeerFound) → read_frame side q settings f ≡ x → (x.1 ≡ None → x.0.settings ≡ settings)
    → with_others settings f o bytes ≡ o
others_same side q (Some pairs) f o bytes x e stays = refl
others_same side q None (frame.Settings pairs) o bytes x e stays =
    let wrong : Some pairs ≡ None = ap (λ (y : PeerFound). y.0.settings) e ∙ stays (sym (ap (λ (y : PeerFound). y.1) e)) in absurd (cc)
others_same side q None (frame.Data len) o bytes x e stays = refl
others_same side q None (frame.Headers section) o bytes x e stays = refl
others_same side q None (frame.CancelPush id) o bytes x e stays = refl
others_same side q None (frame.PushPromise promise) o bytes x e stays = refl
others_same side q None (frame.PriorityUpdate u) o bytes x e stays = refl
others_same side q None (frame.Goaway id) o bytes x e stays = refl
others_same side q None (frame.MaxPushId id) o bytes x e stays = refl
others_same side q None (frame.WebTransportStream id) o bytes x e stays = refl
others_same side q None (frame.Grease kind) o bytes x e stays = refl

pub having_as : (side : Side) (p : Peer) (f : Frame PayloadLen) (bytes rest : List ℕ) (x : PeerFound) → read_frame side (with_unread p rest) p.settings f ≡ x → (x.1 ≡ None → x.0.settings ≡ p.settings)
    → read_frame side (having_frame p f bytes rest) p.settings f ≡ x
having_as side p f bytes rest x e stays =
    ap (λ o. read_frame side (record p { unread = rest; others = o }) p.settings f) (others_same side (with_unread p rest) p.settings f p.others bytes x e stays) ∙ e

-- What is looked for is what the frame has.
others_are : (kinds : FrameKinds) (p : Peer) (told : Option (List (ℕ × ℕ))) → p.settings ≡ None → TellsOthers kinds p told → others_by told p.others ≡ with_told p.others (known_by kinds p.unread)
others_are kinds p None due tells = tells due
others_are kinds p (Some kept) due tells = tells.1

none_looked : (kinds : FrameKinds) (p : Peer) (told : Option (List (ℕ × ℕ))) (pairs : List (ℕ × ℕ)) → p.settings ≡ Some pairs → TellsOthers kinds p told → others_by told p.others ≡ p.others
none_looked kinds p None pairs came tells = refl
none_looked kinds p (Some kept) pairs came tells = let wrong : Some pairs ≡ None = sym came ∙ tells.0 in absurd (cc)

-- settings that are told, with those of no meaning
abbrev with_both : Peer → List (ℕ × ℕ) → OtherSettings → PeerFound
with_both q pairs o = (record q { settings = Some pairs; others = o }, None)

pub having_settings : (kinds : FrameKinds) (side : Side) (p : Peer) (f : Frame PayloadLen) (rest : List ℕ) (pairs : List (ℕ × ℕ)) (told : Option (List (ℕ × ℕ))) → TellsOthers kinds p told
    → read_frame side (with_unread p rest) p.settings f ≡ (record p { unread = rest; settings = Some pairs }, None)
    → read_frame side (having_frame p f (known_by kinds p.unread) rest) p.settings f ≡ (record p { unread = rest; settings = Some pairs; others = others_by told p.others }, None)
having_settings kinds side p f rest pairs told tells = by_settings p.settings refl
  where
    bytes : List ℕ
    bytes = known_by kinds p.unread

    q : Peer
    q = with_unread p rest

    Reads : Option (List (ℕ × ℕ)) → Type 0
    Reads settings =
        read_frame side q settings f ≡ with_both q pairs p.others
        → read_frame side (record q { others = with_others settings f p.others bytes }) settings f ≡ with_both q pairs (others_by told p.others)

    by_settings : (settings : Option (List (ℕ × ℕ))) → p.settings ≡ settings → Reads settings
    by_settings (Some came) is e = e ∙ ap (with_both q pairs) (sym (none_looked kinds p told came is tells))
    by_settings None is e = by_frame f e
      where
        found : (g : Frame PayloadLen) → (missing : read_frame side q None g ≡ (q, Some missing_settings)) → read_frame side q None g ≡ with_both q pairs p.others → ⊥
        found g missing e = let wrong : Some missing_settings ≡ None = ap (λ (x : PeerFound). x.1) (sym missing ∙ e) in absurd (cc)

        by_frame : (g : Frame PayloadLen) → read_frame side q None g ≡ with_both q pairs p.others → read_frame side (record q { others = with_others None g p.others bytes }) None g ≡ with_both q pairs (others_by told p.others)
        by_frame (frame.Settings others) e =
            ap (λ (x : PeerFound). (let y : PeerFound = (record x.0 { others = with_told p.others bytes }, None) in y)) e ∙ ap (with_both q pairs) (sym (others_are kinds p told is tells))
        by_frame (frame.Data len) e = absurd (found (frame.Data len) refl e)
        by_frame (frame.Headers section) e = absurd (found (frame.Headers section) refl e)
        by_frame (frame.CancelPush id) e = absurd (found (frame.CancelPush id) refl e)
        by_frame (frame.PushPromise promise) e = absurd (found (frame.PushPromise promise) refl e)
        by_frame (frame.PriorityUpdate u) e = absurd (found (frame.PriorityUpdate u) refl e)
        by_frame (frame.Goaway id) e = absurd (found (frame.Goaway id) refl e)
        by_frame (frame.MaxPushId id) e = absurd (found (frame.MaxPushId id) refl e)
        by_frame (frame.WebTransportStream id) e = absurd (found (frame.WebTransportStream id) refl e)
        by_frame (frame.Grease kind) e = absurd (found (frame.Grease kind) refl e)

-- Beside the settings nothing else of the peer changed.
pub settings_first : (p new : Peer) (goaways rest : List ℕ) (updates : Updates) (pairs : List (ℕ × ℕ)) (others : OtherSettings) → goaways ≡ p.goaways → updates ≡ p.updates
    → new ≡ record p { unread = rest; goaways = goaways; updates = updates; settings = Some pairs; others = others } → (new ≡ record p { unread = new.unread; settings = new.settings; others = new.others }) × (is_some new.settings ≡ true)
settings_first p new goaways rest updates pairs others same kept is =
    subst (λ (n : Peer). (n ≡ record p { unread = n.unread; settings = n.settings; others = n.others }) × (is_some n.settings ≡ true)) (sym is) (
      ap (λ g. record p { unread = rest; goaways = g; updates = updates; settings = Some pairs; others = others }) same ∙ ap (λ u. record p { unread = rest; updates = u; settings = Some pairs; others = others }) kept,
      refl,
    )
