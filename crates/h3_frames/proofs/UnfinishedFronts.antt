-- Less than a frame that was written is the unfinished front of a frame.
use Rattle.std.proofs.Common.{◌≡◌, ℕ, ◌+◌, ◌<◌, ◌^◌, ◌==◌, Bool, true, false, List, length, take, codes, arith, lit<, sym, subst, refl}
use Rattle.std.proofs.lemmas.Bool.{ne_eqb}
use Rattle.h3_coding.specs.Encodings.{encoding}
use Rattle.h3_proto.specs.Ids.{reserved}
use Rattle.h3_proto.specs.Pairs.{payload_of}
use Rattle.h3_frames.specs.Encoded.{frame_encoding, promise_payload, update_payload, needed_of, HasLength, HasNumbers, IsReserved}
use Rattle.h3_frames.specs.EncodedLaws.{length-encoding}
use Rattle.h3_frames.specs.Update.{type_of_update}
use Rattle.h3_frames.specs.declared.proto.frame.Frame.{Frame}
use Rattle.h3_frames.proofs.WrittenFrames.{none_reserved}
use Rattle.h3_frames.specs.declared.proto.frame.Frame.TheVariants as frame
use Rattle.h3_frames.specs.Frames.{is_session}
use Rattle.h3_frames.specs.Fronts.{IsUnfinishedFront}
use Rattle.h3_frames.specs.UnfinishedLaws.{front_of_head, front_of_frame}
use Rattle.h3_frames.specs.declared.frame.kinds.FrameKinds.{FrameKinds}

of_number : (kinds : FrameKinds) (kind id n : ℕ) → kind < 2 ^ 62 → id < 2 ^ 62 → is_session kinds kind ≡ false → (kind == 0) ≡ false → n < length (frame_encoding kind (encoding id)) → IsUnfinishedFront kinds (take n (frame_encoding kind (encoding id)))
of_number kinds kind id n h k session plain short = front_of_frame kinds kind (encoding id) n h (omega (arith, length-encoding id k)) session plain short

of_update : (kinds : FrameKinds) (is_push : Bool) (payload : List ℕ) (n : ℕ) → length payload < 2 ^ 62 → n < length (frame_encoding (type_of_update is_push) payload) → IsUnfinishedFront kinds (take n (frame_encoding (type_of_update is_push) payload))
of_update kinds true payload n h short = front_of_frame kinds 0xf0701 payload n (lit< tt) h refl refl short
of_update kinds false payload n h short = front_of_frame kinds 0xf0700 payload n (lit< tt) h refl refl short

-- **Less than a frame that was written, of DATA less than its head, is the unfinished front of a frame.**
pub fronts_are_unfinished : (kinds : FrameKinds) {B : Type 0} (unread : B → List ℕ) (f : Frame B) (n : ℕ) → HasLength unread f → HasNumbers f → IsReserved f → n < length (needed_of unread f) → IsUnfinishedFront kinds (take n (needed_of unread f))
fronts_are_unfinished kinds unread (frame.Data b) n h k r short = (n + 1, front_of_head kinds 0 (length (unread b)) n (lit< tt) h short)
fronts_are_unfinished kinds unread (frame.Headers section) n h k r short = front_of_frame kinds 1 section n (lit< tt) h refl refl short
fronts_are_unfinished kinds unread (frame.CancelPush id) n h k r short = of_number kinds 3 id n (lit< tt) k refl refl short
fronts_are_unfinished kinds unread (frame.Settings pairs) n h k r short = front_of_frame kinds 4 (payload_of pairs) n (lit< tt) k refl refl short
fronts_are_unfinished kinds unread (frame.PushPromise p) n h k r short = front_of_frame kinds 5 (promise_payload p) n (lit< tt) h refl refl short
fronts_are_unfinished kinds unread (frame.PriorityUpdate u) n h k r short = of_update kinds u.is_push (update_payload u) n h short
fronts_are_unfinished kinds unread (frame.Goaway id) n h k r short = of_number kinds 7 id n (lit< tt) k refl refl short
fronts_are_unfinished kinds unread (frame.MaxPushId id) n h k r short = of_number kinds 13 id n (lit< tt) k refl refl short
fronts_are_unfinished kinds unread (frame.WebTransportStream id) n h k r short = (n + 1, front_of_head kinds 0x41 id n (lit< tt) k short)
fronts_are_unfinished kinds unread (frame.Grease kind) n h k r short =
    let session = subst (λ x. is_session kinds x ≡ false) (sym r.1) (none_reserved kinds r.0) in
    let plain = subst (λ x. (x == 0) ≡ false) (sym r.1) (ne_eqb (reserved r.0) 0 (omega arith)) in
    front_of_frame kinds kind (codes "grease") n k (lit< tt) session plain short
