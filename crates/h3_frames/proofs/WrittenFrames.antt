-- Each frame that was written is read as it was.
use Rattle.std.proofs.Common.{◌≡◌, ◌≢◌, ◌==◌, ◌&&◌, false, ℕ, ◌<◌, ◌^◌, List, ◌++◌, length, codes, arith, lit<, sym, subst, ◌∙◌, ap, refl, zero, suc, inl, inr, append_assoc}
use Rattle.std.proofs.lemmas.Bool.{cases_lt, ne_eqb, or_from}
use Rattle.h3_coding.specs.Encodings.{encoding}
use Rattle.h3_coding.specs.VarintLaws.{reads_shortest}
use Rattle.h3_proto.specs.Ids.{reserved}
use Rattle.h3_frames.specs.Promise.{Promise}
use Rattle.h3_frames.specs.Encoded.{head_encoding, frame_encoding, promise_payload, encoding_of, HasLength, HasNumbers, IsReserved}
use Rattle.h3_frames.specs.Frames.{Whole, Unknown, one_number, promise_frame, frame_of, frame_by, frame_at, is_session, plain_frames}
use Rattle.h3_frames.specs.declared.proto.frame.Frame.{Frame}
use Rattle.h3_frames.specs.declared.proto.frame.Frame.TheVariants as frame
use Rattle.h3_frames.specs.ReadBack.{read_back}
use Rattle.h3_frames.specs.EncodedLaws.{written_head, written_frame, written_headers, alone_number, written_number, written_goaway, written_settings, passed_update}
use Rattle.h3_frames.specs.FrameLaws.{no_update}
use Rattle.h3_frames.specs.Update.{is_update_type}
use Rattle.h3_frames.specs.declared.frame.kinds.FrameKinds.{FrameKinds}

-- a session has no length
pub written_session : (id : ℕ) (rest : List ℕ) → id < 2 ^ 62 → frame_at (head_encoding 0x41 id ++ rest) ≡ Whole (frame.WebTransportStream id) rest
written_session id rest h = written_head plain_frames 0x41 id rest (lit< tt) h

pub written_data : (kinds : FrameKinds) (bytes rest : List ℕ) → length bytes < 2 ^ 62 → frame_by kinds (frame_encoding 0 bytes ++ rest) ≡ Whole (frame.Data (record { 0 = length bytes })) (bytes ++ rest)
written_data kinds bytes rest h = ap (frame_by kinds) (append_assoc (head_encoding 0 (length bytes)) bytes rest) ∙ written_head kinds 0 (length bytes) (bytes ++ rest) (lit< tt) h

pub written_cancel_push : (kinds : FrameKinds) (id : ℕ) (rest : List ℕ) → id < 2 ^ 62 → frame_by kinds (frame_encoding 3 (encoding id) ++ rest) ≡ Whole (frame.CancelPush id) rest
unfolding frame_of
written_cancel_push kinds id rest h = written_number kinds 3 id rest (lit< tt) h refl refl (no_update kinds 3 refl) ∙ ap (λ o. one_number o (λ n. frame.CancelPush n) rest) (alone_number id h)

pub written_max_push_id : (kinds : FrameKinds) (id : ℕ) (rest : List ℕ) → id < 2 ^ 62 → frame_by kinds (frame_encoding 13 (encoding id) ++ rest) ≡ Whole (frame.MaxPushId id) rest
unfolding frame_of
written_max_push_id kinds id rest h = written_number kinds 13 id rest (lit< tt) h refl refl (no_update kinds 13 refl) ∙ ap (λ o. one_number o (λ n. frame.MaxPushId n) rest) (alone_number id h)

pub written_promise : (kinds : FrameKinds) (p : Promise) (rest : List ℕ) → p.id < 2 ^ 62 → length (promise_payload p) < 2 ^ 62 → frame_by kinds (frame_encoding 5 (promise_payload p) ++ rest) ≡ Whole (frame.PushPromise p) rest
unfolding frame_of
written_promise kinds p rest h k = written_frame kinds 5 (promise_payload p) rest (lit< tt) k refl refl (no_update kinds 5 refl) ∙ ap (λ o. promise_frame o rest) (reads_shortest p.id p.section h)

-- a reserved type is none that is known
pub not_session : (n : ℕ) → reserved n ≢ 0x41
not_session zero e = omega arith
not_session (suc zero) e = omega arith
not_session (suc (suc n)) e = omega arith

pub none_reserved : (kinds : FrameKinds) (n : ℕ) → is_session kinds (reserved n) ≡ false
none_reserved kinds n = ap (λ b. b && kinds.sessions) (ne_eqb (reserved n) 0x41 (not_session n))

-- 0xf0700 and 0xf0701 lie between two reserved types
no_request : (n : ℕ) → reserved n ≢ 0xf0700
no_request n e = elim (cases_lt n 31768) [ inl few ↦ omega (arith, few, e) | inr many ↦ omega (arith, many, e) ]

no_push : (n : ℕ) → reserved n ≢ 0xf0701
no_push n e = elim (cases_lt n 31768) [ inl few ↦ omega (arith, few, e) | inr many ↦ omega (arith, many, e) ]

not_update : (n : ℕ) → is_update_type (reserved n) ≡ false
not_update n = or_from (reserved n == 0xf0700) (reserved n == 0xf0701) (ne_eqb (reserved n) 0xf0700 (no_request n)) (ne_eqb (reserved n) 0xf0701 (no_push n))

reserved_of : (n : ℕ) (payload rest : List ℕ) → frame_of (reserved n) payload rest ≡ Unknown (reserved n) rest
unfolding frame_of
reserved_of n payload rest =
    let k = reserved n in
    rw (
      ne_eqb k 1 (omega arith),
      ne_eqb k 3 (omega arith),
      ne_eqb k 4 (omega arith),
      ne_eqb k 5 (omega arith),
      ne_eqb k 7 (omega arith),
      ne_eqb k 13 (omega arith),
      ne_eqb 2 k (omega arith),
      ne_eqb 6 k (omega arith),
      ne_eqb 8 k (omega arith),
      ne_eqb 9 k (omega arith),
    ) refl

pub written_reserved : (kinds : FrameKinds) (n : ℕ) (payload rest : List ℕ) → reserved n < 2 ^ 62 → length payload < 2 ^ 62 → frame_by kinds (frame_encoding (reserved n) payload ++ rest) ≡ Unknown (reserved n) rest
written_reserved kinds n payload rest h k =
    written_frame kinds (reserved n) payload rest h k (none_reserved kinds n) (ne_eqb (reserved n) 0 (omega arith)) (no_update kinds (reserved n) (not_update n)) ∙ reserved_of n payload rest

-- **A frame that was written is read as it was, whatever follows it.**
pub written_is_read : {B : Type 0} (unread : B → List ℕ) (f : Frame B) (rest : List ℕ) → HasLength unread f → HasNumbers f → IsReserved f → frame_at (encoding_of unread f ++ rest) ≡ read_back unread f rest
written_is_read unread (frame.Data b) rest h n r = written_data plain_frames (unread b) rest h
written_is_read unread (frame.Headers section) rest h n r = written_headers plain_frames section rest h
written_is_read unread (frame.CancelPush id) rest h n r = written_cancel_push plain_frames id rest n
written_is_read unread (frame.Settings pairs) rest h n r = written_settings plain_frames pairs rest n
written_is_read unread (frame.PushPromise p) rest h n r = written_promise plain_frames p rest n h
written_is_read unread (frame.PriorityUpdate u) rest h n r = passed_update plain_frames u rest refl h
written_is_read unread (frame.Goaway id) rest h n r = written_goaway plain_frames id rest n
written_is_read unread (frame.MaxPushId id) rest h n r = written_max_push_id plain_frames id rest n
written_is_read unread (frame.WebTransportStream id) rest h n r = written_session id rest n
written_is_read unread (frame.Grease kind) rest h n r =
    let k : kind ≡ reserved r.0 = r.1 in
    ap (λ x. frame_at (frame_encoding x (codes "grease") ++ rest)) k ∙ written_reserved plain_frames r.0 (codes "grease") rest (subst (λ x. x < 2 ^ 62) k n) (lit< tt) ∙ ap (λ x. Unknown x rest) (sym k)
