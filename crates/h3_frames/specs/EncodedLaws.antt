-- What was written is read as it was, whatever follows it.
use Rattle.std.proofs.Common.{◌≡◌, ℕ, Bool, ◌&&◌, ◌<◌, ◌≤◌, ◌^◌, ◌==◌, true, false, List, [], ◌++◌, length, arith, lit<, sym, ◌∙◌, ap, refl, append_assoc, append-nil, length-append, Some}
use Rattle.std.proofs.lemmas.List.{take_at, drop_at}
use Rattle.std.proofs.lemmas.Bool.{le-ltb}
use Rattle.h3_coding.specs.Encodings.{IsEncoding, one, two, four, eight, encoding}
use Rattle.h3_coding.specs.EncodingLaws.{encoding_is_valid}
use Rattle.h3_coding.specs.Varint.{varint_at}
use Rattle.h3_coding.specs.VarintLaws.{reads_shortest}
use Rattle.h3_proto.specs.Pairs.{payload_of}
use Rattle.h3_proto.specs.Settings.{settings_of}
use Rattle.h3_frames.specs.Encoded.{head_encoding, frame_encoding, update_payload}
use Rattle.h3_frames.specs.Frames.{Whole, Unknown, one_number, settings_frame, frame_of, with_head, frame_by, is_session, is_update}
use Rattle.h3_frames.specs.FrameLaws.{at_head, no_update}
use Rattle.h3_frames.specs.Update.{Update, is_update_type, type_of_update}
use Rattle.h3_frames.specs.declared.proto.frame.Frame.TheVariants as frame
use Rattle.h3_frames.specs.declared.frame.kinds.FrameKinds.{FrameKinds}

of_any : (v : ℕ) (bytes : List ℕ) → IsEncoding v bytes → length bytes ≤ 8
of_any v bytes (one f) = omega (arith, f.count)
of_any v bytes (two f) = omega (arith, f.count)
of_any v bytes (four f) = omega (arith, f.count)
of_any v bytes (eight f) = omega (arith, f.count)

-- no number has more than 8 bytes
pub length-encoding : (v : ℕ) → v < 2 ^ 62 → length (encoding v) ≤ 8
length-encoding v h = of_any v (encoding v) (encoding_is_valid v h)

pub written_head : (kinds : FrameKinds) (kind number : ℕ) (behind : List ℕ) → kind < 2 ^ 62 → number < 2 ^ 62
    → frame_by kinds (head_encoding kind number ++ behind) ≡ with_head kinds (length (head_encoding kind number ++ behind)) kind number behind
written_head kinds kind number behind h k =
    let parts = append_assoc (encoding kind) (encoding number) behind in
    at_head kinds kind number (head_encoding kind number ++ behind) (encoding number ++ behind) behind (ap varint_at parts ∙ reads_shortest kind (encoding number ++ behind) h) (reads_shortest number behind k)

-- any other frame is that of its type and payload
pub written_frame : (kinds : FrameKinds) (kind : ℕ) (payload rest : List ℕ) → kind < 2 ^ 62 → length payload < 2 ^ 62 → is_session kinds kind ≡ false → (kind == 0) ≡ false → is_update kinds kind ≡ false
    → frame_by kinds (frame_encoding kind payload ++ rest) ≡ frame_of kind payload rest
written_frame kinds kind payload rest h k session plain update =
    let all : length payload ≤ length (payload ++ rest) = omega (arith, length-append payload rest) in
    ap (frame_by kinds) (append_assoc (head_encoding kind (length payload)) payload rest) ∙ written_head kinds kind (length payload) (payload ++ rest) h k
    ∙ rw (session, plain, le-ltb (length (payload ++ rest)) (length payload) all, take_at payload rest (length payload) refl, drop_at payload rest (length payload) refl, update) refl

pub written_headers : (kinds : FrameKinds) (section rest : List ℕ) → length section < 2 ^ 62 → frame_by kinds (frame_encoding 1 section ++ rest) ≡ Whole (frame.Headers section) rest
unfolding frame_of
written_headers kinds section rest h = written_frame kinds 1 section rest (lit< tt) h refl refl (no_update kinds 1 refl)

pub alone_number : (id : ℕ) → id < 2 ^ 62 → varint_at (encoding id) ≡ Some (id, [])
alone_number id h = ap varint_at (sym (append-nil (encoding id))) ∙ reads_shortest id [] h

-- a frame whose payload is one number
pub written_number : (kinds : FrameKinds) (kind id : ℕ) (rest : List ℕ) → kind < 2 ^ 62 → id < 2 ^ 62 → is_session kinds kind ≡ false → (kind == 0) ≡ false → is_update kinds kind ≡ false
    → frame_by kinds (frame_encoding kind (encoding id) ++ rest) ≡ frame_of kind (encoding id) rest
written_number kinds kind id rest h k session plain update = written_frame kinds kind (encoding id) rest h (omega (arith, length-encoding id k)) session plain update

pub written_goaway : (kinds : FrameKinds) (id : ℕ) (rest : List ℕ) → id < 2 ^ 62 → frame_by kinds (frame_encoding 7 (encoding id) ++ rest) ≡ Whole (frame.Goaway id) rest
unfolding frame_of
written_goaway kinds id rest h = written_number kinds 7 id rest (lit< tt) h refl refl (no_update kinds 7 refl) ∙ ap (λ o. one_number o (λ n. frame.Goaway n) rest) (alone_number id h)

pub written_settings : (kinds : FrameKinds) (pairs : List (ℕ × ℕ)) (rest : List ℕ) → length (payload_of pairs) < 2 ^ 62 → frame_by kinds (frame_encoding 4 (payload_of pairs) ++ rest) ≡ settings_frame (settings_of (payload_of pairs)) rest
unfolding frame_of
written_settings kinds pairs rest h = written_frame kinds 4 (payload_of pairs) rest (lit< tt) h refl refl (no_update kinds 4 refl)

-- An update, by those who know it. It is for a push or for a request stream.
pub update_type_fits : (is_push : Bool) → type_of_update is_push < 2 ^ 62
update_type_fits true = lit< tt
update_type_fits false = lit< tt

update_plain : (is_push : Bool) → (type_of_update is_push == 0) ≡ false
update_plain true = refl
update_plain false = refl

update_session : (kinds : FrameKinds) (is_push : Bool) → is_session kinds (type_of_update is_push) ≡ false
update_session kinds true = refl
update_session kinds false = refl

-- By the others it is an unknown frame.
update_unknown : (is_push : Bool) (payload rest : List ℕ) → frame_of (type_of_update is_push) payload rest ≡ Unknown (type_of_update is_push) rest
unfolding frame_of
update_unknown true payload rest = refl
update_unknown false payload rest = refl

pub passed_update : (kinds : FrameKinds) (u : Update) (rest : List ℕ) → kinds.updates ≡ false → length (update_payload u) < 2 ^ 62
    → frame_by kinds (frame_encoding (type_of_update u.is_push) (update_payload u) ++ rest) ≡ Unknown (type_of_update u.is_push) rest
passed_update kinds u rest off k =
    written_frame kinds (type_of_update u.is_push) (update_payload u) rest (update_type_fits u.is_push) k (update_session kinds u.is_push) (update_plain u.is_push) (ap (λ b. b && is_update_type (type_of_update u.is_push)) off)
    ∙ update_unknown u.is_push (update_payload u) rest

-- a type and a number
pub length-head : (kind number : ℕ) → kind < 2 ^ 62 → number < 2 ^ 62 → length (head_encoding kind number) ≤ 16
length-head kind number h k = omega (arith, length-append (encoding kind) (encoding number), length-encoding kind h, length-encoding number k)
