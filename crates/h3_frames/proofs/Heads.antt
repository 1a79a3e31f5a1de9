-- The head of a frame in bytes that lie together.
use Rattle.std.proofs.Common.{◌≡◌, ℕ, ◌+◌, ◌-◌, ◌*◌, ◌/◌, ◌<◌, ◌≤◌, List, [], ◌∷◌, ◌++◌, length, drop, arith, refl, sym, ◌∙◌, ap, Some}
use Rattle.std.specs.Prelude.{slice_index}
use Rattle.std.specs.List.{concat}
use Rattle.std.proofs.lemmas.List.{drop-append-le}
use Rattle.h3_coding.specs.Varint.{varint_at}
use Rattle.h3_coding.specs.VarintLaws.{of_front, reads_more}
use Rattle.h3_frames.specs.declared.proto.frame.Frame.TheVariants as frame
use Rattle.h3_frames.specs.Frames.{Whole, BeginsWithHead, IsHeadersFrame, frame_by}
use Rattle.h3_frames.specs.FrameLaws.{at_head}
use Rattle.h3_frames.proofs.Chunks.{first_within}
use Rattle.h3_frames.specs.Pieces.{first_bytes, first_size}
use Rattle.h3_frames.specs.declared.frame.kinds.FrameKinds.{FrameKinds}

-- a form of one byte
pub one_byte : (n : ℕ) (bytes : List ℕ) → 0 < length bytes → n ≡ slice_index bytes 0 → n < 64 → varint_at bytes ≡ Some (n, drop 1 bytes)
one_byte n [] some is low = absurd (omega arith)
one_byte n (x ∷ xs) some is low =
    let form : x / 64 ≡ 0 = omega arith in
    of_front n x [] xs (rw form refl) (omega arith)

-- a form of two
pub two_bytes : (n first second : ℕ) (bytes : List ℕ) → 2 ≤ length bytes → first ≡ slice_index bytes 0 → second ≡ slice_index bytes 1 → 64 ≤ first → first < 128 → n ≡ (first - 64) * 256 + second
    → varint_at bytes ≡ Some (n, drop 2 bytes)
two_bytes n first second [] some a b low high is = absurd (omega arith)
two_bytes n first second (x ∷ []) some a b low high is = absurd (omega arith)
two_bytes n first second (x ∷ y ∷ xs) some a b low high is =
    let form : x / 64 ≡ 1 = omega arith in
    of_front n x (y ∷ []) xs (rw form refl) (omega arith)

-- a head at the front of a piece, whatever follows the piece
head_more : (kind number size : ℕ) (bytes more : List ℕ) → size ≤ length bytes → BeginsWithHead kind number bytes (drop size bytes) → BeginsWithHead kind number (bytes ++ more) (drop size (bytes ++ more))
head_more kind number size bytes more inside h =
    let behind : drop size bytes ++ more ≡ drop size (bytes ++ more) = sym (drop-append-le size bytes more inside) in
    (h.0 ++ more, reads_more kind bytes h.0 more h.1, reads_more number h.0 (drop size bytes) more h.2 ∙ ap (λ l. Some (number, l)) behind)

pub head_in_first : (kind number size : ℕ) (pieces : List (List ℕ)) (bytes : List ℕ) → bytes ≡ first_bytes pieces → size ≤ length bytes → BeginsWithHead kind number bytes (drop size bytes)
    → BeginsWithHead kind number (concat pieces) (drop size (concat pieces))
head_in_first kind number size [] bytes is inside h = rw is at h
head_in_first kind number size (p ∷ pieces) bytes is inside h =
    let here : BeginsWithHead kind number p (drop size p) = rw is at h in
    let within : size ≤ length p = omega (arith, ap length is) in
    head_more kind number size p (concat pieces) within here

pub first_length : (pieces : List (List ℕ)) → length (first_bytes pieces) ≡ first_size pieces
first_length [] = refl
first_length (p ∷ pieces) = refl

-- the head of a DATA frame
pub data_at : (kinds : FrameKinds) (number : ℕ) (bytes behind : List ℕ) → BeginsWithHead 0 number bytes behind → frame_by kinds bytes ≡ Whole (frame.Data (record { 0 = number })) behind
data_at kinds number bytes behind h = at_head kinds 0 number bytes h.0 behind h.1 h.2

-- a HEADERS frame that lies in the first piece
pub headers_in_first : (number size : ℕ) (pieces : List (List ℕ)) (bytes : List ℕ) → bytes ≡ first_bytes pieces → size ≤ length bytes → number ≤ length bytes - size → BeginsWithHead 1 number bytes (drop size bytes)
    → IsHeadersFrame (concat pieces) size number
headers_in_first number size pieces bytes is inside there h =
    let whole = ap length is ∙ first_length pieces in
    record { read = head_in_first 1 number size pieces bytes is inside h; there = omega (arith, whole, first_within pieces) }
