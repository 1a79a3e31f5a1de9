-- A HEADERS frame that lies in one piece.
use Rattle.std.proofs.Common.{◌≡◌, ℕ, ◌+◌, ◌<◌, List, ◌++◌, length, take, drop, arith, ◌∙◌, ap, ap₂}
use Rattle.std.proofs.lemmas.List.{take_at, drop_at, drop-append-le, length-drop}
use Rattle.h3_coding.specs.VarintLaws.{shorter}
use Rattle.h3_frames.specs.declared.proto.frame.Frame.TheVariants as frame
use Rattle.h3_frames.specs.Frames.{Whole, IsHeadersFrame, frame_by}
use Rattle.h3_frames.proofs.FrameRows.{at_headers}
use Rattle.h3_frames.specs.declared.frame.kinds.FrameKinds.{FrameKinds}

-- a head has bytes
pub head_some : (bytes : List ℕ) (head size : ℕ) → IsHeadersFrame bytes head size → 0 < head
head_some bytes head size h =
    let first = shorter 1 bytes h.read.0 h.read.1 in
    let second = shorter size h.read.0 (drop head bytes) h.read.2 in
    omega (arith, first, second, length-drop head bytes)

pub headers_at : (kinds : FrameKinds) (bytes : List ℕ) (head size : ℕ) → IsHeadersFrame bytes head size → frame_by kinds bytes ≡ Whole (frame.Headers (take size (drop head bytes))) (drop size (drop head bytes))
headers_at kinds bytes head size h = at_headers kinds size bytes h.read.0 (drop head bytes) h.read.1 h.read.2 (omega (arith, h.there, length-drop head bytes))

-- the frame's bytes are cut off, and its head from these
pub cut_off : (kinds : FrameKinds) (bytes front rest : List ℕ) (head size : ℕ) → IsHeadersFrame bytes head size → bytes ≡ front ++ rest → length front ≡ head + size
    → frame_by kinds bytes ≡ Whole (frame.Headers (drop head front)) rest
cut_off kinds bytes front rest head size h e count =
    let behind : drop head bytes ≡ drop head front ++ rest = ap (drop head) e ∙ drop-append-le head front rest (omega (arith, count)) in
    let section : length (drop head front) ≡ size = omega (arith, length-drop head front, count) in
    headers_at kinds bytes head size h
    ∙ ap (λ l. Whole (frame.Headers (take size l)) (drop size l)) behind
    ∙ ap₂ (λ s r. Whole (frame.Headers s) r) (take_at (drop head front) rest size section) (drop_at (drop head front) rest size section)
