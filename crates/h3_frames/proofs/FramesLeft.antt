-- What is still to come of a frame, by the numbers that are read of its bytes.
use Rattle.std.proofs.Common.{◌≡◌, ℕ, ◌-◌, ◌<◌, List, ◌++◌, length, Some, arith, sym, ap, ◌∙◌}
use Rattle.std.specs.List.{concat}
use Rattle.h3_coding.specs.Varint.{varint_at}
use Rattle.h3_coding.specs.VarintLaws.{shorter}
use Rattle.h3_frames.specs.FrameLeft.{left_behind_length, left_behind_type, left_of_frame}
use Rattle.h3_frames.specs.UnknownSize.{AreLetGo, unknown_size}
use Rattle.h3_frames.proofs.LettingGo.{unknown_head}
use Rattle.h3_frames.proofs.SparedPieces.{size_with_more}
use Rattle.h3_frames.specs.declared.frame.kinds.FrameKinds.{FrameKinds}

head_left : (kind number : ℕ) (bytes mid behind : List ℕ) → varint_at bytes ≡ Some (kind, mid) → varint_at mid ≡ Some (number, behind) → left_of_frame bytes ≡ number - length behind
head_left kind number bytes mid behind is there = ap left_behind_type is ∙ ap left_behind_length there

-- of an unknown one, by its size
unknown_left : (kinds : FrameKinds) (bytes : List ℕ) (size : ℕ) → unknown_size kinds bytes ≡ Some size → size - length bytes ≡ left_of_frame bytes
unknown_left kinds bytes size is =
    let h = unknown_head kinds bytes size is in
    let first = shorter h.kind bytes h.mid h.kind_at in
    let second = shorter h.number h.mid h.behind h.number_at in
    let same : size - length bytes ≡ h.number - length h.behind = omega (arith, h.size_is, first, second) in
    same ∙ sym (head_left h.kind h.number bytes h.mid h.behind h.kind_at h.number_at)

-- also where some of it were let go
pub spared_left : (known_to : FrameKinds) (front kept : List (List ℕ)) (size gone : ℕ) → AreLetGo known_to size gone front → 0 < size → size - length (concat (front ++ kept)) ≡ left_of_frame (concat (front ++ kept))
spared_left known_to front kept size gone h some = unknown_left _ (concat (front ++ kept)) size (size_with_more _ front kept size (h.unknown some))
