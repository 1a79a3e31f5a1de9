-- Whether bytes begin with a frame that is not SETTINGS, by the numbers that are read of them.
use Rattle.std.proofs.Common.{◌≡◌, ℕ, ◌<◌, Bool, true, false, not, ◌&&◌, ◌==◌, List, ◌++◌, Some, refl, sym, ap, ◌∙◌}
use Rattle.std.specs.Prelude.{is_some}
use Rattle.std.specs.List.{concat}
use Rattle.h3_coding.specs.Varint.{varint_at}
use Rattle.h3_frames.specs.FirstFrames.{begins_other, is_other}
use Rattle.h3_frames.specs.UnknownSize.{AreLetGo, unknown_size}
use Rattle.h3_frames.proofs.LettingGo.{tests, unknown_head}
use Rattle.h3_frames.proofs.SparedPieces.{size_with_more}
use Rattle.h3_frames.specs.declared.frame.kinds.FrameKinds.{FrameKinds}

and_true : (b : Bool) → (b && true) ≡ b
and_true true = refl
and_true false = refl

pub head_begins : (kind number : ℕ) (bytes mid behind : List ℕ) → varint_at bytes ≡ Some (kind, mid) → varint_at mid ≡ Some (number, behind) → not (kind == 4) ≡ begins_other bytes
head_begins kind number bytes mid behind is there = sym (ap is_other is ∙ ap (λ o. not (kind == 4) && is_some o) there ∙ and_true (not (kind == 4)))

-- an unknown frame is none
unknown_begins : (kinds : FrameKinds) (bytes : List ℕ) (size : ℕ) → unknown_size kinds bytes ≡ Some size → true ≡ begins_other bytes
unknown_begins kinds bytes size is =
    let h = unknown_head kinds bytes size is in
    let t = tests kinds h.kind h.unknown in
    sym (ap not t.settings) ∙ head_begins h.kind h.number bytes h.mid h.behind h.kind_at h.number_at

-- so where some of one were let go
pub spared_begins : (known_to : FrameKinds) (front kept : List (List ℕ)) (size gone : ℕ) → AreLetGo known_to size gone front → 0 < size → true ≡ begins_other (concat (front ++ kept))
spared_begins known_to front kept size gone h some = unknown_begins _ (concat (front ++ kept)) size (size_with_more _ front kept size (h.unknown some))
