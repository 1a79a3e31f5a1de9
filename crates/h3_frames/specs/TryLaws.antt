-- What holds of the tries of a decoder.
use Rattle.std.proofs.Common.{ℕ, List, ◌++◌, ◌∙◌, ap, append_assoc, Option, Some, None}
use Rattle.h3_frames.specs.Tries.{Awaits}
use Rattle.h3_frames.specs.declared.frame.kinds.FrameKinds.{FrameKinds}

-- more bytes at the end keep what a decoder expects
pub Awaits-more : (kinds : FrameKinds) (expected : Option ℕ) (tries : ℕ) (bytes more : List ℕ) → Awaits kinds expected tries bytes → Awaits kinds expected tries (bytes ++ more)
Awaits-more kinds None tries bytes more h = tt
Awaits-more kinds (Some least) tries bytes more h = (h.0, h.1 ++ more, ap (λ l. l ++ more) h.2 ∙ append_assoc h.0 h.1 more, h.3, h.4)
