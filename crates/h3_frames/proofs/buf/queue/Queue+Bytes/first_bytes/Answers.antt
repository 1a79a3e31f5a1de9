use Rattle.std.proofs.Common.{◌<◌, length, arith, refl, ap, ◌∙◌}
use Rattle.h3_frames.specs.Pieces.{Listed, first_bytes}
use Rattle.h3_frames.proofs.ElementLemmas.{at_first}
use Rattle.h3_frames.proofs.buf.queue.Queue+Bytes.first_bytes.Goals as goal

pub returns-in-Some : goal.returns-in-Some
returns-in-Some c =
    let items = c.self.inside.bufs.items in
    let some : 0 < length items = omega (arith, c.in-Some.ensures.variant.0 refl) in
    c.first.ensures ∙ at_first (λ b. b) items c.in-Some.first.now some c.in-Some.ensures.lookup c.self.invariant.1 ∙ ap (λ (l : Listed). first_bytes l.pieces) c.self.view_is
