use Rattle.std.proofs.Common.{◌≡◌, ◌++◌, length, append_assoc, arith, ap, ap₂, sym, ◌∙◌}
use Rattle.std.specs.List.{concat}
use Rattle.std.proofs.lemmas.List.{length-take, take-append-drop}
use Rattle.h3_frames.specs.Pieces.{Listed}
use Rattle.h3_frames.proofs.FrontLemmas.{held_some}
use Rattle.h3_frames.proofs.buf.BufList+Bytes.take_chunk.Goals as goal

pub returns-then-max-len-clause-some : goal.returns-then-max-len-clause-some
returns-then-max-len-clause-some c =
    let ps = c.self.inside.behind.pieces in
    let p = c.in-Some.first in
    let front = c.in_ok-split_to-in-Some.field-0 in
    let rest = c.split_to.new.self in
    let taken = c.in_ok-split_to-in-Some.ensures.front in
    let parts : front ++ rest ≡ p = ap₂ (λ x y. x ++ y) taken c.in_ok-split_to-in-Some.ensures.rest ∙ take-append-drop c.args.max p in
    let size = ap length taken ∙ length-take c.args.max p in
    let shown = sym (ap (λ (l : Listed). concat l.pieces) c.self.view_is) ∙ ap concat (held_some (λ b. b) c.self.inside.front p ps c.in-Some.is) in
    (shown ∙ ap (λ l. l ++ concat ps) (sym parts) ∙ append_assoc front rest (concat ps), omega (arith, size), λ some. omega (arith, size, some, c.if-max-len.true, c.len.ensures.value))
