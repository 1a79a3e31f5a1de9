use Rattle.std.proofs.Common.{◌≡◌, true, arith}
use Rattle.std.specs.Prelude.{◌==◌}
use Rattle.std.proofs.lemmas.Grind.{common_steps}
use Rattle.h3_table.proofs.Alones.{oldest_alone}
use Rattle.h3_table.proofs.alone.TrackedSections.take_oldest.Goals as goal

pub returns : goal.returns
returns c =
    let none = rw c.in-Some.is at c.self.invariant in
    let one = rw c.in-Some.is at c.self.view_is in
    let it : (c.in-Some.only.stream == c.args.stream) ≡ true = grind (arith, common_steps, c.if-only-stream.false) in
    rw (c.named.ensures, ← one, none) (oldest_alone c.args.stream c.in-Some.only it)
