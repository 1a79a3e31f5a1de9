use Rattle.std.proofs.Common.{ap, sym, ◌∙◌}
use Rattle.std.specs.Prelude.{slice_get}
use Rattle.h3_frames.proofs.LettingGo.{known_first}
use Rattle.h3_frames.proofs.frame.sparing.unknown_size.Goals as goal

pub returns-then-is_known_type : goal.returns-then-is_known_type
returns-then-is_known_type c =
    let first = c.in-Some.ensures.value ∙ ap (λ l. slice_get l 0) c.first_bytes.ensures in
    sym (known_first c.args.kinds c.in-Some.kind.now c.args.pieces.now.pieces first c.if-kind-lt64.true (sym c.is_known_type.ensures ∙ c.if-is_known_type.true))
