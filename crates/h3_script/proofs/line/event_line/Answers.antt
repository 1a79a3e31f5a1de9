use Rattle.std.proofs.Common.{ap, ◌∙◌}
use Rattle.h3_script.specs.Pieces.{texts}
use Rattle.h3_script.proofs.Bodies.{is_body, line_denied}
use Rattle.h3_script.proofs.line.event_line.Goals as goal

pub returns-in-Some-clause-ok : goal.returns-in-Some-clause-ok
returns-in-Some-clause-ok c = rw (c.in_ok-bytes.ensures) (is_body c.args.line.now _ _ _ c.in-Some.ensures)

pub returns-clause-err : goal.returns-clause-err
returns-clause-err c =
    line_denied c.args.line.now (texts c.deref.result.now) c.event.result c.in_default.ensures (ap texts c.deref.ensures.value ∙ c.in_ok-words.ensures) c.event.ensures.err
