use Rattle.std.proofs.Common.{subst}
use Rattle.h3_script.specs.Script.{RefusesScript}
use Rattle.h3_script.proofs.input.read.Goals as goal

pub returns-in-Err-Line-clause-err : goal.returns-in-Err-Line-clause-err
returns-in-Err-Line-clause-err g c = record {
  text = c.in-Ok.bytes.items;
  read = c.in-Ok.ensures;
  refuses = subst (RefusesScript 281474976710656 c.in-Ok.bytes.items) c.in-Err-Line.field-0-is (subst (λ text. RefusesScript 281474976710656 text c.in-Err-Line.field-0) c.deref.ensures.value c.in-Err-Line.ensures.err);
}
