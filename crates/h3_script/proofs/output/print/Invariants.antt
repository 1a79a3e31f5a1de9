use Rattle.std.proofs.Common.{◌≡◌, string_bytes, take}
use Rattle.h3_script.specs.Lines.{printed}
use Rattle.h3_script.proofs.output.print.Given as goal

abbrev pub invariant-loop-answer : goal.invariant-loop-answer
invariant-loop-answer l = string_bytes l.text ≡ printed (take l.answer-index l.answers)
