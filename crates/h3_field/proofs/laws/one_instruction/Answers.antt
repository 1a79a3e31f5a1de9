use Rattle.h3_field.specs.ReadBackLaws.{instruction_one}
use Rattle.h3_field.proofs.laws.one_instruction.Goals as goal

pub returns : goal.returns
returns c = instruction_one
