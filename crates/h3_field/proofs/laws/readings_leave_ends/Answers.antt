use Rattle.h3_field.specs.EndLaws.{line_leaves, instruction_leaves, decoder_instruction_leaves}
use Rattle.h3_field.proofs.Ends.{prefix_leaves}
use Rattle.h3_field.proofs.laws.readings_leave_ends.Goals as goal

pub returns-clause-line : goal.returns-clause-line
returns-clause-line c = line_leaves

pub returns-clause-instruction : goal.returns-clause-instruction
returns-clause-instruction c = instruction_leaves

pub returns-clause-decoder_instruction : goal.returns-clause-decoder_instruction
returns-clause-decoder_instruction c = decoder_instruction_leaves

pub returns-clause-prefix : goal.returns-clause-prefix
returns-clause-prefix c = prefix_leaves
