use Rattle.h3_qpack.proofs.PlainSections.{Put}
use Rattle.h3_qpack.proofs.static_section.put_lines.Given as goal

abbrev pub invariant-fields : goal.invariant-fields
invariant-fields l = Put l.choices l.fn.block.items l.block.items l.fields l.place
