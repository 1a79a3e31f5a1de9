use Rattle.h3_field.proofs.SectionWriting.{Put}
use Rattle.h3_field.proofs.encoder.put_section.Given as goal

abbrev pub invariant-fields : goal.invariant-fields
invariant-fields l = Put l.fn.block.items l.block.items l.fields l.place l.size
