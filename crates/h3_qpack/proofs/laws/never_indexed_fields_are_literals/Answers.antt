use Rattle.h3_qpack.proofs.NeverIndexed.{section_bits, section_inserts}
use Rattle.h3_qpack.proofs.laws.never_indexed_fields_are_literals.Goals as goal

pub returns-clause-bits : goal.returns-clause-bits
returns-clause-bits c = λ s fields. section_bits s fields

pub returns-clause-inserted : goal.returns-clause-inserted
returns-clause-inserted c = λ s fields h. section_inserts s fields h
