use Rattle.std.specs.Prelude.{drop}
use Rattle.h3_header.specs.Parts.{head_of_parts}
use Rattle.h3_header.proofs.ReadLemmas.{Rest}
use Rattle.h3_header.proofs.headers.read.read_fields.Given as goal

abbrev pub invariant-fields : goal.invariant-fields
invariant-fields l = Rest l.any_protocol (head_of_parts l.initial.pseudo l.initial.map) l.fields (drop l.place l.fields) (head_of_parts l.pseudo l.map)
