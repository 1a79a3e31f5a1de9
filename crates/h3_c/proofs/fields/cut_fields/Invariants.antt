use Rattle.std.specs.Prelude.{◌≡◌, drop}
use Rattle.h3_c.specs.Given.{fields_cut}
use Rattle.h3_c.proofs.Cuts.{with_rest}
use Rattle.h3_c.proofs.fields.cut_fields.Given as goal

abbrev pub invariant-loop-at : goal.invariant-loop-at
invariant-loop-at l = with_rest l.fields.fields (drop l.at l.sizes) (drop l.at l.flags) l.fields.rest ≡ fields_cut l.sizes l.flags l.bytes
