use Rattle.std.specs.Prelude.{◌≡◌, [], drop, is_some}
use Rattle.h3_c.specs.Given.{fields_cut}
use Rattle.h3_c.proofs.fields.are_sizes_of.Given as goal

abbrev pub invariant-loop-at : goal.invariant-loop-at
invariant-loop-at l = is_some (fields_cut (drop l.at l.sizes) [] l.rest) ≡ is_some (fields_cut l.sizes [] l.bytes)
