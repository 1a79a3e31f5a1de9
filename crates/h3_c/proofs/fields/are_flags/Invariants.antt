use Rattle.std.specs.Prelude.{◌≡◌, drop}
use Rattle.std.specs.List.{list_all}
use Rattle.h3_c.specs.Given.{is_flags}
use Rattle.h3_c.proofs.fields.are_flags.Given as goal

abbrev pub invariant-loop-at : goal.invariant-loop-at
invariant-loop-at l = list_all is_flags (drop l.at l.flags) ≡ list_all is_flags l.flags
