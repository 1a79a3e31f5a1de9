use Rattle.std.specs.Prelude.{◌≡◌, drop}
use Rattle.std.specs.List.{list_all}
use Rattle.h3_c.specs.Rows.{is_short}
use Rattle.h3_c.proofs.rows.are_short.Given as goal

abbrev pub invariant-loop-place : goal.invariant-loop-place
invariant-loop-place l = record { same : list_all is_short (drop l.place l.fields) ≡ list_all is_short l.fields }
