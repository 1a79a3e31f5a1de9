use Rattle.std.specs.Prelude.{◌≡◌, true, drop}
use Rattle.std.specs.List.{list_all}
use Rattle.h3_c.specs.Rows.{is_short}
use Rattle.h3_c.proofs.RowLaws.{SizesAt}
use Rattle.h3_c.proofs.rows.put_sizes.Given as goal

abbrev pub invariant-loop-place : goal.invariant-loop-place
invariant-loop-place l = record {
  sizes : SizesAt l.fields l.place l.sizes l.fn.sizes;
  short : list_all is_short (drop l.place l.fields) ≡ true;
}
