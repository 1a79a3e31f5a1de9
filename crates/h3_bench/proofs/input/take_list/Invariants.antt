use Rattle.std.proofs.Common.{◌≡◌, ◌<◌, ◌^◌}
use Rattle.h3_field.specs.Field.{section_size}
use Rattle.h3_bench.proofs.input.take_list.Given as goal

abbrev pub invariant-loop : goal.invariant-loop
invariant-loop l = record {
  sum : l.size ≡ section_size l.fields.items;
  small : l.size < 2 ^ 62;
}
