use Rattle.std.proofs.Common.{List, [], ◌∷◌, ◌++◌, ap, ◌∙◌}
use Rattle.h3_field.specs.Field.{Field}
use Rattle.h3_field.specs.FieldBlock.{fields_at}
use Rattle.h3_field.proofs.FieldBlocks.{block_next, fields_next}
use Rattle.h3_field.proofs.field_block.FieldBlock.has_pushed_strings.Goals as goal

pub invariant_of-self-in_default-put_place : goal.invariant_of-self-in_default-put_place
invariant_of-self-in_default-put_place c =
    rw (c.in-Some.ensures.some.4, c.in_default-put_place.ensures.ok) (block_next _ _ _ _ _ _ c.self.invariant c.in-Some.ensures.some.5)

pub returns-clause-yes : goal.returns-clause-yes
returns-clause-yes c = λ _. (
  c.in-Some.ensures.some.0,
  c.in-Some.ensures.some.1,
  c.in-Some.ensures.some.2,
  c.in-Some.ensures.some.3,
  (λ i. fields_at (c.in-Some.ensures.some.4 i) (c.in_default-put_place.ensures.ok i))
      ∙ fields_next c.self.inside.bytes c.in-Some.ensures.some.0 c.in-Some.ensures.some.1 c.args.never_indexed c.self.inside.places.items c.in-Some.place c.self.invariant c.in-Some.ensures.some.5
      ∙ ap (λ (l : List Field). l ++ (record { name = c.in-Some.ensures.some.0; value = c.in-Some.ensures.some.1; never_indexed = c.args.never_indexed }) ∷ []) c.self.view_is,
)
