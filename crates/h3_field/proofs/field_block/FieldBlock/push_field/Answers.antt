use Rattle.std.proofs.Common.{◌≡◌, List, [], ◌∷◌, ◌++◌, ap, ◌∙◌, append_assoc}
use Rattle.h3_field.specs.Field.{Field}
use Rattle.h3_field.specs.FieldBlock.{fields_at, IsNext}
use Rattle.h3_field.proofs.FieldBlocks.{block_next, fields_next}
use Rattle.h3_field.proofs.field_block.FieldBlock.push_field.Goals as goal

next : (c : goal.In_default) → IsNext c.self.inside.bytes c.args.field.now.name c.args.field.now.value c.args.field.now.never_indexed c.in_ok-place.place
next c = record { start = c.in_ok-place.ensures.start; middle = c.in_ok-place.ensures.middle; end = c.in_ok-place.ensures.end; flag = c.in_ok-place.ensures.flag }

bytes : (c : goal.In_default) → c.put_field.new.bytes ≡ c.self.inside.bytes ++ (c.args.field.now.name ++ c.args.field.now.value)
bytes c = c.in_ok-place.ensures.ok ∙ append_assoc c.self.inside.bytes c.args.field.now.name c.args.field.now.value

pub invariant_of-self-in_default : goal.invariant_of-self-in_default
invariant_of-self-in_default c =
    rw (bytes c, c.in_default.ensures.ok) (block_next _ _ _ _ _ _ c.self.invariant (next c))

pub returns-clause-ok : goal.returns-clause-ok
returns-clause-ok c =
    (λ i. fields_at (bytes c i) (c.in_default.ensures.ok i))
    ∙ fields_next c.self.inside.bytes c.args.field.now.name c.args.field.now.value c.args.field.now.never_indexed c.self.inside.places.items c.in_ok-place.place c.self.invariant (next c)
    ∙ ap (λ (l : List Field). l ++ c.args.field.now ∷ []) c.self.view_is
