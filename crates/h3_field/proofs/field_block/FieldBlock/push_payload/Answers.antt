use Rattle.std.proofs.Common.{◌≡◌, List, [], ◌∷◌, ◌++◌, ap, ◌∙◌, arith}
use Rattle.std.proofs.lemmas.Grind.{common_steps}
use Rattle.h3_field.specs.Field.{Field}
use Rattle.h3_field.specs.FieldBlock.{fields_at}
use Rattle.h3_field.proofs.Strings.{stands_some}
use Rattle.h3_field.proofs.FieldBlocks.{block_next, fields_next}
use Rattle.h3_field.proofs.field_block.FieldBlock.push_payload.Goals as goal

pub returns-in-Err : goal.returns-in-Err
returns-in-Err c =
    let put = c.in_ok-place.ensures.2 in
    let kept : c.truncate.new.self ≡ c.self.inside.bytes = grind (arith, common_steps, put) in
    (stands_some _ _ c.in_ok-place.ensures.1, (λ i. fields_at (kept i) (c.in-Err.ensures.err i)) ∙ c.self.view_is)

pub invariant_of-self-in_default : goal.invariant_of-self-in_default
invariant_of-self-in_default c =
    rw (c.in_ok-place.ensures.2, c.in_default.ensures.ok) (block_next _ _ _ _ _ _ c.self.invariant c.in_ok-place.ensures.3)

pub returns : goal.returns
returns c = (
  c.in_ok-place.ensures.0,
  c.in_ok-place.ensures.1,
  (λ i. fields_at (c.in_ok-place.ensures.2 i) (c.in_default.ensures.ok i))
      ∙ fields_next c.self.inside.bytes c.args.name.now c.in_ok-place.ensures.0 c.args.never_indexed c.self.inside.places.items c.in_ok-place.place c.self.invariant c.in_ok-place.ensures.3
      ∙ ap (λ (l : List Field). l ++ (record { name = c.args.name.now; value = c.in_ok-place.ensures.0; never_indexed = c.args.never_indexed }) ∷ []) c.self.view_is,
)
