use Rattle.std.proofs.Common.{◌≡◌, List, [], ◌∷◌, ◌++◌, ap, subst, sym, ◌∙◌}
use Rattle.std.specs.Prelude.{slice_get, Some}
use Rattle.h3_field.specs.Field.{Field}
use Rattle.h3_field.proofs.FieldBlocks.{one_more}
use Rattle.h3_field.proofs.field_block.FieldBlock.to_fields.Goals as goal

pub loop-place-preserved : goal.loop-place-preserved
loop-place-preserved c =
    let at = subst (λ (l : List Field). slice_get l c.loop-place.place ≡ Some c.get-field.result) c.fields-fields.ensures c.get-field.ensures in
    c.in_ok-push.ensures.items
    ∙ ap (λ (l : List Field). l ++ c.in_ok-copied.field-0 ∷ []) c.loop-place.invariant
    ∙ sym (one_more c.args.self.now c.loop-place.place c.get-field.result c.in_ok-copied.field-0 at c.in_ok-copied.ensures.ok)
