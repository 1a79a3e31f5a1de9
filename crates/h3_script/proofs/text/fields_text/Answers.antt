use Rattle.std.proofs.Common.{◌++◌, ◌∷◌, [], take, sym, ◌∙◌, ap}
use Rattle.std.proofs.lemmas.List.{take_more}
use Rattle.h3_field.specs.Field.{Field}
use Rattle.h3_script.specs.Lines.{field_word}
use Rattle.h3_script.proofs.PrintedLines.{words_more}
use Rattle.h3_script.proofs.text.fields_text.Goals as goal

pub loop-field-preserved : goal.loop-field-preserved
loop-field-preserved c =
    let i = c.loop-field.field-index in
    let fields = c.args.fields.now in
    c.in_ok-push_field.ensures
    ∙ words_more field_word c.args.name.now fields i c.field-item.result _
    (take_more fields i c.field-item.result c.loop-field-test.true ∙ ap (λ (f : Field). take i fields ++ f ∷ []) (sym c.field-item.is)) c.loop-field.invariant
