use Rattle.std.proofs.Common.{◌≡◌, true, false, sym, ◌∙◌}
use Rattle.h3_messages.specs.OwnMessages.{is_no_trailer_name}
use Rattle.h3_messages.proofs.Rests.{any_here, any_later}
use Rattle.h3_messages.proofs.own.has_no_trailer_field.Goals as goal

pub returns-then-is_no_trailer_name : goal.returns-then-is_no_trailer_name
returns-then-is_no_trailer_name c =
    let is : is_no_trailer_name c.get-field.result.name ≡ true = cc in
    sym (any_here c.args.fields.now c.fields.place c.get-field.result c.get-field.ensures (λ f. is_no_trailer_name f.name) is) ∙ c.fields.invariant

pub fields-preserved : goal.fields-preserved
fields-preserved c =
    let is : is_no_trailer_name c.get-field.result.name ≡ false = cc in
    any_later c.args.fields.now c.fields.place c.get-field.result c.get-field.ensures (λ f. is_no_trailer_name f.name) is ∙ c.fields.invariant
