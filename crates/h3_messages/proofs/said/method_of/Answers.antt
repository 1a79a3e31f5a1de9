use Rattle.std.proofs.Common.{◌≡◌, true, false, codes, bytes_eq, sym, ◌∙◌}
use Rattle.h3_messages.proofs.Rests.{value_here, value_later}
use Rattle.h3_messages.proofs.said.method_of.Goals as goal

pub returns-then-is_same : goal.returns-then-is_same
returns-then-is_same c =
    let is : bytes_eq c.get-field.result.name (codes ":method") ≡ true = cc in
    c.value.ensures ∙ sym (value_here c.args.fields.now c.fields.place c.get-field.result c.get-field.ensures (codes ":method") is) ∙ c.fields.invariant

pub fields-preserved : goal.fields-preserved
fields-preserved c =
    let is : bytes_eq c.get-field.result.name (codes ":method") ≡ false = cc in
    value_later c.args.fields.now c.fields.place c.get-field.result c.get-field.ensures (codes ":method") is ∙ c.fields.invariant
