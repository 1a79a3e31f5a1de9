use Rattle.std.proofs.Common.{◌≡◌, true, false, not, ap, rules, ◌∙◌}
use Rattle.std.specs.Prelude.{is_some}
use Rattle.h3_messages.proofs.Outlines.{method_with_status, method_alone}
use Rattle.h3_messages.proofs.outline.has_method.Goals as goal

pub returns-then-is_some : goal.returns-then-is_some
returns-then-is_some c =
    let there : is_some c.args.header.now.status ≡ true = search rules in
    ap not c.is_response.ensures ∙ method_with_status c.args.header.now there

pub returns : goal.returns
returns c =
    let none : is_some c.args.header.now.status ≡ false = search rules in
    c.is_request.ensures ∙ method_alone c.args.header.now none
