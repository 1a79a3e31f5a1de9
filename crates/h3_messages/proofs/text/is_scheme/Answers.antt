use Rattle.std.proofs.Common.{◌≡◌, true, bytes_eq, codes, rules, sym, ◌∙◌}
use Rattle.h3_messages.proofs.Steps.{https_is_scheme}
use Rattle.h3_messages.proofs.text.is_scheme.Goals as goal

pub returns-then-is_same : goal.returns-then-is_same
returns-then-is_same c =
    let same : bytes_eq c.args.text.now (codes "https") ≡ true = search rules in
    c.if-is_same.true ∙ sym (https_is_scheme c.args.text.now same)
