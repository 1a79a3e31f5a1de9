use Rattle.std.proofs.Common.{◌≡◌, true, bytes_eq, codes, rules, sym, ◌∙◌}
use Rattle.h3_header.proofs.PlainTextLaws.{https_is_scheme}
use Rattle.h3_header.proofs.grammar.is_scheme.Goals as goal

pub returns-then-is_text : goal.returns-then-is_text
returns-then-is_text c =
    let same : bytes_eq c.args.text.now (codes "https") ≡ true = search rules in
    c.if-is_text.true ∙ sym (https_is_scheme c.args.text.now same)
