use Rattle.std.proofs.Common.{sym, ◌∙◌}
use Rattle.h3_header.proofs.PlainTextLaws.{plain_is_path_input}
use Rattle.h3_header.proofs.grammar.is_path_input.Goals as goal

pub returns-then-is_plain_path : goal.returns-then-is_plain_path
returns-then-is_plain_path c =
    let plain = c.if-is_plain_path.true in
    plain ∙ sym (plain_is_path_input c.args.text.now (sym c.is_plain_path.ensures ∙ plain))
