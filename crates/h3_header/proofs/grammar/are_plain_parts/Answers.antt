use Rattle.std.proofs.Common.{sym, ◌∙◌}
use Rattle.h3_header.proofs.PlainTextLaws.{path_alone}
use Rattle.h3_header.proofs.grammar.are_plain_parts.Goals as goal

pub returns-then-are_plain_path_bytes : goal.returns-then-are_plain_path_bytes
returns-then-are_plain_path_bytes c =
    let plain = c.if-are_plain_path_bytes.true in
    sym (path_alone c.args.text.now (sym c.are_plain_path_bytes.ensures ∙ plain))
