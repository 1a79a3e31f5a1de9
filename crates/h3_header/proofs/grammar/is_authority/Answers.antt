use Rattle.std.proofs.Common.{sym, ◌∙◌}
use Rattle.h3_header.proofs.HeadTestLaws.{authority, decided}
use Rattle.h3_header.proofs.PlainTextLaws.{host_is_authority}
use Rattle.h3_header.proofs.grammar.is_authority.Goals as goal

pub returns-then-is_host : goal.returns-then-is_host
returns-then-is_host c =
    let host = c.if-is_host.true in
    host ∙ sym (host_is_authority c.args.text.now (sym c.is_host.ensures ∙ host))

pub returns-else-is_host : goal.returns-else-is_host
returns-else-is_host c = decided _ _ (authority c.args.text.now) c.has_grammar.ensures
