use Rattle.std.proofs.Common.{length, ◌<◌, ◌∙◌, arith}
use Rattle.std.proofs.lemmas.Grind.{common_steps}
use Rattle.h3_header.proofs.NameTestLaws.{bytes_decide}
use Rattle.h3_header.proofs.grammar.is_header_name.Goals as goal

pub returns-then-text-le-MOST_NAME_BYTES : goal.returns-then-text-le-MOST_NAME_BYTES
returns-then-text-le-MOST_NAME_BYTES c =
    let some : 0 < length c.args.text.now = grind (arith, common_steps) in
    c.are_name_bytes.ensures ∙ bytes_decide c.args.text.now some (omega arith)
