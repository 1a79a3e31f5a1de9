use Rattle.h3_table.specs.Words.{further_word}
use Rattle.h3_table.proofs.Rows.{added}
use Rattle.h3_table.proofs.words.Words.add.Goals as goal

pub returns-then-word-ne0-clause-added : goal.returns-then-word-ne0-clause-added
returns-then-word-ne0-clause-added c = λ it.
    added c.args.self.now.row.items (further_word c.args.self.now.further.entries) c.args.number c.row_word-word.result c.args.bits c.row_word-word.ensures c.if-word-ne0.true
