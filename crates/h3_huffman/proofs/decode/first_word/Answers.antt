use Rattle.h3_huffman.proofs.Judging.{entry_word}
use Rattle.h3_huffman.proofs.decode.first_word.Goals as goal

pub returns-clause-word : goal.returns-clause-word
returns-clause-word c =
    let entry = c.entry_at-entry.ensures in
    rw (c.from.ensures, c.first.ensures, c.first_length.ensures) (entry_word c.args.window _ _ c.requires (rw c.from-index.ensures at entry.word) entry.first_most)
