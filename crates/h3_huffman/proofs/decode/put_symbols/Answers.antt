use Rattle.std.proofs.Common.{ap, ◌∙◌}
use Rattle.std.specs.Int.{w16, to_le_bytes}
use Rattle.h3_huffman.proofs.Symbols.{symbols_put}
use Rattle.h3_huffman.proofs.decode.put_symbols.Goals as goal

pub returns-clause-symbols : goal.returns-clause-symbols
returns-clause-symbols c = rw c.count.ensures (symbols_put _ _ _ _ c.args.entry.packed c.requires.room c.requires.few (c.copy_from_slice.ensures.after ∙ c.to_le_bytes.ensures ∙ ap (to_le_bytes w16) c.symbols.ensures))
