use Rattle.std.proofs.Common.{rules}
use Rattle.h3_outgoing.proofs.Headers.{head_written}
use Rattle.h3_outgoing.proofs.section.write_front.Goals as goal

pub returns-clause-head : goal.returns-clause-head
returns-clause-head c =
    head_written c.args.block.now c.copy_from_slice.new.self c.length_word-word.result.0 c.length_word-word.result.1 c.args.kind c.args.len c.requires.room c.requires.kind (search rules) c.length_word-word.ensures.encoding
