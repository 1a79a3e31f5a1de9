use Rattle.h3_huffman.specs.UnhuffmanLaws.{unhuffman_some, unhuffman_is}
use Rattle.h3_huffman.proofs.NoStrings.{unhuffman_none, no_unhuffman}
use Rattle.h3_huffman.proofs.laws.encodings_are_their_value.Goals as goal

pub returns-clause-some : goal.returns-clause-some
returns-clause-some c = unhuffman_some

pub returns-clause-only : goal.returns-clause-only
returns-clause-only c = unhuffman_is

pub returns-clause-none : goal.returns-clause-none
returns-clause-none c = unhuffman_none

pub returns-clause-refused : goal.returns-clause-refused
returns-clause-refused c = no_unhuffman
