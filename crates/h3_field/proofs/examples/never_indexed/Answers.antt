use Rattle.std.proofs.Common.{refl}
use Rattle.h3_huffman.specs.Huffman.{huffman, bits, code_word, octets}
use Rattle.h3_field.specs.StaticTable.{static_table, static_field, static_name}
use Rattle.h3_field.proofs.examples.never_indexed.Goals as goal

pub returns-clause-named_plain : goal.returns-clause-named_plain
unfolding static_table static_field static_name huffman bits code_word octets
returns-clause-named_plain c = refl

pub returns-clause-named : goal.returns-clause-named
unfolding static_table static_field static_name huffman bits code_word octets
returns-clause-named c = refl

pub returns-clause-literal_plain : goal.returns-clause-literal_plain
unfolding static_table static_field static_name huffman bits code_word octets
returns-clause-literal_plain c = refl

pub returns-clause-literal : goal.returns-clause-literal
unfolding static_table static_field static_name huffman bits code_word octets
returns-clause-literal c = refl

pub returns-clause-entry : goal.returns-clause-entry
unfolding static_table static_field static_name huffman bits code_word octets
returns-clause-entry c = refl

pub returns-clause-post_base : goal.returns-clause-post_base
unfolding static_table static_field static_name huffman bits code_word octets
returns-clause-post_base c = refl
