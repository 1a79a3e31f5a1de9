use Rattle.std.proofs.Common.{refl}
use Rattle.h3_coding.specs.Encodings.{encoding}
use Rattle.h3_huffman.specs.Huffman.{huffman, octets, code_word, bits}
use Rattle.h3_field.specs.StaticTable.{static_table, static_field, static_name}
use Rattle.h3_header.specs.Reads.{kind_of}
use Rattle.h3_world.proofs.worked.worked_home.Goals as goal

pub returns-clause-answers : goal.returns-clause-answers
unfolding encoding static_table static_field static_name huffman octets code_word bits kind_of
returns-clause-answers c = refl

pub returns-clause-bytes : goal.returns-clause-bytes
unfolding encoding static_table static_field static_name huffman octets code_word bits kind_of
returns-clause-bytes c = refl
