use Rattle.std.proofs.Common.{refl}
use Rattle.h3_coding.specs.Encodings.{encoding}
use Rattle.h3_huffman.specs.Huffman.{huffman, octets, code_word, bits}
use Rattle.h3_field.specs.StaticTable.{static_table, static_field, static_name}
use Rattle.h3_header.specs.Reads.{kind_of}
use Rattle.h3_world.proofs.worked.worked_second.Goals as goal

pub returns : goal.returns
unfolding encoding static_table static_field static_name huffman octets code_word bits kind_of
returns c = refl
