use Rattle.std.proofs.Common.{refl}
use Rattle.h3_coding.specs.Encodings.{encoding}
use Rattle.h3_huffman.specs.Huffman.{huffman, octets, code_word, bits}
use Rattle.h3_field.specs.StaticTable.{static_table, static_field, static_name}
use Rattle.h3_header.specs.HeadRead.{head_of, head_of_any}
use Rattle.h3_header.specs.Reads.{kind_of}
use Rattle.http_header.specs.Token.{is_token_byte}
use Rattle.h3_world.proofs.worked.worked_unlisted.Goals as goal

pub returns : goal.returns
unfolding encoding static_table static_field static_name huffman octets code_word bits kind_of head_of head_of_any is_token_byte
returns c = refl
