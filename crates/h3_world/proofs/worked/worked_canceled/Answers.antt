use Rattle.std.proofs.Common.{refl}
use Rattle.h3_coding.specs.Encodings.{encoding}
use Rattle.h3_huffman.specs.Huffman.{huffman, octets, code_word, bits}
use Rattle.h3_field.specs.StaticTable.{static_table, static_field, static_name}
use Rattle.h3_header.specs.Reads.{kind_of}
use Rattle.h3_world.proofs.worked.worked_canceled.Goals as goal

pub returns-clause-answers : goal.returns-clause-answers
unfolding encoding static_table static_field static_name huffman octets code_word bits kind_of
returns-clause-answers c = refl

pub returns-clause-first : goal.returns-clause-first
unfolding encoding static_table static_field static_name huffman octets code_word bits kind_of
returns-clause-first c = refl

pub returns-clause-second : goal.returns-clause-second
unfolding encoding static_table static_field static_name huffman octets code_word bits kind_of
returns-clause-second c = refl

pub returns-clause-third : goal.returns-clause-third
unfolding encoding static_table static_field static_name huffman octets code_word bits kind_of
returns-clause-third c = refl

pub returns-clause-encoder : goal.returns-clause-encoder
unfolding encoding static_table static_field static_name huffman octets code_word bits kind_of
returns-clause-encoder c = refl

pub returns-clause-decoder : goal.returns-clause-decoder
unfolding encoding static_table static_field static_name huffman octets code_word bits kind_of
returns-clause-decoder c = refl
