use Rattle.h3_coding.specs.Encodings.{encoding}
use Rattle.h3_coding.specs.Varint.{varint_at}
use Rattle.h3_proto.specs.Pairs.{split_of}
use Rattle.h3_huffman.specs.Huffman.{bits, code_word, octets, huffman}
use Rattle.h3_field.specs.StaticTable.{static_table, static_field, static_name}
use Rattle.h3_frames.specs.Frames.{frame_by, frame_of}
use Rattle.h3_frames.specs.Known.{known_by}
use Rattle.http_header.specs.Token.{is_token_byte}
use Rattle.std.specs.Str.{is_utf8, chars}
use lib.Utf8.{encode}
use Rattle.h3_header.specs.Reads.{kind_of}
use Rattle.h3_header.specs.HeadRead.{head_of}
use Rattle.h3_huffman.specs.Unhuffman.{unhuffman}
use Rattle.h3_connection.specs.ExcessiveInstructions.{hear_up_to, listen_up_to}
use Rattle.h3_qpack.specs.DecodedSection.{fields_in, decode_section}
use Rattle.h3_connection.specs.Skipping.{skipped}
use Rattle.h3_connection.specs.PeerReading.{read_peer}
use Rattle.h3_connection.specs.Pulling.{pull_stream}
use Rattle.std.proofs.Common.{refl}
use Rattle.h3_connection_rows.proofs.server_cases_1.server_cases_1_compute.Goals as goal

pub returns-clause-case_1 : goal.returns-clause-case_1
unfolding encoding static_field static_name chars encode varint_at split_of bits code_word octets huffman static_table frame_by frame_of known_by is_token_byte is_utf8 kind_of head_of unhuffman hear_up_to listen_up_to fields_in decode_section skipped read_peer pull_stream
returns-clause-case_1 c = refl

pub returns-clause-case_2 : goal.returns-clause-case_2
unfolding encoding static_field static_name chars encode varint_at split_of bits code_word octets huffman static_table frame_by frame_of known_by is_token_byte is_utf8 kind_of head_of unhuffman hear_up_to listen_up_to fields_in decode_section skipped read_peer pull_stream
returns-clause-case_2 c = refl

pub returns-clause-case_3 : goal.returns-clause-case_3
unfolding encoding static_field static_name chars encode varint_at split_of bits code_word octets huffman static_table frame_by frame_of known_by is_token_byte is_utf8 kind_of head_of unhuffman hear_up_to listen_up_to fields_in decode_section skipped read_peer pull_stream
returns-clause-case_3 c = refl

pub returns-clause-case_4 : goal.returns-clause-case_4
unfolding encoding static_field static_name chars encode varint_at split_of bits code_word octets huffman static_table frame_by frame_of known_by is_token_byte is_utf8 kind_of head_of unhuffman hear_up_to listen_up_to fields_in decode_section skipped read_peer pull_stream
returns-clause-case_4 c = refl

pub returns-clause-case_5 : goal.returns-clause-case_5
unfolding encoding static_field static_name chars encode varint_at split_of bits code_word octets huffman static_table frame_by frame_of known_by is_token_byte is_utf8 kind_of head_of unhuffman hear_up_to listen_up_to fields_in decode_section skipped read_peer pull_stream
returns-clause-case_5 c = refl
