use Rattle.h3_coding.specs.Encodings.{encoding}
use Rattle.h3_coding.specs.Varint.{varint_at}
use Rattle.h3_proto.specs.Pairs.{split_of}
use Rattle.h3_huffman.specs.Huffman.{bits, code_word, octets, huffman}
use Rattle.h3_field.specs.StaticTable.{static_table, static_field, static_name}
use Rattle.h3_frames.specs.Frames.{frame_by, frame_of}
use Rattle.h3_frames.specs.Known.{known_by}
use Rattle.http_header.specs.Token.{is_token_byte}
use Rattle.std.specs.Str.{is_utf8, chars}
use lib.Utf8.{encode}
use Rattle.h3_header.specs.Reads.{kind_of}
use Rattle.h3_header.specs.HeadRead.{head_of}
use Rattle.h3_huffman.specs.Unhuffman.{unhuffman}
use Rattle.h3_connection.specs.ExcessiveInstructions.{hear_up_to, listen_up_to}
use Rattle.h3_qpack.specs.DecodedSection.{fields_in, decode_section}
use Rattle.h3_connection.specs.Skipping.{skipped}
use Rattle.h3_connection.specs.PeerReading.{read_peer}
use Rattle.h3_connection.specs.Pulling.{pull_stream}
use Rattle.std.proofs.Common.{refl}
use Rattle.h3_connection_rows.proofs.end_rows.end_rows_compute.Goals as goal

pub returns-clause-before_the_end : goal.returns-clause-before_the_end
unfolding encoding static_field static_name chars encode varint_at split_of bits code_word octets huffman static_table frame_by frame_of known_by is_token_byte is_utf8 kind_of head_of unhuffman hear_up_to listen_up_to fields_in decode_section skipped read_peer pull_stream
returns-clause-before_the_end c = refl

pub returns-clause-behind_its_bytes : goal.returns-clause-behind_its_bytes
unfolding encoding static_field static_name chars encode varint_at split_of bits code_word octets huffman static_table frame_by frame_of known_by is_token_byte is_utf8 kind_of head_of unhuffman hear_up_to listen_up_to fields_in decode_section skipped read_peer pull_stream
returns-clause-behind_its_bytes c = refl

pub returns-clause-once : goal.returns-clause-once
unfolding encoding static_field static_name chars encode varint_at split_of bits code_word octets huffman static_table frame_by frame_of known_by is_token_byte is_utf8 kind_of head_of unhuffman hear_up_to listen_up_to fields_in decode_section skipped read_peer pull_stream
returns-clause-once c = refl

pub returns-clause-no_reset_behind_it : goal.returns-clause-no_reset_behind_it
unfolding encoding static_field static_name chars encode varint_at split_of bits code_word octets huffman static_table frame_by frame_of known_by is_token_byte is_utf8 kind_of head_of unhuffman hear_up_to listen_up_to fields_in decode_section skipped read_peer pull_stream
returns-clause-no_reset_behind_it c = refl

pub returns-clause-other_streams : goal.returns-clause-other_streams
unfolding encoding static_field static_name chars encode varint_at split_of bits code_word octets huffman static_table frame_by frame_of known_by is_token_byte is_utf8 kind_of head_of unhuffman hear_up_to listen_up_to fields_in decode_section skipped read_peer pull_stream
returns-clause-other_streams c = refl

pub returns-clause-bytes : goal.returns-clause-bytes
unfolding encoding static_field static_name chars encode varint_at split_of bits code_word octets huffman static_table frame_by frame_of known_by is_token_byte is_utf8 kind_of head_of unhuffman hear_up_to listen_up_to fields_in decode_section skipped read_peer pull_stream
returns-clause-bytes c = refl

pub returns-clause-no_bytes : goal.returns-clause-no_bytes
unfolding encoding static_field static_name chars encode varint_at split_of bits code_word octets huffman static_table frame_by frame_of known_by is_token_byte is_utf8 kind_of head_of unhuffman hear_up_to listen_up_to fields_in decode_section skipped read_peer pull_stream
returns-clause-no_bytes c = refl

pub returns-clause-an_end : goal.returns-clause-an_end
unfolding encoding static_field static_name chars encode varint_at split_of bits code_word octets huffman static_table frame_by frame_of known_by is_token_byte is_utf8 kind_of head_of unhuffman hear_up_to listen_up_to fields_in decode_section skipped read_peer pull_stream
returns-clause-an_end c = refl

pub returns-clause-no_end : goal.returns-clause-no_end
unfolding encoding static_field static_name chars encode varint_at split_of bits code_word octets huffman static_table frame_by frame_of known_by is_token_byte is_utf8 kind_of head_of unhuffman hear_up_to listen_up_to fields_in decode_section skipped read_peer pull_stream
returns-clause-no_end c = refl

pub returns-clause-was_reset : goal.returns-clause-was_reset
unfolding encoding static_field static_name chars encode varint_at split_of bits code_word octets huffman static_table frame_by frame_of known_by is_token_byte is_utf8 kind_of head_of unhuffman hear_up_to listen_up_to fields_in decode_section skipped read_peer pull_stream
returns-clause-was_reset c = refl

pub returns-clause-own : goal.returns-clause-own
unfolding encoding static_field static_name chars encode varint_at split_of bits code_word octets huffman static_table frame_by frame_of known_by is_token_byte is_utf8 kind_of head_of unhuffman hear_up_to listen_up_to fields_in decode_section skipped read_peer pull_stream
returns-clause-own c = refl
