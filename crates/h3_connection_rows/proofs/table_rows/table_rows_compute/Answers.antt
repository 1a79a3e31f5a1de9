use Rattle.h3_coding.specs.Encodings.{encoding}
use Rattle.h3_coding.specs.Varint.{varint_at}
use Rattle.h3_proto.specs.Pairs.{split_of}
use Rattle.h3_huffman.specs.Huffman.{bits, code_word, octets, huffman}
use Rattle.h3_field.specs.StaticTable.{static_table, static_field, static_name}
use Rattle.h3_frames.specs.Frames.{frame_by, frame_of}
use Rattle.h3_frames.specs.Known.{known_by}
use Rattle.http_header.specs.Token.{is_token_byte}
use Rattle.std.specs.Str.{is_utf8, chars}
use lib.Utf8.{encode}
use Rattle.h3_header.specs.Reads.{kind_of}
use Rattle.h3_header.specs.HeadRead.{head_of}
use Rattle.h3_huffman.specs.Unhuffman.{unhuffman}
use Rattle.h3_connection.specs.ExcessiveInstructions.{hear_up_to, listen_up_to}
use Rattle.h3_qpack.specs.DecodedSection.{fields_in, decode_section}
use Rattle.h3_connection.specs.Skipping.{skipped}
use Rattle.h3_connection.specs.PeerReading.{read_peer}
use Rattle.h3_connection.specs.Pulling.{pull_stream}
use Rattle.std.proofs.Common.{refl}
use Rattle.h3_connection_rows.proofs.table_rows.table_rows_compute.Goals as goal

pub returns-clause-settings_then_table_in_use : goal.returns-clause-settings_then_table_in_use
unfolding encoding static_field static_name chars encode varint_at split_of bits code_word octets huffman static_table frame_by frame_of known_by is_token_byte is_utf8 kind_of head_of unhuffman hear_up_to listen_up_to fields_in decode_section skipped read_peer pull_stream
returns-clause-settings_then_table_in_use c = refl

pub returns-clause-canceled_without_an_increment : goal.returns-clause-canceled_without_an_increment
unfolding encoding static_field static_name chars encode varint_at split_of bits code_word octets huffman static_table frame_by frame_of known_by is_token_byte is_utf8 kind_of head_of unhuffman hear_up_to listen_up_to fields_in decode_section skipped read_peer pull_stream
returns-clause-canceled_without_an_increment c = refl

pub returns-clause-increment_and_acknowledgment_read : goal.returns-clause-increment_and_acknowledgment_read
unfolding encoding static_field static_name chars encode varint_at split_of bits code_word octets huffman static_table frame_by frame_of known_by is_token_byte is_utf8 kind_of head_of unhuffman hear_up_to listen_up_to fields_in decode_section skipped read_peer pull_stream
returns-clause-increment_and_acknowledgment_read c = refl

pub returns-clause-head_waits_for_insertions : goal.returns-clause-head_waits_for_insertions
unfolding encoding static_field static_name chars encode varint_at split_of bits code_word octets huffman static_table frame_by frame_of known_by is_token_byte is_utf8 kind_of head_of unhuffman hear_up_to listen_up_to fields_in decode_section skipped read_peer pull_stream
returns-clause-head_waits_for_insertions c = refl

pub returns-clause-canceled_while_it_waits : goal.returns-clause-canceled_while_it_waits
unfolding encoding static_field static_name chars encode varint_at split_of bits code_word octets huffman static_table frame_by frame_of known_by is_token_byte is_utf8 kind_of head_of unhuffman hear_up_to listen_up_to fields_in decode_section skipped read_peer pull_stream
returns-clause-canceled_while_it_waits c = refl

pub returns-clause-no_stream_may_wait : goal.returns-clause-no_stream_may_wait
unfolding encoding static_field static_name chars encode varint_at split_of bits code_word octets huffman static_table frame_by frame_of known_by is_token_byte is_utf8 kind_of head_of unhuffman hear_up_to listen_up_to fields_in decode_section skipped read_peer pull_stream
returns-clause-no_stream_may_wait c = refl

pub returns-clause-one_stream_too_many_waits : goal.returns-clause-one_stream_too_many_waits
unfolding encoding static_field static_name chars encode varint_at split_of bits code_word octets huffman static_table frame_by frame_of known_by is_token_byte is_utf8 kind_of head_of unhuffman hear_up_to listen_up_to fields_in decode_section skipped read_peer pull_stream
returns-clause-one_stream_too_many_waits c = refl

pub returns-clause-section_missing_at_its_second_try : goal.returns-clause-section_missing_at_its_second_try
unfolding encoding static_field static_name chars encode varint_at split_of bits code_word octets huffman static_table frame_by frame_of known_by is_token_byte is_utf8 kind_of head_of unhuffman hear_up_to listen_up_to fields_in decode_section skipped read_peer pull_stream
returns-clause-section_missing_at_its_second_try c = refl

pub returns-clause-acknowledged_and_then_canceled : goal.returns-clause-acknowledged_and_then_canceled
unfolding encoding static_field static_name chars encode varint_at split_of bits code_word octets huffman static_table frame_by frame_of known_by is_token_byte is_utf8 kind_of head_of unhuffman hear_up_to listen_up_to fields_in decode_section skipped read_peer pull_stream
returns-clause-acknowledged_and_then_canceled c = refl

pub returns-clause-canceled_stream_makes_room : goal.returns-clause-canceled_stream_makes_room
unfolding encoding static_field static_name chars encode varint_at split_of bits code_word octets huffman static_table frame_by frame_of known_by is_token_byte is_utf8 kind_of head_of unhuffman hear_up_to listen_up_to fields_in decode_section skipped read_peer pull_stream
returns-clause-canceled_stream_makes_room c = refl

pub returns-clause-waits_for_all_insertions : goal.returns-clause-waits_for_all_insertions
unfolding encoding static_field static_name chars encode varint_at split_of bits code_word octets huffman static_table frame_by frame_of known_by is_token_byte is_utf8 kind_of head_of unhuffman hear_up_to listen_up_to fields_in decode_section skipped read_peer pull_stream
returns-clause-waits_for_all_insertions c = refl

pub returns-clause-settings_in_pieces : goal.returns-clause-settings_in_pieces
unfolding encoding static_field static_name chars encode varint_at split_of bits code_word octets huffman static_table frame_by frame_of known_by is_token_byte is_utf8 kind_of head_of unhuffman hear_up_to listen_up_to fields_in decode_section skipped read_peer pull_stream
returns-clause-settings_in_pieces c = refl

pub returns-clause-decoder_bytes_before_settings : goal.returns-clause-decoder_bytes_before_settings
unfolding encoding static_field static_name chars encode varint_at split_of bits code_word octets huffman static_table frame_by frame_of known_by is_token_byte is_utf8 kind_of head_of unhuffman hear_up_to listen_up_to fields_in decode_section skipped read_peer pull_stream
returns-clause-decoder_bytes_before_settings c = refl

pub returns-clause-interim_heads_in_the_table : goal.returns-clause-interim_heads_in_the_table
unfolding encoding static_field static_name chars encode varint_at split_of bits code_word octets huffman static_table frame_by frame_of known_by is_token_byte is_utf8 kind_of head_of unhuffman hear_up_to listen_up_to fields_in decode_section skipped read_peer pull_stream
returns-clause-interim_heads_in_the_table c = refl

pub returns-clause-tries_of_a_head_that_waits : goal.returns-clause-tries_of_a_head_that_waits
unfolding encoding static_field static_name chars encode varint_at split_of bits code_word octets huffman static_table frame_by frame_of known_by is_token_byte is_utf8 kind_of head_of unhuffman hear_up_to listen_up_to fields_in decode_section skipped read_peer pull_stream
returns-clause-tries_of_a_head_that_waits c = refl

pub returns-clause-tries_of_a_head_that_came : goal.returns-clause-tries_of_a_head_that_came
unfolding encoding static_field static_name chars encode varint_at split_of bits code_word octets huffman static_table frame_by frame_of known_by is_token_byte is_utf8 kind_of head_of unhuffman hear_up_to listen_up_to fields_in decode_section skipped read_peer pull_stream
returns-clause-tries_of_a_head_that_came c = refl

pub returns-clause-tries_while_it_waits : goal.returns-clause-tries_while_it_waits
unfolding encoding static_field static_name chars encode varint_at split_of bits code_word octets huffman static_table frame_by frame_of known_by is_token_byte is_utf8 kind_of head_of unhuffman hear_up_to listen_up_to fields_in decode_section skipped read_peer pull_stream
returns-clause-tries_while_it_waits c = refl

pub returns-clause-tries_of_a_section_missing_twice : goal.returns-clause-tries_of_a_section_missing_twice
unfolding encoding static_field static_name chars encode varint_at split_of bits code_word octets huffman static_table frame_by frame_of known_by is_token_byte is_utf8 kind_of head_of unhuffman hear_up_to listen_up_to fields_in decode_section skipped read_peer pull_stream
returns-clause-tries_of_a_section_missing_twice c = refl

pub returns-clause-canceled_stream_without_the_table : goal.returns-clause-canceled_stream_without_the_table
unfolding encoding static_field static_name chars encode varint_at split_of bits code_word octets huffman static_table frame_by frame_of known_by is_token_byte is_utf8 kind_of head_of unhuffman hear_up_to listen_up_to fields_in decode_section skipped read_peer pull_stream
returns-clause-canceled_stream_without_the_table c = refl

pub returns-clause-cancellation_releases_all_sections : goal.returns-clause-cancellation_releases_all_sections
unfolding encoding static_field static_name chars encode varint_at split_of bits code_word octets huffman static_table frame_by frame_of known_by is_token_byte is_utf8 kind_of head_of unhuffman hear_up_to listen_up_to fields_in decode_section skipped read_peer pull_stream
returns-clause-cancellation_releases_all_sections c = refl
