use Rattle.h3_coding.specs.Encodings.{encoding}
use Rattle.h3_coding.specs.Varint.{varint_at}
use Rattle.h3_proto.specs.Pairs.{split_of}
use Rattle.h3_huffman.specs.Huffman.{bits, code_word, octets, huffman}
use Rattle.h3_field.specs.StaticTable.{static_table, static_field, static_name}
use Rattle.h3_frames.specs.Frames.{frame_by, frame_of}
use Rattle.h3_frames.specs.Known.{known_by}
use Rattle.http_header.specs.Token.{is_token_byte}
use Rattle.std.specs.Str.{is_utf8, chars}
use lib.Utf8.{encode}
use Rattle.h3_header.specs.Reads.{kind_of}
use Rattle.h3_header.specs.HeadRead.{head_of}
use Rattle.h3_huffman.specs.Unhuffman.{unhuffman}
use Rattle.h3_connection.specs.ExcessiveInstructions.{hear_up_to, listen_up_to}
use Rattle.h3_qpack.specs.DecodedSection.{fields_in, decode_section}
use Rattle.h3_connection.specs.Skipping.{skipped}
use Rattle.h3_connection.specs.PeerReading.{read_peer}
use Rattle.h3_connection.specs.Pulling.{pull_stream}
use Rattle.h3_messages.specs.Messages.{violation_of_request, violation_of_response, violation_of_trailer}
use Rattle.std.proofs.Common.{refl}
use Rattle.h3_connection_rows.proofs.message_rows.message_rows_compute.Goals as goal

pub returns-clause-response_with_a_body_sent : goal.returns-clause-response_with_a_body_sent
unfolding encoding static_field static_name chars encode varint_at split_of bits code_word octets huffman static_table frame_by frame_of known_by is_token_byte is_utf8 kind_of head_of unhuffman hear_up_to listen_up_to fields_in decode_section skipped read_peer pull_stream
returns-clause-response_with_a_body_sent c = refl

pub returns-clause-response_read_byte_by_byte : goal.returns-clause-response_read_byte_by_byte
unfolding encoding static_field static_name chars encode varint_at split_of bits code_word octets huffman static_table frame_by frame_of known_by is_token_byte is_utf8 kind_of head_of unhuffman hear_up_to listen_up_to fields_in decode_section skipped read_peer pull_stream
returns-clause-response_read_byte_by_byte c = refl

pub returns-clause-section_above_the_own_size : goal.returns-clause-section_above_the_own_size
unfolding encoding static_field static_name chars encode varint_at split_of bits code_word octets huffman static_table frame_by frame_of known_by is_token_byte is_utf8 kind_of head_of unhuffman hear_up_to listen_up_to fields_in decode_section skipped read_peer pull_stream
returns-clause-section_above_the_own_size c = refl

pub returns-clause-request_without_settings : goal.returns-clause-request_without_settings
unfolding encoding static_field static_name chars encode varint_at split_of bits code_word octets huffman static_table frame_by frame_of known_by is_token_byte is_utf8 kind_of head_of unhuffman hear_up_to listen_up_to fields_in decode_section skipped read_peer pull_stream
returns-clause-request_without_settings c = refl

pub returns-clause-unknown_frame_skipped : goal.returns-clause-unknown_frame_skipped
unfolding encoding static_field static_name chars encode varint_at split_of bits code_word octets huffman static_table frame_by frame_of known_by is_token_byte is_utf8 kind_of head_of unhuffman hear_up_to listen_up_to fields_in decode_section skipped read_peer pull_stream
returns-clause-unknown_frame_skipped c = refl

pub returns-clause-name_in_upper_case : goal.returns-clause-name_in_upper_case
unfolding encoding static_field static_name chars encode varint_at split_of bits code_word octets huffman static_table frame_by frame_of known_by is_token_byte is_utf8 kind_of head_of unhuffman hear_up_to listen_up_to fields_in decode_section skipped read_peer pull_stream
returns-clause-name_in_upper_case c = refl

pub returns-clause-webtransport_sessions : goal.returns-clause-webtransport_sessions
unfolding encoding static_field static_name chars encode varint_at split_of bits code_word octets huffman static_table frame_by frame_of known_by is_token_byte is_utf8 kind_of head_of unhuffman hear_up_to listen_up_to fields_in decode_section skipped read_peer pull_stream
returns-clause-webtransport_sessions c = refl

pub returns-clause-reset_ends_sending : goal.returns-clause-reset_ends_sending
unfolding encoding static_field static_name chars encode varint_at split_of bits code_word octets huffman static_table frame_by frame_of known_by is_token_byte is_utf8 kind_of head_of unhuffman hear_up_to listen_up_to fields_in decode_section skipped read_peer pull_stream
returns-clause-reset_ends_sending c = refl

pub returns-clause-reset_delivered : goal.returns-clause-reset_delivered
unfolding encoding static_field static_name chars encode varint_at split_of bits code_word octets huffman static_table frame_by frame_of known_by is_token_byte is_utf8 kind_of head_of unhuffman hear_up_to listen_up_to fields_in decode_section skipped read_peer pull_stream
returns-clause-reset_delivered c = refl

pub returns-clause-goaways_sent : goal.returns-clause-goaways_sent
unfolding encoding static_field static_name chars encode varint_at split_of bits code_word octets huffman static_table frame_by frame_of known_by is_token_byte is_utf8 kind_of head_of unhuffman hear_up_to listen_up_to fields_in decode_section skipped read_peer pull_stream
returns-clause-goaways_sent c = refl

pub returns-clause-cancellations_refused : goal.returns-clause-cancellations_refused
unfolding encoding static_field static_name chars encode varint_at split_of bits code_word octets huffman static_table frame_by frame_of known_by is_token_byte is_utf8 kind_of head_of unhuffman hear_up_to listen_up_to fields_in decode_section skipped read_peer pull_stream
returns-clause-cancellations_refused c = refl

pub returns-clause-session_type_without_an_id : goal.returns-clause-session_type_without_an_id
unfolding encoding static_field static_name chars encode varint_at split_of bits code_word octets huffman static_table frame_by frame_of known_by is_token_byte is_utf8 kind_of head_of unhuffman hear_up_to listen_up_to fields_in decode_section skipped read_peer pull_stream
returns-clause-session_type_without_an_id c = refl

pub returns-clause-empty_authority : goal.returns-clause-empty_authority
unfolding encoding static_field static_name chars encode varint_at split_of bits code_word octets huffman static_table frame_by frame_of known_by is_token_byte is_utf8 kind_of head_of unhuffman hear_up_to listen_up_to fields_in decode_section skipped read_peer pull_stream
returns-clause-empty_authority c = refl

pub returns-clause-long_frame_heads_byte_by_byte : goal.returns-clause-long_frame_heads_byte_by_byte
unfolding encoding static_field static_name chars encode varint_at split_of bits code_word octets huffman static_table frame_by frame_of known_by is_token_byte is_utf8 kind_of head_of unhuffman hear_up_to listen_up_to fields_in decode_section skipped read_peer pull_stream
returns-clause-long_frame_heads_byte_by_byte c = refl

pub returns-clause-session_reset : goal.returns-clause-session_reset
unfolding encoding static_field static_name chars encode varint_at split_of bits code_word octets huffman static_table frame_by frame_of known_by is_token_byte is_utf8 kind_of head_of unhuffman hear_up_to listen_up_to fields_in decode_section skipped read_peer pull_stream
returns-clause-session_reset c = refl

pub returns-clause-interim_head_alone : goal.returns-clause-interim_head_alone
unfolding encoding static_field static_name chars encode varint_at split_of bits code_word octets huffman static_table frame_by frame_of known_by is_token_byte is_utf8 kind_of head_of unhuffman hear_up_to listen_up_to fields_in decode_section skipped read_peer pull_stream
returns-clause-interim_head_alone c = refl

pub returns-clause-empty_data_frames : goal.returns-clause-empty_data_frames
unfolding encoding static_field static_name chars encode varint_at split_of bits code_word octets huffman static_table frame_by frame_of known_by is_token_byte is_utf8 kind_of head_of unhuffman hear_up_to listen_up_to fields_in decode_section skipped read_peer pull_stream
returns-clause-empty_data_frames c = refl

pub returns-clause-malformed_head_acknowledged : goal.returns-clause-malformed_head_acknowledged
unfolding encoding static_field static_name chars encode varint_at split_of bits code_word octets huffman static_table frame_by frame_of known_by is_token_byte is_utf8 kind_of head_of unhuffman hear_up_to listen_up_to fields_in decode_section skipped read_peer pull_stream
returns-clause-malformed_head_acknowledged c = refl

pub returns-clause-large_section_acknowledged : goal.returns-clause-large_section_acknowledged
unfolding encoding static_field static_name chars encode varint_at split_of bits code_word octets huffman static_table frame_by frame_of known_by is_token_byte is_utf8 kind_of head_of unhuffman hear_up_to listen_up_to fields_in decode_section skipped read_peer pull_stream
returns-clause-large_section_acknowledged c = refl

pub returns-clause-interim_head_sent : goal.returns-clause-interim_head_sent
unfolding encoding static_field static_name chars encode varint_at split_of bits code_word octets huffman static_table frame_by frame_of known_by is_token_byte is_utf8 kind_of head_of unhuffman hear_up_to listen_up_to fields_in decode_section skipped read_peer pull_stream
returns-clause-interim_head_sent c = refl

pub returns-clause-interim_head_read : goal.returns-clause-interim_head_read
unfolding encoding static_field static_name chars encode varint_at split_of bits code_word octets huffman static_table frame_by frame_of known_by is_token_byte is_utf8 kind_of head_of unhuffman hear_up_to listen_up_to fields_in decode_section skipped read_peer pull_stream
returns-clause-interim_head_read c = refl

pub returns-clause-end_behind_an_interim_head : goal.returns-clause-end_behind_an_interim_head
unfolding encoding static_field static_name chars encode varint_at split_of bits code_word octets huffman static_table frame_by frame_of known_by is_token_byte is_utf8 kind_of head_of unhuffman hear_up_to listen_up_to fields_in decode_section skipped read_peer pull_stream
returns-clause-end_behind_an_interim_head c = refl

pub returns-clause-interim_head_above_the_own_size : goal.returns-clause-interim_head_above_the_own_size
unfolding encoding static_field static_name chars encode varint_at split_of bits code_word octets huffman static_table frame_by frame_of known_by is_token_byte is_utf8 kind_of head_of unhuffman hear_up_to listen_up_to fields_in decode_section skipped read_peer pull_stream
returns-clause-interim_head_above_the_own_size c = refl

pub returns-clause-interim_head_in_a_trailers_place : goal.returns-clause-interim_head_in_a_trailers_place
unfolding encoding static_field static_name chars encode varint_at split_of bits code_word octets huffman static_table frame_by frame_of known_by is_token_byte is_utf8 kind_of head_of unhuffman hear_up_to listen_up_to fields_in decode_section skipped read_peer pull_stream
returns-clause-interim_head_in_a_trailers_place c = refl

pub returns-clause-content_counted : goal.returns-clause-content_counted
unfolding violation_of_request violation_of_response violation_of_trailer encoding static_field static_name chars encode varint_at split_of bits code_word octets huffman static_table frame_by frame_of known_by is_token_byte is_utf8 kind_of head_of unhuffman hear_up_to listen_up_to fields_in decode_section skipped read_peer pull_stream
returns-clause-content_counted c = refl

pub returns-clause-response_content_counted : goal.returns-clause-response_content_counted
unfolding violation_of_request violation_of_response violation_of_trailer encoding static_field static_name chars encode varint_at split_of bits code_word octets huffman static_table frame_by frame_of known_by is_token_byte is_utf8 kind_of head_of unhuffman hear_up_to listen_up_to fields_in decode_section skipped read_peer pull_stream
returns-clause-response_content_counted c = refl
