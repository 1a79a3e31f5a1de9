use Rattle.h3_coding.specs.Encodings.{encoding}
use Rattle.h3_coding.specs.Varint.{varint_at}
use Rattle.h3_proto.specs.Pairs.{split_of}
use Rattle.h3_huffman.specs.Huffman.{bits, code_word, octets, huffman}
use Rattle.h3_field.specs.StaticTable.{static_table, static_field, static_name}
use Rattle.h3_frames.specs.Frames.{frame_by, frame_of}
use Rattle.h3_frames.specs.Known.{known_by}
use Rattle.http_header.specs.Token.{is_token_byte}
use Rattle.std.specs.Str.{is_utf8, chars}
use lib.Utf8.{encode}
use Rattle.h3_header.specs.Reads.{kind_of}
use Rattle.h3_header.specs.HeadRead.{head_of}
use Rattle.h3_huffman.specs.Unhuffman.{unhuffman}
use Rattle.h3_connection.specs.ExcessiveInstructions.{hear_up_to, listen_up_to}
use Rattle.h3_qpack.specs.DecodedSection.{fields_in, decode_section}
use Rattle.h3_connection.specs.Skipping.{skipped}
use Rattle.h3_connection.specs.PeerReading.{read_peer}
use Rattle.h3_connection.specs.Pulling.{pull_stream}
use Rattle.std.proofs.Common.{refl}
use Rattle.h3_world.proofs.worked_ends.ends_answer_as_worked.Goals as goal

pub returns-clause-head : goal.returns-clause-head
unfolding encoding static_field static_name chars encode varint_at split_of bits code_word octets huffman static_table frame_by frame_of known_by is_token_byte is_utf8 kind_of head_of unhuffman hear_up_to listen_up_to fields_in decode_section skipped read_peer pull_stream
returns-clause-head c = refl

pub returns-clause-large : goal.returns-clause-large
unfolding encoding static_field static_name chars encode varint_at split_of bits code_word octets huffman static_table frame_by frame_of known_by is_token_byte is_utf8 kind_of head_of unhuffman hear_up_to listen_up_to fields_in decode_section skipped read_peer pull_stream
returns-clause-large c = refl

pub returns-clause-second : goal.returns-clause-second
unfolding encoding static_field static_name chars encode varint_at split_of bits code_word octets huffman static_table frame_by frame_of known_by is_token_byte is_utf8 kind_of head_of unhuffman hear_up_to listen_up_to fields_in decode_section skipped read_peer pull_stream
returns-clause-second c = refl

pub returns-clause-cut : goal.returns-clause-cut
unfolding encoding static_field static_name chars encode varint_at split_of bits code_word octets huffman static_table frame_by frame_of known_by is_token_byte is_utf8 kind_of head_of unhuffman hear_up_to listen_up_to fields_in decode_section skipped read_peer pull_stream
returns-clause-cut c = refl

pub returns-clause-literal : goal.returns-clause-literal
unfolding encoding static_field static_name chars encode varint_at split_of bits code_word octets huffman static_table frame_by frame_of known_by is_token_byte is_utf8 kind_of head_of unhuffman hear_up_to listen_up_to fields_in decode_section skipped read_peer pull_stream
returns-clause-literal c = refl

pub returns-clause-refused : goal.returns-clause-refused
unfolding encoding static_field static_name chars encode varint_at split_of bits code_word octets huffman static_table frame_by frame_of known_by is_token_byte is_utf8 kind_of head_of unhuffman hear_up_to listen_up_to fields_in decode_section skipped read_peer pull_stream
returns-clause-refused c = refl

pub returns-clause-bytewise : goal.returns-clause-bytewise
unfolding encoding static_field static_name chars encode varint_at split_of bits code_word octets huffman static_table frame_by frame_of known_by is_token_byte is_utf8 kind_of head_of unhuffman hear_up_to listen_up_to fields_in decode_section skipped read_peer pull_stream
returns-clause-bytewise c = refl

pub returns-clause-large_body : goal.returns-clause-large_body
unfolding encoding static_field static_name chars encode varint_at split_of bits code_word octets huffman static_table frame_by frame_of known_by is_token_byte is_utf8 kind_of head_of unhuffman hear_up_to listen_up_to fields_in decode_section skipped read_peer pull_stream
returns-clause-large_body c = refl

pub returns-clause-home : goal.returns-clause-home
unfolding encoding static_field static_name chars encode varint_at split_of bits code_word octets huffman static_table frame_by frame_of known_by is_token_byte is_utf8 kind_of head_of unhuffman hear_up_to listen_up_to fields_in decode_section skipped read_peer pull_stream
returns-clause-home c = refl

pub returns-clause-three : goal.returns-clause-three
unfolding encoding static_field static_name chars encode varint_at split_of bits code_word octets huffman static_table frame_by frame_of known_by is_token_byte is_utf8 kind_of head_of unhuffman hear_up_to listen_up_to fields_in decode_section skipped read_peer pull_stream
returns-clause-three c = refl

pub returns-clause-waits : goal.returns-clause-waits
unfolding encoding static_field static_name chars encode varint_at split_of bits code_word octets huffman static_table frame_by frame_of known_by is_token_byte is_utf8 kind_of head_of unhuffman hear_up_to listen_up_to fields_in decode_section skipped read_peer pull_stream
returns-clause-waits c = refl

pub returns-clause-gives_up : goal.returns-clause-gives_up
unfolding encoding static_field static_name chars encode varint_at split_of bits code_word octets huffman static_table frame_by frame_of known_by is_token_byte is_utf8 kind_of head_of unhuffman hear_up_to listen_up_to fields_in decode_section skipped read_peer pull_stream
returns-clause-gives_up c = refl

pub returns-clause-shown : goal.returns-clause-shown
unfolding encoding static_field static_name chars encode varint_at split_of bits code_word octets huffman static_table frame_by frame_of known_by is_token_byte is_utf8 kind_of head_of unhuffman hear_up_to listen_up_to fields_in decode_section skipped read_peer pull_stream
returns-clause-shown c = refl

pub returns-clause-long : goal.returns-clause-long
unfolding encoding static_field static_name chars encode varint_at split_of bits code_word octets huffman static_table frame_by frame_of known_by is_token_byte is_utf8 kind_of head_of unhuffman hear_up_to listen_up_to fields_in decode_section skipped read_peer pull_stream
returns-clause-long c = refl

pub returns-clause-reset : goal.returns-clause-reset
unfolding encoding static_field static_name chars encode varint_at split_of bits code_word octets huffman static_table frame_by frame_of known_by is_token_byte is_utf8 kind_of head_of unhuffman hear_up_to listen_up_to fields_in decode_section skipped read_peer pull_stream
returns-clause-reset c = refl

pub returns-clause-goaway : goal.returns-clause-goaway
unfolding encoding static_field static_name chars encode varint_at split_of bits code_word octets huffman static_table frame_by frame_of known_by is_token_byte is_utf8 kind_of head_of unhuffman hear_up_to listen_up_to fields_in decode_section skipped read_peer pull_stream
returns-clause-goaway c = refl

pub returns-clause-cancel : goal.returns-clause-cancel
unfolding encoding static_field static_name chars encode varint_at split_of bits code_word octets huffman static_table frame_by frame_of known_by is_token_byte is_utf8 kind_of head_of unhuffman hear_up_to listen_up_to fields_in decode_section skipped read_peer pull_stream
returns-clause-cancel c = refl

pub returns-clause-kept_entry : goal.returns-clause-kept_entry
unfolding encoding static_field static_name chars encode varint_at split_of bits code_word octets huffman static_table frame_by frame_of known_by is_token_byte is_utf8 kind_of head_of unhuffman hear_up_to listen_up_to fields_in decode_section skipped read_peer pull_stream
returns-clause-kept_entry c = refl

pub returns-clause-dropped_entry : goal.returns-clause-dropped_entry
unfolding encoding static_field static_name chars encode varint_at split_of bits code_word octets huffman static_table frame_by frame_of known_by is_token_byte is_utf8 kind_of head_of unhuffman hear_up_to listen_up_to fields_in decode_section skipped read_peer pull_stream
returns-clause-dropped_entry c = refl

pub returns-clause-interim : goal.returns-clause-interim
unfolding encoding static_field static_name chars encode varint_at split_of bits code_word octets huffman static_table frame_by frame_of known_by is_token_byte is_utf8 kind_of head_of unhuffman hear_up_to listen_up_to fields_in decode_section skipped read_peer pull_stream
returns-clause-interim c = refl

pub returns-clause-large_interim : goal.returns-clause-large_interim
unfolding encoding static_field static_name chars encode varint_at split_of bits code_word octets huffman static_table frame_by frame_of known_by is_token_byte is_utf8 kind_of head_of unhuffman hear_up_to listen_up_to fields_in decode_section skipped read_peer pull_stream
returns-clause-large_interim c = refl

pub returns-clause-interim_order : goal.returns-clause-interim_order
unfolding encoding static_field static_name chars encode varint_at split_of bits code_word octets huffman static_table frame_by frame_of known_by is_token_byte is_utf8 kind_of head_of unhuffman hear_up_to listen_up_to fields_in decode_section skipped read_peer pull_stream
returns-clause-interim_order c = refl

pub returns-clause-released : goal.returns-clause-released
unfolding encoding static_field static_name chars encode varint_at split_of bits code_word octets huffman static_table frame_by frame_of known_by is_token_byte is_utf8 kind_of head_of unhuffman hear_up_to listen_up_to fields_in decode_section skipped read_peer pull_stream
returns-clause-released c = refl

pub returns-clause-canceled : goal.returns-clause-canceled
unfolding encoding static_field static_name chars encode varint_at split_of bits code_word octets huffman static_table frame_by frame_of known_by is_token_byte is_utf8 kind_of head_of unhuffman hear_up_to listen_up_to fields_in decode_section skipped read_peer pull_stream
returns-clause-canceled c = refl

pub returns-clause-listed : goal.returns-clause-listed
unfolding encoding static_field static_name chars encode varint_at split_of bits code_word octets huffman static_table frame_by frame_of known_by is_token_byte is_utf8 kind_of head_of unhuffman hear_up_to listen_up_to fields_in decode_section skipped read_peer pull_stream
returns-clause-listed c = refl

pub returns-clause-mixed : goal.returns-clause-mixed
unfolding encoding static_field static_name chars encode varint_at split_of bits code_word octets huffman static_table frame_by frame_of known_by is_token_byte is_utf8 kind_of head_of unhuffman hear_up_to listen_up_to fields_in decode_section skipped read_peer pull_stream
returns-clause-mixed c = refl

pub returns-clause-unlisted : goal.returns-clause-unlisted
unfolding encoding static_field static_name chars encode varint_at split_of bits code_word octets huffman static_table frame_by frame_of known_by is_token_byte is_utf8 kind_of head_of unhuffman hear_up_to listen_up_to fields_in decode_section skipped read_peer pull_stream
returns-clause-unlisted c = refl
