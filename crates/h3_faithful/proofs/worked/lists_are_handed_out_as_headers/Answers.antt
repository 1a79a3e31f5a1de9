use Rattle.h3_coding.specs.Encodings.{encoding}
use Rattle.h3_coding.specs.Varint.{varint_at}
use Rattle.h3_proto.specs.Pairs.{split_of}
use Rattle.h3_huffman.specs.Huffman.{bits, code_word, octets, huffman}
use Rattle.h3_field.specs.StaticTable.{static_table, static_field, static_name}
use Rattle.h3_frames.specs.Frames.{frame_by, frame_of}
use Rattle.h3_frames.specs.Known.{known_by}
use Rattle.http_header.specs.Token.{is_token_byte}
use Rattle.std.specs.Str.{is_utf8, chars}
use lib.Utf8.{encode}
use Rattle.h3_header.specs.Reads.{kind_of}
use Rattle.h3_header.specs.HeadRead.{head_of, head_of_any}
use Rattle.h3_huffman.specs.Unhuffman.{unhuffman}
use Rattle.h3_connection.specs.ExcessiveInstructions.{hear_up_to, listen_up_to}
use Rattle.h3_qpack.specs.DecodedSection.{fields_in, decode_section}
use Rattle.h3_connection.specs.Skipping.{skipped}
use Rattle.h3_connection.specs.PeerReading.{read_peer}
use Rattle.h3_connection.specs.Pulling.{pull_stream}
use Rattle.h3_messages.specs.Messages.{violation_of_request, violation_of_response, violation_of_trailer}
use Rattle.std.proofs.Common.{refl}
use Rattle.std.proofs.lemmas.Bool.{leb-true}
use Rattle.h3_faithful.proofs.worked.lists_are_handed_out_as_headers.Goals as goal

pub returns-clause-handed : goal.returns-clause-handed
unfolding encoding static_field static_name chars encode varint_at split_of bits code_word octets huffman static_table frame_by frame_of known_by is_token_byte is_utf8 kind_of head_of head_of_any unhuffman hear_up_to listen_up_to fields_in decode_section skipped read_peer pull_stream violation_of_request violation_of_response violation_of_trailer
returns-clause-handed c = refl

pub returns-clause-front : goal.returns-clause-front
unfolding encoding static_field static_name chars encode varint_at split_of bits code_word octets huffman static_table frame_by frame_of known_by is_token_byte is_utf8 kind_of head_of head_of_any unhuffman hear_up_to listen_up_to fields_in decode_section skipped read_peer pull_stream violation_of_request violation_of_response violation_of_trailer
returns-clause-front c = ((refl, leb-true _ _ refl, refl), tt)
