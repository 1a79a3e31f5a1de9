use Rattle.h3_coding.specs.Encodings.{encoding}
use Rattle.h3_coding.specs.Varint.{varint_at}
use Rattle.h3_frames.specs.Frames.{frame_by, frame_of}
use Rattle.h3_frames.specs.Known.{known_by}
use Rattle.h3_frames.specs.UnknownSize.{unknown_size}
use Rattle.h3_connection.specs.PeerReading.{read_peer}
use Rattle.h3_connection.specs.ExcessiveInstructions.{listen_up_to}
use Rattle.h3_proto.specs.Pairs.{split_of}
use Rattle.std.proofs.Common.{refl}
use Rattle.h3_connection_rows.proofs.other_stream_rows.other_stream_rows_compute.Goals as goal

pub returns-clause-off : goal.returns-clause-off
unfolding encoding varint_at frame_by frame_of known_by unknown_size read_peer listen_up_to split_of
returns-clause-off c = refl

pub returns-clause-nothing_where_off : goal.returns-clause-nothing_where_off
unfolding encoding varint_at frame_by frame_of known_by unknown_size read_peer listen_up_to split_of
returns-clause-nothing_where_off c = refl

pub returns-clause-nothing_waits_where_off : goal.returns-clause-nothing_waits_where_off
unfolding encoding varint_at frame_by frame_of known_by unknown_size read_peer listen_up_to split_of
returns-clause-nothing_waits_where_off c = refl

pub returns-clause-handed_out : goal.returns-clause-handed_out
unfolding encoding varint_at frame_by frame_of known_by unknown_size read_peer listen_up_to split_of
returns-clause-handed_out c = refl

pub returns-clause-bytes : goal.returns-clause-bytes
unfolding encoding varint_at frame_by frame_of known_by unknown_size read_peer listen_up_to split_of
returns-clause-bytes c = refl

pub returns-clause-waits : goal.returns-clause-waits
unfolding encoding varint_at frame_by frame_of known_by unknown_size read_peer listen_up_to split_of
returns-clause-waits c = refl

pub returns-clause-pending : goal.returns-clause-pending
unfolding encoding varint_at frame_by frame_of known_by unknown_size read_peer listen_up_to split_of
returns-clause-pending c = refl

pub returns-clause-waits_no_more : goal.returns-clause-waits_no_more
unfolding encoding varint_at frame_by frame_of known_by unknown_size read_peer listen_up_to split_of
returns-clause-waits_no_more c = refl

pub returns-clause-half_a_type : goal.returns-clause-half_a_type
unfolding encoding varint_at frame_by frame_of known_by unknown_size read_peer listen_up_to split_of
returns-clause-half_a_type c = refl

pub returns-clause-in_two_pieces : goal.returns-clause-in_two_pieces
unfolding encoding varint_at frame_by frame_of known_by unknown_size read_peer listen_up_to split_of
returns-clause-in_two_pieces c = refl

pub returns-clause-second_piece : goal.returns-clause-second_piece
unfolding encoding varint_at frame_by frame_of known_by unknown_size read_peer listen_up_to split_of
returns-clause-second_piece c = refl

pub returns-clause-its_end : goal.returns-clause-its_end
unfolding encoding varint_at frame_by frame_of known_by unknown_size read_peer listen_up_to split_of
returns-clause-its_end c = refl

pub returns-clause-its_end_again : goal.returns-clause-its_end_again
unfolding encoding varint_at frame_by frame_of known_by unknown_size read_peer listen_up_to split_of
returns-clause-its_end_again c = refl

pub returns-clause-its_reset : goal.returns-clause-its_reset
unfolding encoding varint_at frame_by frame_of known_by unknown_size read_peer listen_up_to split_of
returns-clause-its_reset c = refl

pub returns-clause-its_reset_drops_bytes : goal.returns-clause-its_reset_drops_bytes
unfolding encoding varint_at frame_by frame_of known_by unknown_size read_peer listen_up_to split_of
returns-clause-its_reset_drops_bytes c = refl

pub returns-clause-reserved : goal.returns-clause-reserved
unfolding encoding varint_at frame_by frame_of known_by unknown_size read_peer listen_up_to split_of
returns-clause-reserved c = refl

pub returns-clause-reserved_in_two_bytes : goal.returns-clause-reserved_in_two_bytes
unfolding encoding varint_at frame_by frame_of known_by unknown_size read_peer listen_up_to split_of
returns-clause-reserved_in_two_bytes c = refl

pub returns-clause-of_a_session : goal.returns-clause-of_a_session
unfolding encoding varint_at frame_by frame_of known_by unknown_size read_peer listen_up_to split_of
returns-clause-of_a_session c = refl

pub returns-clause-session_waits : goal.returns-clause-session_waits
unfolding encoding varint_at frame_by frame_of known_by unknown_size read_peer listen_up_to split_of
returns-clause-session_waits c = refl

pub returns-clause-session_reset_drops_bytes : goal.returns-clause-session_reset_drops_bytes
unfolding encoding varint_at frame_by frame_of known_by unknown_size read_peer listen_up_to split_of
returns-clause-session_reset_drops_bytes c = refl

pub returns-clause-control : goal.returns-clause-control
unfolding encoding varint_at frame_by frame_of known_by unknown_size read_peer listen_up_to split_of
returns-clause-control c = refl
