use Rattle.h3_coding.specs.Encodings.{encoding}
use Rattle.h3_coding.specs.Varint.{varint_at}
use Rattle.h3_frames.specs.Frames.{frame_by, frame_of}
use Rattle.h3_frames.specs.Known.{known_by}
use Rattle.h3_frames.specs.UnknownSize.{unknown_size}
use Rattle.h3_connection.specs.PeerReading.{read_peer}
use Rattle.h3_connection.specs.ExcessiveInstructions.{listen_up_to}
use Rattle.h3_proto.specs.Pairs.{split_of}
use Rattle.std.proofs.Common.{refl}
use Rattle.h3_connection_rows.proofs.setting_rows.setting_rows_compute.Goals as goal

pub returns-clause-unasked : goal.returns-clause-unasked
unfolding encoding varint_at frame_by frame_of known_by unknown_size read_peer listen_up_to split_of
returns-clause-unasked c = refl

pub returns-clause-kept : goal.returns-clause-kept
unfolding encoding varint_at frame_by frame_of known_by unknown_size read_peer listen_up_to split_of
returns-clause-kept c = refl

pub returns-clause-in_two_pieces : goal.returns-clause-in_two_pieces
unfolding encoding varint_at frame_by frame_of known_by unknown_size read_peer listen_up_to split_of
returns-clause-in_two_pieces c = refl

pub returns-clause-behind_an_unknown_frame : goal.returns-clause-behind_an_unknown_frame
unfolding encoding varint_at frame_by frame_of known_by unknown_size read_peer listen_up_to split_of
returns-clause-behind_an_unknown_frame c = refl

pub returns-clause-behind_half_an_unknown_frame : goal.returns-clause-behind_half_an_unknown_frame
unfolding encoding varint_at frame_by frame_of known_by unknown_size read_peer listen_up_to split_of
returns-clause-behind_half_an_unknown_frame c = refl

pub returns-clause-known : goal.returns-clause-known
unfolding encoding varint_at frame_by frame_of known_by unknown_size read_peer listen_up_to split_of
returns-clause-known c = refl

pub returns-clause-reserved : goal.returns-clause-reserved
unfolding encoding varint_at frame_by frame_of known_by unknown_size read_peer listen_up_to split_of
returns-clause-reserved c = refl

pub returns-clause-first_of_two : goal.returns-clause-first_of_two
unfolding encoding varint_at frame_by frame_of known_by unknown_size read_peer listen_up_to split_of
returns-clause-first_of_two c = refl

pub returns-clause-second_counts : goal.returns-clause-second_counts
unfolding encoding varint_at frame_by frame_of known_by unknown_size read_peer listen_up_to split_of
returns-clause-second_counts c = refl

pub returns-clause-third : goal.returns-clause-third
unfolding encoding varint_at frame_by frame_of known_by unknown_size read_peer listen_up_to split_of
returns-clause-third c = refl

pub returns-clause-of_another_frame : goal.returns-clause-of_another_frame
unfolding encoding varint_at frame_by frame_of known_by unknown_size read_peer listen_up_to split_of
returns-clause-of_another_frame c = refl

pub returns-clause-malformed : goal.returns-clause-malformed
unfolding encoding varint_at frame_by frame_of known_by unknown_size read_peer listen_up_to split_of
returns-clause-malformed c = refl

pub returns-clause-not_kept_of_malformed : goal.returns-clause-not_kept_of_malformed
unfolding encoding varint_at frame_by frame_of known_by unknown_size read_peer listen_up_to split_of
returns-clause-not_kept_of_malformed c = refl

pub returns-clause-further : goal.returns-clause-further
unfolding encoding varint_at frame_by frame_of known_by unknown_size read_peer listen_up_to split_of
returns-clause-further c = refl

pub returns-clause-no_further : goal.returns-clause-no_further
unfolding encoding varint_at frame_by frame_of known_by unknown_size read_peer listen_up_to split_of
returns-clause-no_further c = refl

pub returns-clause-of_http2 : goal.returns-clause-of_http2
unfolding encoding varint_at frame_by frame_of known_by unknown_size read_peer listen_up_to split_of
returns-clause-of_http2 c = refl

pub returns-clause-with_a_meaning : goal.returns-clause-with_a_meaning
unfolding encoding varint_at frame_by frame_of known_by unknown_size read_peer listen_up_to split_of
returns-clause-with_a_meaning c = refl

pub returns-clause-twice : goal.returns-clause-twice
unfolding encoding varint_at frame_by frame_of known_by unknown_size read_peer listen_up_to split_of
returns-clause-twice c = refl

pub returns-clause-wide : goal.returns-clause-wide
unfolding encoding varint_at frame_by frame_of known_by unknown_size read_peer listen_up_to split_of
returns-clause-wide c = refl

pub returns-clause-ninth : goal.returns-clause-ninth
unfolding encoding varint_at frame_by frame_of known_by unknown_size read_peer listen_up_to split_of
returns-clause-ninth c = refl

pub returns-clause-keeps : goal.returns-clause-keeps
unfolding encoding varint_at frame_by frame_of known_by unknown_size read_peer listen_up_to split_of
returns-clause-keeps c = refl

pub returns-clause-allows_more : goal.returns-clause-allows_more
unfolding encoding varint_at frame_by frame_of known_by unknown_size read_peer listen_up_to split_of
returns-clause-allows_more c = refl

pub returns-clause-allows_less : goal.returns-clause-allows_less
unfolding encoding varint_at frame_by frame_of known_by unknown_size read_peer listen_up_to split_of
returns-clause-allows_less c = refl

pub returns-clause-is_gone : goal.returns-clause-is_gone
unfolding encoding varint_at frame_by frame_of known_by unknown_size read_peer listen_up_to split_of
returns-clause-is_gone c = refl

pub returns-clause-limits_now : goal.returns-clause-limits_now
unfolding encoding varint_at frame_by frame_of known_by unknown_size read_peer listen_up_to split_of
returns-clause-limits_now c = refl

pub returns-clause-default_is_gone : goal.returns-clause-default_is_gone
unfolding encoding varint_at frame_by frame_of known_by unknown_size read_peer listen_up_to split_of
returns-clause-default_is_gone c = refl

pub returns-clause-another_table : goal.returns-clause-another_table
unfolding encoding varint_at frame_by frame_of known_by unknown_size read_peer listen_up_to split_of
returns-clause-another_table c = refl

pub returns-clause-a_table_now : goal.returns-clause-a_table_now
unfolding encoding varint_at frame_by frame_of known_by unknown_size read_peer listen_up_to split_of
returns-clause-a_table_now c = refl

pub returns-clause-remembered : goal.returns-clause-remembered
unfolding encoding varint_at frame_by frame_of known_by unknown_size read_peer listen_up_to split_of
returns-clause-remembered c = refl

pub returns-clause-those_that_came : goal.returns-clause-those_that_came
unfolding encoding varint_at frame_by frame_of known_by unknown_size read_peer listen_up_to split_of
returns-clause-those_that_came c = refl

pub returns-clause-remembers_none : goal.returns-clause-remembers_none
unfolding encoding varint_at frame_by frame_of known_by unknown_size read_peer listen_up_to split_of
returns-clause-remembers_none c = refl
