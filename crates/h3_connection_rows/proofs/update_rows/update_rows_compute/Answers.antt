use Rattle.h3_coding.specs.Encodings.{encoding}
use Rattle.h3_coding.specs.Varint.{varint_at}
use Rattle.h3_priority.specs.Characters.{is_in}
use Rattle.h3_priority.specs.Dictionary.{listed_at, inner_list_at, value_at, member_at, comma_at, members_from, dictionary_of}
use Rattle.h3_priority.specs.Items.{key_at, number_of, number_at, string_from, byte_sequence_at, boolean_at, bare_item_at, parameter_at, parameters_at, item_at}
use Rattle.h3_priority.specs.Priority.{priority_of}
use Rattle.h3_priority.specs.Reading.{all_rounds}
use Rattle.h3_frames.specs.Frames.{frame_by, frame_of}
use Rattle.h3_frames.specs.Known.{known_by}
use Rattle.h3_frames.specs.UnknownSize.{unknown_size}
use Rattle.h3_connection.specs.PeerReading.{read_peer}
use Rattle.h3_connection.specs.ExcessiveInstructions.{listen_up_to}
use Rattle.h3_proto.specs.Pairs.{split_of}
use Rattle.std.proofs.Common.{refl}
use Rattle.h3_connection_rows.proofs.update_rows.update_rows_compute.Goals as goal

pub returns-clause-urgency : goal.returns-clause-urgency
unfolding encoding varint_at frame_by frame_of known_by unknown_size read_peer listen_up_to split_of priority_of dictionary_of members_from member_at value_at inner_list_at listed_at comma_at item_at parameters_at parameter_at bare_item_at boolean_at byte_sequence_at string_from number_at number_of key_at all_rounds is_in
returns-clause-urgency c = refl

pub returns-clause-incremental : goal.returns-clause-incremental
unfolding encoding varint_at frame_by frame_of known_by unknown_size read_peer listen_up_to split_of priority_of dictionary_of members_from member_at value_at inner_list_at listed_at comma_at item_at parameters_at parameter_at bare_item_at boolean_at byte_sequence_at string_from number_at number_of key_at all_rounds is_in
returns-clause-incremental c = refl

pub returns-clause-empty : goal.returns-clause-empty
unfolding encoding varint_at frame_by frame_of known_by unknown_size read_peer listen_up_to split_of priority_of dictionary_of members_from member_at value_at inner_list_at listed_at comma_at item_at parameters_at parameter_at bare_item_at boolean_at byte_sequence_at string_from number_at number_of key_at all_rounds is_in
returns-clause-empty c = refl

pub returns-clause-of_another : goal.returns-clause-of_another
unfolding encoding varint_at frame_by frame_of known_by unknown_size read_peer listen_up_to split_of priority_of dictionary_of members_from member_at value_at inner_list_at listed_at comma_at item_at parameters_at parameter_at bare_item_at boolean_at byte_sequence_at string_from number_at number_of key_at all_rounds is_in
returns-clause-of_another c = refl

pub returns-clause-last : goal.returns-clause-last
unfolding encoding varint_at frame_by frame_of known_by unknown_size read_peer listen_up_to split_of priority_of dictionary_of members_from member_at value_at inner_list_at listed_at comma_at item_at parameters_at parameter_at bare_item_at boolean_at byte_sequence_at string_from number_at number_of key_at all_rounds is_in
returns-clause-last c = refl

pub returns-clause-dropped : goal.returns-clause-dropped
unfolding encoding varint_at frame_by frame_of known_by unknown_size read_peer listen_up_to split_of priority_of dictionary_of members_from member_at value_at inner_list_at listed_at comma_at item_at parameters_at parameter_at bare_item_at boolean_at byte_sequence_at string_from number_at number_of key_at all_rounds is_in
returns-clause-dropped c = refl

pub returns-clause-no_id : goal.returns-clause-no_id
unfolding encoding varint_at frame_by frame_of known_by unknown_size read_peer listen_up_to split_of priority_of dictionary_of members_from member_at value_at inner_list_at listed_at comma_at item_at parameters_at parameter_at bare_item_at boolean_at byte_sequence_at string_from number_at number_of key_at all_rounds is_in
returns-clause-no_id c = refl

pub returns-clause-half_an_id : goal.returns-clause-half_an_id
unfolding encoding varint_at frame_by frame_of known_by unknown_size read_peer listen_up_to split_of priority_of dictionary_of members_from member_at value_at inner_list_at listed_at comma_at item_at parameters_at parameter_at bare_item_at boolean_at byte_sequence_at string_from number_at number_of key_at all_rounds is_in
returns-clause-half_an_id c = refl

pub returns-clause-of_no_request : goal.returns-clause-of_no_request
unfolding encoding varint_at frame_by frame_of known_by unknown_size read_peer listen_up_to split_of priority_of dictionary_of members_from member_at value_at inner_list_at listed_at comma_at item_at parameters_at parameter_at bare_item_at boolean_at byte_sequence_at string_from number_at number_of key_at all_rounds is_in
returns-clause-of_no_request c = refl

pub returns-clause-of_a_push : goal.returns-clause-of_a_push
unfolding encoding varint_at frame_by frame_of known_by unknown_size read_peer listen_up_to split_of priority_of dictionary_of members_from member_at value_at inner_list_at listed_at comma_at item_at parameters_at parameter_at bare_item_at boolean_at byte_sequence_at string_from number_at number_of key_at all_rounds is_in
returns-clause-of_a_push c = refl

pub returns-clause-no_dictionary : goal.returns-clause-no_dictionary
unfolding encoding varint_at frame_by frame_of known_by unknown_size read_peer listen_up_to split_of priority_of dictionary_of members_from member_at value_at inner_list_at listed_at comma_at item_at parameters_at parameter_at bare_item_at boolean_at byte_sequence_at string_from number_at number_of key_at all_rounds is_in
returns-clause-no_dictionary c = refl

pub returns-clause-unknown : goal.returns-clause-unknown
unfolding encoding varint_at frame_by frame_of known_by unknown_size read_peer listen_up_to split_of priority_of dictionary_of members_from member_at value_at inner_list_at listed_at comma_at item_at parameters_at parameter_at bare_item_at boolean_at byte_sequence_at string_from number_at number_of key_at all_rounds is_in
returns-clause-unknown c = refl

pub returns-clause-before_the_field : goal.returns-clause-before_the_field
unfolding encoding varint_at frame_by frame_of known_by unknown_size read_peer listen_up_to split_of priority_of dictionary_of members_from member_at value_at inner_list_at listed_at comma_at item_at parameters_at parameter_at bare_item_at boolean_at byte_sequence_at string_from number_at number_of key_at all_rounds is_in
returns-clause-before_the_field c = refl

pub returns-clause-behind_the_field : goal.returns-clause-behind_the_field
unfolding encoding varint_at frame_by frame_of known_by unknown_size read_peer listen_up_to split_of priority_of dictionary_of members_from member_at value_at inner_list_at listed_at comma_at item_at parameters_at parameter_at bare_item_at boolean_at byte_sequence_at string_from number_at number_of key_at all_rounds is_in
returns-clause-behind_the_field c = refl

pub returns-clause-used_before_the_field : goal.returns-clause-used_before_the_field
unfolding encoding varint_at frame_by frame_of known_by unknown_size read_peer listen_up_to split_of priority_of dictionary_of members_from member_at value_at inner_list_at listed_at comma_at item_at parameters_at parameter_at bare_item_at boolean_at byte_sequence_at string_from number_at number_of key_at all_rounds is_in
returns-clause-used_before_the_field c = refl

pub returns-clause-waits_no_more : goal.returns-clause-waits_no_more
unfolding encoding varint_at frame_by frame_of known_by unknown_size read_peer listen_up_to split_of priority_of dictionary_of members_from member_at value_at inner_list_at listed_at comma_at item_at parameters_at parameter_at bare_item_at boolean_at byte_sequence_at string_from number_at number_of key_at all_rounds is_in
returns-clause-waits_no_more c = refl

pub returns-clause-behind_its_own : goal.returns-clause-behind_its_own
unfolding encoding varint_at frame_by frame_of known_by unknown_size read_peer listen_up_to split_of priority_of dictionary_of members_from member_at value_at inner_list_at listed_at comma_at item_at parameters_at parameter_at bare_item_at boolean_at byte_sequence_at string_from number_at number_of key_at all_rounds is_in
returns-clause-behind_its_own c = refl

pub returns-clause-its_own_for_good : goal.returns-clause-its_own_for_good
unfolding encoding varint_at frame_by frame_of known_by unknown_size read_peer listen_up_to split_of priority_of dictionary_of members_from member_at value_at inner_list_at listed_at comma_at item_at parameters_at parameter_at bare_item_at boolean_at byte_sequence_at string_from number_at number_of key_at all_rounds is_in
returns-clause-its_own_for_good c = refl

pub returns-clause-written : goal.returns-clause-written
unfolding encoding varint_at frame_by frame_of known_by unknown_size read_peer listen_up_to split_of priority_of dictionary_of members_from member_at value_at inner_list_at listed_at comma_at item_at parameters_at parameter_at bare_item_at boolean_at byte_sequence_at string_from number_at number_of key_at all_rounds is_in
returns-clause-written c = refl

pub returns-clause-at_a_server : goal.returns-clause-at_a_server
unfolding encoding varint_at frame_by frame_of known_by unknown_size read_peer listen_up_to split_of priority_of dictionary_of members_from member_at value_at inner_list_at listed_at comma_at item_at parameters_at parameter_at bare_item_at boolean_at byte_sequence_at string_from number_at number_of key_at all_rounds is_in
returns-clause-at_a_server c = refl

pub returns-clause-of_its_own_stream : goal.returns-clause-of_its_own_stream
unfolding encoding varint_at frame_by frame_of known_by unknown_size read_peer listen_up_to split_of priority_of dictionary_of members_from member_at value_at inner_list_at listed_at comma_at item_at parameters_at parameter_at bare_item_at boolean_at byte_sequence_at string_from number_at number_of key_at all_rounds is_in
returns-clause-of_its_own_stream c = refl

pub returns-clause-not_open : goal.returns-clause-not_open
unfolding encoding varint_at frame_by frame_of known_by unknown_size read_peer listen_up_to split_of priority_of dictionary_of members_from member_at value_at inner_list_at listed_at comma_at item_at parameters_at parameter_at bare_item_at boolean_at byte_sequence_at string_from number_at number_of key_at all_rounds is_in
returns-clause-not_open c = refl
