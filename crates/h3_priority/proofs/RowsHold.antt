-- The rows hold, each by computing both sides.
use Rattle.std.proofs.Common.{refl}
use Rattle.std.specs.List.{AllByRecursion}
use Rattle.h3_priority.specs.Characters.{is_in}
use Rattle.h3_priority.specs.Dictionary.{listed_at, inner_list_at, value_at, member_at, comma_at, members_from, dictionary_of}
use Rattle.h3_priority.specs.Items.{key_at, number_of, number_at, string_from, byte_sequence_at, boolean_at, bare_item_at, parameter_at, parameters_at, item_at}
use Rattle.h3_priority.specs.Priority.{priority_of}
use Rattle.h3_priority.specs.Reading.{all_rounds}
use Rattle.h3_priority.specs.Rows.{SaysIt, IsRefused, of_known_keys, with_other_keys, refused_texts, RowsHold}

known : AllByRecursion SaysIt of_known_keys
unfolding priority_of dictionary_of members_from member_at value_at inner_list_at listed_at comma_at item_at parameters_at parameter_at bare_item_at boolean_at byte_sequence_at string_from number_at number_of key_at all_rounds is_in
known = (refl, (refl, (refl, (refl, (refl, (refl, (refl, (refl, (refl, (refl, (refl, (refl, (refl, (refl, (refl, (refl, (refl, (refl, (refl, (refl, (refl, (refl, (refl, (refl, (refl, tt)))))))))))))))))))))))))

other : AllByRecursion SaysIt with_other_keys
unfolding priority_of dictionary_of members_from member_at value_at inner_list_at listed_at comma_at item_at parameters_at parameter_at bare_item_at boolean_at byte_sequence_at string_from number_at number_of key_at all_rounds is_in
other = (refl, (refl, (refl, (refl, (refl, (refl, (refl, (refl, tt))))))))

refused : AllByRecursion IsRefused refused_texts
unfolding priority_of dictionary_of members_from member_at value_at inner_list_at listed_at comma_at item_at parameters_at parameter_at bare_item_at boolean_at byte_sequence_at string_from number_at number_of key_at all_rounds is_in
refused = (refl, (refl, (refl, (refl, (refl, (refl, (refl, (refl, (refl, (refl, (refl, (refl, (refl, (refl, (refl, (refl, (refl, (refl, (refl, tt)))))))))))))))))))

pub rows_hold : RowsHold
rows_hold = record { known = known; other = other; refused = refused }
