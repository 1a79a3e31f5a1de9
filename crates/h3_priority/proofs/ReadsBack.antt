-- What is written of a priority reads back as it.
use Rattle.std.proofs.Common.{◌≡◌, ℕ, zero, suc, ◌≤◌, Bool, true, false, Some, refl, arith}
use Rattle.h3_priority.specs.Characters.{is_in}
use Rattle.h3_priority.specs.Dictionary.{listed_at, inner_list_at, value_at, member_at, comma_at, members_from, dictionary_of}
use Rattle.h3_priority.specs.Items.{key_at, number_of, number_at, string_from, byte_sequence_at, boolean_at, bare_item_at, parameter_at, parameters_at, item_at}
use Rattle.h3_priority.specs.Priority.{PriorityParameters, priority_of, value_that_says}
use Rattle.h3_priority.specs.Reading.{all_rounds}

says_it : (urgency : ℕ) (incremental : Bool) → urgency ≤ 7 → priority_of (value_that_says (record { urgency = urgency; incremental = incremental })) ≡ Some (record { urgency = urgency; incremental = incremental })
unfolding priority_of dictionary_of members_from member_at value_at inner_list_at listed_at comma_at item_at parameters_at parameter_at bare_item_at boolean_at byte_sequence_at string_from number_at number_of key_at all_rounds is_in
says_it zero false h = refl
says_it zero true h = refl
says_it (suc zero) false h = refl
says_it (suc zero) true h = refl
says_it (suc (suc zero)) false h = refl
says_it (suc (suc zero)) true h = refl
says_it (suc (suc (suc zero))) false h = refl
says_it (suc (suc (suc zero))) true h = refl
says_it (suc (suc (suc (suc zero)))) false h = refl
says_it (suc (suc (suc (suc zero)))) true h = refl
says_it (suc (suc (suc (suc (suc zero))))) false h = refl
says_it (suc (suc (suc (suc (suc zero))))) true h = refl
says_it (suc (suc (suc (suc (suc (suc zero)))))) false h = refl
says_it (suc (suc (suc (suc (suc (suc zero)))))) true h = refl
says_it (suc (suc (suc (suc (suc (suc (suc zero))))))) false h = refl
says_it (suc (suc (suc (suc (suc (suc (suc zero))))))) true h = refl
says_it (suc (suc (suc (suc (suc (suc (suc (suc u)))))))) incremental h = absurd (omega arith)

pub reads_back : (p : PriorityParameters) → p.urgency ≤ 7 → priority_of (value_that_says p) ≡ Some p
reads_back p h = says_it p.urgency p.incremental h
