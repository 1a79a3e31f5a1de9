-- The loop over members: the priority of those that were read, and what the rest adds to it.
use Rattle.std.proofs.Common.{◌≡◌, ℕ, suc, ◌<◌, Bool, true, false, List, [], ◌∷◌, length, not, ◌==◌, Option, Some, None, option_map, refl, ap, sym, ◌∙◌, arith}
use Rattle.std.proofs.lemmas.Bool.Decides.{nat_tests}
use Rattle.h3_priority.specs.Dictionary.{Member, Members, member_at, comma_at, members_from, dictionary_in, dictionary_of, after_comma}
use Rattle.h3_priority.specs.Priority.{PriorityParameters, default_parameters, parameters_in, priority_of}
use Rattle.h3_priority.specs.Reading.{go_on, after}
use Rattle.h3_priority.specs.Characters.{is_in}
use Rattle.h3_priority.specs.declared.characters.Class.TheVariants.{Space}
use Rattle.h3_priority.specs.declared.item.Item.{Item}
use Rattle.h3_priority.proofs.ListsShorter.{member_shorter, comma_shorter, members_next, no_member}

-- the members where another one follows, and where none does
abbrev pub members_of : Bool → Members → List ℕ → Option Members
members_of true members text = members_from (members, text)
members_of false members text = Some members

pub record Standing (value : List ℕ) (is_another : Bool) (text : List ℕ) (priority : PriorityParameters) : Type 0 where
  pub members : Members
  pub same : dictionary_of value ≡ members_of is_another members text
  pub is : priority ≡ parameters_in members

abbrev pub measure : Bool → List ℕ → ℕ
measure true text = suc (length text)
measure false text = 0

some : (b : ℕ) (text : List ℕ) → (length (b ∷ text) == 0) ≡ false
some b text = grind (arith, nat_tests)

first_member : (text : List ℕ) → dictionary_in text ≡ members_of (not (length text == 0)) [] text
first_member [] = refl
first_member (b ∷ text) = rw (some b text) refl

pub begun : (value text : List ℕ) (priority : PriorityParameters) → text ≡ after (is_in Space) value → priority ≡ default_parameters → Standing value (not (length text == 0)) text priority
unfolding dictionary_of
begun value text priority h k = record { members = []; same = rw h (first_member (after (is_in Space) value)); is = k }

-- a member was read, and what stands behind it
pub record IsMember (text rest next : List ℕ) (key : List ℕ) (item : Item) (is_another : Bool) : Type 0 where
  pub read : member_at text ≡ Some ((key, item), rest)
  pub comma : comma_at rest ≡ Some (is_another, next)

finished_or_not : (members : Members) (is_another : Bool) (next : List ℕ) → go_on (after_comma members (Some (is_another, next))) members_from ≡ members_of is_another members next
finished_or_not members true next = refl
finished_or_not members false next = refl

pub more : (value text rest next key : List ℕ) (item : Item) (is_another : Bool) (before after : PriorityParameters) → Standing value true text before → IsMember text rest next key item is_another → ((members : Members) → before ≡ parameters_in members → after ≡ parameters_in ((key, item) ∷ members)) → Standing value is_another next after
more value text rest next key item is_another before after s m with_member = record {
  members = (key, item) ∷ s.members;
  same = s.same ∙ members_next (s.members, text) ∙ rw (m.read, m.comma) (finished_or_not ((key, item) ∷ s.members) is_another next);
  is = with_member s.members s.is;
}

pub no_member_read : (value text : List ℕ) (priority : PriorityParameters) → Standing value true text priority → member_at text ≡ None → priority_of value ≡ None
unfolding priority_of
no_member_read value text priority s none =
    let first : members_from (s.members, text) ≡ None = members_next (s.members, text) ∙ rw none refl in
    ap (option_map parameters_in) (s.same ∙ first)

pub no_comma_read : (value text rest : List ℕ) (m : Member) (priority : PriorityParameters) → Standing value true text priority → member_at text ≡ Some (m, rest) → comma_at rest ≡ None → priority_of value ≡ None
unfolding priority_of
no_comma_read value text rest m priority s read none =
    let first : members_from (s.members, text) ≡ None = members_next (s.members, text) ∙ rw (read, none) refl in
    ap (option_map parameters_in) (s.same ∙ first)

pub done : (value text : List ℕ) (priority : PriorityParameters) → Standing value false text priority → Some priority ≡ priority_of value
unfolding priority_of
done value text priority s = sym (ap (option_map parameters_in) s.same ∙ ap Some (sym s.is))

smaller_text : (text rest next : List ℕ) (m : Member) (is_another : Bool) → member_at text ≡ Some (m, rest) → comma_at rest ≡ Some (is_another, next) → length next < length text
smaller_text [] rest next m is_another read comma = let none = rw no_member at read in absurd (cc)
smaller_text (b ∷ text) rest next m is_another read comma =
    let by_member = rw read at (member_shorter (b ∷ text)) in
    let by_comma = rw comma at (comma_shorter rest) in
    omega (arith, by_member, by_comma)

pub smaller : (text rest next key : List ℕ) (item : Item) (is_another : Bool) → IsMember text rest next key item is_another → measure is_another next < measure true text
smaller text rest next key item true m = let less = smaller_text text rest next (key, item) true m.read m.comma in omega (arith, less)
smaller text rest next key item false m = omega arith
