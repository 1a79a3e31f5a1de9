-- Dictionaries of structured fields (RFC 8941, section 4.2).
use Rattle.std.specs.Prelude.{ℕ, Bool, true, false, ◌||◌, ◌==◌, List, [], ◌∷◌, length, drop, Option, Some, None, if◌then◌else◌}
use Rattle.h3_priority.specs.declared.characters.Class.TheVariants.{Space, Whitespace}
use Rattle.h3_priority.specs.declared.item.Item.{Item}
use Rattle.h3_priority.specs.declared.item.Item.TheVariants.{Boolean, Other}
use Rattle.h3_priority.specs.Characters.{is_in}
use Rattle.h3_priority.specs.Items.{key_at, parameters_at, item_at}
use Rattle.h3_priority.specs.Reading.{Read, then_read, begins_with, after, Round, all_rounds}
use Rattle.h3_priority.specs.Reading.Round.{Again, Finished, Refused}

-- an inner list (4.2.1.2). Its "(" was read
abbrev pub after_listed : Read Item → Round (List ℕ) (Unit {0} × List ℕ)
after_listed None = Refused
after_listed (Some p) = if begins_with 32 p.1 || begins_with 41 p.1 then Again p.1 else Refused

abbrev pub listed_from : List ℕ → Round (List ℕ) (Unit {0} × List ℕ)
listed_from text = if begins_with 41 text then Finished (tt, drop 1 text) else after_listed (item_at text)

abbrev pub listed_round : List ℕ → Round (List ℕ) (Unit {0} × List ℕ)
listed_round text = listed_from (after (is_in Space) text)

unfoldable pub listed_at : List ℕ → Read (Unit {0})
listed_at text = all_rounds listed_round length text

unfoldable pub inner_list_at : List ℕ → Read Item
inner_list_at text = then_read (listed_at text) (λ items rest. then_read (parameters_at rest) (λ parameters more. Some (Other, more)))

-- what follows a key: "=" and an item or an inner list, or true with parameters
unfoldable pub value_at : List ℕ → Read Item
value_at text = if begins_with 40 text then inner_list_at (drop 1 text) else item_at text

abbrev pub true_at : List ℕ → Read Item
true_at text = then_read (parameters_at text) (λ parameters rest. Some (Boolean true, rest))

abbrev pub Member : Type 0
Member = List ℕ × Item

unfoldable pub member_at : List ℕ → Read Member
member_at text =
    then_read (key_at text) (λ key rest.
    then_read (if begins_with 61 rest then value_at (drop 1 rest) else true_at rest) (λ item more. Some ((key, item), more)))

-- what follows a member: nothing, or "," and another member; whether there is one
abbrev pub another_at : List ℕ → Read Bool
another_at [] = None
another_at (b ∷ text) = Some (true, b ∷ text)

abbrev pub comma_from : List ℕ → Read Bool
comma_from [] = Some (false, [])
comma_from (b ∷ text) = if b == 44 then another_at (after (is_in Whitespace) text) else None

unfoldable pub comma_at : List ℕ → Read Bool
comma_at text = comma_from (after (is_in Whitespace) text)

-- the members so far, the last one first, and the text that is left
abbrev pub Members : Type 0
Members = List Member

abbrev pub after_comma : Members → Read Bool → Round (Members × List ℕ) Members
after_comma members None = Refused
after_comma members (Some p) = if p.0 then Again (members, p.1) else Finished members

abbrev pub after_member : Members → Read Member → Round (Members × List ℕ) Members
after_member members None = Refused
after_member members (Some p) = after_comma (p.0 ∷ members) (comma_at p.1)

abbrev pub member_round : Members × List ℕ → Round (Members × List ℕ) Members
member_round state = after_member state.0 (member_at state.1)

unfoldable pub members_from : Members × List ℕ → Option Members
members_from state = all_rounds member_round (λ s. length s.1) state

-- a dictionary (4.2.2), without the spaces in front of it; none where the text is refused
abbrev pub dictionary_in : List ℕ → Option Members
dictionary_in [] = Some []
dictionary_in (b ∷ text) = members_from ([], b ∷ text)

unfoldable pub dictionary_of : List ℕ → Option Members
dictionary_of text = dictionary_in (after (is_in Space) text)
