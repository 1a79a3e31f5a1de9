-- What follows parameters, inner lists and members is shorter than the text.
use Rattle.std.proofs.Common.{◌≡◌, ℕ, zero, suc, ◌-◌, ◌<◌, ◌≤◌, ◌||◌, ◌==◌, Bool, true, false, if◌then◌else◌, List, [], ◌∷◌, length, drop, Some, None, refl, arith}
use Rattle.h3_priority.specs.declared.characters.Class.TheVariants.{Space, Whitespace}
use Rattle.h3_priority.specs.declared.item.Item.{Item}
use Rattle.h3_priority.specs.Characters.{is_in}
use Rattle.h3_priority.specs.Items.{key_at, bare_item_at, parameter_at, after_parameter, parameter_round, parameters_at, item_at}
use Rattle.h3_priority.specs.Dictionary.{after_listed, listed_from, listed_round, listed_at, inner_list_at, value_at, true_at, Member, member_at, another_at, comma_from, comma_at, Members, after_comma, after_member, member_round, members_from}
use Rattle.h3_priority.specs.Reading.{Read, begins_with, after, Round, go_on, rounds, all_rounds}
use Rattle.h3_priority.specs.Reading.Round.{Again, Finished, Refused}
use Rattle.h3_priority.proofs.Rounds.{EachLeavesLess, LeavesLess, first_round}
use Rattle.h3_priority.proofs.Shorter.{Leaves, leaves_more, leaves_if, leaves_then, after_le, drop_le, key_shorter, bare_item_shorter, parameter_shorter, round_if}

-- a round of a loop over a text leaves at most so many characters
abbrev pub RoundLeaves : {A : Type 0} → ℕ → Round (List ℕ) (A × List ℕ) → Type 0
RoundLeaves most (Again text) = length text ≤ most
RoundLeaves most (Finished p) = length p.1 ≤ most
RoundLeaves most Refused = Unit {0}

round_leaves : {A : Type 0} (n most : ℕ) (round : List ℕ → Round (List ℕ) (A × List ℕ)) (r : Round (List ℕ) (A × List ℕ)) → RoundLeaves most r → ((text : List ℕ) → Leaves (length text) (rounds round n text)) → Leaves most (go_on r (rounds round n))
round_leaves n most round (Again text) h each = leaves_more (length text) most (rounds round n text) h (each text)
round_leaves n most round (Finished p) h each = h
round_leaves n most round Refused h each = tt

pub rounds_leave : {A : Type 0} (round : List ℕ → Round (List ℕ) (A × List ℕ)) → ((text : List ℕ) → RoundLeaves (length text) (round text)) → (n : ℕ) (text : List ℕ) → Leaves (length text) (rounds round n text)
rounds_leave round each zero text = tt
rounds_leave round each (suc n) text = round_leaves n (length text) round (round text) (each text) (rounds_leave round each n)

leaves_round_if : {A : Type 0} (most : ℕ) (b : Bool) (x y : Round (List ℕ) (A × List ℕ)) → RoundLeaves most x → RoundLeaves most y → RoundLeaves most (if b then x else y)
leaves_round_if most true x y p q = p
leaves_round_if most false x y p q = q

after_parameter_leaves : (most : ℕ) (r : Read Item) → Leaves most r → RoundLeaves most (after_parameter r)
after_parameter_leaves most None h = tt
after_parameter_leaves most (Some p) h = h

pub parameters_shorter : (text : List ℕ) → Leaves (length text) (parameters_at text)
unfolding parameters_at all_rounds
parameters_shorter text =
    rounds_leave parameter_round
    (λ t. leaves_round_if (length t) (begins_with 59 t) (after_parameter (parameter_at (drop 1 t))) (Finished (tt, t))
    (after_parameter_leaves (length t) (parameter_at (drop 1 t)) (leaves_more (length (drop 1 t)) (length t) (parameter_at (drop 1 t)) (drop_le t) (parameter_shorter (drop 1 t))))
    (omega arith))
    (suc (length text)) text

pub item_shorter : (text : List ℕ) → Leaves (length text - 1) (item_at text)
unfolding item_at
item_shorter text =
    let most = length text - 1 in
    leaves_then most most (bare_item_at text) _ (bare_item_shorter text)
    (λ item rest less. leaves_then most most (parameters_at rest) _ (leaves_more (length rest) most (parameters_at rest) less (parameters_shorter rest)) (λ none more h. h))

after_listed_leaves : (most : ℕ) (r : Read Item) → Leaves most r → RoundLeaves most (after_listed r)
after_listed_leaves most None h = tt
after_listed_leaves most (Some p) h = leaves_round_if most (begins_with 32 p.1 || begins_with 41 p.1) (Again p.1) Refused h tt

listed_from_leaves : (text : List ℕ) → RoundLeaves (length text) (listed_from text)
listed_from_leaves text =
    leaves_round_if (length text) (begins_with 41 text) (Finished (tt, drop 1 text)) (after_listed (item_at text)) (drop_le text)
    (after_listed_leaves (length text) (item_at text) (leaves_more (length text - 1) (length text) (item_at text) (omega arith) (item_shorter text)))

round_more : {A : Type 0} (few most : ℕ) (r : Round (List ℕ) (A × List ℕ)) → few ≤ most → RoundLeaves few r → RoundLeaves most r
round_more few most (Again text) h k = omega arith
round_more few most (Finished p) h k = omega arith
round_more few most Refused h k = tt

listed_shorter : (text : List ℕ) → Leaves (length text) (listed_at text)
unfolding listed_at all_rounds
listed_shorter text =
    rounds_leave listed_round
    (λ t. let spaced = after (is_in Space) t in round_more (length spaced) (length t) (listed_from spaced) (after_le (is_in Space) t) (listed_from_leaves spaced))
    (suc (length text)) text

-- each item of an inner list takes a character at least
no_item : item_at [] ≡ None
unfolding item_at bare_item_at
no_item = refl

after_listed_less : (most : ℕ) (r : Read Item) → Leaves (most - 1) r → 0 < most → LeavesLess length most (after_listed r)
after_listed_less most None h k = tt
after_listed_less most (Some p) h k = round_if length most (begins_with 32 p.1 || begins_with 41 p.1) (Again p.1) Refused (λ is. omega arith) (λ not. tt)

listed_from_less : (most : ℕ) (text : List ℕ) → length text ≤ most → LeavesLess length most (listed_from text)
listed_from_less most [] h = rw no_item tt
listed_from_less most (b ∷ text) h =
    let all = b ∷ text in
    round_if length most (begins_with 41 all) (Finished (tt, drop 1 all)) (after_listed (item_at all)) (λ is. tt)
    (λ not. after_listed_less most (item_at all) (leaves_more (length all - 1) (most - 1) (item_at all) (omega arith) (item_shorter all)) (omega arith))

listed_shrink : EachLeavesLess listed_round length
listed_shrink text = listed_from_less (length text) (after (is_in Space) text) (after_le (is_in Space) text)

-- the items of an inner list from a place behind spaces
pub listed_next : (text : List ℕ) → listed_at text ≡ go_on (listed_from (after (is_in Space) text)) listed_at
unfolding listed_at
listed_next text = first_round listed_round length listed_shrink text

inner_list_shorter : (text : List ℕ) → Leaves (length text) (inner_list_at text)
unfolding inner_list_at
inner_list_shorter text =
    let most = length text in
    leaves_then most most (listed_at text) _ (listed_shorter text)
    (λ items rest less. leaves_then most most (parameters_at rest) _ (leaves_more (length rest) most (parameters_at rest) less (parameters_shorter rest)) (λ none more h. h))

value_shorter : (text : List ℕ) → Leaves (length text) (value_at text)
unfolding value_at
value_shorter text =
    let most = length text in
    leaves_if most (begins_with 40 text) _ _
    (λ is. leaves_more (length (drop 1 text)) most (inner_list_at (drop 1 text)) (drop_le text) (inner_list_shorter (drop 1 text)))
    (λ not. leaves_more (length text - 1) most (item_at text) (omega arith) (item_shorter text))

true_shorter : (text : List ℕ) → Leaves (length text) (true_at text)
true_shorter text = leaves_then (length text) (length text) (parameters_at text) _ (parameters_shorter text) (λ none more h. h)

pub member_shorter : (text : List ℕ) → Leaves (length text - 1) (member_at text)
unfolding member_at
member_shorter text =
    let most = length text - 1 in
    leaves_then most most (key_at text) _ (key_shorter text)
    (λ key rest less. leaves_then most most (if begins_with 61 rest then value_at (drop 1 rest) else true_at rest) _
    (leaves_if most (begins_with 61 rest) _ _
    (λ is. leaves_more (length (drop 1 rest)) most (value_at (drop 1 rest)) (omega (arith, drop_le rest)) (value_shorter (drop 1 rest)))
    (λ not. leaves_more (length rest) most (true_at rest) less (true_shorter rest)))
    (λ item more h. h))

another_shorter : (text : List ℕ) → Leaves (length text) (another_at text)
another_shorter [] = tt
another_shorter (b ∷ text) = omega arith

comma_from_shorter : (text : List ℕ) → Leaves (length text) (comma_from text)
comma_from_shorter [] = omega arith
comma_from_shorter (b ∷ text) =
    let rest = after (is_in Whitespace) text in
    leaves_if (length (b ∷ text)) (b == 44) _ _ (λ is. leaves_more (length rest) (length (b ∷ text)) (another_at rest) (omega (arith, after_le (is_in Whitespace) text)) (another_shorter rest)) (λ not. tt)

pub comma_shorter : (text : List ℕ) → Leaves (length text) (comma_at text)
unfolding comma_at
comma_shorter text =
    let rest = after (is_in Whitespace) text in
    leaves_more (length rest) (length text) (comma_from rest) (after_le (is_in Whitespace) text) (comma_from_shorter rest)

-- each member takes a character at least
abbrev left : Members × List ℕ → ℕ
left state = length state.1

pub no_member : member_at [] ≡ None
unfolding member_at key_at
no_member = refl

after_comma_less : (most : ℕ) (members : Members) (r : Read Bool) → Leaves (most - 1) r → 0 < most → LeavesLess left most (after_comma members r)
after_comma_less most members None h k = tt
after_comma_less most members (Some p) h k = round_if left most p.0 (Again (members, p.1)) (Finished members) (λ is. omega arith) (λ not. tt)

after_member_less : (most : ℕ) (members : Members) (r : Read Member) → Leaves (most - 1) r → 0 < most → LeavesLess left most (after_member members r)
after_member_less most members None h k = tt
after_member_less most members (Some p) h k =
    after_comma_less most (p.0 ∷ members) (comma_at p.1) (leaves_more (length p.1) (most - 1) (comma_at p.1) h (comma_shorter p.1)) k

member_less : (members : Members) (text : List ℕ) → LeavesLess left (length text) (after_member members (member_at text))
member_less members [] = rw no_member tt
member_less members (b ∷ text) = after_member_less (length (b ∷ text)) members (member_at (b ∷ text)) (member_shorter (b ∷ text)) (omega arith)

members_shrink : EachLeavesLess member_round left
members_shrink state = member_less state.0 state.1

-- all members are the first one and those behind it
pub members_next : (state : Members × List ℕ) → members_from state ≡ go_on (member_round state) members_from
unfolding members_from
members_next state = first_round member_round left members_shrink state
