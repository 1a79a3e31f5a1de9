-- What follows an item is shorter than the text.
use Rattle.std.proofs.Common.{◌≡◌, ℕ, ◌-◌, ◌<◌, ◌≤◌, nat_le, ◌==◌, ◌&&◌, ◌||◌, Bool, true, false, if◌then◌else◌, List, [], ◌∷◌, length, drop, Some, None, refl, ◌+◌, arith, length-drop}
use Rattle.std.specs.List.{prefix_len, take_while}
use Rattle.std.proofs.lemmas.Bool.Decides.{nat_tests}
use Rattle.h3_priority.specs.declared.characters.Class.TheVariants.{Space, Digit, KeyStart, Key, TokenStart, Token, Base64, Printable}
use Rattle.h3_priority.specs.declared.item.Item.{Item}
use Rattle.h3_priority.specs.Characters.{is_between, is_in}
use Rattle.h3_priority.specs.Items.{key_at, integer_of, decimal_of, number_from, number_at, string_from, byte_sequence_at, boolean_at, bare_item_at, parameter_at, after_parameter, parameter_round, parameters_at}
use Rattle.h3_priority.specs.Reading.{Read, then_read, begins_with, begins_in, after, Round, go_on}
use Rattle.h3_priority.specs.Reading.Round.{Finished}
use Rattle.h3_priority.proofs.Rounds.{EachLeavesLess, LeavesLess, first_round}

-- what was read leaves at most so many characters
abbrev pub Leaves : {A : Type 0} → ℕ → Read A → Type 0
Leaves most None = Unit {0}
Leaves most (Some p) = length p.1 ≤ most

pub leaves_more : {A : Type 0} (few most : ℕ) (r : Read A) → few ≤ most → Leaves few r → Leaves most r
leaves_more few most None h k = tt
leaves_more few most (Some p) h k = omega arith

pub leaves_if : {A : Type 0} (most : ℕ) (b : Bool) (x y : Read A) → (b ≡ true → Leaves most x) → (b ≡ false → Leaves most y) → Leaves most (if b then x else y)
leaves_if most true x y p q = p refl
leaves_if most false x y p q = q refl

pub leaves_then : {A B : Type 0} (few most : ℕ) (r : Read A) (next : A → List ℕ → Read B) → Leaves few r → ((value : A) (rest : List ℕ) → length rest ≤ few → Leaves most (next value rest)) → Leaves most (then_read r next)
leaves_then few most None next h each = tt
leaves_then few most (Some p) next h each = each p.0 p.1 h

pub after_le : (test : ℕ → Bool) (text : List ℕ) → length (after test text) ≤ length text
after_le test text = omega (arith, length-drop (prefix_len test text) text)

pub behind_one : (b : ℕ) (text : List ℕ) → begins_with b text ≡ true → length (drop 1 text) < length text
behind_one b [] h = absurd (cc)
behind_one b (c ∷ text) h = omega arith

pub after_some : (start test : ℕ → Bool) (text : List ℕ) → ((b : ℕ) → start b ≡ true → test b ≡ true) → begins_in start text ≡ true → length (after test text) < length text
after_some start test [] within h = absurd (cc)
after_some start test (b ∷ text) within h = rw (within b h) (omega (arith, length-drop (1 + prefix_len test text) (b ∷ text)))

key_start : (b : ℕ) → is_in KeyStart b ≡ true → is_in Key b ≡ true
unfolding is_in
key_start b h = grind (arith, nat_tests)

token_start : (b : ℕ) → is_in TokenStart b ≡ true → is_in Token b ≡ true
unfolding is_in
token_start b h = grind (arith, nat_tests)

-- what `Leaves` is of a text that is left
pub leaves_some : (most : ℕ) (rest : List ℕ) → length rest ≤ most → length rest ≤ most
leaves_some most rest h = h

pub key_shorter : (text : List ℕ) → Leaves (length text - 1) (key_at text)
unfolding key_at
key_shorter text =
    let rest = after (is_in Key) text in
    leaves_if (length text - 1) (begins_in (is_in KeyStart) text) _ _
    (λ begins. leaves_some (length text - 1) rest (omega (arith, after_some (is_in KeyStart) (is_in Key) text key_start begins)))
    (λ none. tt)

integer_leaves : (most : ℕ) (is_negative : Bool) (digits rest : List ℕ) → length rest ≤ most → Leaves most (integer_of is_negative digits rest)
integer_leaves most is_negative digits rest h = leaves_if most (nat_le (length digits) 15) _ _ (λ fits. leaves_some most rest h) (λ long. tt)

decimal_leaves : (most : ℕ) (digits fraction rest : List ℕ) → length rest ≤ most → Leaves most (decimal_of digits fraction rest)
decimal_leaves most digits fraction rest h =
    leaves_if most (nat_le (length digits) 12 && is_between 1 3 (length fraction)) _ _ (λ fits. leaves_some most rest h) (λ long. tt)

number_leaves : (most : ℕ) (is_negative : Bool) (digits rest : List ℕ) → length rest ≤ most → Leaves most (number_from is_negative digits rest)
number_leaves most is_negative digits rest h =
    leaves_if most (begins_with 46 rest) _ _
    (λ point. decimal_leaves most digits (take_while (is_in Digit) (drop 1 rest)) (after (is_in Digit) (drop 1 rest)) (omega (arith, length-drop 1 rest, after_le (is_in Digit) (drop 1 rest))))
    (λ none. integer_leaves most is_negative digits rest h)

number_shorter : (is_negative : Bool) (text : List ℕ) → Leaves (length text - 1) (number_at is_negative text)
unfolding number_at
number_shorter is_negative text =
    let rest = after (is_in Digit) text in
    leaves_if (length text - 1) (begins_in (is_in Digit) text) _ _
    (λ begins. number_leaves (length text - 1) is_negative (take_while (is_in Digit) text) rest (omega (arith, after_some (is_in Digit) (is_in Digit) text (λ b is. is) begins)))
    (λ none. tt)

string_shorter : (is_escape : Bool) (text : List ℕ) → Leaves (length text) (string_from is_escape text)
unfolding string_from
string_shorter is_escape [] = tt
string_shorter true (b ∷ text) =
    let go_on = leaves_more (length text) (length (b ∷ text)) (string_from false text) (omega arith) (string_shorter false text) in
    leaves_if (length (b ∷ text)) ((b == 34) || (b == 92)) _ _ (λ is. go_on) (λ not. tt)
string_shorter false (b ∷ text) =
    let most = length (b ∷ text) in
    let escape = leaves_more (length text) (length (b ∷ text)) (string_from true text) (omega arith) (string_shorter true text) in
    let go_on = leaves_more (length text) (length (b ∷ text)) (string_from false text) (omega arith) (string_shorter false text) in
    leaves_if most (b == 34) _ _ (λ is. leaves_some most text (omega arith))
    (λ not. leaves_if most (b == 92) _ _ (λ is. escape) (λ not. leaves_if most (is_in Printable b) _ _ (λ is. go_on) (λ not. tt)))

pub drop_le : (text : List ℕ) → length (drop 1 text) ≤ length text
drop_le text = omega (arith, length-drop 1 text)

byte_sequence_shorter : (text : List ℕ) → Leaves (length text) (byte_sequence_at text)
unfolding byte_sequence_at
byte_sequence_shorter text =
    let rest = after (is_in Base64) text in
    leaves_if (length text) (begins_with 58 rest) _ _ (λ is. leaves_some (length text) (drop 1 rest) (omega (arith, after_le (is_in Base64) text, drop_le rest))) (λ not. tt)

boolean_shorter : (text : List ℕ) → Leaves (length text) (boolean_at text)
unfolding boolean_at
boolean_shorter text =
    leaves_if (length text) (begins_with 49 text) _ _ (λ is. leaves_some (length text) (drop 1 text) (drop_le text))
    (λ not. leaves_if (length text) (begins_with 48 text) _ _ (λ is. leaves_some (length text) (drop 1 text) (drop_le text)) (λ not. tt))

-- behind one character
pub behind : {A : Type 0} (b : ℕ) (text : List ℕ) (r : Read A) → begins_with b text ≡ true → Leaves (length (drop 1 text)) r → Leaves (length text - 1) r
behind b text r is h = leaves_more (length (drop 1 text)) (length text - 1) r (omega (arith, behind_one b text is)) h

pub bare_item_shorter : (text : List ℕ) → Leaves (length text - 1) (bare_item_at text)
unfolding bare_item_at
bare_item_shorter text =
    let most = length text - 1 in
    let rest = drop 1 text in
    leaves_if most (begins_with 45 text) _ _ (λ is. behind 45 text (number_at true rest) is (leaves_more (length rest - 1) (length rest) (number_at true rest) (omega arith) (number_shorter true rest)))
    (λ not. leaves_if most (begins_in (is_in Digit) text) _ _ (λ is. number_shorter false text)
    (λ not. leaves_if most (begins_with 34 text) _ _ (λ is. behind 34 text (string_from false rest) is (string_shorter false rest))
    (λ not. leaves_if most (begins_in (is_in TokenStart) text) _ _ (λ is. leaves_some most (after (is_in Token) text) (omega (arith, after_some (is_in TokenStart) (is_in Token) text token_start is)))
    (λ not. leaves_if most (begins_with 58 text) _ _ (λ is. behind 58 text (byte_sequence_at rest) is (byte_sequence_shorter rest))
    (λ not. leaves_if most (begins_with 63 text) _ _ (λ is. behind 63 text (boolean_at rest) is (boolean_shorter rest)) (λ not. tt))))))

pub parameter_shorter : (text : List ℕ) → Leaves (length text) (parameter_at text)
unfolding parameter_at
parameter_shorter text =
    let key_text = after (is_in Space) text in
    let most = length text in
    leaves_then (length key_text - 1) most (key_at key_text) _ (key_shorter key_text)
    (λ key rest less. leaves_if most (begins_with 61 rest) _ _
    (λ is. leaves_more (length (drop 1 rest) - 1) most (bare_item_at (drop 1 rest)) (omega (arith, after_le (is_in Space) text, drop_le rest)) (bare_item_shorter (drop 1 rest)))
    (λ not. leaves_some most rest (omega (arith, after_le (is_in Space) text))))

-- each parameter takes a character at least
round_leaves : (text : List ℕ) (r : Read Item) → begins_with 59 text ≡ true → Leaves (length (drop 1 text)) r → LeavesLess length (length text) (after_parameter r)
round_leaves text None is h = tt
round_leaves text (Some p) is h = omega (arith, behind_one 59 text is)

pub round_if : {S A : Type 0} (left : S → ℕ) (most : ℕ) (b : Bool) (x y : Round S A) → (b ≡ true → LeavesLess left most x) → (b ≡ false → LeavesLess left most y) → LeavesLess left most (if b then x else y)
round_if left most true x y p q = p refl
round_if left most false x y p q = q refl

pub parameters_shrink : EachLeavesLess parameter_round length
parameters_shrink text =
    round_if length (length text) (begins_with 59 text) (after_parameter (parameter_at (drop 1 text))) (Finished (tt, text))
    (λ is. round_leaves text (parameter_at (drop 1 text)) is (parameter_shorter (drop 1 text)))
    (λ not. tt)

-- all parameters are the first one and what follows
pub parameters_next : (text : List ℕ) → parameters_at text ≡ go_on (parameter_round text) parameters_at
unfolding parameters_at
parameters_next text = first_round parameter_round length parameters_shrink text
