-- Items of structured fields (RFC 8941, section 4.2.3), as far as a reader of integers and booleans needs them.
use Rattle.std.specs.Prelude.{ℕ, ◌+◌, ◌-◌, ◌*◌, Bool, true, false, ◌&&◌, ◌||◌, ◌==◌, nat_le, List, [], ◌∷◌, length, drop, fold, Some, None, if◌then◌else◌}
use Rattle.std.specs.List.{take_while}
use Rattle.h3_priority.specs.declared.characters.Class.TheVariants.{Space, Digit, KeyStart, Key, TokenStart, Token, Base64, Printable}
use Rattle.h3_priority.specs.declared.item.Item.{Item}
use Rattle.h3_priority.specs.declared.item.Item.TheVariants.{Integer, Boolean, Other}
use Rattle.h3_priority.specs.Characters.{is_between, is_in}
use Rattle.h3_priority.specs.Reading.{Read, then_read, begins_with, begins_in, after, Round, all_rounds}
use Rattle.h3_priority.specs.Reading.Round.{Again, Finished, Refused}

-- a key (4.2.3.3)
unfoldable pub key_at : List ℕ → Read (List ℕ)
key_at text = if begins_in (is_in KeyStart) text then Some (take_while (is_in Key) text, after (is_in Key) text) else None

-- an integer has 1 to 15 digits; a decimal has 1 to 12, ".", and 1 to 3 (4.2.4). The sign was read
unfoldable pub number_of : List ℕ → ℕ
number_of digits = fold (λ n b. n * 10 + (b - 48)) 0 digits

abbrev pub integer_of : Bool → List ℕ → List ℕ → Read Item
integer_of is_negative digits rest = if nat_le (length digits) 15 then Some (Integer is_negative (number_of digits), rest) else None

abbrev pub decimal_of : List ℕ → List ℕ → List ℕ → Read Item
decimal_of digits fraction rest = if nat_le (length digits) 12 && is_between 1 3 (length fraction) then Some (Other, rest) else None

abbrev pub number_from : Bool → List ℕ → List ℕ → Read Item
number_from is_negative digits rest =
    if begins_with 46 rest
    then decimal_of digits (take_while (is_in Digit) (drop 1 rest)) (after (is_in Digit) (drop 1 rest))
    else integer_of is_negative digits rest

unfoldable pub number_at : Bool → List ℕ → Read Item
number_at is_negative text =
    if begins_in (is_in Digit) text then number_from is_negative (take_while (is_in Digit) text) (after (is_in Digit) text) else None

-- a string (4.2.5). Its first quote was read, or the "\" of an escape
unfoldable pub string_from : Bool → List ℕ → Read Item
string_from is_escape [] = None
string_from true (b ∷ text) = if (b == 34) || (b == 92) then string_from false text else None
string_from false (b ∷ text) =
    if b == 34 then Some (Other, text) else (
    if b == 92 then string_from true text else (
    if is_in Printable b then string_from false text else None))

-- a token (4.2.6)
abbrev pub token_at : List ℕ → Read Item
token_at text = Some (Other, after (is_in Token) text)

-- a byte sequence (4.2.7). Its first ":" was read
unfoldable pub byte_sequence_at : List ℕ → Read Item
byte_sequence_at text = if begins_with 58 (after (is_in Base64) text) then Some (Other, drop 1 (after (is_in Base64) text)) else None

-- a boolean (4.2.8). Its "?" was read
unfoldable pub boolean_at : List ℕ → Read Item
boolean_at text =
    if begins_with 49 text then Some (Boolean true, drop 1 text) else (
    if begins_with 48 text then Some (Boolean false, drop 1 text) else None)

-- a bare item (4.2.3.1)
unfoldable pub bare_item_at : List ℕ → Read Item
bare_item_at text =
    if begins_with 45 text then number_at true (drop 1 text) else (
    if begins_in (is_in Digit) text then number_at false text else (
    if begins_with 34 text then string_from false (drop 1 text) else (
    if begins_in (is_in TokenStart) text then token_at text else (
    if begins_with 58 text then byte_sequence_at (drop 1 text) else (
    if begins_with 63 text then boolean_at (drop 1 text) else None)))))

-- a parameter (4.2.3.2). Its ";" was read
abbrev pub parameter_value_at : List ℕ → Read Item
parameter_value_at text = if begins_with 61 text then bare_item_at (drop 1 text) else Some (Boolean true, text)

unfoldable pub parameter_at : List ℕ → Read Item
parameter_at text = then_read (key_at (after (is_in Space) text)) (λ key rest. parameter_value_at rest)

-- parameters: they mean nothing to a priority, so what counts is what follows them
abbrev pub after_parameter : Read Item → Round (List ℕ) (Unit {0} × List ℕ)
after_parameter None = Refused
after_parameter (Some p) = Again p.1

abbrev pub parameter_round : List ℕ → Round (List ℕ) (Unit {0} × List ℕ)
parameter_round text = if begins_with 59 text then after_parameter (parameter_at (drop 1 text)) else Finished (tt, text)

unfoldable pub parameters_at : List ℕ → Read (Unit {0})
parameters_at text = all_rounds parameter_round length text

-- an item
unfoldable pub item_at : List ℕ → Read Item
item_at text = then_read (bare_item_at text) (λ item rest. then_read (parameters_at rest) (λ none more. Some (item, more)))
