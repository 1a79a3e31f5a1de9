-- A section of fields of bytes is of bytes.
use Rattle.std.proofs.Common.{arith, ◌≡◌, ℕ, zero, suc, ◌+◌, ◌*◌, ◌-◌, ◌/◌, ◌%◌, ◌^◌, ◌<◌, Bool, true, false, if◌then◌else◌, List, [], ◌∷◌, ◌++◌, length, flat_map, fold, nat_lt, nat_le, refl, Option, Some, None, lit<}
use Rattle.std.specs.Prelude.{◌==◌, nat_eq, option_map, position, unwrap_or}
use Rattle.std.specs.List.{AllByRecursion}
use Rattle.std.proofs.lemmas.Grind.{common_steps}
use Rattle.std.proofs.lemmas.Nat.{mod_below}
use Rattle.h3_huffman.specs.Huffman.{bits, code_word, huffman, octets, symbols_by_length, word_from}
use Rattle.h3_huffman.specs.Payload.{IsBit, IsByte}
use Rattle.h3_field.specs.Field.{Field}
use Rattle.h3_field.specs.Integer.{groups, ones, prefixed}
use Rattle.h3_field.specs.Line.{FieldLine, line_bytes}
use Rattle.h3_field.specs.Line.{FieldLine as line}
use Rattle.h3_field.specs.Prefix.{most_entries, prefix_bytes}
use Rattle.h3_field.specs.ReadBack.{IsFieldOfBytes, IsLineOfBytes}
use Rattle.h3_field.specs.SecretLaws.{guarded_bytes}
use Rattle.h3_field.specs.StaticTable.{static_field, static_name}
use Rattle.h3_field.specs.StringLiteral.{Text, bit_h, coded, string_literal, text_bytes}
use Rattle.h3_qpack.specs.EncoderHistory.{EncoderHistory, writing_on}
use Rattle.h3_qpack.specs.SectionEncoding.{Draft, add_field, add_line, add_literal, draft_of, encoded_section, entry_name_line, first_draft, found, found_name, guarded_fields, is_insertable, is_insertable_ahead, marks_after, required_insert_count, write_field}
use Rattle.h3_connection.specs.Sections.{written_section}

pub both_bytes : (xs ys : List ℕ) → AllByRecursion IsByte xs → AllByRecursion IsByte ys → AllByRecursion IsByte (xs ++ ys)
both_bytes [] ys h k = k
both_bytes (x ∷ xs) ys h k = (h.0, both_bytes xs ys h.1 k)

-- words of the Huffman code
both_bits : (xs ys : List ℕ) → AllByRecursion IsBit xs → AllByRecursion IsBit ys → AllByRecursion IsBit (xs ++ ys)
both_bits [] ys h k = k
both_bits (x ∷ xs) ys h k = (h.0, both_bits xs ys h.1 k)

bits_are : (count n : ℕ) → AllByRecursion IsBit (bits count n)
unfolding bits
bits_are zero n = tt
bits_are (suc count) n = both_bits (bits count (n / 2)) ((n % 2) ∷ []) (bits_are count (n / 2)) (mod_below n 2 (lit< tt), tt)

word_bits : (next before : ℕ) (rows : List (ℕ × List ℕ)) (symbol : ℕ) → AllByRecursion IsBit (word_from next before rows symbol)
word_bits next before [] symbol = tt
word_bits next before ((len, symbols) ∷ rows) symbol = by (position (nat_eq symbol) symbols) (word_bits (next * 2 ^ (len - before) + length symbols) len rows symbol)
  where
    by : (place : Option ℕ) → AllByRecursion IsBit (word_from (next * 2 ^ (len - before) + length symbols) len rows symbol)
        → AllByRecursion IsBit (unwrap_or (option_map (λ at. bits len (next * 2 ^ (len - before) + at)) place) (word_from (next * 2 ^ (len - before) + length symbols) len rows symbol))
    by (Some at) later = bits_are len (next * 2 ^ (len - before) + at)
    by None later = later

words_bits : (plain : List ℕ) → AllByRecursion IsBit (flat_map code_word plain)
unfolding code_word
words_bits [] = tt
words_bits (x ∷ xs) = both_bits (code_word x) (flat_map code_word xs) (word_bits 0 0 symbols_by_length x) (words_bits xs)

-- strings
octets_bytes : (r : List ℕ) → AllByRecursion IsBit r → AllByRecursion IsByte (octets r)
unfolding octets
octets_bytes [] p = tt
octets_bytes (a ∷ []) p = (omega (arith, p.0), tt)
octets_bytes (a ∷ b ∷ []) p = (omega (arith, p.0, p.1.0), tt)
octets_bytes (a ∷ b ∷ c ∷ []) p = (omega (arith, p.0, p.1.0, p.1.1.0), tt)
octets_bytes (a ∷ b ∷ c ∷ d ∷ []) p = (omega (arith, p.0, p.1.0, p.1.1.0, p.1.1.1.0), tt)
octets_bytes (a ∷ b ∷ c ∷ d ∷ e ∷ []) p = (omega (arith, p.0, p.1.0, p.1.1.0, p.1.1.1.0, p.1.1.1.1.0), tt)
octets_bytes (a ∷ b ∷ c ∷ d ∷ e ∷ f ∷ []) p = (omega (arith, p.0, p.1.0, p.1.1.0, p.1.1.1.0, p.1.1.1.1.0, p.1.1.1.1.1.0), tt)
octets_bytes (a ∷ b ∷ c ∷ d ∷ e ∷ f ∷ g ∷ []) p = (omega (arith, p.0, p.1.0, p.1.1.0, p.1.1.1.0, p.1.1.1.1.0, p.1.1.1.1.1.0, p.1.1.1.1.1.1.0), tt)
octets_bytes (a ∷ b ∷ c ∷ d ∷ e ∷ f ∷ g ∷ h ∷ rest) p =
    (omega (arith, p.0, p.1.0, p.1.1.0, p.1.1.1.0, p.1.1.1.1.0, p.1.1.1.1.1.0, p.1.1.1.1.1.1.0, p.1.1.1.1.1.1.1.0), octets_bytes rest p.1.1.1.1.1.1.1.1)

huffman_bytes : (plain : List ℕ) → AllByRecursion IsByte (huffman plain)
unfolding huffman
huffman_bytes plain = octets_bytes (flat_map code_word plain) (words_bits plain)

-- integers
groups_bytes : (most n : ℕ) → AllByRecursion IsByte (groups most n)
groups_bytes zero n = tt
groups_bytes (suc most) n = by (nat_lt n 128) refl (groups_bytes most (n / 128))
  where
    by : (b : Bool) → nat_lt n 128 ≡ b → AllByRecursion IsByte (groups most (n / 128)) → AllByRecursion IsByte (if b then n ∷ [] else (128 + n % 128) ∷ groups most (n / 128))
    by true is later = (grind (arith, common_steps, is), tt)
    by false is later = (let rest = mod_below n 128 (lit< tt) in omega (arith, rest), later)

prefixed_bytes : (size flags n : ℕ) → flags * 2 ^ size + ones size < 256 → AllByRecursion IsByte (prefixed size flags n)
prefixed_bytes size flags n fits = by (nat_lt n (ones size)) refl
  where
    below : (a b : ℕ) → nat_lt a b ≡ true → a < b
    below a b is = grind (arith, common_steps, is)

    by : (b : Bool) → nat_lt n (ones size) ≡ b → AllByRecursion IsByte (if b then (flags * 2 ^ size + n) ∷ [] else (flags * 2 ^ size + ones size) ∷ groups 9 (n - ones size))
    by true is = (let few = below n (ones size) is in omega (arith, few, fits), tt)
    by false is = (fits, groups_bytes 9 (n - ones size))

text_is_bytes : (text : Text) → AllByRecursion IsByte text.bytes → AllByRecursion IsByte (text_bytes text)
text_is_bytes text h = by text.is_huffman
  where
    by : (b : Bool) → AllByRecursion IsByte (if b then huffman text.bytes else text.bytes)
    by true = huffman_bytes text.bytes
    by false = h

string_bytes : (size flags : ℕ) (text : Text) → (2 * flags + 1) * 2 ^ (size - 1) + ones (size - 1) < 256 → (2 * flags + 0) * 2 ^ (size - 1) + ones (size - 1) < 256
    → AllByRecursion IsByte text.bytes → AllByRecursion IsByte (string_literal size flags text)
string_bytes size flags text coded plain h =
    both_bytes (prefixed (size - 1) (2 * flags + bit_h text.is_huffman) (length (text_bytes text))) (text_bytes text)
    (prefixed_bytes (size - 1) (2 * flags + bit_h text.is_huffman) (length (text_bytes text)) (by text.is_huffman)) (text_is_bytes text h)
  where
    by : (b : Bool) → (2 * flags + bit_h b) * 2 ^ (size - 1) + ones (size - 1) < 256
    by true = coded
    by false = plain

-- lines
line_is_bytes : (l : FieldLine) → IsLineOfBytes l → AllByRecursion IsByte (line_bytes l)
line_is_bytes (line.StaticField index) h = prefixed_bytes 6 3 index (lit< tt)
line_is_bytes (line.RelativeField index) h = prefixed_bytes 6 2 index (lit< tt)
line_is_bytes (line.PostBaseField index) h = prefixed_bytes 4 1 index (lit< tt)
line_is_bytes (line.StaticName index value true) h = both_bytes (prefixed 4 7 index) (string_literal 8 0 value) (prefixed_bytes 4 7 index (lit< tt)) (string_bytes 8 0 value (lit< tt) (lit< tt) h)
line_is_bytes (line.StaticName index value false) h = both_bytes (prefixed 4 5 index) (string_literal 8 0 value) (prefixed_bytes 4 5 index (lit< tt)) (string_bytes 8 0 value (lit< tt) (lit< tt) h)
line_is_bytes (line.RelativeName index value true) h = both_bytes (prefixed 4 6 index) (string_literal 8 0 value) (prefixed_bytes 4 6 index (lit< tt)) (string_bytes 8 0 value (lit< tt) (lit< tt) h)
line_is_bytes (line.RelativeName index value false) h = both_bytes (prefixed 4 4 index) (string_literal 8 0 value) (prefixed_bytes 4 4 index (lit< tt)) (string_bytes 8 0 value (lit< tt) (lit< tt) h)
line_is_bytes (line.PostBaseName index value true) h = both_bytes (prefixed 3 1 index) (string_literal 8 0 value) (prefixed_bytes 3 1 index (lit< tt)) (string_bytes 8 0 value (lit< tt) (lit< tt) h)
line_is_bytes (line.PostBaseName index value false) h = both_bytes (prefixed 3 0 index) (string_literal 8 0 value) (prefixed_bytes 3 0 index (lit< tt)) (string_bytes 8 0 value (lit< tt) (lit< tt) h)
line_is_bytes (line.Literal name value true) h = both_bytes (string_literal 4 3 name) (string_literal 8 0 value) (string_bytes 4 3 name (lit< tt) (lit< tt) h.0) (string_bytes 8 0 value (lit< tt) (lit< tt) h.1)
line_is_bytes (line.Literal name value false) h = both_bytes (string_literal 4 2 name) (string_literal 8 0 value) (string_bytes 4 2 name (lit< tt) (lit< tt) h.0) (string_bytes 8 0 value (lit< tt) (lit< tt) h.1)

both_lines : (xs ys : List FieldLine) → AllByRecursion IsLineOfBytes xs → AllByRecursion IsLineOfBytes ys → AllByRecursion IsLineOfBytes (xs ++ ys)
both_lines [] ys h k = k
both_lines (x ∷ xs) ys h k = (h.0, both_lines xs ys h.1 k)

-- a property of what is chosen
chosen : {X Y : Type 0} (P : Y → Type 0) (o : Option X) (g : X → Y) (y : Y) → ((x : X) → P (g x)) → P y → P (unwrap_or (option_map g o) y)
chosen P None g y some none = none
chosen P (Some x) g y some none = some x

either_way : {X : Type 0} (P : X → Type 0) (b : Bool) (x y : X) → P x → P y → P (if b then x else y)
either_way P true x y p q = p
either_way P false x y p q = q

-- those of a draft are of bytes
abbrev IsOfBytes : Draft → Type 0
IsOfBytes d = AllByRecursion IsLineOfBytes d.lines

more_lines : (d : Draft) (l : FieldLine) (names : List ℕ) → IsOfBytes d → IsLineOfBytes l → IsOfBytes (add_line d l names)
more_lines d l names h k = both_lines d.lines (l ∷ []) h (k, tt)

named : (base number : ℕ) (text : Text) (n : Bool) → AllByRecursion IsByte text.bytes → IsLineOfBytes (entry_name_line base number text n)
named base number text n h = by (nat_le number base)
  where
    by : (b : Bool) → IsLineOfBytes (if b then line.RelativeName (base - number) text n else line.PostBaseName (number - base - 1) text n)
    by true = h
    by false = h

literals : (s : EncoderHistory) (d : Draft) (f : Field) → IsOfBytes d → IsFieldOfBytes f → IsOfBytes (add_literal s d f)
literals s d f h k =
    chosen IsOfBytes (static_name f.name) _ _ (λ index. more_lines d _ [] h k.1) (
    chosen IsOfBytes (found_name s d f) _ _ (λ number. more_lines d _ (number ∷ []) h (named (length s.inserted) number (coded s.choices.shortest_strings f.value) f.never_indexed k.1)) (
    more_lines d _ [] h k))

written : (s : EncoderHistory) (d : Draft) (f : Field) → IsOfBytes d → IsFieldOfBytes f → IsOfBytes (write_field s d f)
written s d f h k =
    either_way IsOfBytes f.never_indexed _ _ (literals s d f h k) (
    chosen IsOfBytes (static_field f) _ _ (λ index. more_lines d _ [] h tt) (
    chosen IsOfBytes (found s d f) _ _ (λ number. more_lines d _ (number ∷ []) h tt) (
    either_way IsOfBytes (is_insertable s d f) _ _ (both_lines d.lines _ h (tt, tt)) (literals s d f h k))))

added : (s : EncoderHistory) (d : Draft) (f : Field) → IsOfBytes d → IsFieldOfBytes f → IsOfBytes (add_field s d f)
added s d f h k = either_way IsOfBytes (is_insertable_ahead s (marks_after s d.lines) (write_field s d f) f) _ _ (written s d f h k) (written s d f h k)

all_added : (s : EncoderHistory) (d : Draft) (fields : List Field) → IsOfBytes d → AllByRecursion IsFieldOfBytes fields → IsOfBytes (fold (add_field s) d fields)
all_added s d [] h k = h
all_added s d (f ∷ fields) h k = all_added s (add_field s d f) fields (added s d f h k.0) k.1

lines_are_bytes : (lines : List FieldLine) → AllByRecursion IsLineOfBytes lines → AllByRecursion IsByte (flat_map line_bytes lines)
lines_are_bytes [] h = tt
lines_are_bytes (l ∷ lines) h = both_bytes (line_bytes l) (flat_map line_bytes lines) (line_is_bytes l h.0) (lines_are_bytes lines h.1)

prefix_is_bytes : (capacity count base : ℕ) → AllByRecursion IsByte (prefix_bytes capacity count base)
prefix_is_bytes capacity count base = by (count == 0)
  where
    second : (b : Bool) → AllByRecursion IsByte (if b then prefixed 7 1 (count - base - 1) else prefixed 7 0 (base - count))
    second true = prefixed_bytes 7 1 (count - base - 1) (lit< tt)
    second false = prefixed_bytes 7 0 (base - count) (lit< tt)

    by : (b : Bool) → AllByRecursion IsByte (if b then 0 ∷ 0 ∷ [] else prefixed 8 0 (count % (2 * most_entries capacity) + 1) ++ (if nat_lt base count then prefixed 7 1 (count - base - 1) else prefixed 7 0 (base - count)))
    by true = (lit< tt, (lit< tt, tt))
    by false = both_bytes (prefixed 8 0 (count % (2 * most_entries capacity) + 1)) (if nat_lt base count then prefixed 7 1 (count - base - 1) else prefixed 7 0 (base - count)) (prefixed_bytes 8 0 (count % (2 * most_entries capacity) + 1) (lit< tt)) (second (nat_lt base count))

encoded_bytes : (s : EncoderHistory) (fields : List Field) → AllByRecursion IsFieldOfBytes fields → AllByRecursion IsByte (encoded_section s fields)
encoded_bytes s fields h =
    let d = draft_of s fields in
    both_bytes (prefix_bytes s.announced (required_insert_count d) (length s.inserted)) (flat_map line_bytes d.lines)
    (prefix_is_bytes s.announced (required_insert_count d) (length s.inserted))
    (lines_are_bytes d.lines (all_added s (first_draft s) (guarded_fields s fields) tt (guarded_bytes s.choices.guards_secrets fields h)))

-- **A section is of bytes.**
pub section_bytes : (s : EncoderHistory) (id : ℕ) (fields : List Field) → AllByRecursion IsFieldOfBytes fields → AllByRecursion IsByte (written_section s id fields)
section_bytes s id fields h = encoded_bytes (writing_on s id) fields h
