-- A written field section is read back, within the limit.
use Rattle.std.proofs.Common.{◌≡◌, ℕ, suc, ◌+◌, ◌^◌, ◌<◌, ◌≤◌, Bool, true, false, List, [], ◌∷◌, ◌++◌, length, position, bytes_eq, Option, Some, None, refl, ap, sym, ◌∙◌, arith, inl, inr, append_assoc, append-nil, length-append}
use Rattle.std.specs.List.{AllByRecursion, slice_get, position_or_len}
use Rattle.std.proofs.lemmas.Bool.{le-leb, lt-leb, lt-ltb, le-ltb, cases_lt}
use Rattle.std.proofs.lemmas.List.Sums.{sum_by-cons}
use Rattle.h3_field.specs.Field.{Field, field_eq, field_size, section_size}
use Rattle.h3_field.specs.StaticTable.{static_table, static_field, static_name}
use Rattle.h3_field.specs.Reading.{Whole}
use Rattle.h3_field.specs.PrefixReading.{prefix}
use Rattle.h3_field.specs.Line.{FieldLine, line_bytes}
use Rattle.h3_field.specs.LineAnswer.{IsWritable}
use Rattle.h3_field.specs.Section.{HasLine, line_field, literal_line, line_or_literal, static_line, static_lines, section_bytes, Answer, Fields, TooLong, Refused, Answers, End, Next, Passes, BadLine, AnswersSection, Lines, NoPrefix, add_size}
use Rattle.h3_field.specs.ReadBack.{IsFieldOfBytes, IsLineOfBytes, answer_from}
use Rattle.h3_field.specs.StaticTableLaws.{table_length}
use Rattle.h3_field.specs.FieldLaws.{same_field}
use Rattle.h3_field.proofs.StaticEntries.{two_ways}
use Rattle.h3_field.specs.SectionLaws.{line_one, whole_same}
use Rattle.h3_field.specs.ReadBackLaws.{line_reads_back}
use Rattle.h3_huffman.specs.PayloadLaws.{bytes_same}

get_next : {X : Type 0} (x : X) (xs : List X) (n : ℕ) → slice_get (x ∷ xs) (1 + n) ≡ slice_get xs n
get_next x xs n = let e : 1 + n ≡ suc n = omega arith in rw e refl

-- what stands at the place that a search finds
found_at : {X : Type 0} (test : X → Bool) (xs : List X) → position_or_len test xs < length xs → (x : X) × (slice_get xs (position_or_len test xs) ≡ Some x) × (test x ≡ true)
found_at test [] h = absurd (omega arith)
found_at test (x ∷ xs) h =
    elim (two_ways (test x)) [
      | inl here ↦ rw here (x, refl, here)
      | inr other ↦
          let next = found_at test xs (let less = rw other at h in omega (arith, less)) in
          rw other (next.0, get_next x xs (position_or_len test xs) ∙ next.1, next.2)
    ]

-- What a search of the static table found.
record Entry (index : ℕ) (test : Field → Bool) : Type 0 where
  entry : Field
  here : slice_get static_table index ≡ Some entry
  passes : test entry ≡ true
  below : index < 99

found : (test : Field → Bool) (index : ℕ) → position test static_table ≡ Some index → Entry index test
found test index h =
    let first = position_or_len test static_table in
    elim (cases_lt first (length static_table)) [
      | inl some ↦
          let at : ◌≡◌ {A = Option ℕ} (Some first) (Some index) = rw (lt-ltb first (length static_table) some) at h in
          let same : first ≡ index = cc in
          let x = found_at test static_table some in
          record { entry = x.0; here = rw same at x.1; passes = x.2; below = omega (arith, some, same, table_length) }
      | inr none ↦ let no = rw (le-ltb first (length static_table) none) at h in absurd (cc)
    ]

-- What the line of a field says.
record Line (f : Field) (l : FieldLine) : Type 0 where
  writable : IsWritable l
  bytes : IsLineOfBytes l
  names : line_field l ≡ Some f

line_of_literal : (f : Field) (index : Option ℕ) → static_name f.name ≡ index → IsFieldOfBytes f → field_size f < 2 ^ 62 → Line f (literal_line index f)
unfolding static_name
line_of_literal f None e b h = record { writable = (omega (arith, h), omega (arith, h)); bytes = b; names = refl }
line_of_literal f (Some index) e b h =
    let x = found (λ entry. bytes_eq entry.name f.name) index e in
    let name : x.entry.name ≡ f.name = bytes_same x.entry.name f.name x.passes in
    record { writable = (omega (arith, x.below), omega (arith, h)); bytes = b.1; names = rw (x.here, name) refl }

line_of : (f : Field) (index : Option ℕ) → static_field f ≡ index → IsFieldOfBytes f → field_size f < 2 ^ 62 → Line f (line_or_literal index f)
unfolding static_field
line_of f None e b h = line_of_literal f (static_name f.name) refl b h
line_of f (Some index) e b h =
    let x = found (λ entry. field_eq entry f) index e in
    let same : x.entry ≡ f = same_field x.entry f x.passes in
    record { writable = omega (arith, x.below); bytes = tt; names = rw (x.here, same) refl }

-- the first field's line
has_line : (f : Field) (rest : List ℕ) → IsFieldOfBytes f → field_size f < 2 ^ 62 → length (line_bytes (static_line f)) < 2 ^ 63 → HasLine (line_bytes (static_line f) ++ rest) (static_line f) rest
has_line f rest b h fits =
    let l = line_of f (static_field f) refl b h in
    line_reads_back (static_line f) rest l.writable l.bytes fits

line_names : (f : Field) → IsFieldOfBytes f → field_size f < 2 ^ 62 → line_field (static_line f) ≡ Some f
line_names f b h = (line_of f (static_field f) refl b h).names

no_line : (l : FieldLine) (rest : List ℕ) → HasLine [] l rest → ⊥
no_line l rest h = let e = h.whole in absurd (cc)

-- What is answered to bytes that begin with a line of that field.
record First (limit size : ℕ) (before : List Field) (f : Field) (rest : List ℕ) (answer : Answer) : Type 0 where
  within : add_size size f ≤ limit → Answers limit (add_size size f) (before ++ f ∷ []) rest answer
  past : limit < add_size size f → answer ≡ TooLong (add_size size f)

some_one : (a b : Field) → ◌≡◌ {A = Option Field} (Some a) (Some b) → a ≡ b
some_one a b e = cc

first_of : (limit size : ℕ) (before : List Field) (bytes rest : List ℕ) (l : FieldLine) (f : Field) (answer : Answer) → HasLine bytes l rest → line_field l ≡ Some f → Answers limit size before bytes answer → First limit size before f rest answer
first_of limit size before bytes rest l f answer here names (End s b) = absurd (no_line l rest here)
first_of limit size before bytes rest l f answer here names (Next s b c more k g a has says le next) =
    let one = line_one bytes rest more l k here has in
    let field : f ≡ g = some_one f g (sym names ∙ ap (λ x. line_field x) one.0 ∙ says) in
    record { within = λ h. rw (field, one.1) next; past = λ lt. absurd (omega (arith, le, lt, ap (λ x. add_size size x) field)) }
first_of limit size before bytes rest l f answer here names (Passes s b c more k g has says lt) =
    let one = line_one bytes rest more l k here has in
    let field : f ≡ g = some_one f g (sym names ∙ ap (λ x. line_field x) one.0 ∙ says) in
    record { within = λ h. absurd (omega (arith, h, lt, ap (λ x. add_size size x) field)); past = λ h. rw field refl }
first_of limit size before bytes rest l f answer here names (BadLine s b first c none) = absurd (none rest l f here names)

done : (limit size : ℕ) (before : List Field) (bytes : List ℕ) (answer : Answer) → bytes ≡ [] → Answers limit size before bytes answer → answer ≡ Fields before size
done limit size before bytes answer e (End s b) = refl
done limit size before bytes answer e (Next s b c more k g a has says le next) = let h = rw e at has in absurd (no_line k more h)
done limit size before bytes answer e (Passes s b c more k g has says lt) = let h = rw e at has in absurd (no_line k more h)
done limit size before bytes answer e (BadLine s b first c none) = absurd (cc)

lines_read_back : (limit size : ℕ) (before fields : List Field) (answer : Answer) → AllByRecursion IsFieldOfBytes fields → section_size fields < 2 ^ 62 → length (static_lines fields) < 2 ^ 63 → Answers limit size before (static_lines fields) answer → answer ≡ answer_from limit size before fields
lines_read_back limit size before [] answer b h fits r = done limit size before [] answer refl r
lines_read_back limit size before (f ∷ fields) answer b h fits r =
    let sum = sum_by-cons field_size f fields in
    let len = length-append (line_bytes (static_line f)) (static_lines fields) in
    let own : field_size f < 2 ^ 62 = omega (arith, h, sum) in
    let here = has_line f (static_lines fields) b.0 own (omega (arith, fits, len)) in
    let first = first_of limit size before _ (static_lines fields) (static_line f) f answer here (line_names f b.0 own) r in
    elim (cases_lt limit (add_size size f)) [
      | inl past ↦ rw (lt-leb (add_size size f) limit past) (first.past past)
      | inr within ↦
          rw (le-leb (add_size size f) limit within)
          (lines_read_back limit (add_size size f) (before ++ f ∷ []) fields answer b.1 (omega (arith, h, sum)) (omega (arith, fits, len)) (first.within within))
    ]

from_prefix : (limit : ℕ) (bytes rest : List ℕ) (answer : Answer) → prefix bytes ≡ Whole (record { encoded = 0; is_negative = false; delta = 0 }) rest → AnswersSection limit bytes answer → Answers limit 0 [] rest answer
from_prefix limit bytes rest answer e (Lines p more a whole lines) =
    let same = whole_same _ p rest more (sym e ∙ whole) in
    rw same.1 lines
from_prefix limit bytes rest answer e (NoPrefix none) = absurd (none _ rest e)

-- What a reader answers to a written section: its fields with their size, or the sum at the first that passes the limit.
pub section_reads_back : (limit : ℕ) (fields : List Field) (answer : Answer) → AllByRecursion IsFieldOfBytes fields → section_size fields < 2 ^ 62 → length (section_bytes fields) < 2 ^ 63 → AnswersSection limit (section_bytes fields) answer → answer ≡ answer_from limit 0 [] fields
section_reads_back limit fields answer b h fits r =
    lines_read_back limit 0 [] fields answer b h (omega (arith, fits)) (from_prefix limit (section_bytes fields) (static_lines fields) answer refl r)

within_from : (limit size : ℕ) (before fields : List Field) → size + section_size fields < 2 ^ 62 → size + section_size fields ≤ limit → answer_from limit size before fields ≡ Fields (before ++ fields) (size + section_size fields)
within_from limit size before [] h le =
    let e : size + section_size [] ≡ size = omega arith in
    rw (append-nil before, e) refl
within_from limit size before (f ∷ fields) h le =
    let sum = sum_by-cons field_size f fields in
    let exact : add_size size f ≡ size + field_size f = omega (arith, h, sum) in
    let next : add_size size f ≤ limit = omega (arith, exact, le, sum) in
    let all : add_size size f + section_size fields ≡ size + section_size (f ∷ fields) = omega (arith, exact, sum) in
    rw (le-leb (add_size size f) limit next)
    (within_from limit (add_size size f) (before ++ f ∷ []) fields (omega (arith, all, h)) (omega (arith, all, le)) ∙ rw (append_assoc before (f ∷ []) fields, all) refl)

-- within the limit that is all of them
pub all_within : (limit : ℕ) (fields : List Field) → section_size fields < 2 ^ 62 → section_size fields ≤ limit → answer_from limit 0 [] fields ≡ Fields fields (section_size fields)
all_within limit fields h le =
    let e : 0 + section_size fields ≡ section_size fields = omega arith in
    within_from limit 0 [] fields (omega (arith, h)) (omega (arith, le)) ∙ ap (λ n. Fields fields n) e

-- bytes have one answer
lines_one : (limit size : ℕ) (before : List Field) (bytes : List ℕ) (a b : Answer) → Answers limit size before bytes a → Answers limit size before bytes b → a ≡ b
lines_one limit size before bytes a b (End s f) r = sym (done limit size before [] b refl r)
lines_one limit size before bytes a b (Next s f c rest l g x has says le next) r =
    lines_one limit (add_size size g) (before ++ g ∷ []) rest a b next ((first_of limit size before bytes rest l g b has says r).within le)
lines_one limit size before bytes a b (Passes s f c rest l g has says lt) r = sym ((first_of limit size before bytes rest l g b has says r).past lt)
lines_one limit size before bytes a b (BadLine s f first c none) r = sym (refused_one limit size before (first ∷ c) b (λ rest l g. none rest l g) refl r)
  where
    refused_one : (limit size : ℕ) (before : List Field) (bytes : List ℕ) (b : Answer) → ((rest : List ℕ) (l : FieldLine) (f : Field) → HasLine bytes l rest → line_field l ≡ Some f → ⊥) → bytes ≡ first ∷ c → Answers limit size before bytes b → b ≡ Refused
    refused_one limit size before bytes b nothing e (End s f) = absurd (cc)
    refused_one limit size before bytes b nothing e (Next s f d rest l g x has says le next) = absurd (nothing rest l g has says)
    refused_one limit size before bytes b nothing e (Passes s f d rest l g has says lt) = absurd (nothing rest l g has says)
    refused_one limit size before bytes b nothing e (BadLine s f other d none) = refl

pub one_answer : (limit : ℕ) (bytes : List ℕ) (a b : Answer) → AnswersSection limit bytes a → AnswersSection limit bytes b → a ≡ b
one_answer limit bytes a b (Lines p rest x whole lines) (Lines q more y also others) =
    let same = whole_same p q rest more (sym whole ∙ also) in
    lines_one limit 0 [] rest a b lines (rw (← same.1) at others)
one_answer limit bytes a b (Lines p rest x whole lines) (NoPrefix none) = absurd (none p rest whole)
one_answer limit bytes a b (NoPrefix none) (Lines q more y also others) = absurd (none q more also)
one_answer limit bytes a b (NoPrefix none) (NoPrefix nothing) = refl
