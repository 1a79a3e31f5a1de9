-- An instruction that is known to be longer than the limit stays so, whatever comes behind.
use Rattle.std.proofs.Common.{◌≡◌, ℕ, ◌+◌, ◌-◌, ◌≤◌, ◌<◌, Bool, true, false, ◌&&◌, if◌then◌else◌, nat_lt, nat_le, List, [], ◌∷◌, ◌++◌, length, take, drop, length-append, refl, ap, sym, ◌∙◌, arith, inl, inr}
use Rattle.std.proofs.lemmas.Bool.{and_parts, cases_lt, lt-ltb, le-ltb}
use Rattle.std.proofs.lemmas.List.{drop-append-le}
use Rattle.h3_field.specs.IntegerLaws.{integer_stable}
use Rattle.h3_field.specs.IntegerReading.{integer}
use Rattle.h3_field.specs.Reading.{Reading, Whole, Unfinished, Bad, Stays}
use Rattle.h3_field.specs.Waiting.{behind_integer, integer_wait, bytes_wait, string_wait, number_wait, name_reference_wait, literal_name_wait, encoder_wait, decoder_wait}
use Rattle.h3_field.specs.declared.waiting.Wait.{Wait}
use Rattle.h3_field.specs.declared.waiting.Wait.TheVariants as wait
use Rattle.h3_proto.specs.Config.{is_limit}
use Rattle.h3_connection.specs.ExcessiveInstructionLaws.{taken_more, taken_length, exceeds_short, exceeds_front, exceeds_limit}
use Rattle.h3_connection.specs.ExcessiveInstructions.{missing, exceeds}

-- What lacks so many bytes lacks the rest of them once fewer came.
abbrev Lacks : (List ℕ → Wait) → Type 0
Lacks waiting = (front more : List ℕ) (count : ℕ) → waiting front ≡ wait.Bytes count → length more < count → waiting (front ++ more) ≡ wait.Bytes (count - length more)

same_count : (n m : ℕ) → wait.Bytes n ≡ wait.Bytes m → n ≡ m
same_count n m e = cc

first_lacks : (waiting : List ℕ → Wait) (more : List ℕ) (count : ℕ) → waiting [] ≡ wait.Bytes 1 → waiting [] ≡ wait.Bytes count → length more < count → waiting more ≡ wait.Bytes (count - length more)
first_lacks waiting [] count none is few = let same : count ≡ count - 0 = omega arith in is ∙ ap (λ n. wait.Bytes n) same
first_lacks waiting (byte ∷ more) count none is few = let one = same_count 1 count (sym none ∙ is) in absurd (omega (arith, one, few))

integer_lacks : (size : ℕ) (next : ℕ → List ℕ → Wait) → ((n : ℕ) → Lacks (next n)) → Lacks (integer_wait size next)
integer_lacks size next each [] more count is few = first_lacks (integer_wait size next) more count refl is few
integer_lacks size next each (first ∷ rest) more count is few = by_reading (integer size (first ∷ rest)) (integer_stable size (first ∷ rest) more) is
  where
    by_reading : (r : Reading (ℕ × ℕ)) → Stays more r (integer size ((first ∷ rest) ++ more)) → behind_integer r wait.Integer next ≡ wait.Bytes count
        → integer_wait size next ((first ∷ rest) ++ more) ≡ wait.Bytes (count - length more)
    by_reading (Whole head after) stays there = ap (λ r. behind_integer r wait.Integer next) stays ∙ each head.1 after more count there few
    by_reading Unfinished stays there = absurd (cc)
    by_reading Bad stays there = absurd (cc)

bytes_lack : (next : List ℕ → Wait) (size : ℕ) → Lacks next → Lacks (bytes_wait next size)
bytes_lack next size each front more count is few =
    elim (cases_lt (length front) size) [
      | inl short ↦
          let left = same_count (size - length front) count (sym (ap (λ b. if b then wait.Bytes (size - length front) else next (drop size front)) (lt-ltb (length front) size short)) ∙ is) in
          let still : length (front ++ more) < size = omega (arith, short, left, few, length-append front more) in
          let rest : size - length (front ++ more) ≡ count - length more = omega (arith, short, left, few, length-append front more) in
          ap (λ b. if b then wait.Bytes (size - length (front ++ more)) else next (drop size (front ++ more))) (lt-ltb (length (front ++ more)) size still) ∙ ap (λ n. wait.Bytes n) rest
      | inr enough ↦
          let all : size ≤ length (front ++ more) = omega (arith, enough, length-append front more) in
          let there = sym (ap (λ b. if b then wait.Bytes (size - length front) else next (drop size front)) (le-ltb (length front) size enough)) ∙ is in
          ap (λ b. if b then wait.Bytes (size - length (front ++ more)) else next (drop size (front ++ more))) (le-ltb (length (front ++ more)) size all)
          ∙ ap next (drop-append-le size front more enough) ∙ each (drop size front) more count there few
    ]

nothing_lacks : Lacks (λ bytes. wait.Nothing)
nothing_lacks front more count is few = absurd (cc)

string_lacks : (size : ℕ) (next : List ℕ → Wait) → Lacks next → Lacks (string_wait size next)
string_lacks size next each = integer_lacks (size - 1) (bytes_wait next) (λ count. bytes_lack next count each)

number_lacks : (size : ℕ) → Lacks (number_wait size)
number_lacks size = integer_lacks size (λ n after. wait.Nothing) (λ n. nothing_lacks)

last_string_lacks : Lacks (string_wait 8 (λ after. wait.Nothing))
last_string_lacks = string_lacks 8 (λ after. wait.Nothing) nothing_lacks

either_lacks : (b : Bool) (f g : List ℕ → Wait) (front more : List ℕ) (count : ℕ)
    → (f front ≡ wait.Bytes count → f (front ++ more) ≡ wait.Bytes (count - length more)) → (g front ≡ wait.Bytes count → g (front ++ more) ≡ wait.Bytes (count - length more))
    → (if b then f front else g front) ≡ wait.Bytes count → (if b then f (front ++ more) else g (front ++ more)) ≡ wait.Bytes (count - length more)
either_lacks true f g front more count p q is = p is
either_lacks false f g front more count p q is = q is

encoder_lacks : Lacks encoder_wait
encoder_lacks [] more count is few = first_lacks encoder_wait more count refl is few
encoder_lacks (first ∷ rest) more count is few =
    either_lacks (nat_le 128 first) name_reference_wait (λ bytes. if nat_le 64 first then literal_name_wait bytes else number_wait 5 bytes) (first ∷ rest) more count
    (λ e. integer_lacks 6 (λ index. string_wait 8 (λ after. wait.Nothing)) (λ index. last_string_lacks) (first ∷ rest) more count e few)
    (either_lacks (nat_le 64 first) literal_name_wait (number_wait 5) (first ∷ rest) more count
    (λ e. string_lacks 6 (string_wait 8 (λ after. wait.Nothing)) last_string_lacks (first ∷ rest) more count e few) (λ e. number_lacks 5 (first ∷ rest) more count e few)) is

decoder_lacks : Lacks decoder_wait
decoder_lacks [] more count is few = first_lacks decoder_wait more count refl is few
decoder_lacks (first ∷ rest) more count is few =
    either_lacks (nat_le 128 first) (number_wait 7) (number_wait 6) (first ∷ rest) more count
    (λ e. number_lacks 7 (first ∷ rest) more count e few) (λ e. number_lacks 6 (first ∷ rest) more count e few) is

more_exceeds : (waiting : List ℕ → Wait) → Lacks waiting → (most : ℕ) (bytes more : List ℕ) → exceeds most waiting bytes ≡ true → exceeds most waiting (bytes ++ more) ≡ true
more_exceeds waiting lacks most [] more e = absurd (cc)
more_exceeds waiting lacks most (first ∷ rest) more e =
    elim (cases_lt (length (first ∷ rest)) most) [
      | inr many ↦ exceeds_front most waiting first rest more many ∙ e
      | inl few ↦ by_wait few (waiting (first ∷ rest)) refl
    ]
  where
    bytes : List ℕ
    bytes = first ∷ rest

    said : length bytes < most → (w : Wait) → waiting bytes ≡ w → nat_lt most (length bytes + missing w) ≡ true
    said few w is =
        ap (λ x. nat_lt most (length bytes + missing x)) (sym is)
        ∙ (and_parts (is_limit most) (nat_lt most (length bytes + missing (waiting bytes))) (sym (exceeds_short most waiting first rest (omega (arith, few))) ∙ e)).1

    not_said : (n : ℕ) → n ≤ most → nat_lt most n ≡ true → ⊥
    not_said n small is = let not = le-ltb most n small in let wrong : true ≡ false = sym is ∙ not in cc

    above : (n : ℕ) → nat_lt most n ≡ true → most < n
    above n is = elim (cases_lt most n) [
      | inl less ↦ less
      | inr small ↦ absurd (not_said n small is)
    ]

    by_wait : length bytes < most → (w : Wait) → waiting bytes ≡ w → exceeds most waiting (bytes ++ more) ≡ true
    by_wait few wait.Nothing is = absurd (not_said (length bytes + 0) (omega (arith, few)) (said few wait.Nothing is))
    by_wait few wait.Integer is = absurd (not_said (length bytes + 1) (omega (arith, few)) (said few wait.Integer is))
    by_wait few (wait.Bytes count) is =
        let large = above (length bytes + count) (said few (wait.Bytes count) is) in
        let x = take (most - length bytes) more in
        let size = taken_length (most - length bytes) more in
        let later = lacks bytes x count is (omega (arith, large, size, few)) in
        let sum : length (bytes ++ x) + (count - length x) ≡ length bytes + count = omega (arith, large, size, few, length-append bytes x) in
        ap (λ l. is_limit most && nat_lt most (length l + missing (waiting l))) (taken_more most bytes more (omega (arith, few)))
        ∙ ap (λ w. is_limit most && nat_lt most (length (bytes ++ x) + missing w)) later
        ∙ ap (λ n. is_limit most && nat_lt most n) sum
        ∙ ap (λ b. b && nat_lt most (length bytes + count)) (exceeds_limit most waiting bytes e)
        ∙ said few (wait.Bytes count) is

pub encoder_exceeds_more : (most : ℕ) (bytes more : List ℕ) → exceeds most encoder_wait bytes ≡ true → exceeds most encoder_wait (bytes ++ more) ≡ true
encoder_exceeds_more = more_exceeds encoder_wait encoder_lacks

pub decoder_exceeds_more : (most : ℕ) (bytes more : List ℕ) → exceeds most decoder_wait bytes ≡ true → exceeds most decoder_wait (bytes ++ more) ≡ true
decoder_exceeds_more = more_exceeds decoder_wait decoder_lacks
