-- What waits goes on waiting behind bytes that do not bring it.
use Rattle.std.proofs.Common.{Bool, true, false, ◌==◌, ◌&&◌, if◌then◌else◌, nat_le, ◌≡◌, ◌⊎◌, ℕ, ◌+◌, ◌*◌, ◌-◌, ◌/◌, ◌%◌, ◌^◌, ◌<◌, ◌≤◌, Some, None, IfSome, List, [], ◌∷◌, ◌++◌, length, drop, length-append, refl, sym, ap, ◌∙◌, arith, inl, inr}
use Rattle.std.proofs.lemmas.Bool.{lt-ltb, le-ltb, cases_lt, lt-leb, le-leb}
use Rattle.std.proofs.lemmas.List.{drop-append-le}
use Rattle.h3_field.specs.Integer.{ones}
use Rattle.h3_field.specs.Reading.{Reading, Whole, Unfinished, Bad, then_read, Stays}
use Rattle.h3_field.specs.IntegerReading.{integer, groups_reading, integer_limit}
use Rattle.h3_field.specs.IntegerLaws.{integer_stable}
use Rattle.h3_field.specs.Waiting.{are_empty_groups, behind, behind_integer, integer_wait, bytes_wait, string_wait, number_wait, name_reference_wait, literal_name_wait, encoder_wait, decoder_wait}
use Rattle.h3_field.specs.declared.waiting.Wait.{Wait}
use Rattle.h3_field.specs.declared.waiting.Wait.TheVariants as wait

-- What waits so of the first bytes waits as `behind` says of all.
abbrev Follows : (List ℕ → Wait) → Type 0
Follows f = (front more : List ℕ) → IfSome (behind (f front) more) (λ w. f (front ++ more) ≡ w)

-- the first byte
first_follows : (f : List ℕ → Wait) (more : List ℕ) → f [] ≡ wait.Bytes 1 → IfSome (behind (wait.Bytes 1) more) (λ w. f more ≡ w)
first_follows f [] none = none
first_follows f (byte ∷ rest) none = rw (le-ltb (length (byte ∷ rest)) 1 (omega arith)) tt

both_true : (a b : Bool) → (a && b) ≡ true → (a ≡ true) × (b ≡ true)
both_true true true e = (refl, refl)
both_true true false e = absurd (cc)
both_true false b e = absurd (cc)

-- groups of no worth leave the sum as it is
groups_wait : (limit sum place : ℕ) (more : List ℕ) → sum < limit → are_empty_groups more ≡ true → groups_reading limit sum place more ≡ Unfinished
groups_wait limit sum place [] lt all = refl
groups_wait limit sum place (byte ∷ rest) lt all =
    let both = both_true (byte == 128) (are_empty_groups rest) all in
    let is : byte ≡ 128 = grind (both.0, arith) in
    let none : sum + byte % 128 * 128 ^ place ≡ sum = rw is (omega arith) in
    rw (none, lt-leb limit sum lt, le-ltb byte 128 (omega (arith, is))) (groups_wait limit sum (place + 1) rest lt both.1)

groups_stay : (limit sum place : ℕ) (bytes more : List ℕ) → sum < limit → groups_reading limit sum place bytes ≡ Unfinished → are_empty_groups more ≡ true → groups_reading limit sum place (bytes ++ more) ≡ Unfinished
groups_stay limit sum place [] more lt e all = groups_wait limit sum place more lt all
groups_stay limit sum place (byte ∷ rest) more lt e all =
    let total = sum + byte % 128 * 128 ^ place in
    elim (cases_lt total limit) [
      | inr out ↦ let bad = rw (le-leb limit total out) at e in absurd (cc)
      | inl within ↦
          let next = rw (lt-leb limit total within) at e in
          elim (cases_lt byte 128) [
            | inl last ↦ let whole = rw (lt-ltb byte 128 last) at next in absurd (cc)
            | inr others ↦
                let later = rw (le-ltb byte 128 others) at next in
                rw (lt-leb limit total within, le-ltb byte 128 others) (groups_stay limit total (place + 1) rest more within later all)
          ]
    ]

-- what is read of two readings is unfinished where the first is
unfinished_first : {A B : Type 0} (r : Reading A) (next : A → B) → then_read r (λ value rest. Whole (next value) rest) ≡ Unfinished → r ≡ Unfinished
unfinished_first (Whole value rest) next e = absurd (cc)
unfinished_first Unfinished next e = refl
unfinished_first Bad next e = absurd (cc)

integer_stays : (size first : ℕ) (rest more : List ℕ) → integer size (first ∷ rest) ≡ Unfinished → are_empty_groups more ≡ true → integer size (first ∷ (rest ++ more)) ≡ Unfinished
integer_stays size first rest more e all =
    elim (cases_lt (first % 2 ^ size) (ones size)) [
      | inl low ↦ let whole = rw (lt-ltb (first % 2 ^ size) (ones size) low) at e in absurd (cc)
      | inr all_ones ↦
          let groups = rw (le-ltb (first % 2 ^ size) (ones size) all_ones) at e in
          let unfinished = unfinished_first (groups_reading (integer_limit size) (ones size) 0 rest) (λ n. (first / 2 ^ size, n)) groups in
          rw (le-ltb (first % 2 ^ size) (ones size) all_ones, groups_stay (integer_limit size) (ones size) 0 rest more (omega arith) unfinished all) refl
    ]

integer_follows : (size : ℕ) (next : ℕ → List ℕ → Wait) → ((n : ℕ) → Follows (next n)) → Follows (integer_wait size next)
integer_follows size next each [] more = first_follows (integer_wait size next) more refl
integer_follows size next each (first ∷ rest) more = by_reading (integer size (first ∷ rest)) refl (integer_stable size (first ∷ rest) more)
  where
    by_groups : (b : Bool) → are_empty_groups more ≡ b → integer size (first ∷ rest) ≡ Unfinished
        → IfSome (if b then Some wait.Integer else None) (λ w. integer_wait size next ((first ∷ rest) ++ more) ≡ w)
    by_groups true all unfinished = ap (λ r. behind_integer r wait.Integer next) (integer_stays size first rest more unfinished all)
    by_groups false all unfinished = tt

    by_reading : (r : Reading (ℕ × ℕ)) → integer size (first ∷ rest) ≡ r → Stays more r (integer size ((first ∷ rest) ++ more))
        → IfSome (behind (behind_integer r wait.Integer next) more) (λ w. integer_wait size next ((first ∷ rest) ++ more) ≡ w)
    by_reading (Whole head after) is stays = rw stays (each head.1 after more)
    by_reading Unfinished is stays = by_groups (are_empty_groups more) refl is
    by_reading Bad is stays = ap (λ r. behind_integer r wait.Integer next) stays

bytes_follow : (next : List ℕ → Wait) (count : ℕ) → Follows next → Follows (bytes_wait next count)
bytes_follow next count each front more =
    elim (cases_lt (length front) count) [
      | inl few ↦ rw (lt-ltb (length front) count few) (lacking few (cases_lt (length more) (count - length front)))
      | inr enough ↦
          let all : count ≤ length (front ++ more) = omega (arith, enough, length-append front more) in
          rw (le-ltb (length front) count enough, le-ltb (length (front ++ more)) count all, drop-append-le count front more enough) (each (drop count front) more)
    ]
  where
    lacking : length front < count → (length more < count - length front) ⊎ (count - length front ≤ length more) → IfSome (behind (wait.Bytes (count - length front)) more) (λ w. bytes_wait next count (front ++ more) ≡ w)
    lacking few (inl fewer) =
        let still : length (front ++ more) < count = omega (arith, few, fewer, length-append front more) in
        let left : count - length (front ++ more) ≡ count - length front - length more = omega (arith, few, fewer, length-append front more) in
        rw (lt-ltb (length more) (count - length front) fewer, lt-ltb (length (front ++ more)) count still) (ap (λ n. wait.Bytes n) left)
    lacking few (inr come) = rw (le-ltb (length more) (count - length front) come) tt

string_follows : (size : ℕ) (next : List ℕ → Wait) → Follows next → Follows (string_wait size next)
string_follows size next each = integer_follows (size - 1) (bytes_wait next) (λ count. bytes_follow next count each)

nothing_follows : Follows (λ bytes. wait.Nothing)
nothing_follows front more = refl

pick_follows : (b : Bool) (f g : List ℕ → Wait) (front more : List ℕ) → IfSome (behind (f front) more) (λ w. f (front ++ more) ≡ w) → IfSome (behind (g front) more) (λ w. g (front ++ more) ≡ w)
    → IfSome (behind (if b then f front else g front) more) (λ w. (if b then f (front ++ more) else g (front ++ more)) ≡ w)
pick_follows true f g front more p q = p
pick_follows false f g front more p q = q

number_follows : (size : ℕ) → Follows (number_wait size)
number_follows size = integer_follows size (λ n after. wait.Nothing) (λ n. nothing_follows)

last_string_follows : Follows (string_wait 8 (λ after. wait.Nothing))
last_string_follows = string_follows 8 (λ after. wait.Nothing) nothing_follows

encoder_follows : Follows encoder_wait
encoder_follows [] more = first_follows encoder_wait more refl
encoder_follows (first ∷ rest) more =
    pick_follows (nat_le 128 first) name_reference_wait (λ bytes. if nat_le 64 first then literal_name_wait bytes else number_wait 5 bytes) (first ∷ rest) more
    (integer_follows 6 (λ index. string_wait 8 (λ after. wait.Nothing)) (λ index. last_string_follows) (first ∷ rest) more)
    (pick_follows (nat_le 64 first) literal_name_wait (number_wait 5) (first ∷ rest) more
    (string_follows 6 (string_wait 8 (λ after. wait.Nothing)) last_string_follows (first ∷ rest) more) (number_follows 5 (first ∷ rest) more))

decoder_follows : Follows decoder_wait
decoder_follows [] more = first_follows decoder_wait more refl
decoder_follows (first ∷ rest) more =
    pick_follows (nat_le 128 first) (number_wait 7) (number_wait 6) (first ∷ rest) more (number_follows 7 (first ∷ rest) more) (number_follows 6 (first ∷ rest) more)

goes_on_as : (f : List ℕ → Wait) (before w : Wait) (front more unread : List ℕ) → Follows f → behind before more ≡ Some w → before ≡ f front → unread ≡ front ++ more → w ≡ f unread
goes_on_as f before w front more unread follows is begins all =
    let known = follows front more in
    let told = rw (sym begins, is) at known in
    sym (ap f all ∙ told)

-- What is known of the first bytes of an encoder instruction is known of all, without a look at them.
pub encoder_goes_on : (before w : Wait) (front more unread : List ℕ) → behind before more ≡ Some w → before ≡ encoder_wait front → unread ≡ front ++ more → w ≡ encoder_wait unread
encoder_goes_on before w front more unread = goes_on_as encoder_wait before w front more unread encoder_follows

-- So of a decoder instruction.
pub decoder_goes_on : (before w : Wait) (front more unread : List ℕ) → behind before more ≡ Some w → before ≡ decoder_wait front → unread ≡ front ++ more → w ≡ decoder_wait unread
decoder_goes_on before w front more unread = goes_on_as decoder_wait before w front more unread decoder_follows
