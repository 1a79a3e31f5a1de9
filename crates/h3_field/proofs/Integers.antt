-- The steps of reading and writing an integer.
use Rattle.std.proofs.Common.{◌≡◌, ℕ, zero, suc, ◌+◌, ◌*◌, ◌-◌, ◌/◌, ◌%◌, ◌^◌, ◌<◌, ◌≤◌, List, [], ◌∷◌, length, drop, get_or, refl, ap, sym, ◌∙◌, arith, lit<, bit_and, Ok, Err, false, ◌==◌}
use Rattle.std.proofs.lemmas.Bool.{false≢true, lt-ltb, le-ltb, lt-leb, le-leb}
use Rattle.std.proofs.lemmas.List.{drop_more, drop_all}
use Rattle.std.proofs.lemmas.Nat.{pow_pos, pow-add, shl_whole, and_mask, mul-add-lt}
use Rattle.std.proofs.lemmas.Grind.{pow_more}
use Rattle.std.proofs.Math.Nat.{pow-le-pow_right, le-mul_of_pos_right}
use Rattle.h3_field.specs.Integer.{ones}
use Rattle.h3_field.specs.Reading.{Whole, Unfinished, Bad, then_read}
use Rattle.h3_field.specs.IntegerAnswer.{AnswersInteger}
use Rattle.h3_field.specs.declared.prefix_int.Error.TheVariants.{Overflow, UnexpectedEnd}
use Rattle.h3_field.specs.IntegerReading.{integer, groups_reading, integer_limit}

pub power_of_128 : (place : ℕ) → 2 ^ (7 * place) ≡ 128 ^ place
power_of_128 zero = refl
power_of_128 (suc place) =
    let e : 7 * suc place ≡ 7 * place + 7 = omega arith in
    let n : suc place ≡ place + 1 = omega arith in
    let left : 2 ^ (7 * place + 7) ≡ 2 ^ (7 * place) * 2 ^ 7 = pow-add 2 (7 * place) 7 in
    rw (e, left, power_of_128 place, n, pow_more 128 place) refl

-- a group's worth, as it is shifted
pub shifted_worth : (group place : ℕ) → group < 128 → place ≤ 8 → (group * 2 ^ (7 * place) % 2 ^ 64 ≡ group * 128 ^ place)
shifted_worth group place h le = shl_whole group 7 (7 * place) 64 h (omega arith) ∙ ap (λ x. group * x) (power_of_128 place)

pub far_group : (limit sum group place : ℕ) → limit ≤ sum + 2 ^ 63 → 0 < group → 8 < place → limit ≤ sum + group * 128 ^ place
far_group limit sum group place near some far =
    let le : 128 ^ 9 ≤ 128 ^ place = pow-le-pow_right (lit< tt) far in
    let more : 128 ^ place ≤ 128 ^ place * group = le-mul_of_pos_right (128 ^ place) some in
    omega (arith, le, more, near)

-- one group more
pub group_bad : (limit sum place : ℕ) (bytes : List ℕ) (i : ℕ) → i < length bytes → limit ≤ sum + get_or bytes i 0 % 128 * 128 ^ place → groups_reading limit sum place (drop i bytes) ≡ Bad
group_bad limit sum place bytes i h out = rw (drop_more bytes i 0 h, le-leb limit (sum + get_or bytes i 0 % 128 * 128 ^ place) out) refl

pub group_last : (limit sum place : ℕ) (bytes : List ℕ) (i : ℕ) → i < length bytes → sum + get_or bytes i 0 % 128 * 128 ^ place < limit → get_or bytes i 0 < 128 → groups_reading limit sum place (drop i bytes) ≡ Whole (sum + get_or bytes i 0 % 128 * 128 ^ place) (drop (i + 1) bytes)
group_last limit sum place bytes i h within last = rw (drop_more bytes i 0 h, lt-leb limit (sum + get_or bytes i 0 % 128 * 128 ^ place) within, lt-ltb (get_or bytes i 0) 128 last) refl

pub group_more : (limit sum place : ℕ) (bytes : List ℕ) (i : ℕ) → i < length bytes → sum + get_or bytes i 0 % 128 * 128 ^ place < limit → 128 ≤ get_or bytes i 0 → groups_reading limit sum place (drop i bytes) ≡ groups_reading limit (sum + get_or bytes i 0 % 128 * 128 ^ place) (place + 1) (drop (i + 1) bytes)
group_more limit sum place bytes i h within more = rw (drop_more bytes i 0 h, lt-leb limit (sum + get_or bytes i 0 % 128 * 128 ^ place) within, le-ltb (get_or bytes i 0) 128 more) refl

masked : (first size all : ℕ) → all ≡ ones size → bit_and first all ≡ first % 2 ^ size
masked first size all e = rw e (and_mask first size)

pub answer_low : (size first all : ℕ) (bytes new : List ℕ) → 0 < length bytes → first ≡ get_or bytes 0 0 → all ≡ ones size → bit_and first all < all → new ≡ drop 1 bytes → AnswersInteger (integer size bytes) bytes new (Ok (first / 2 ^ size, bit_and first all))
answer_low size first all [] new h at is small e = absurd (omega arith)
answer_low size first all (x ∷ bytes) new h at is small e =
    let mask = masked first size all is in
    let small' : x % 2 ^ size < ones size = rw (mask, is, at) at small in
    rw (mask, at, lt-ltb (x % 2 ^ size) (ones size) small') (refl, e)

pub integer_full : (size first all : ℕ) (bytes : List ℕ) → 0 < length bytes → first ≡ get_or bytes 0 0 → all ≡ ones size → all ≤ bit_and first all →
    integer size bytes ≡ then_read (groups_reading (integer_limit size) (ones size) 0 (drop 1 bytes)) (λ n after. Whole (first / 2 ^ size, n) after)
integer_full size first all [] h at is full = absurd (omega arith)
integer_full size first all (x ∷ bytes) h at is full =
    let mask = masked first size all is in
    let full' : ones size ≤ x % 2 ^ size = rw (mask, is, at) at full in
    rw (le-ltb (x % 2 ^ size) (ones size) full', at) refl

pub answer_bad : (size first all : ℕ) (bytes new : List ℕ) → 0 < length bytes → first ≡ get_or bytes 0 0 → all ≡ ones size → all ≤ bit_and first all → groups_reading (integer_limit size) (ones size) 0 (drop 1 bytes) ≡ Bad → new ≡ bytes → AnswersInteger (integer size bytes) bytes new (Err Overflow)
answer_bad size first all bytes new h at is full e same = rw (integer_full size first all bytes h at is full, e) (refl, same)

pub answer_end : (size first all : ℕ) (bytes new : List ℕ) → 0 < length bytes → first ≡ get_or bytes 0 0 → all ≡ ones size → all ≤ bit_and first all → groups_reading (integer_limit size) (ones size) 0 (drop 1 bytes) ≡ Unfinished → new ≡ bytes → AnswersInteger (integer size bytes) bytes new (Err UnexpectedEnd)
answer_end size first all bytes new h at is full e same = rw (integer_full size first all bytes h at is full, e) (refl, same)

pub answer_whole : (size first all n : ℕ) (bytes new rest : List ℕ) → 0 < length bytes → first ≡ get_or bytes 0 0 → all ≡ ones size → all ≤ bit_and first all → groups_reading (integer_limit size) (ones size) 0 (drop 1 bytes) ≡ Whole n rest → new ≡ rest → AnswersInteger (integer size bytes) bytes new (Ok (first / 2 ^ size, n))
answer_whole size first all n bytes new rest h at is full e same = rw (integer_full size first all bytes h at is full, e) (refl, same)

-- all was read, and no group was the last one
pub groups_end : (limit sum place : ℕ) (bytes : List ℕ) (i : ℕ) → length bytes ≤ i → groups_reading limit sum place (drop i bytes) ≡ Unfinished
groups_end limit sum place bytes i h = rw (drop_all i bytes h) refl

pub some_bytes : (bytes : List ℕ) → false ≡ (length bytes == 0) → 0 < length bytes
some_bytes [] h = absurd (false≢true h)
some_bytes (x ∷ xs) h = omega arith

-- The loop over the groups: what the rest of them reads as, all of them read as.
pub record Groups (size first all : ℕ) (bytes : List ℕ) (sum i : ℕ) : Type 0 where
  pub some : 0 < length bytes
  pub at : first ≡ get_or bytes 0 0
  pub is : all ≡ ones size
  pub full : all ≤ bit_and first all
  pub same : groups_reading (integer_limit size) sum (i - 1) (drop i bytes) ≡ groups_reading (integer_limit size) (ones size) 0 (drop 1 bytes)

pub loop_bad : (size first all : ℕ) (bytes new : List ℕ) (sum i group : ℕ) → Groups size first all bytes sum i → i < length bytes → group ≡ get_or bytes i 0 % 128 → 2 ^ 63 + all ≤ sum + group * 128 ^ (i - 1) → new ≡ bytes → AnswersInteger (integer size bytes) bytes new (Err Overflow)
loop_bad size first all bytes new sum i group g there is out same =
    let out' : integer_limit size ≤ sum + get_or bytes i 0 % 128 * 128 ^ (i - 1) = rw (← g.is, ← is) out in
    answer_bad size first all bytes new g.some g.at g.is g.full (sym g.same ∙ group_bad (integer_limit size) sum (i - 1) bytes i there out') same

pub loop_last : (size first all : ℕ) (bytes new : List ℕ) (sum i group next : ℕ) → Groups size first all bytes sum i → i < length bytes → group ≡ get_or bytes i 0 % 128 → next ≡ sum + group * 128 ^ (i - 1) → next < 2 ^ 63 + all → get_or bytes i 0 < 128 → new ≡ drop (i + 1) bytes →
    AnswersInteger (integer size bytes) bytes new (Ok (first / 2 ^ size, next))
loop_last size first all bytes new sum i group next g there is value within last same =
    let value' : next ≡ sum + get_or bytes i 0 % 128 * 128 ^ (i - 1) = rw is at value in
    let within' : sum + get_or bytes i 0 % 128 * 128 ^ (i - 1) < integer_limit size = rw (g.is, value') at within in
    let read = sym g.same ∙ group_last (integer_limit size) sum (i - 1) bytes i there within' last in
    answer_whole size first all next bytes new (drop (i + 1) bytes) g.some g.at g.is g.full (rw (← value') at read) same

pub loop_more : (size first all : ℕ) (bytes : List ℕ) (sum i group next : ℕ) → Groups size first all bytes sum i → 1 ≤ i → i < length bytes → group ≡ get_or bytes i 0 % 128 → next ≡ sum + group * 128 ^ (i - 1) → next < 2 ^ 63 + all → 128 ≤ get_or bytes i 0 →
    Groups size first all bytes next (i + 1)
loop_more size first all bytes sum i group next g from there is value within more =
    let value' : next ≡ sum + get_or bytes i 0 % 128 * 128 ^ (i - 1) = rw is at value in
    let within' : sum + get_or bytes i 0 % 128 * 128 ^ (i - 1) < integer_limit size = rw (g.is, value') at within in
    let read = group_more (integer_limit size) sum (i - 1) bytes i there within' more in
    let place : i - 1 + 1 ≡ i + 1 - 1 = omega arith in
    record { some = g.some; at = g.at; is = g.is; full = g.full; same = sym (rw (← value', place) at read) ∙ g.same }

pub loop_end : (size first all : ℕ) (bytes new : List ℕ) (sum i : ℕ) → Groups size first all bytes sum i → length bytes ≤ i → new ≡ bytes → AnswersInteger (integer size bytes) bytes new (Err UnexpectedEnd)
loop_end size first all bytes new sum i g there same =
    answer_end size first all bytes new g.some g.at g.is g.full (sym g.same ∙ groups_end (integer_limit size) sum (i - 1) bytes i there) same

pub top_fits : (size flags low : ℕ) → size ≤ 8 → flags < 2 ^ (8 - size) → low ≤ ones size → (flags * 2 ^ size % 2 ^ 64 ≡ flags * 2 ^ size) × (flags * 2 ^ size + low < 256)
top_fits size flags low h few le =
    let whole = shl_whole flags (8 - size) size 64 few (omega arith) in
    let below : low < 2 ^ size = omega (arith, pow_pos size) in
    let place : flags * 2 ^ size + low < 2 ^ size * 2 ^ (8 - size) = mul-add-lt flags (2 ^ size) low (2 ^ (8 - size)) few below in
    let power : 2 ^ (size + (8 - size)) ≡ 2 ^ size * 2 ^ (8 - size) = pow-add 2 size (8 - size) in
    let eight : size + (8 - size) ≡ 8 = omega arith in
    let all : 2 ^ size * 2 ^ (8 - size) ≡ 256 = sym power ∙ ap (λ k. 2 ^ k) eight in
    (whole, omega (arith, place, all))
