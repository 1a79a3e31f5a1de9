-- What holds of the reading of integers.
use Rattle.std.proofs.Common.{◌≡◌, ℕ, zero, suc, ◌+◌, ◌*◌, ◌-◌, ◌/◌, ◌%◌, ◌^◌, ◌<◌, ◌≤◌, nat_lt, nat_le, List, [], ◌∷◌, ◌++◌, refl, ap, ◌∙◌, arith, inl, inr}
use Rattle.std.proofs.lemmas.Bool.{lt-ltb, le-ltb, cases_lt, lt-leb}
use Rattle.std.proofs.lemmas.Nat.{mod-mul-add, div-mul-add, pow_pos}
use Rattle.std.proofs.lemmas.Grind.{pow_more}
use Rattle.h3_field.specs.Integer.{ones, prefixed, groups}
use Rattle.h3_field.specs.Reading.{Whole, IsStable}
use Rattle.h3_field.specs.ReadingLaws.{then_stable, stays_if}
use Rattle.h3_field.specs.IntegerReading.{integer, groups_reading, integer_limit, groups_worth, AreGroups, IsInteger, InPrefix, Behind}

pub groups_stable : (limit sum place : ℕ) → IsStable (groups_reading limit sum place)
groups_stable limit sum place [] more = tt
groups_stable limit sum place (byte ∷ rest) more =
    stays_if more (nat_le limit (sum + byte % 128 * 128 ^ place)) _ _ _ _ refl
    (stays_if more (nat_lt byte 128) _ _ _ _ refl (groups_stable limit (sum + byte % 128 * 128 ^ place) (place + 1) rest more))

pub integer_stable : (size : ℕ) → IsStable (integer size)
integer_stable size [] more = tt
integer_stable size (first ∷ rest) more =
    stays_if more (nat_lt (first % 2 ^ size) (ones size)) _ _ _ _ refl
    (then_stable (groups_reading (integer_limit size) (ones size) 0) (λ n after. Whole (first / 2 ^ size, n) after) (groups_stable (integer_limit size) (ones size) 0) (λ n bytes m. refl) rest more)

-- groups that are in range are read whole
pub groups_read : (limit sum place : ℕ) (groups rest : List ℕ) → AreGroups groups → sum + groups_worth groups * 128 ^ place < limit → groups_reading limit sum place (groups ++ rest) ≡ Whole (sum + groups_worth groups * 128 ^ place) rest
groups_read limit sum place [] rest h lt = absurd h
groups_read limit sum place (byte ∷ []) rest h lt =
    let worth : byte % 128 + 128 * 0 ≡ byte % 128 = omega arith in
    let within : sum + byte % 128 * 128 ^ place < limit = rw worth at lt in
    rw (lt-leb limit (sum + byte % 128 * 128 ^ place) within, lt-ltb byte 128 h, worth) refl
groups_read limit sum place (byte ∷ next ∷ groups) rest h lt =
    let w = groups_worth (next ∷ groups) in
    let power : 128 ^ (place + 1) ≡ 128 ^ place * 128 = pow_more 128 place in
    let same : sum + byte % 128 * 128 ^ place + w * 128 ^ (place + 1) ≡ sum + (byte % 128 + 128 * w) * 128 ^ place = rw power (omega arith) in
    let within : sum + byte % 128 * 128 ^ place < limit = omega (arith, lt, same) in
    let more = groups_read limit (sum + byte % 128 * 128 ^ place) (place + 1) (next ∷ groups) rest h.1 (rw same lt) in
    rw (lt-leb limit (sum + byte % 128 * 128 ^ place) within, le-ltb byte 128 h.0) (more ∙ ap (λ x. Whole x rest) same)

pub are_cons : (byte : ℕ) (groups : List ℕ) → 128 ≤ byte → AreGroups groups → AreGroups (byte ∷ groups)
are_cons byte [] h p = absurd p
are_cons byte (next ∷ groups) h p = (h, p)

pub pow_size : (size : ℕ) → ones size + 1 ≡ 2 ^ size
pow_size size = omega (arith, pow_pos size)

-- every encoding of a number in range is read, whatever follows
pub integer_read : (size flags n : ℕ) (octets rest : List ℕ) → IsInteger size flags n octets → n < integer_limit size → integer size (octets ++ rest) ≡ Whole (flags, n) rest
integer_read size flags n octets rest (InPrefix small) lt =
    let below : n < 2 ^ size = omega (arith, pow_size size) in
    rw (mod-mul-add flags (2 ^ size) n below, div-mul-add flags (2 ^ size) n below, lt-ltb n (ones size) small) refl
integer_read size flags n octets rest (Behind groups are value) lt =
    let below : ones size < 2 ^ size = omega (arith, pow_size size) in
    let worth : groups_worth groups * 128 ^ 0 ≡ groups_worth groups = omega arith in
    let within : ones size + groups_worth groups * 128 ^ 0 < integer_limit size = rw (worth, ← value) lt in
    let read = groups_read (integer_limit size) (ones size) 0 groups rest are within in
    rw (mod-mul-add flags (2 ^ size) (ones size) below, div-mul-add flags (2 ^ size) (ones size) below, le-ltb (ones size) (ones size) (omega arith), read, worth, ← value) refl

-- what is written
shortest_groups : (k m : ℕ) → m < 128 ^ suc k → AreGroups (groups (suc k) m) × (groups_worth (groups (suc k) m) ≡ m)
shortest_groups zero m h =
    let small : m < 128 = omega arith in
    rw (lt-ltb m 128 small) (small, omega arith)
shortest_groups (suc k) m h =
    elim (cases_lt m 128) [
      | inl small ↦ rw (lt-ltb m 128 small) (small, omega arith)
      | inr large ↦
          let power : 128 ^ (suc k + 1) ≡ 128 ^ suc k * 128 = pow_more 128 (suc k) in
          let next : suc k + 1 ≡ suc (suc k) = omega arith in
          let below : m / 128 < 128 ^ suc k = omega (arith, rw next at power, h) in
          let ih = shortest_groups k (m / 128) below in
          let low : (128 + m % 128) % 128 ≡ m % 128 = omega arith in
          rw (le-ltb m 128 large) (are_cons (128 + m % 128) (groups (suc k) (m / 128)) (omega arith) ih.0, rw (low, ih.1) (omega arith))
    ]

pub prefixed_encodes : (size flags n : ℕ) → n < integer_limit size → IsInteger size flags n (prefixed size flags n)
prefixed_encodes size flags n h =
    elim (cases_lt n (ones size)) [
      | inl small ↦ rw (lt-ltb n (ones size) small) (InPrefix small)
      | inr large ↦
          let behind = shortest_groups 8 (n - ones size) (omega arith) in
          rw (le-ltb n (ones size) large) (Behind (groups 9 (n - ones size)) behind.0 (omega (arith, behind.1)))
    ]

-- what is written is read, whatever follows
pub prefixed_read : (size flags n : ℕ) (rest : List ℕ) → n < integer_limit size → integer size (prefixed size flags n ++ rest) ≡ Whole (flags, n) rest
prefixed_read size flags n rest h = integer_read size flags n (prefixed size flags n) rest (prefixed_encodes size flags n h) h
