-- Only an encoding of a number in range is read as an integer.
use Rattle.std.proofs.Common.{◌≡◌, ℕ, ◌+◌, ◌*◌, ◌/◌, ◌%◌, ◌^◌, ◌<◌, List, [], ◌∷◌, ◌++◌, refl, ap, sym, ◌∙◌, arith, inl, inr}
use Rattle.std.proofs.lemmas.Bool.{lt-ltb, le-ltb, cases_lt, lt-leb, le-leb}
use Rattle.std.proofs.lemmas.Nat.{pow_pos, shr_split, mod_below}
use Rattle.std.proofs.lemmas.Grind.{pow_more}
use Rattle.h3_field.specs.Integer.{ones}
use Rattle.h3_field.specs.Reading.{Reading, Whole, Unfinished, Bad, then_read}
use Rattle.h3_field.specs.IntegerReading.{integer, groups_reading, integer_limit, groups_worth, AreGroups, IsInteger, InPrefix, Behind}
use Rattle.h3_field.specs.IntegerSteps.{Encoded}
use Rattle.h3_field.specs.IntegerLaws.{are_cons, pow_size}

-- What a reading of groups tells of the bytes.
pub record Found (limit sum place n : ℕ) (bytes rest : List ℕ) : Type 0 where
  pub groups : List ℕ
  pub parts : bytes ≡ groups ++ rest
  pub are_groups : AreGroups groups
  pub value : n ≡ sum + groups_worth groups * 128 ^ place
  pub within : n < limit

pub groups_found : (limit sum place n : ℕ) (bytes rest : List ℕ) → groups_reading limit sum place bytes ≡ Whole n rest → Found limit sum place n bytes rest
groups_found limit sum place n [] rest e = absurd (cc)
groups_found limit sum place n (byte ∷ bytes) rest e =
    let total = sum + byte % 128 * 128 ^ place in
    elim (cases_lt total limit) [
      | inr out ↦ let bad = rw (le-leb limit total out) at e in absurd (cc)
      | inl within ↦
          let next = rw (lt-leb limit total within) at e in
          elim (cases_lt byte 128) [
            | inl last ↦
                let whole = rw (lt-ltb byte 128 last) at next in
                let worth : byte % 128 + 128 * 0 ≡ byte % 128 = omega arith in
                let same : total ≡ n = cc in
                record { groups = byte ∷ []; parts = cc; are_groups = last; value = rw worth (sym same); within = rw (← same) within }
            | inr more ↦
                let rest_of = rw (le-ltb byte 128 more) at next in
                let found = groups_found limit total (place + 1) n bytes rest rest_of in
                let power : 128 ^ (place + 1) ≡ 128 ^ place * 128 = pow_more 128 place in
                let same : total + groups_worth found.groups * 128 ^ (place + 1) ≡ sum + (byte % 128 + 128 * groups_worth found.groups) * 128 ^ place = rw power (omega arith) in
                record { groups = byte ∷ found.groups; parts = ap (λ x. byte ∷ x) found.parts; are_groups = are_cons byte found.groups more found.are_groups; value = found.value ∙ same; within = found.within }
          ]
    ]

pair_parts : {A B : Type 0} (a c : A) (b d : B) → ◌≡◌ {A = A × B} (a, b) (c, d) → (a ≡ c) × (b ≡ d)
pair_parts a c b d e = (ap (λ x. x.0) e, ap (λ x. x.1) e)

whole_parts : {A : Type 0} (v w : A) (r s : List ℕ) → Whole v r ≡ Whole w s → (v ≡ w) × (r ≡ s)
whole_parts v w r s e = (cc, cc)

then_whole : (r : Reading ℕ) (above flags n : ℕ) (rest : List ℕ) → then_read {B = ℕ × ℕ} r (λ m after. Whole (above, m) after) ≡ Whole (flags, n) rest → (r ≡ Whole n rest) × (above ≡ flags)
then_whole (Whole m after) above flags n rest e =
    let whole = whole_parts (above, m) (flags, n) after rest e in
    let pair = pair_parts above flags m n whole.0 in
    (rw (pair.1, whole.1) refl, pair.0)
then_whole Unfinished above flags n rest e = absurd (cc)
then_whole Bad above flags n rest e = absurd (cc)

pub integer_found : (size flags n : ℕ) (bytes rest : List ℕ) → integer size bytes ≡ Whole (flags, n) rest → Encoded size flags n bytes rest
integer_found size flags n [] rest e = absurd (cc)
integer_found size flags n (first ∷ bytes) rest e =
    let low = first % 2 ^ size in
    let split : first / 2 ^ size * 2 ^ size + first % 2 ^ size ≡ first = shr_split first size in
    elim (cases_lt low (ones size)) [
      | inl small ↦
          let whole = whole_parts (first / 2 ^ size, low) (flags, n) bytes rest (rw (lt-ltb low (ones size) small) at e) in
          let pair = pair_parts (first / 2 ^ size) flags low n whole.0 in
          let within : n < ones size = rw (← pair.1) small in
          let same : flags * 2 ^ size + n ≡ first = rw (← pair.0, ← pair.1) split in
          let encoded : IsInteger size flags n ((flags * 2 ^ size + n) ∷ []) = InPrefix within in
          record { octets = first ∷ []; parts = ap (λ x. first ∷ x) whole.1; encodes = rw same at encoded; within = omega arith }
      | inr full ↦
          let found = then_whole _ (first / 2 ^ size) flags n rest (rw (le-ltb low (ones size) full) at e) in
          let groups = groups_found (integer_limit size) (ones size) 0 n bytes rest found.0 in
          let below : low < 2 ^ size = mod_below first (2 ^ size) (pow_pos size) in
          let top : low ≡ ones size = omega (arith, below, pow_size size) in
          let same : flags * 2 ^ size + ones size ≡ first = rw (← found.1, ← top) split in
          let worth : groups_worth groups.groups * 128 ^ 0 ≡ groups_worth groups.groups = omega arith in
          let value : n ≡ ones size + groups_worth groups.groups = rw worth at groups.value in
          let encoded : IsInteger size flags n ((flags * 2 ^ size + ones size) ∷ groups.groups) = Behind groups.groups groups.are_groups value in
          record { octets = first ∷ groups.groups; parts = ap (λ x. first ∷ x) groups.parts; encodes = rw same at encoded; within = groups.within }
    ]
