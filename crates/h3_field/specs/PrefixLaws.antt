-- A written section prefix is read back.
use Rattle.std.proofs.Common.{◌≡◌, ℕ, zero, suc, ◌+◌, ◌*◌, ◌%◌, ◌<◌, ◌≤◌, ◌==◌, Bool, true, false, List, ◌++◌, refl, arith, inl, inr, append_assoc}
use Rattle.std.proofs.lemmas.Bool.{lt-ltb, le-ltb, cases_lt, ne_eqb}
use Rattle.h3_field.specs.Integer.{prefixed}
use Rattle.h3_field.specs.IntegerReading.{integer_limit}
use Rattle.h3_field.specs.IntegerLaws.{prefixed_read}
use Rattle.h3_field.specs.Reading.{Whole}
use Rattle.h3_field.specs.Prefix.{most_entries, prefix_bytes, IsRequiredCount}
use Rattle.h3_field.specs.PrefixReading.{EncodedPrefix, prefix, IsPrefix}
use Rattle.h3_field.specs.PrefixWriting.{written_prefix, encoded_bytes}

reads : (encoded delta : ℕ) (sign : Bool) (rest : List ℕ) → encoded < integer_limit 8 → delta < integer_limit 7 → prefix (encoded_bytes (record { encoded = encoded; is_negative = sign; delta = delta }) ++ rest) ≡ Whole (record { encoded = encoded; is_negative = sign; delta = delta }) rest
reads encoded delta true rest h k =
    rw (append_assoc (prefixed 8 0 encoded) (prefixed 7 1 delta) rest, prefixed_read 8 0 encoded (prefixed 7 1 delta ++ rest) h, prefixed_read 7 1 delta rest k) refl
reads encoded delta false rest h k =
    rw (append_assoc (prefixed 8 0 encoded) (prefixed 7 0 delta) rest, prefixed_read 8 0 encoded (prefixed 7 0 delta ++ rest) h, prefixed_read 7 0 delta rest k) refl

-- what is written is read, whatever follows
pub prefix_reads_back : (p : EncodedPrefix) (rest : List ℕ) → p.encoded < integer_limit 8 → p.delta < integer_limit 7 → prefix (encoded_bytes p ++ rest) ≡ Whole p rest
prefix_reads_back p rest h k = reads p.encoded p.delta p.is_negative rest h k

-- the encoding of a count and a base
pub prefix_is_written : (capacity count base : ℕ) → prefix_bytes capacity count base ≡ encoded_bytes (written_prefix capacity count base)
prefix_is_written capacity zero base = refl
prefix_is_written capacity (suc n) base =
    let some : (suc n == 0) ≡ false = ne_eqb (suc n) 0 (λ e. absurd (omega (arith, e))) in
    elim (cases_lt base (suc n)) [
      | inl below ↦ rw (some, lt-ltb base (suc n) below) refl
      | inr above ↦ rw (some, le-ltb base (suc n) above) refl
    ]

-- a reader within the window takes the count and the base that were written
pub prefix_is_read : (capacity inserted count base : ℕ) → 0 < capacity → (count ≡ 0 → base ≡ 0) → inserted < count + most_entries capacity → count ≤ inserted + most_entries capacity → IsPrefix capacity inserted (written_prefix capacity count base) count base
prefix_is_read capacity inserted zero base some none old new = inr (some, inl (refl, refl), omega (arith, none refl))
prefix_is_read capacity inserted (suc n) base some none old new =
    let positive : (suc n == 0) ≡ false = ne_eqb (suc n) 0 (λ e. absurd (omega (arith, e))) in
    let count : IsRequiredCount capacity inserted (suc n % (2 * most_entries capacity) + 1) (suc n) = record { positive = omega arith; residue = refl; not_too_old = old; not_too_new = new } in
    elim (cases_lt base (suc n)) [
      | inl below ↦ rw (positive, lt-ltb base (suc n) below) (inr (some, inr (omega arith, count), omega (arith, below)))
      | inr above ↦ rw (positive, le-ltb base (suc n) above) (inr (some, inr (omega arith, count), omega (arith, above)))
    ]
