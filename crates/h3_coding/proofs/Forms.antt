-- What the first byte of an encoding tells, and what the whole encoding is.
use Rattle.std.proofs.Common.{◌≡◌, ℕ, ◌-◌, ◌*◌, ◌/◌, ◌%◌, ◌^◌, ◌<◌, ◌≤◌, List, [], ◌∷◌, length, take, drop, get_or, arith, lit<, ap, refl, length-take-le}
use Rattle.std.specs.List.{AllByRecursion}
use Rattle.std.proofs.lemmas.List.{take-append-drop}
use Rattle.std.proofs.Math.Nat.{pow-le-pow_right}
use Rattle.h3_coding.specs.Encodings.{big_endian, IsByte, IsEncoding, IsUnfinished, short}
use Rattle.h3_coding.specs.EncodingLaws.{form}
use Rattle.h3_coding.specs.Reading.{Takes}

pub few_more : (first size : ℕ) → first < 256 → size ≡ 2 ^ (first / 64) → size - 1 < 8
few_more first size h e =
    let few : first / 64 ≤ 3 = omega arith in
    let le : 2 ^ (first / 64) ≤ 2 ^ 3 = pow-le-pow_right (lit< tt) few in
    omega arith

pub below_limit : (number more : ℕ) → number < 64 * 256 ^ more → more < 8 → number < 2 ^ 62
below_limit number more h k =
    let few : more ≤ 7 = omega arith in
    let le : 256 ^ more ≤ 256 ^ 7 = pow-le-pow_right (lit< tt) few in
    omega arith

-- The first byte and the bytes that it asks for are taken.
pub takes_form : (all next rest : List ℕ) (first low size number : ℕ) → first < 256 → size ≡ 2 ^ (first / 64) → 0 < length all → first ≡ get_or all 0 0 → low ≡ first % 64 → next ≡ drop 1 all → size - 1 ≤ length next → AllByRecursion IsByte (take (size - 1) next) → number ≡ big_endian (low ∷ take (size - 1) next) → number < 64 * 256 ^ (size - 1) → rest ≡ drop (size - 1) next → Takes (IsEncoding number) all rest
takes_form [] next rest first low size number h e some at is_low is_next enough each value below is_rest = absurd (omega arith)
takes_form (x ∷ xs) next rest first low size number h e some at is_low is_next enough each value below is_rest =
    let bytes = take (size - 1) next in
    let len : length bytes ≡ size - 1 = length-take-le (size - 1) next enough in
    let len' : length bytes ≡ 2 ^ (first / 64) - 1 = rw (← e) len in
    let value' : number ≡ big_endian (first % 64 ∷ bytes) = rw is_low at value in
    let room : number < 64 * 256 ^ length bytes = rw len below in
    let below' : big_endian (first % 64 ∷ bytes) < 64 * 256 ^ length bytes = omega (arith, room, value') in
    record {
      octets = first ∷ bytes;
      is_encoding = rw value' (form (first / 64) first bytes h refl len' each below');
      parts = rw (at, is_rest, take-append-drop (size - 1) next, is_next) refl;
    }

-- Fewer bytes are there than the first one asks for.
pub short_form : (all new : List ℕ) (first size count : ℕ) → first < 256 → size ≡ 2 ^ (first / 64) → 0 < length all → first ≡ get_or all 0 0 → new ≡ drop 1 all → length new < size - 1 → count ≡ first / 64 → IsUnfinished all count new
short_form [] new first size count byte e some at rest few k = absurd (omega arith)
short_form (x ∷ xs) new first size count byte e some at rest few k =
    short first byte (rw (at, rest) refl) k (rw (k, ← e) (omega (arith, ap length rest)))
