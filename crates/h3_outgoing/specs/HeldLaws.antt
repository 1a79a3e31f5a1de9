-- What stands in front of the places of a payload that the caller holds, and how many they are.
use Rattle.std.proofs.Common.{arith, ◌≡◌, ◌≤◌, ◌<◌, ◌^◌, ◌⊎◌, inl, inr, ℕ, zero, suc, List, [], ◌∷◌, ◌++◌, true, false, length, drop, refl, sym, ap, subst, ◌∙◌}
use Rattle.std.specs.Prelude.{nat_lt, if◌then◌else◌}
use Rattle.std.specs.List.{AllByRecursion}
use Rattle.std.proofs.lemmas.Bool.{cases_Bool, lt-ltb}
use Rattle.std.proofs.lemmas.List.{length-replicate}
use Rattle.h3_coding.specs.Encodings.{IsByte, encoding}
use Rattle.h3_coding.specs.Encodings.IsEncoding.{one, two, four, eight}
use Rattle.h3_coding.specs.EncodingLaws.{encoding_is_valid}
use Rattle.h3_coding.specs.ShortestLaws.{encoding_one}
use Rattle.h3_frames.specs.Encoded.{frame_encoding, head_encoding}
use Rattle.h3_frames.specs.Outgoing.{all_of}
use Rattle.h3_connection.specs.WaitingPieces.{frame_piece}
use Rattle.h3_outgoing.specs.Copied.{Filled}
use Rattle.h3_outgoing.specs.Held.{held, front_of, past_of, filled_with, Fronts}

-- a byte at the front, and a place at the front
pub front_in : (b : ℕ) (w : List ℕ) → nat_lt b 256 ≡ true → front_of (b ∷ w) ≡ b ∷ front_of w
front_in b w e = ap (λ t. if t then b ∷ front_of w else []) e

pub front_out : (b : ℕ) (w : List ℕ) → nat_lt b 256 ≡ false → front_of (b ∷ w) ≡ []
front_out b w e = ap (λ t. if t then b ∷ front_of w else []) e

pub past_in : (b : ℕ) (w : List ℕ) → nat_lt b 256 ≡ true → past_of (b ∷ w) ≡ 0
past_in b w e = ap (λ t. if t then 0 else suc (past_of w)) e

pub past_out : (b : ℕ) (w : List ℕ) → nat_lt b 256 ≡ false → past_of (b ∷ w) ≡ suc (past_of w)
past_out b w e = ap (λ t. if t then 0 else suc (past_of w)) e

-- bytes have no place among them
pub front_bytes : (xs : List ℕ) → AllByRecursion IsByte xs → front_of xs ≡ xs
front_bytes [] h = refl
front_bytes (x ∷ xs) h = front_in x xs (lt-ltb x 256 h.0) ∙ ap (λ l. x ∷ l) (front_bytes xs h.1)

pub bytes_front : (xs rest : List ℕ) → AllByRecursion IsByte xs → front_of (xs ++ rest) ≡ xs ++ front_of rest
bytes_front [] rest h = refl
bytes_front (x ∷ xs) rest h = front_in x (xs ++ rest) (lt-ltb x 256 h.0) ∙ ap (λ l. x ∷ l) (bytes_front xs rest h.1)

pub past_none : (n : ℕ) (xs : List ℕ) → AllByRecursion IsByte xs → past_of (drop n xs) ≡ 0
past_none zero [] h = refl
past_none (suc n) [] h = refl
past_none zero (x ∷ xs) h = past_in x xs (lt-ltb x 256 h.0)
past_none (suc n) (x ∷ xs) h = past_none n xs h.1

pub held_front : (n : ℕ) → front_of (held n) ≡ []
held_front zero = refl
held_front (suc n) = refl

pub held_past : (n : ℕ) → past_of (held n) ≡ n
held_past zero = refl
held_past (suc n) = ap (λ k. suc k) (held_past n)

-- bytes alone
pub only_bytes : (xs before out : List ℕ) (count : ℕ) → AllByRecursion IsByte xs → Filled xs before out count → Fronts xs before out count 0
only_bytes xs before out count h f = record { copied = subst (λ l. Filled l before out count) (sym (front_bytes xs h)) f; past = sym (past_none count xs h) }

-- where the first place is
pub front_within : (w : List ℕ) → length (front_of w) ≤ length w
front_within [] = omega arith
front_within (b ∷ w) = elim (cases_Bool (nat_lt b 256)) [
  | inl e ↦ omega (arith, ap length (front_in b w e), front_within w)
  | inr e ↦ omega (arith, ap length (front_out b w e))
]

-- Behind a place nothing more is in front of the first one; without one, what is in front of the rest.
pub cut : (w ys : List ℕ) → (front_of (w ++ ys) ≡ front_of w) ⊎ (front_of (w ++ ys) ≡ front_of w ++ front_of ys)
cut [] ys = inr refl
cut (b ∷ w) ys = elim (cases_Bool (nat_lt b 256)) [
  | inl e ↦ elim (cut w ys) [
    | inl same ↦ inl (front_in b (w ++ ys) e ∙ ap (λ l. b ∷ l) same ∙ sym (front_in b w e))
    | inr more ↦ inr (front_in b (w ++ ys) e ∙ ap (λ l. b ∷ l) more ∙ sym (ap (λ l. l ++ front_of ys) (front_in b w e)))
  ]
  | inr e ↦ inl (front_out b (w ++ ys) e ∙ sym (front_out b w e))
]

-- The type of a frame is a byte, so nothing of what comes behind a payload is a place of it.
pub begins : (kind : ℕ) (payload rest : List ℕ) → kind < 64 → past_of (all_of (frame_piece kind payload) ++ rest) ≡ 0
begins kind payload rest small =
    ap (λ l. past_of (((l ++ encoding (length payload)) ++ payload) ++ rest)) (encoding_one kind small)
    ∙ past_in kind ((encoding (length payload) ++ payload) ++ rest) (lt-ltb kind 256 (omega (arith, small)))

-- With bytes of the caller's in its places, what is announced of a body is the DATA frame of these bytes, whatever they are.
none_filled : (wire : List ℕ) → filled_with wire [] ≡ wire
none_filled [] = refl
none_filled (b ∷ wire) = refl

pass_bytes : (xs rest bytes : List ℕ) → AllByRecursion IsByte xs → filled_with (xs ++ rest) bytes ≡ xs ++ filled_with rest bytes
pass_bytes [] rest bytes h = refl
pass_bytes (x ∷ xs) rest [] h = ap (λ l. x ∷ l) (sym (none_filled (xs ++ rest)) ∙ pass_bytes xs rest [] h.1)
pass_bytes (x ∷ xs) rest (byte ∷ bytes) h =
    ap (λ t. if t then x ∷ filled_with (xs ++ rest) (byte ∷ bytes) else byte ∷ filled_with (xs ++ rest) bytes) (lt-ltb x 256 h.0) ∙ ap (λ l. x ∷ l) (pass_bytes xs rest (byte ∷ bytes) h.1)

both_bytes : (xs ys : List ℕ) → AllByRecursion IsByte xs → AllByRecursion IsByte ys → AllByRecursion IsByte (xs ++ ys)
both_bytes [] ys h k = k
both_bytes (x ∷ xs) ys h k = (h.0, both_bytes xs ys h.1 k)

encoding_bytes : (n : ℕ) → n < 2 ^ 62 → AllByRecursion IsByte (encoding n)
encoding_bytes n small = elim (encoding_is_valid n small) [
  | one f ↦ f.each
  | two f ↦ f.each
  | four f ↦ f.each
  | eight f ↦ f.each
]

fill_places : (bytes : List ℕ) → filled_with (held (length bytes)) bytes ≡ bytes
fill_places [] = refl
fill_places (byte ∷ bytes) = ap (λ l. byte ∷ l) (fill_places bytes)

pub filled : (bytes : List ℕ) → length bytes < 2 ^ 62 → filled_with (frame_encoding 0 (held (length bytes))) bytes ≡ frame_encoding 0 bytes
filled bytes small =
    let head = head_encoding 0 (length bytes) in
    ap (λ n. filled_with (head_encoding 0 n ++ held (length bytes)) bytes) (length-replicate (length bytes) 256)
    ∙ pass_bytes head (held (length bytes)) bytes (both_bytes (encoding 0) (encoding (length bytes)) (encoding_bytes 0 (omega arith)) (encoding_bytes (length bytes) small))
    ∙ ap (λ l. head ++ l) (fill_places bytes)
