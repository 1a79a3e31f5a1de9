-- What holds of pairs and of the bytes that they are read from.
use Rattle.std.specs.Prelude.{nat_eq}
use Rattle.std.proofs.Common.{◌≡◌, ℕ, ◌<◌, ◌≤◌, List, [], ◌∷◌, length, arith, sym, ◌∙◌, ap, refl, zero, suc, Option, Some, None, inl, inr, ◌⊎◌}
use Rattle.h3_coding.specs.Varint.{varint_at}
use Rattle.h3_coding.specs.VarintLaws.{shorter, cases_number}
use Rattle.std.specs.Cmp.{IsPartialEquivalence, and_per, on_per, nat_eq_equiv, partial_equiv_from_equiv}
use Rattle.std.specs.Cmp.Lexicographic.{pointwise, lists_per}
use Rattle.h3_proto.specs.Pairs.{same_pair, pair_at, with_value, with_id, behind, Split, split_within, split_of, BothAt}

equal_numbers : IsPartialEquivalence nat_eq
equal_numbers = partial_equiv_from_equiv nat_eq_equiv

pub same_pairs : IsPartialEquivalence (pointwise same_pair)
same_pairs = lists_per (and_per (on_per (λ (p : ℕ × ℕ). p.0) equal_numbers) (on_per (λ (p : ℕ × ℕ). p.1) equal_numbers))

pub no_id : (bytes : List ℕ) → varint_at bytes ≡ None → pair_at bytes ≡ None
no_id bytes e = ap with_value e

pub no_value : (id : ℕ) (bytes rest : List ℕ) → varint_at bytes ≡ Some (id, rest) → varint_at rest ≡ None → pair_at bytes ≡ None
no_value id bytes rest e k = ap with_value e ∙ ap (with_id id) k

pub both : (id value : ℕ) (bytes mid rest : List ℕ) → varint_at bytes ≡ Some (id, mid) → varint_at mid ≡ Some (value, rest) → pair_at bytes ≡ Some ((id, value), rest)
both id value bytes mid rest e k = ap with_value e ∙ ap (with_id id) k

pub both_at : (p : ℕ × ℕ) (bytes rest : List ℕ) → pair_at bytes ≡ Some (p, rest) → BothAt p bytes rest
both_at p bytes rest e = elim (cases_number bytes) [
  | inl none ↦ let here = no_id bytes none in absurd (cc)
  | inr i ↦ elim (cases_number i.1) [
    | inl none ↦ let here = no_value i.0 bytes i.1 i.2 none in absurd (cc)
    | inr v ↦
        let here = both i.0 v.0 bytes i.1 v.1 i.2 v.2 in
        let same : ((i.0, v.0), v.1) ≡ (p, rest) = cc in
        let ids : i.0 ≡ p.0 = ap (λ (q : (ℕ × ℕ) × List ℕ). q.0.0) same in
        let values : v.0 ≡ p.1 = ap (λ (q : (ℕ × ℕ) × List ℕ). q.0.1) same in
        let rests : v.1 ≡ rest = ap (λ (q : (ℕ × ℕ) × List ℕ). q.1) same in
        record { mid = i.1; id = rw (← ids) i.2; value = rw (← values, ← rests) v.2 }
  ]
]

-- a pair has at least two bytes
pub pair_shorter : (p : ℕ × ℕ) (bytes rest : List ℕ) → pair_at bytes ≡ Some (p, rest) → length rest < length bytes
pair_shorter p bytes rest e =
    let b = both_at p bytes rest e in
    omega (arith, shorter p.0 bytes b.mid b.id, shorter p.1 b.mid rest b.value)

pub cases_pair_of : (o : Option ((ℕ × ℕ) × List ℕ)) → {q : Option ((ℕ × ℕ) × List ℕ)} → q ≡ o → (q ≡ None) ⊎ ((p : ℕ × ℕ) × (rest : List ℕ) × (q ≡ Some (p, rest)))
cases_pair_of None e = inl e
cases_pair_of (Some q) e = inr (q.0, q.1, e)

-- a pair is at the front or none
pub cases_pair : (bytes : List ℕ) → (pair_at bytes ≡ None) ⊎ ((p : ℕ × ℕ) × (rest : List ℕ) × (pair_at bytes ≡ Some (p, rest)))
cases_pair bytes = cases_pair_of (pair_at bytes) refl

within_none : (n : ℕ) (bytes : List ℕ) → pair_at bytes ≡ None → split_within n bytes ≡ record { each = []; rest = bytes }
within_none zero bytes e = refl
within_none (suc n) bytes e = ap (λ o. behind bytes o (split_within n)) e

within_pair : (n : ℕ) (p : ℕ × ℕ) (bytes rest : List ℕ) → pair_at bytes ≡ Some (p, rest) → split_within (suc n) bytes ≡ record { each = (p, rest) ∷ (split_within n rest).each; rest = (split_within n rest).rest }
within_pair n p bytes rest e = ap (λ o. behind bytes o (split_within n)) e

-- as many steps as there are bytes are enough
within_same : (n m : ℕ) (bytes : List ℕ) → length bytes ≤ n → length bytes ≤ m → split_within n bytes ≡ split_within m bytes
within_same zero m bytes h k = elim (cases_pair bytes) [
  | inl none ↦ sym (within_none m bytes none)
  | inr some ↦ absurd (omega (arith, pair_shorter some.0 bytes some.1 some.2))
]
within_same (suc n) zero bytes h k = elim (cases_pair bytes) [
  | inl none ↦ within_none (suc n) bytes none
  | inr some ↦ absurd (omega (arith, pair_shorter some.0 bytes some.1 some.2))
]
within_same (suc n) (suc m) bytes h k = elim (cases_pair bytes) [
  | inl none ↦ within_none (suc n) bytes none ∙ sym (within_none (suc m) bytes none)
  | inr some ↦
      let less = pair_shorter some.0 bytes some.1 some.2 in
      let same = within_same n m some.1 (omega arith) (omega arith) in
      let grown : Split → Split = λ s. record { each = (some.0, some.1) ∷ s.each; rest = s.rest } in
      within_pair n some.0 bytes some.1 some.2 ∙ ap grown same ∙ sym (within_pair m some.0 bytes some.1 some.2)
]

pub split_none : (bytes : List ℕ) → pair_at bytes ≡ None → split_of bytes ≡ record { each = []; rest = bytes }
unfolding split_of
split_none bytes e = within_none (length bytes) bytes e

pub split_pair : (p : ℕ × ℕ) (bytes rest : List ℕ) → pair_at bytes ≡ Some (p, rest) → split_of bytes ≡ record { each = (p, rest) ∷ (split_of rest).each; rest = (split_of rest).rest }
unfolding split_of
split_pair p bytes rest e =
    let less = pair_shorter p bytes rest e in
    within_same (length bytes) (suc (length bytes)) bytes (omega arith) (omega arith) ∙ within_pair (length bytes) p bytes rest e
    ∙ ap (λ (s : Split). record { each = (p, rest) ∷ s.each; rest = s.rest }) (within_same (length bytes) (length rest) rest (omega arith) (omega arith))
