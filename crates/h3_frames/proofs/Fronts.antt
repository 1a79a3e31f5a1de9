-- What a read takes is a front of the bytes.
use Rattle.std.proofs.Common.{◌≡◌, ℕ, zero, suc, ◌≤◌, List, [], ◌∷◌, ◌++◌, length, take, drop, arith, sym, ◌∙◌, ap, ap₂, subst, inl, inr, append_assoc, take-append-drop, Some, None, Result, Ok, Err, OnErr}
use Rattle.h3_coding.specs.Encodings.{IsUnfinished, empty, short}
use Rattle.h3_coding.specs.Reading.{Takes}
use Rattle.h3_coding.specs.Varint.{varint_at}
use Rattle.h3_coding.specs.VarintLaws.{begins, cases_number}
use Rattle.h3_proto.specs.Pairs.{pair_at, split_of}
use Rattle.h3_proto.specs.PairLaws.{cases_pair, both_at, pair_shorter, split_none, split_pair}
use Rattle.h3_proto.specs.Settings.{received, left_if, behind_id, left_of_pair, left_behind, left_of}
use Rattle.h3_proto.specs.declared.frame.SettingsError.{SettingsError}
use Rattle.h3_frames.specs.Frames.{TakesFront}

pub front_none : (old new : List ℕ) → new ≡ old → TakesFront old new
front_none old new e = ([], sym e)

pub front_then : (a b c : List ℕ) → TakesFront a b → TakesFront b c → TakesFront a c
front_then a b c x y = (x.0 ++ y.0, x.1 ∙ ap (λ l. x.0 ++ l) y.1 ∙ sym (append_assoc x.0 y.0 c))

pub front_drop : (n : ℕ) (old new : List ℕ) → new ≡ drop n old → TakesFront old new
front_drop n old new e = (take n old, sym (take-append-drop n old) ∙ ap (λ l. take n old ++ l) (sym e))

-- a front is taken, and an error takes more
pub on_front : {T E : Type 0} (r : Result T E) (a b c : List ℕ) → TakesFront a b → OnErr r (TakesFront b c) → OnErr r (TakesFront a c)
on_front (Ok v) a b c x y = tt
on_front (Err e) a b c x y = front_then a b c x y

pub front_takes : (P : List ℕ → Type 0) (old new : List ℕ) → Takes P old new → TakesFront old new
front_takes P old new t = (t.octets, t.parts)

pub front_unfinished : (old new : List ℕ) (count : ℕ) → IsUnfinished old count new → TakesFront old new
front_unfinished old new count (empty a b c) = ([], a ∙ sym c)
front_unfinished old new count (short first b parts n few) = (first ∷ [], parts)

-- a number is taken
pub front_number : (v : ℕ) (old new : List ℕ) → varint_at old ≡ Some (v, new) → TakesFront old new
front_number v old new e = let b = begins v old new e in (b.first ∷ b.more, b.parts)

-- and one that lies within the first bytes
pub front_within : (v len left : ℕ) (old new : List ℕ) → varint_at (take len old) ≡ Some (v, take left new) → drop len old ≡ drop left new → TakesFront old new
front_within v len left old new e same =
    let b = front_number v (take len old) (take left new) e in
    (b.0, sym (take-append-drop len old) ∙ ap₂ (λ x y. x ++ y) b.1 same ∙ append_assoc b.0 (take left new) (drop left new) ∙ ap (λ l. b.0 ++ l) (take-append-drop left new))

front_id : (bytes : List ℕ) → TakesFront bytes (left_of_pair bytes)
front_id bytes = elim (cases_number bytes) [
  | inl none ↦ front_none bytes _ (ap (behind_id bytes) none)
  | inr k ↦ subst (TakesFront bytes) (sym (ap (behind_id bytes) k.2)) (front_number k.0 bytes k.1 k.2)
]

front_pair : (p : ℕ × ℕ) (bytes rest : List ℕ) → pair_at bytes ≡ Some (p, rest) → TakesFront bytes rest
front_pair p bytes rest e =
    let b = both_at p bytes rest e in
    front_then bytes b.mid rest (front_number p.0 bytes b.mid b.id) (front_number p.1 b.mid rest b.value)

front_if : (r : Result (List (ℕ × ℕ)) SettingsError) (bytes rest : List ℕ) (go : List (ℕ × ℕ) → List ℕ) → TakesFront bytes rest → ((k : List (ℕ × ℕ)) → TakesFront rest (go k)) → TakesFront bytes (left_if r rest go)
front_if (Ok k) bytes rest go x y = front_then bytes rest (go k) x (y k)
front_if (Err e) bytes rest go x y = x

front_pairs : (kept : List (ℕ × ℕ)) (p : ℕ × ℕ) (bytes rest : List ℕ) → pair_at bytes ≡ Some (p, rest) → ((k : List (ℕ × ℕ)) → TakesFront rest (left_behind k (split_of rest))) → TakesFront bytes (left_behind kept (split_of bytes))
front_pairs kept p bytes rest e behind =
    subst (λ s. TakesFront bytes (left_behind kept s)) (sym (split_pair p bytes rest e))
    (front_if (received kept p) bytes rest (λ k. left_behind k (split_of rest)) (front_pair p bytes rest e) behind)

front_no_pair : (kept : List (ℕ × ℕ)) (bytes : List ℕ) → pair_at bytes ≡ None → TakesFront bytes (left_behind kept (split_of bytes))
front_no_pair kept bytes none = subst (λ s. TakesFront bytes (left_behind kept s)) (sym (split_none bytes none)) (front_id bytes)

-- what is left of a payload of settings is its end
front_behind : (n : ℕ) (kept : List (ℕ × ℕ)) (bytes : List ℕ) → length bytes ≤ n → TakesFront bytes (left_behind kept (split_of bytes))
front_behind zero kept bytes h = elim (cases_pair bytes) [
  | inl none ↦ front_no_pair kept bytes none
  | inr q ↦ absurd (omega (arith, pair_shorter q.0 bytes q.1 q.2))
]
front_behind (suc n) kept bytes h = elim (cases_pair bytes) [
  | inl none ↦ front_no_pair kept bytes none
  | inr q ↦ front_pairs kept q.0 bytes q.1 q.2 (λ k. front_behind n k q.1 (omega (arith, pair_shorter q.0 bytes q.1 q.2)))
]

pub front_settings : (len : ℕ) (old new : List ℕ) → new ≡ left_of (take len old) ++ drop len old → TakesFront old new
front_settings len old new e =
    let f = front_behind (length (take len old)) [] (take len old) (omega arith) in
    (f.0, sym (take-append-drop len old) ∙ ap (λ l. l ++ drop len old) f.1 ∙ append_assoc f.0 (left_of (take len old)) (drop len old) ∙ ap (λ l. f.0 ++ l) (sym e))
