-- What setting a stream does to the others.
use Rattle.std.proofs.Common.{arith, ◌≡◌, ℕ, Bool, true, false, [], ◌∷◌, refl, sym, ◌∙◌, ap, subst, inl, inr}
use Rattle.std.specs.Prelude.{Some, unwrap_or, ◌==◌, ◌≢◌, if◌then◌else◌}
use Rattle.std.proofs.lemmas.Grind.{common_steps}
use Rattle.std.proofs.lemmas.Bool.{cases_eq}
use Rattle.h3_connection.specs.StreamSets.{Streams, HaveDistinctIds, stream_at, set_stream}

same_id : (n : ℕ) → (n == n) ≡ true
same_id n = grind (arith, common_steps)

pub other_id : (q id : ℕ) → q ≢ id → (id == q) ≡ false
other_id q id ne = grind (arith, common_steps)

-- it is there
pub set-here : {X : Type 0} (streams : Streams X) (id : ℕ) (x : X) → stream_at (set_stream streams id x) id ≡ Some x
set-here [] id x = rw (same_id id) refl
set-here ((q, y) ∷ streams) id x = grind (arith, common_steps, set-here streams id x, same_id id)

-- and the others are as they were
pub set-other : {X : Type 0} (streams : Streams X) (id q : ℕ) (x : X) → (id == q) ≡ false → stream_at (set_stream streams id x) q ≡ stream_at streams q
set-other [] id q x ne = rw ne refl
set-other ((p, y) ∷ streams) id q x ne = grind (arith, common_steps, set-other streams id q x ne)

by_id : (q id : ℕ) (P : Bool → Type 0) → (q ≡ id → P true) → ((q == id) ≡ false → P false) → P (q == id)
by_id q id P same differs = elim (cases_eq q id) [
  | inl e ↦ subst P (sym (ap (λ n. n == id) e ∙ same_id id)) (same e)
  | inr ne ↦ let is = other_id id q (λ e. ne (sym e)) in subst P (sym is) (differs is)
]

-- what is set last stays
pub set-set : {X : Type 0} (streams : Streams X) (id : ℕ) (x y : X) → set_stream (set_stream streams id x) id y ≡ set_stream streams id y
set-set [] id x y = rw (same_id id) refl
set-set ((q, z) ∷ streams) id x y =
    by_id q id (λ b. set_stream (if b then (id, x) ∷ streams else (q, z) ∷ set_stream streams id x) id y ≡ (if b then (id, y) ∷ streams else (q, z) ∷ set_stream streams id y))
    (λ same. rw (same_id id) refl) (λ differs. rw differs (ap (λ l. (q, z) ∷ l) (set-set streams id x y)))

-- a stream that is there may be set to what it is
pub set-same : {X : Type 0} (streams : Streams X) (id : ℕ) (x : X) → stream_at streams id ≡ Some x → set_stream streams id x ≡ streams
set-same [] id x h = cc
set-same ((q, y) ∷ streams) id x h =
    by_id q id (λ b. (if b then Some y else stream_at streams id) ≡ Some x → (if b then (id, x) ∷ streams else (q, y) ∷ set_stream streams id x) ≡ (q, y) ∷ streams)
    (λ same is. ap (λ n. (n, x) ∷ streams) (sym same) ∙ ap (λ o. (q, unwrap_or o x) ∷ streams) (sym is))
    (λ differs is. ap (λ l. (q, y) ∷ l) (set-same streams id x is)) h

-- no id comes to stand twice
distinct-behind : {X : Type 0} (streams : Streams X) (q id : ℕ) (x y : X) → HaveDistinctIds ((q, y) ∷ streams) → HaveDistinctIds (set_stream streams id x)
    → HaveDistinctIds (if q == id then (id, x) ∷ streams else (q, y) ∷ set_stream streams id x)
distinct-behind streams q id x y h behind = elim (cases_eq q id) [
  | inl same ↦ rw (ap (λ n. n == id) same ∙ same_id id) (ap (λ n. stream_at streams n) (sym same) ∙ h.0, h.1)
  | inr differs ↦ rw (other_id id q (λ same. differs (sym same))) (set-other streams id q x (other_id q id differs) ∙ h.0, behind)
]

pub set-distinct : {X : Type 0} (streams : Streams X) (id : ℕ) (x : X) → HaveDistinctIds streams → HaveDistinctIds (set_stream streams id x)
set-distinct [] id x h = (refl, tt)
set-distinct ((q, y) ∷ streams) id x h = distinct-behind streams q id x y h (set-distinct streams id x h.1)
