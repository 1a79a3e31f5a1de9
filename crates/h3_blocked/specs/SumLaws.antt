-- Sums over streams by their ids, when one of them changes, and of two lists that have the same streams.
use Rattle.std.proofs.Common.{arith, ◌≡◌, ℕ, ◌+◌, true, false, [], ◌∷◌, refl, sym, ◌∙◌, ap, inl, inr}
use Rattle.std.proofs.lemmas.Option.{none-some}
use Rattle.std.proofs.lemmas.List.Sums.{sum_by-cons}
use Rattle.std.proofs.lemmas.Grind.{common_steps}
use Rattle.std.proofs.lemmas.Bool.{cases_eq}
use Rattle.std.specs.Prelude.{Option, Some, None, ◌==◌, option_map, unwrap_or}
use Rattle.std.specs.BTreeMap.{is_at}
use Rattle.std.specs.Ordering.{nat_cmp}
use Rattle.h3_connection.specs.Calls.{Sets}
use Rattle.h3_connection.specs.State.{kept_at}
use Rattle.h3_connection.specs.StreamSets.{Streams, HaveDistinctIds, stream_at, set_stream}
use Rattle.h3_connection.specs.StreamSetLaws.{other_id, set-here, set-other, set-distinct}
use Rattle.h3_blocked.specs.Sums.{total, part_of, without_stream, TakesOut}

pub total-cons : {X : Type 0} (f : X → ℕ) (q : ℕ) (x : X) (streams : Streams X) → total f ((q, x) ∷ streams) ≡ f x + total f streams
total-cons f q x streams = sum_by-cons (λ s. f s.1) (q, x) streams

same_id : (n : ℕ) → (n == n) ≡ true
same_id n = grind (arith, common_steps)

-- the sum when a stream is set
pub total-set : {X : Type 0} (f : X → ℕ) (streams : Streams X) (id : ℕ) (x : X) → total f (set_stream streams id x) + part_of f (stream_at streams id) ≡ total f streams + f x
total-set f [] id x = omega (arith, total-cons f id x [])
total-set f ((q, y) ∷ streams) id x = elim (cases_eq q id) [
  | inl same ↦
      let here : (q == id) ≡ true = grind (arith, common_steps) in
      rw here (omega (arith, total-cons f id x streams, total-cons f q y streams))
  | inr differs ↦
      let there : (q == id) ≡ false = grind (arith, common_steps) in
      rw there (omega (arith, total-cons f q y (set_stream streams id x), total-cons f q y streams, total-set f streams id x))
]

-- the sum when a stream is taken out
pub total-without : {X : Type 0} (f : X → ℕ) (streams : Streams X) (id : ℕ) → total f (without_stream streams id) + part_of f (stream_at streams id) ≡ total f streams
total-without f [] id = refl
total-without f ((q, y) ∷ streams) id = elim (cases_eq q id) [
  | inl same ↦
      let here : (q == id) ≡ true = grind (arith, common_steps) in
      rw here (omega (arith, total-cons f q y streams))
  | inr differs ↦
      let there : (q == id) ≡ false = grind (arith, common_steps) in
      rw there (omega (arith, total-cons f q y (without_stream streams id), total-cons f q y streams, total-without f streams id))
]

-- the others are as they were
pub without-other : {X : Type 0} (streams : Streams X) (id q : ℕ) → (id == q) ≡ false → stream_at (without_stream streams id) q ≡ stream_at streams q
without-other [] id q ne = refl
without-other ((p, y) ∷ streams) id q ne = grind (arith, common_steps, without-other streams id q ne)

-- it is gone
pub without-here : {X : Type 0} (streams : Streams X) (id : ℕ) → HaveDistinctIds streams → stream_at (without_stream streams id) id ≡ None
without-here [] id h = refl
without-here ((q, y) ∷ streams) id h = elim (cases_eq q id) [
  | inl same ↦
      let here : (q == id) ≡ true = grind (arith, common_steps) in
      rw here (ap (stream_at streams) (sym same) ∙ h.0)
  | inr differs ↦
      let there : (q == id) ≡ false = grind (arith, common_steps) in
      rw there (rw there (without-here streams id h.1))
]

-- no id comes to stand twice
pub without-distinct : {X : Type 0} (streams : Streams X) (id : ℕ) → HaveDistinctIds streams → HaveDistinctIds (without_stream streams id)
without-distinct [] id h = h
without-distinct ((q, y) ∷ streams) id h = elim (cases_eq q id) [
  | inl same ↦
      let here : (q == id) ≡ true = grind (arith, common_steps) in
      rw here h.1
  | inr differs ↦
      let there : (q == id) ≡ false = grind (arith, common_steps) in
      rw there (without-other streams id q (other_id q id differs) ∙ h.0, without-distinct streams id h.1)
]

pub mapped : {X : Type 0} (f : X → ℕ) (o : Option X) → part_of f o ≡ unwrap_or (option_map f o) 0
mapped f None = refl
mapped f (Some x) = refl

-- what lies behind the first stream is what the other list has without it
same-behind : {X Y : Type 0} (f : X → ℕ) (g : Y → ℕ) (q : ℕ) (x : X) (xs : Streams X) (ys : Streams Y) → HaveDistinctIds ((q, x) ∷ xs) → HaveDistinctIds ys
    → ((p : ℕ) → option_map f (stream_at ((q, x) ∷ xs) p) ≡ option_map g (stream_at ys p)) → (p : ℕ) → option_map f (stream_at xs p) ≡ option_map g (stream_at (without_stream ys q) p)
same-behind f g q x xs ys h k same p = elim (cases_eq q p) [
  | inl here ↦
      let gone : stream_at (without_stream ys q) p ≡ None = ap (stream_at (without_stream ys q)) (sym here) ∙ without-here ys q k in
      ap (λ n. option_map f (stream_at xs n)) (sym here) ∙ ap (option_map f) h.0 ∙ sym (ap (option_map g) gone)
  | inr differs ↦
      let there : (q == p) ≡ false = grind (arith, common_steps) in
      (rw there at (same p)) ∙ sym (ap (option_map g) (without-other ys q p there))
]

none_at_all : {Y : Type 0} (g : Y → ℕ) (ys : Streams Y) → ((p : ℕ) → None ≡ option_map g (stream_at ys p)) → 0 ≡ total g ys
none_at_all g [] same = refl
none_at_all g ((q, y) ∷ ys) same = absurd (none-some (g y) (rw (same_id q) at (same q)))

-- where both lists have the same at each id, the sums are equal
pub total-same : {X Y : Type 0} (f : X → ℕ) (g : Y → ℕ) (xs : Streams X) (ys : Streams Y) → HaveDistinctIds xs → HaveDistinctIds ys
    → ((q : ℕ) → option_map f (stream_at xs q) ≡ option_map g (stream_at ys q)) → total f xs ≡ total g ys
total-same f g [] ys h k same = none_at_all g ys same
total-same f g ((q, x) ∷ xs) ys h k same =
    let first : f x ≡ part_of g (stream_at ys q) = ap (λ o. unwrap_or o 0) (rw (same_id q) at (same q)) ∙ sym (mapped g (stream_at ys q)) in
    let behind : total f xs ≡ total g (without_stream ys q) = total-same f g xs (without_stream ys q) h.1 (without-distinct ys q k) (same-behind f g q x xs ys h k same) in
    omega (arith, total-cons f q x xs, first, behind, total-without g ys q)

-- `kept_at` finds what `stream_at` does
pub kept_is_at : {X : Type 0} (streams : Streams X) (id : ℕ) → kept_at streams id ≡ stream_at streams id
kept_is_at [] id = refl
kept_is_at ((q, x) ∷ streams) id = elim (cases_eq q id) [
  | inl same ↦
      let here : (q == id) ≡ true = grind (arith, common_steps) in
      let found : is_at (nat_cmp id) q ≡ true = grind (arith, common_steps) in
      rw here (rw found refl)
  | inr differs ↦
      let there : (q == id) ≡ false = grind (arith, common_steps) in
      let passed : is_at (nat_cmp id) q ≡ false = grind (arith, common_steps) in
      rw there (rw passed (kept_is_at streams id))
]

-- The same of streams as `kept_at` finds them, in whatever order: when one is set,
pub total_sets : {X : Type 0} (f : X → ℕ) (old new : Streams X) (id : ℕ) (x : X) → HaveDistinctIds old → HaveDistinctIds new → Sets old new id x
    → total f new + part_of f (kept_at old id) ≡ total f old + f x
total_sets f old new id x h k sets =
    let each : (q : ℕ) → stream_at new q ≡ stream_at (set_stream old id x) q = λ q. elim (cases_eq q id) [
      | inl same ↦ rw same (sym (kept_is_at new id) ∙ sets.here ∙ sym (set-here old id x))
      | inr differs ↦ sym (kept_is_at new q) ∙ sets.others q differs ∙ kept_is_at old q ∙ sym (set-other old id q x (other_id q id differs))
    ] in
    let whole : total f new ≡ total f (set_stream old id x) = total-same f f new (set_stream old id x) k (set-distinct old id x h) (λ q. ap (option_map f) (each q)) in
    omega (arith, whole, total-set f old id x, ap (part_of f) (kept_is_at old id))

-- and when one is taken out
pub total_takes_out : {X : Type 0} (f : X → ℕ) (old new : Streams X) (id : ℕ) → HaveDistinctIds old → HaveDistinctIds new → TakesOut old new id
    → total f new + part_of f (kept_at old id) ≡ total f old
total_takes_out f old new id h k takes =
    let each : (q : ℕ) → stream_at new q ≡ stream_at (without_stream old id) q = λ q. elim (cases_eq q id) [
      | inl same ↦ rw same (sym (kept_is_at new id) ∙ takes.here ∙ sym (without-here old id h))
      | inr differs ↦ sym (kept_is_at new q) ∙ takes.others q differs ∙ kept_is_at old q ∙ sym (without-other old id q (other_id q id differs))
    ] in
    let whole : total f new ≡ total f (without_stream old id) = total-same f f new (without_stream old id) k (without-distinct old id h) (λ q. ap (option_map f) (each q)) in
    omega (arith, whole, total-without f old id, ap (part_of f) (kept_is_at old id))

twice : {X Y : Type 0} (part : X → Y) (g : Y → ℕ) (o : Option X) → option_map g (option_map part o) ≡ option_map (λ x. g (part x)) o
twice part g None = refl
twice part g (Some x) = refl

-- streams, and a list that has one part of each of them
pub total_parts : {X Y : Type 0} (part : X → Y) (g : Y → ℕ) (streams : Streams X) (parts : Streams Y) → HaveDistinctIds streams → HaveDistinctIds parts
    → ((q : ℕ) → option_map part (kept_at streams q) ≡ stream_at parts q) → total (λ x. g (part x)) streams ≡ total g parts
total_parts part g streams parts h k same =
    total-same (λ x. g (part x)) g streams parts h k
    (λ q. ap (option_map (λ x. g (part x))) (sym (kept_is_at streams q)) ∙ sym (twice part g (kept_at streams q)) ∙ ap (option_map g) (same q))
