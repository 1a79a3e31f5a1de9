-- A walk over streams in the order of their ids.
use Rattle.std.proofs.Common.{arith, ◌≡◌, ◌<◌, ◌≤◌, ℕ, Bool, true, false, List, [], ◌∷◌, cond, refl, sym, ◌∙◌, ap, subst}
use Rattle.std.specs.Prelude.{◌&&◌, filter, Option, Some, None, nat_lt}
use Rattle.std.proofs.lemmas.Grind.{common_steps}
use Rattle.std.proofs.lemmas.Map.{lookup-none}
use Rattle.std.proofs.lemmas.Map.Entries.{lookup-filter-keys, none_past_head, none_below_head}
use Rattle.std.proofs.lemmas.Map.Keys.{sorted_tail, IsDistinct-from_sorted}
use Rattle.std.specs.BTreeMap.{is_at}
use Rattle.std.specs.BTreeMap.Range.{range_contains, entries_between}
use Rattle.std.specs.Cmp.{nat_cmp_total, eq_by_cmp_equiv}
use Rattle.std.specs.List.{AllByRecursion}
use Rattle.std.specs.List.Sorted.{IsStrictlySortedBy}
use Rattle.std.specs.Map.{keys_of, lookup}
use Rattle.std.specs.Ordering.{is_le, nat_cmp}
use Rattle.std.specs.declared.cmp.Ordering.TheVariants.{Less}
use Rattle.std.specs.declared.ops.Bound.TheVariants.{Included, Unbounded}
use Rattle.h3_connection.specs.NextWaiting.{IsLeast}
use Rattle.h3_connection.specs.State.{kept_at}
use Rattle.h3_connection.specs.StreamSets.{Streams}
use Rattle.h3_webtransport_streams.specs.SessionStream.{SessionStream, passes}

abbrev pub passes_in : (SessionStream → Bool) → Streams SessionStream → ℕ → Bool
passes_in test es q = passes test (kept_at es q)

-- Of the streams from an id on these are left, and no other one passes.
pub record Left (test : SessionStream → Bool) (es : Streams SessionStream) (from : ℕ) (rest : Streams SessionStream) : Type 0 where
  pub sorted : IsStrictlySortedBy nat_cmp (keys_of rest)
  pub within : AllByRecursion (λ e. from ≤ e.0) rest
  pub left : (q : ℕ) → from ≤ q → passes_in test es q ≡ passes_in test rest q

level : (a b : ℕ) → is_at (nat_cmp a) b ≡ true → a ≡ b
level a b h = grind (arith, common_steps, h)

itself : (a : ℕ) → is_at (nat_cmp a) a ≡ true
itself a = grind (arith, common_steps)

less : (a b : ℕ) → a < b → nat_cmp a b ≡ Less
less a b lt = let e : nat_lt a b ≡ true = grind (arith, common_steps) in rw e refl

from_there : (from q : ℕ) → is_le (nat_cmp from q) ≡ true → from ≤ q
from_there from q h = grind (arith, common_steps, h)

there_from : (from q : ℕ) → from ≤ q → is_le (nat_cmp from q) ≡ true
there_from from q h = grind (arith, common_steps, h)

all_behind : (k : ℕ) (p : ℕ → Bool) (es : Streams SessionStream) → AllByRecursion (λ y. nat_cmp k y ≡ Less) (keys_of es)
    → AllByRecursion (λ y. nat_cmp k y ≡ Less) (keys_of (filter (λ e. p e.0) es))
all_behind k p [] h = h
all_behind k p (e ∷ es) h = by_test (p e.0) (all_behind k p es h.1)
  where
    by_test : (b : Bool) → AllByRecursion (λ y. nat_cmp k y ≡ Less) (keys_of (filter (λ e. p e.0) es))
        → AllByRecursion (λ y. nat_cmp k y ≡ Less) (keys_of (cond b (e ∷ filter (λ e. p e.0) es) (filter (λ e. p e.0) es)))
    by_test true later = (h.0, later)
    by_test false later = later

sorted_part : (p : ℕ → Bool) (es : Streams SessionStream) → IsStrictlySortedBy nat_cmp (keys_of es) → IsStrictlySortedBy nat_cmp (keys_of (filter (λ e. p e.0) es))
unfolding IsStrictlySortedBy
sorted_part p [] h = h
sorted_part p (e ∷ es) h = by_test (p e.0) (sorted_part p es h.1)
  where
    by_test : (b : Bool) → IsStrictlySortedBy nat_cmp (keys_of (filter (λ e. p e.0) es))
        → IsStrictlySortedBy nat_cmp (keys_of (cond b (e ∷ filter (λ e. p e.0) es) (filter (λ e. p e.0) es)))
    by_test true later = (all_behind e.0 p es h.0, later)
    by_test false later = later

within_part : (from : ℕ) (es : Streams SessionStream) → AllByRecursion (λ e. from ≤ e.0) (entries_between nat_cmp (Included from) Unbounded es)
within_part from [] = tt
within_part from (e ∷ es) = by_test (range_contains nat_cmp (Included from) Unbounded e.0) refl (within_part from es)
  where
    first : (a b : Bool) → (a && b) ≡ true → a ≡ true
    first true b h = refl
    first false b h = absurd (cc)

    by_test : (b : Bool) → range_contains nat_cmp (Included from) Unbounded e.0 ≡ b → AllByRecursion (λ e. from ≤ e.0) (entries_between nat_cmp (Included from) Unbounded es)
        → AllByRecursion (λ e. from ≤ e.0) (cond b (e ∷ entries_between nat_cmp (Included from) Unbounded es) (entries_between nat_cmp (Included from) Unbounded es))
    by_test true is later = (from_there from e.0 (first _ _ is), later)
    by_test false is later = later

-- at first all are left
pub all_left : (test : SessionStream → Bool) (es : Streams SessionStream) (from : ℕ) (rest : Streams SessionStream) → rest ≡ entries_between nat_cmp (Included from) Unbounded es
    → IsStrictlySortedBy nat_cmp (keys_of es) → Left test es from rest
all_left test es from rest is sorted =
    subst (Left test es from) (sym is) (record {
      sorted = sorted_part (range_contains nat_cmp (Included from) Unbounded) es sorted;
      within = within_part from es;
      left = λ q there. sym (ap (passes test) (lookup-filter-keys (is_at (nat_cmp q)) (range_contains nat_cmp (Included from) Unbounded) true
          (λ k at. ap (range_contains nat_cmp (Included from) Unbounded) (sym (level q k at)) ∙ rw (there_from from q there) refl) es));
    })

-- one is passed that is not looked for
pub passed : (test : SessionStream → Bool) (es : Streams SessionStream) (from : ℕ) (rest : Streams SessionStream) (e : ℕ × SessionStream) (later : Streams SessionStream) → rest ≡ e ∷ later
    → test e.1 ≡ false → Left test es from rest → Left test es from later
passed test es from rest e later is none h = go (subst (Left test es from) is h)
  where
    go : Left test es from (e ∷ later) → Left test es from later
    go h = record { sorted = sorted_tail nat_cmp e.0 (keys_of later) h.sorted; within = h.within.1; left = λ q there. h.left q there ∙ by_test q (is_at (nat_cmp q) e.0) refl }
      where
        by_test : (q : ℕ) (b : Bool) → is_at (nat_cmp q) e.0 ≡ b → passes test (cond b (Some e.1) (lookup (is_at (nat_cmp q)) later)) ≡ passes_in test later q
        by_test q true at =
            none ∙ sym (ap (passes test) (lookup-none (is_at (nat_cmp q)) later
            (none_past_head (eq_by_cmp_equiv nat_cmp_total) q e later (IsDistinct-from_sorted nat_cmp (keys_of (e ∷ later)) h.sorted) at)))
        by_test q false at = refl

-- the first that is
pub first_found : (test : SessionStream → Bool) (es : Streams SessionStream) (from : ℕ) (rest : Streams SessionStream) (e : ℕ × SessionStream) (later : Streams SessionStream)
    → rest ≡ e ∷ later → test e.1 ≡ true → Left test es from rest → IsLeast (passes_in test es) from (Some e.0)
first_found test es from rest e later is some h = go (subst (Left test es from) is h)
  where
    go : Left test es from (e ∷ later) → IsLeast (passes_in test es) from (Some e.0)
    go h = (
      h.within.0,
      h.left e.0 h.within.0 ∙ rw (itself e.0) some,
      λ q there before. h.left q there ∙ ap (passes test) (lookup-none (is_at (nat_cmp q)) (e ∷ later) (none_below_head nat_cmp_total q e later h.sorted (less q e.0 before))),
    )
