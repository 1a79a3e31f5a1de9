-- A stream on which something is left to be done: bytes or its end wait, or it is not done.
use Rattle.std.proofs.Common.{arith, ◌≡◌, ℕ, Bool, true, false, refl, sym, ◌∙◌, ap}
use Rattle.std.specs.Prelude.{◌||◌, Option, Some, None}
use Rattle.h3_connection.specs.NextWaiting.{IsLeast}
use Rattle.h3_connection.specs.State.{RequestState, kept_at}
use Rattle.h3_connection.specs.StreamSets.{Streams}
use Rattle.h3_requests.specs.Done.{is_sought, is_unfinished}
use Rattle.h3_requests.specs.Greatest.{IsGreatest, IsOneOf}
use Rattle.h3_requests.specs.HasBytes.{has_bytes, has_end}

-- what is found passes, and where none is found none does
pub found : (passes : ℕ → Bool) (first : Option ℕ) (id : ℕ) → first ≡ Some id → IsLeast passes 0 first → passes id ≡ true
found passes None id is h = absurd (cc)
found passes (Some first) id is h = ap passes (let same : id ≡ first = cc in same) ∙ h.1

pub none_found : (passes : ℕ → Bool) (first : Option ℕ) → first ≡ None → IsLeast passes 0 first → (q : ℕ) → passes q ≡ false
none_found passes None is h q = h q (omega arith)
none_found passes (Some first) is h q = absurd (cc)

by_bytes : (o : Option RequestState) → has_bytes o ≡ true → is_unfinished o ≡ true
by_bytes o is = rw is refl

by_end : (o : Option RequestState) → has_end o ≡ true → is_unfinished o ≡ true
by_end o is = rw is (or_true (has_bytes o))
  where
    or_true : (b : Bool) → (b || true || is_sought true o) ≡ true
    or_true true = refl
    or_true false = refl

by_rest : (o : Option RequestState) → has_bytes o ≡ false → has_end o ≡ false → is_unfinished o ≡ is_sought true o
by_rest o bytes end = rw (bytes, end) refl

-- bytes wait on it,
pub some_bytes : (waits : ℕ → Bool) (streams model : Streams RequestState) (first : Option ℕ) (id : ℕ) → streams ≡ model → ((q : ℕ) → waits q ≡ has_bytes (kept_at streams q)) → first ≡ Some id → IsLeast waits 0 first
    → is_unfinished (kept_at model id) ≡ true
some_bytes waits streams model first id view alike is h = by_bytes (kept_at model id) (ap (λ s. has_bytes (kept_at s id)) (sym view) ∙ sym (alike id) ∙ found waits first id is h)

-- or its end does,
pub some_end : (waits : ℕ → Bool) (streams model : Streams RequestState) (first : Option ℕ) (id : ℕ) → streams ≡ model → ((q : ℕ) → waits q ≡ has_end (kept_at streams q)) → first ≡ Some id → IsLeast waits 0 first
    → is_unfinished (kept_at model id) ≡ true
some_end waits streams model first id view alike is h = by_end (kept_at model id) (ap (λ s. has_end (kept_at s id)) (sym view) ∙ sym (alike id) ∙ found waits first id is h)

-- or neither waits on any
pub one_of : (bytes ends : ℕ → Bool) (streams model : Streams RequestState) (first next undone : Option ℕ) → streams ≡ model → ((q : ℕ) → bytes q ≡ has_bytes (kept_at streams q)) → ((q : ℕ) → ends q ≡ has_end (kept_at streams q))
    → first ≡ None → IsLeast bytes 0 first → next ≡ None → IsLeast ends 0 next → IsGreatest (λ id. is_sought true (kept_at streams id)) undone → IsOneOf (λ id. is_unfinished (kept_at model id)) undone
one_of bytes ends streams model first next undone view with_bytes with_end no_bytes least no_end next_least is = by_undone undone is
  where
    rest : (q : ℕ) → is_unfinished (kept_at model q) ≡ is_sought true (kept_at streams q)
    rest q =
        ap (λ s. is_unfinished (kept_at s q)) (sym view)
        ∙ by_rest (kept_at streams q) (sym (with_bytes q) ∙ none_found bytes first no_bytes least q) (sym (with_end q) ∙ none_found ends next no_end next_least q)

    by_undone : (o : Option ℕ) → IsGreatest (λ id. is_sought true (kept_at streams id)) o → IsOneOf (λ id. is_unfinished (kept_at model id)) o
    by_undone None h = λ q. rest q ∙ h q
    by_undone (Some id) h = rest id ∙ h.0
