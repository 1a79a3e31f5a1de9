-- What is left where the oldest or the newest section of a stream goes.
use Rattle.std.proofs.Common.{◌≡◌, ℕ, ◌<◌, Bool, true, false, not, ◌||◌, List, [], ◌∷◌, ◌++◌, length, cond, refl, sym, ap, arith, if◌then◌else◌}
use Rattle.std.specs.List.{list_any}
use Rattle.h3_table.specs.declared.tracking.TrackedSection.{TrackedSection}
use Rattle.h3_table.specs.Tracking.{is_of, without_newest, without_oldest_of, without_all_of}
use Rattle.h3_table.specs.ReleasingLaws.{neither, none_newest}

-- without all sections of the stream there are fewer, and the oldest one is among them
pub all_after_oldest : (stream : ℕ) (ts : List TrackedSection) → without_all_of stream (without_oldest_of stream ts) ≡ without_all_of stream ts
all_after_oldest stream [] = refl
all_after_oldest stream (t ∷ ts) = by_test (is_of stream t) refl (all_after_oldest stream ts)
  where
    by_test : (b : Bool) → is_of stream t ≡ b → without_all_of stream (without_oldest_of stream ts) ≡ without_all_of stream ts
        → without_all_of stream (if b then ts else t ∷ without_oldest_of stream ts) ≡ cond (not b) (t ∷ without_all_of stream ts) (without_all_of stream ts)
    by_test true e h = refl
    by_test false e h = rw e (ap (λ us. t ∷ us) h)

pub all_of_none : (stream : ℕ) (ts : List TrackedSection) → list_any (is_of stream) ts ≡ false → without_all_of stream ts ≡ ts
all_of_none stream [] h = refl
all_of_none stream (t ∷ ts) h =
    let e = neither (is_of stream t) (list_any (is_of stream) ts) h in
    rw e.0 (ap (λ us. t ∷ us) (all_of_none stream ts e.1))

pub fewer_left : (stream : ℕ) (ts : List TrackedSection) → list_any (is_of stream) ts ≡ true → length (without_oldest_of stream ts) < length ts
fewer_left stream [] h = absurd (cc)
fewer_left stream (t ∷ ts) h = by_test (is_of stream t) h (fewer_left stream ts)
  where
    by_test : (b : Bool) → (b || list_any (is_of stream) ts) ≡ true → (list_any (is_of stream) ts ≡ true → length (without_oldest_of stream ts) < length ts)
        → length (if b then ts else t ∷ without_oldest_of stream ts) < length (t ∷ ts)
    by_test true k later = omega arith
    by_test false k later = omega (arith, later k)

-- one that does not pass stays
pub other_stays : {X : Type 0} (test : X → Bool) (x : X) (xs : List X) → test x ≡ false → without_newest test (x ∷ xs) ≡ x ∷ without_newest test xs
other_stays test x xs not_it = by_test (list_any test xs) refl
  where
    by_test : (b : Bool) → list_any test xs ≡ b → without_newest test (x ∷ xs) ≡ x ∷ without_newest test xs
    by_test true e = rw e refl
    by_test false e = rw (e, not_it) (ap (λ ys. x ∷ ys) (sym (none_newest test xs e)))

-- The last one that passes goes, with none behind it.
pub last_goes : {X : Type 0} (test : X → Bool) (xs : List X) (x : X) (ys : List X) → test x ≡ true → list_any test ys ≡ false → without_newest test (xs ++ x ∷ ys) ≡ xs ++ ys
last_goes {X} test [] x ys it none = rw (none, it) refl
last_goes {X} test (w ∷ xs) x ys it none = rw (there xs) (ap (λ zs. w ∷ zs) (last_goes test xs x ys it none))
  where
    there : (zs : List X) → list_any test (zs ++ x ∷ ys) ≡ true
    there [] = rw it refl
    there (z ∷ zs) = rw (there zs) (or_true (test z))
      where
        or_true : (b : Bool) → (b || true) ≡ true
        or_true true = refl
        or_true false = refl
