-- A section is taken away.
use Rattle.std.proofs.Common.{◌≡◌, ℕ, Bool, true, false, ◌||◌, List, [], ◌∷◌, ◌++◌, refl}
use Rattle.std.specs.List.{AllByRecursion, list_any}
use Rattle.h3_table.specs.declared.tracking.TrackedSection.{TrackedSection}
use Rattle.h3_table.specs.Tracking.{is_of, without_newest, without_oldest_of}

pub All-join : {X : Type 0} (P : X → Type 0) (xs ys : List X) → AllByRecursion P xs → AllByRecursion P ys → AllByRecursion P (xs ++ ys)
All-join P [] ys h k = k
All-join P (x ∷ xs) ys h k = (h.0, All-join P xs ys h.1 k)

pub neither : (a b : Bool) → (a || b) ≡ false → (a ≡ false) × (b ≡ false)
neither true b h = cc
neither false b h = (refl, h)

pub none_removed : (stream : ℕ) (ts : List TrackedSection) → list_any (is_of stream) ts ≡ false → without_oldest_of stream ts ≡ ts
none_removed stream [] h = refl
none_removed stream (t ∷ ts) h = let e = neither (is_of stream t) (list_any (is_of stream) ts) h in rw (e.0, none_removed stream ts e.1) refl

pub none_newest : {X : Type 0} (test : X → Bool) (xs : List X) → list_any test xs ≡ false → without_newest test xs ≡ xs
none_newest test [] h = refl
none_newest test (x ∷ xs) h = let e = neither (test x) (list_any test xs) h in rw (e.1, e.0) refl
