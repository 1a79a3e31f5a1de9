-- Lists without the last item that passes.
use Rattle.std.proofs.Common.{◌≡◌, ◌∙◌, nat_lt, ℕ, Bool, true, false, ◌||◌, List, [], ◌∷◌, map, filter, cond, refl, sym, ap, arith, if◌then◌else◌}
use Rattle.std.specs.Prelude.{◌==◌}
use Rattle.std.specs.List.{list_any}
use Rattle.std.proofs.lemmas.Grind.{common_steps}
use Rattle.h3_qpack.specs.EncoderHistory.{EncoderHistory, withdrawn}
use Rattle.h3_table.specs.Tracking.{is_of, without_newest, without_newest_of}
use Rattle.h3_qpack.specs.EncoderState.{encoder_state, tracked_section, encoder_state_withdrawn}
use Rattle.h3_table.specs.declared.tracking.TrackedSection.{TrackedSection}
use Rattle.h3_table.specs.InOrder.{in_order}
use Rattle.h3_table.specs.InOrderLaws.{newest_in_order}
use Rattle.h3_table.specs.ReleasingLaws.{none_newest}

any_map : {X Y : Type 0} (f : X → Y) (test : Y → Bool) (xs : List X) → list_any (λ x. test (f x)) xs ≡ list_any test (map f xs)
any_map f test [] = refl
any_map f test (x ∷ xs) = ap (λ b. test (f x) || b) (any_map f test xs)

newest_map : {X Y : Type 0} (f : X → Y) (test : Y → Bool) (xs : List X) → map f (without_newest (λ x. test (f x)) xs) ≡ without_newest test (map f xs)
newest_map f test [] = refl
newest_map {X} {Y} f test (x ∷ xs) = rw (← any_map f test xs) (by_tests (list_any (λ y. test (f y)) xs) (test (f x)) (newest_map f test xs))
  where
    by_tests : (a b : Bool) → map f (without_newest (λ x. test (f x)) xs) ≡ without_newest test (map f xs)
        → map f (if a then x ∷ without_newest (λ y. test (f y)) xs else (if b then xs else x ∷ xs)) ≡ (if a then f x ∷ without_newest test (map f xs) else (if b then map f xs else f x ∷ map f xs))
    by_tests true b h = ap (λ ys. f x ∷ ys) h
    by_tests false true h = refl
    by_tests false false h = refl

-- a number that is kept stays as often as it is there, and one that is not kept is there no more
any_filter : (keep : ℕ → Bool) (count : ℕ) (ns : List ℕ) (b : Bool) → keep count ≡ b → list_any (λ n. n == count) (filter keep ns) ≡ (if b then list_any (λ n. n == count) ns else false)
any_filter keep count [] true e = refl
any_filter keep count [] false e = refl
any_filter keep count (n ∷ ns) b e = by_tests (keep n) (n == count) b refl refl e (any_filter keep count ns b e)
  where
    same : (n == count) ≡ true → n ≡ count
    same h = grind (arith, common_steps)

    by_tests : (k t b : Bool) → keep n ≡ k → (n == count) ≡ t → keep count ≡ b → list_any (λ m. m == count) (filter keep ns) ≡ (if b then list_any (λ m. m == count) ns else false)
        → list_any (λ m. m == count) (cond k (n ∷ filter keep ns) (filter keep ns)) ≡ (if b then t || list_any (λ m. m == count) ns else false)
    by_tests true true true e f g h = rw f refl
    by_tests true true false e f g h = absurd (let is = same f in let k = rw is at e in cc)
    by_tests true false true e f g h = rw f h
    by_tests true false false e f g h = rw f h
    by_tests false true true e f g h = absurd (let is = same f in let k = rw is at e in cc)
    by_tests false true false e f g h = h
    by_tests false false true e f g h = h
    by_tests false false false e f g h = h

newest_filter : (keep : ℕ → Bool) (count : ℕ) (ns : List ℕ) (b : Bool) → keep count ≡ b → filter keep (without_newest (λ n. n == count) ns) ≡ without_newest (λ n. n == count) (filter keep ns)
newest_filter keep count [] b e = refl
newest_filter keep count (n ∷ ns) true e =
    by_tests (keep n) (n == count) (list_any (λ m. m == count) ns) refl refl refl (any_filter keep count ns true e) (newest_filter keep count ns true e)
  where
    same : (n == count) ≡ true → n ≡ count
    same h = grind (arith, common_steps)

    by_tests : (k t a : Bool) → keep n ≡ k → (n == count) ≡ t → list_any (λ m. m == count) ns ≡ a → list_any (λ m. m == count) (filter keep ns) ≡ list_any (λ m. m == count) ns
        → filter keep (without_newest (λ m. m == count) ns) ≡ without_newest (λ m. m == count) (filter keep ns)
        → filter keep (if a then n ∷ without_newest (λ m. m == count) ns else (if t then ns else n ∷ ns)) ≡ without_newest (λ m. m == count) (cond k (n ∷ filter keep ns) (filter keep ns))
    by_tests true t true e1 f g any h = rw (e1, any, g) (ap (λ ms. n ∷ ms) h)
    by_tests false t true e1 f g any h = rw e1 h
    by_tests true true false e1 f g any h = rw (any, g, f) refl
    by_tests true false false e1 f g any h = rw (e1, any, g, f) refl
    by_tests false true false e1 f g any h = absurd (let is = same f in let k = rw is at e1 in cc)
    by_tests false false false e1 f g any h = rw (e1, none_newest (λ m. m == count) (filter keep ns) (any ∙ g)) refl
newest_filter keep count (n ∷ ns) false e =
    by_tests (keep n) (n == count) (list_any (λ m. m == count) ns) refl refl (any_filter keep count ns false e) (newest_filter keep count ns false e)
  where
    same : (n == count) ≡ true → n ≡ count
    same h = grind (arith, common_steps)

    by_tests : (k t a : Bool) → keep n ≡ k → (n == count) ≡ t → list_any (λ m. m == count) (filter keep ns) ≡ false
        → filter keep (without_newest (λ m. m == count) ns) ≡ without_newest (λ m. m == count) (filter keep ns)
        → filter keep (if a then n ∷ without_newest (λ m. m == count) ns else (if t then ns else n ∷ ns)) ≡ without_newest (λ m. m == count) (cond k (n ∷ filter keep ns) (filter keep ns))
    by_tests true true a e1 f none h = absurd (let is = same f in let k = rw is at e1 in cc)
    by_tests true false true e1 f none h = rw (e1, none, f) (ap (λ ms. n ∷ ms) (h ∙ none_newest (λ m. m == count) (filter keep ns) none))
    by_tests true false false e1 f none h = rw (e1, none, f) refl
    by_tests false t true e1 f none h = rw e1 h
    by_tests false true false e1 f none h = rw (none_newest (λ m. m == count) (filter keep ns) none) refl
    by_tests false false false e1 f none h = rw (e1, none_newest (λ m. m == count) (filter keep ns) none) refl

pub withdrawn_state : (s : EncoderHistory) (stream count : ℕ) → encoder_state (withdrawn s stream count) ≡ encoder_state_withdrawn (encoder_state s) stream count
withdrawn_state s stream count =
    ap (λ (counts : List ℕ). record (encoder_state (withdrawn s stream count)) { blocking_counts = counts }) counted
    ∙ ap (λ ts. record (encoder_state s) { blocking_counts = without_newest (λ n. n == count) (in_order (λ n. n) (filter (λ n. nat_lt s.known_received n) s.required_insert_counts)); tracked = ts }) (kept (count == 0))
  where
    counted : in_order (λ n. n) (filter (λ n. nat_lt s.known_received n) (without_newest (λ n. n == count) s.required_insert_counts))
        ≡ without_newest (λ n. n == count) (in_order (λ n. n) (filter (λ n. nat_lt s.known_received n) s.required_insert_counts))
    counted =
        ap (in_order (λ n. n)) (newest_filter (λ n. nat_lt s.known_received n) count s.required_insert_counts (nat_lt s.known_received count) refl)
        ∙ sym (newest_in_order (λ n. n) count (filter (λ n. nat_lt s.known_received n) s.required_insert_counts))

    kept : (b : Bool) → in_order (λ t. t.stream) (map tracked_section (if b then s.tracked else without_newest (λ t. t.stream == stream) s.tracked))
        ≡ (if b then in_order (λ t. t.stream) (map tracked_section s.tracked) else without_newest_of stream (in_order (λ t. t.stream) (map tracked_section s.tracked)))
    kept true = refl
    kept false =
        ap (in_order (λ t. t.stream)) (newest_map tracked_section (is_of stream) s.tracked)
        ∙ sym (newest_in_order (λ (t : TrackedSection). t.stream) stream (map tracked_section s.tracked))
