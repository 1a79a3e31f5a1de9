-- What stands at the places of streams.
use Rattle.std.proofs.Common.{◌≡◌, ◌≢◌, ◌<◌, ◌≤◌, ℕ, zero, suc, ◌+◌, ◌-◌, ◌*◌, ◌/◌, ◌%◌, Bool, true, false, ◌&&◌, List, [], ◌∷◌, ◌++◌, length, cond, refl, sym, ◌∙◌, ap, arith, nat_lt, if◌then◌else◌, get_or, set, ◌⊎◌, inl, inr, length-append}
use Rattle.std.specs.Prelude.{◌==◌, Some, None}
use Rattle.std.proofs.lemmas.Grind.{common_steps, get_or-set_at}
use Rattle.std.proofs.lemmas.List.{append-nil, length-set, get_or-set_other, get_or-append-add}
use Rattle.std.proofs.Math.Nat.{mul-add, add-mul, mod-lt, mod-eq_of_lt, div-add-mod, add-mod_left, mul-add-mod_self_left}
use Rattle.std.proofs.Math.ListN.{get_or-append}
use Rattle.h3_table.specs.declared.tracking.TrackedSection.{TrackedSection}
use Rattle.h3_table.specs.Places.{place_of, placed_from, placed}
use Rattle.h3_table.specs.ByStream.{of_stream, HaveSame, HasOneMore, IsFirstTaken}
use Rattle.h3_table.proofs.Alones.{named_by}
use Rattle.h3_table.proofs.ByStream.{itself, unlike, alike}

abbrev pub nothing : TrackedSection
nothing = record { stream = 0; oldest = 0; newest = 0 }

-- a section of the stream that names an entry
abbrev pub one_of : ℕ → TrackedSection → List TrackedSection
one_of k t = if nat_lt 0 t.oldest && (t.stream == k) then t ∷ [] else []

-- from a place on, a stream has what stands at its own
abbrev from : ℕ → ℕ → List TrackedSection → List TrackedSection
from k more ts = one_of k (get_or ts more nothing)

past : (count k place : ℕ) (ts : List TrackedSection) → place_of count k < place → of_stream k (placed_from count place ts) ≡ []
past count k place [] lt = refl
past count k place (t ∷ ts) lt = by_tests (nat_lt 0 t.oldest) (place_of count t.stream == place) refl (past count k (place + 1) ts (omega (arith, lt)))
  where
    by_tests : (a b : Bool) → (place_of count t.stream == place) ≡ b → of_stream k (placed_from count (place + 1) ts) ≡ []
        → of_stream k (if a && b then t ∷ placed_from count (place + 1) ts else placed_from count (place + 1) ts) ≡ []
    by_tests true true e h = rw (unlike t.stream k (λ s. omega (arith, alike (place_of count t.stream) place e, ap (place_of count) s, lt))) h
    by_tests true false e h = h
    by_tests false b e h = h

ahead : (count k place more : ℕ) (ts : List TrackedSection) → place_of count k ≡ place + more → of_stream k (placed_from count place ts) ≡ from k more ts
ahead count k place more [] is = refl
ahead count k place zero (t ∷ ts) is = by_tests (nat_lt 0 t.oldest) (place_of count t.stream == place) refl (past count k (place + 1) ts (omega (arith, is)))
  where
    by_stream : (c : Bool) → of_stream k (placed_from count (place + 1) ts) ≡ [] → cond c (t ∷ of_stream k (placed_from count (place + 1) ts)) (of_stream k (placed_from count (place + 1) ts)) ≡ (if c then t ∷ [] else [])
    by_stream true h = ap (λ us. t ∷ us) h
    by_stream false h = h

    by_tests : (a b : Bool) → (place_of count t.stream == place) ≡ b → of_stream k (placed_from count (place + 1) ts) ≡ []
        → of_stream k (if a && b then t ∷ placed_from count (place + 1) ts else placed_from count (place + 1) ts) ≡ (if a && (t.stream == k) then t ∷ [] else [])
    by_tests true true e h = by_stream (t.stream == k) h
    by_tests true false e h = rw (unlike t.stream k (λ s. grind (arith, common_steps, e, ap (place_of count) s, is))) h
    by_tests false b e h = h
ahead count k place (suc more) (t ∷ ts) is = by_tests (nat_lt 0 t.oldest) (place_of count t.stream == place) refl (ahead count k (place + 1) more ts (omega (arith, is)))
  where
    by_tests : (a b : Bool) → (place_of count t.stream == place) ≡ b → of_stream k (placed_from count (place + 1) ts) ≡ from k more ts
        → of_stream k (if a && b then t ∷ placed_from count (place + 1) ts else placed_from count (place + 1) ts) ≡ from k more ts
    by_tests true true e h = rw (unlike t.stream k (λ s. omega (arith, alike (place_of count t.stream) place e, ap (place_of count) s, is))) h
    by_tests true false e h = h
    by_tests false b e h = h

pub at_place : (k : ℕ) (ts : List TrackedSection) → of_stream k (placed ts) ≡ one_of k (get_or ts (place_of (length ts) k) nothing)
at_place k ts = ahead (length ts) k 0 (place_of (length ts) k) ts (omega arith)

is_no_one : (k : ℕ) (t : TrackedSection) → t.oldest ≡ 0 → one_of k t ≡ []
is_no_one k t is = rw is refl

of_another : (k : ℕ) (t : TrackedSection) → t.stream ≢ k → one_of k t ≡ []
of_another k t ne = by_test (nat_lt 0 t.oldest)
  where
    by_test : (a : Bool) → (if a && (t.stream == k) then t ∷ [] else []) ≡ []
    by_test true = rw (unlike t.stream k ne) refl
    by_test false = refl

is_one : (t : TrackedSection) → t.oldest ≢ 0 → one_of t.stream t ≡ t ∷ []
is_one t some = let above : nat_lt 0 t.oldest ≡ true = grind (arith, common_steps, some) in rw (above, itself t.stream) refl

-- what is written at a place
written : (k place : ℕ) (ts : List TrackedSection) (t : TrackedSection) → place_of (length ts) k ≡ place → place < length ts → of_stream k (placed (set ts place t)) ≡ one_of k t
written k place ts t same lt =
    at_place k (set ts place t) ∙ ap (λ n. one_of k (get_or (set ts place t) (place_of n k) nothing)) (length-set ts place t) ∙ ap (one_of k) (get_or-set_at ts place (place_of (length ts) k) t nothing same lt)

unwritten : (k place : ℕ) (ts : List TrackedSection) (t : TrackedSection) → place_of (length ts) k ≢ place → of_stream k (placed (set ts place t)) ≡ of_stream k (placed ts)
unwritten k place ts t ne =
    at_place k (set ts place t) ∙ ap (λ n. one_of k (get_or (set ts place t) (place_of n k) nothing)) (length-set ts place t) ∙ ap (one_of k) (get_or-set_other ts place (place_of (length ts) k) t nothing ne) ∙ sym (at_place k ts)

-- A section at a free place is one more.
pub put_there : (ts : List TrackedSection) (place : ℕ) (t there : TrackedSection) → place ≡ place_of (length ts) t.stream → place < length ts → t.oldest ≢ 0 → there ≡ get_or ts place nothing
    → (there.oldest ≢ 0 → place_of (length ts) there.stream ≢ place) → HasOneMore t (placed ts) (placed (set ts place t))
put_there ts place t there here lt some is free k = by_place (place_of (length ts) k == place) refl
  where
    by_stream : (b : Bool) → (t.stream == k) ≡ b → one_of k t ≡ cond b (t ∷ []) []
    by_stream true e = ap (λ m. one_of m t) (sym (alike t.stream k e)) ∙ is_one t some
    by_stream false e = of_another k t (λ z. grind (arith, common_steps, z, e))

    nothing_there : place_of (length ts) k ≡ place → one_of k there ≡ []
    nothing_there same = by_oldest (there.oldest == 0) refl
      where
        by_oldest : (b : Bool) → (there.oldest == 0) ≡ b → one_of k there ≡ []
        by_oldest true e = is_no_one k there (alike there.oldest 0 e)
        by_oldest false e = of_another k there (λ z. free (λ y. grind (arith, common_steps, y, e)) (ap (place_of (length ts)) z ∙ same))

    other : (b : Bool) → (t.stream == k) ≡ b → place_of (length ts) k ≢ place → of_stream k (t ∷ []) ≡ []
    other true f far = absurd (far (ap (place_of (length ts)) (sym (alike t.stream k f)) ∙ sym here))
    other false f far = rw f refl

    by_place : (b : Bool) → (place_of (length ts) k == place) ≡ b → of_stream k (placed (set ts place t)) ≡ of_stream k (placed ts) ++ of_stream k (t ∷ [])
    by_place true e =
        let same = alike (place_of (length ts) k) place e in
        let was : of_stream k (placed ts) ≡ [] = at_place k ts ∙ ap (λ m. one_of k (get_or ts m nothing)) same ∙ ap (one_of k) (sym is) ∙ nothing_there same in
        written k place ts t same lt ∙ by_stream (t.stream == k) refl ∙ ap (λ us. us ++ of_stream k (t ∷ [])) (sym was)
    by_place false e =
        let far : place_of (length ts) k ≢ place = λ z. grind (arith, common_steps, z, e) in
        unwritten k place ts t far ∙ sym (ap (λ us. of_stream k (placed ts) ++ us) (other (t.stream == k) refl far) ∙ append-nil (of_stream k (placed ts)))

-- No section of the stream stands at its place then.
pub nothing_left : (ts : List TrackedSection) (s place : ℕ) → place ≡ place_of (length ts) s → place < length ts → of_stream s (placed (set ts place nothing)) ≡ []
nothing_left ts s place here lt = written s place ts nothing (sym here) lt

-- The section at the place of its stream is taken.
pub taken_there : (ts : List TrackedSection) (s place : ℕ) (there : TrackedSection) → place ≡ place_of (length ts) s → place < length ts → there ≡ get_or ts place nothing → there.stream ≡ s → there.oldest ≢ 0
    → IsFirstTaken s (placed ts) (placed (set ts place nothing)) (Some (named_by there))
taken_there ts s place there here lt is own some =
    record {
      others = λ k ne. by_place k (place_of (length ts) k == place) refl ne;
      one = found ∙ ap (λ m. record { stream = m; oldest = there.oldest; newest = there.newest } ∷ []) own ∙ ap (λ us. record { stream = s; oldest = there.oldest; newest = there.newest } ∷ us) (sym (nothing_left ts s place here lt));
      none = tt;
    }
  where
    found : of_stream s (placed ts) ≡ there ∷ []
    found = at_place s ts ∙ ap (λ m. one_of s (get_or ts m nothing)) (sym here) ∙ ap (one_of s) (sym is) ∙ ap (λ m. one_of m there) (sym own) ∙ is_one there some

    by_place : (k : ℕ) (b : Bool) → (place_of (length ts) k == place) ≡ b → k ≢ s → of_stream k (placed (set ts place nothing)) ≡ of_stream k (placed ts)
    by_place k true e ne =
        let same = alike (place_of (length ts) k) place e in
        let was : of_stream k (placed ts) ≡ [] = at_place k ts ∙ ap (λ m. one_of k (get_or ts m nothing)) same ∙ ap (one_of k) (sym is) ∙ of_another k there (λ z. ne (sym z ∙ own)) in
        written k place ts nothing same lt ∙ sym was
    by_place k false e ne = unwritten k place ts nothing (λ z. grind (arith, common_steps, z, e))

-- none of the stream
pub not_there : (ts : List TrackedSection) (s place : ℕ) (there : TrackedSection) → place ≡ place_of (length ts) s → there ≡ get_or ts place nothing → (there.stream ≡ s → there.oldest ≡ 0) → IsFirstTaken s (placed ts) (placed ts) None
not_there ts s place there here is none =
    let no_one : of_stream s (placed ts) ≡ [] = at_place s ts ∙ ap (λ m. one_of s (get_or ts m nothing)) (sym here) ∙ ap (one_of s) (sym is) ∙ by_stream (there.stream == s) refl in
    record { others = λ other ne. refl; one = tt; none = (no_one, no_one) }
  where
    by_stream : (b : Bool) → (there.stream == s) ≡ b → one_of s there ≡ []
    by_stream true e = is_no_one s there (none (alike there.stream s e))
    by_stream false e = of_another s there (λ z. grind (arith, common_steps, z, e))

-- the place among twice as many
twice : (n x : ℕ) → 0 < n → (x % (n + n) ≡ x % n) ⊎ (x % (n + n) ≡ n + x % n)
twice n x above = by_half (nat_lt (x % (n + n)) n) refl
  where
    same : x % n ≡ (x % (n + n)) % n
    same =
        let parts : n * (x / (n + n) + x / (n + n)) + x % (n + n) ≡ x = omega (arith, div-add-mod x (n + n), mul_both n (x / (n + n))) in
        sym (ap (λ m. m % n) parts) ∙ mul-add-mod_self_left n (x / (n + n) + x / (n + n)) (x % (n + n))
      where
        mul_both : (a q : ℕ) → a * (q + q) ≡ (a + a) * q
        mul_both a q = mul-add a q q ∙ sym (add-mul a a q)

    by_half : (b : Bool) → nat_lt (x % (n + n)) n ≡ b → (x % (n + n) ≡ x % n) ⊎ (x % (n + n) ≡ n + x % n)
    by_half true e = let lt : x % (n + n) < n = grind (arith, common_steps, e) in inl (sym (same ∙ mod-eq_of_lt lt))
    by_half false e =
        let ge : n ≤ x % (n + n) = grind (arith, common_steps, e) in
        let below : x % (n + n) < n + n = mod-lt x (omega (arith, above)) in
        let rest : x % (n + n) - n < n = omega (arith, ge, below) in
        let split : n + (x % (n + n) - n) ≡ x % (n + n) = omega (arith, ge) in
        inr (sym (ap (λ m. n + m) (same ∙ sym (ap (λ m. m % n) split) ∙ add-mod_left n (x % (n + n) - n) ∙ mod-eq_of_lt rest) ∙ split))

-- Twice the places have the same sections.
pub doubled : (ts : List TrackedSection) → 0 < length ts → HaveSame (placed ts) (placed (ts ++ ts))
doubled ts above k =
    at_place k (ts ++ ts) ∙ ap (λ n. one_of k (get_or (ts ++ ts) (place_of n k) nothing)) (length-append ts ts) ∙ ap (one_of k) (by_half (twice (length ts) (k / 4) above)) ∙ sym (at_place k ts)
  where
    by_half : (place_of (length ts + length ts) k ≡ place_of (length ts) k) ⊎ (place_of (length ts + length ts) k ≡ length ts + place_of (length ts) k)
        → get_or (ts ++ ts) (place_of (length ts + length ts) k) nothing ≡ get_or ts (place_of (length ts) k) nothing
    by_half (inl e) = ap (λ m. get_or (ts ++ ts) m nothing) e ∙ get_or-append ts ts nothing (place_of (length ts) k) (mod-lt (k / 4) above)
    by_half (inr e) = ap (λ m. get_or (ts ++ ts) m nothing) e ∙ get_or-append-add ts ts (place_of (length ts) k) nothing
