-- What a list of streams has, and the least of it.
use Rattle.std.proofs.Common.{◌≡◌, ℕ, Bool, true, false, ◌&&◌, ◌||◌, if◌then◌else◌, [], ◌∷◌, sym, refl, ap, ◌∙◌}
use Rattle.std.specs.Prelude.{◌==◌, Some}
use Rattle.std.proofs.lemmas.Bool.{eqb-true}
use Rattle.h3_scheduler.specs.Least.{IsLeast, lesser_of}
use Rattle.h3_scheduler.specs.Streams.{Stream, Streams, any_by, id_of, least_by}
use Rattle.h3_scheduler.specs.LeastLaws.{least_either, least_itself}

-- the least of a list is the least number that it has
pub least_is : (number : ℕ × Stream → ℕ) (test : ℕ × Stream → Bool) (es : Streams) → IsLeast (any_by number test es) 0 (least_by number test es)
least_is number test [] = λ q there. refl
least_is number test (e ∷ es) = by_test (test e) (least_is number test es)
  where
    by_test : (b : Bool) → IsLeast (any_by number test es) 0 (least_by number test es) → IsLeast (λ q. (b && (number e == q)) || any_by number test es q) 0 (if b then lesser_of (Some (number e)) (least_by number test es) else least_by number test es)
    by_test true rest = least_either (λ q. number e == q) (any_by number test es) 0 (Some (number e)) (least_by number test es) (least_itself (number e)) rest
    by_test false rest = rest

-- one of two tests
pub any_either : (number : ℕ × Stream → ℕ) (a b : ℕ × Stream → Bool) (es : Streams) (q : ℕ) → any_by number (λ s. a s || b s) es q ≡ (any_by number a es q || any_by number b es q)
any_either number a b [] q = refl
any_either number a b (e ∷ es) q = go (a e) (b e) (number e == q) _ _ _ (any_either number a b es q)
  where
    go : (x y n both one other : Bool) → both ≡ (one || other) → (((x || y) && n) || both) ≡ (((x && n) || one) || ((y && n) || other))
    go true y true both one other h = refl
    go false true true both true other h = refl
    go false true true both false other h = refl
    go false false true both one other h = h
    go true true false both one other h = h
    go true false false both one other h = h
    go false true false both one other h = h
    go false false false both one other h = h

-- a test with one of the id
pub any_with : (a : ℕ × Stream → Bool) (p : ℕ → Bool) (es : Streams) (q : ℕ) → any_by id_of (λ s. a s && p s.0) es q ≡ (any_by id_of a es q && p q)
any_with a p [] q = refl
any_with a p (e ∷ es) q = go (a e) (e.0 == q) refl _ _ (any_with a p es q)
  where
    and_false : (b : Bool) → (b && false) ≡ false
    and_false true = refl
    and_false false = refl

    same : (x y : Bool) (all one : Bool) → all ≡ (one && y) → ((x && y) || all) ≡ ((x || one) && y)
    same true true all one h = refl
    same true false all one h = h ∙ and_false one
    same false true all one h = h
    same false false all one h = h

    drop_true : (x : Bool) → (x && true) ≡ x
    drop_true true = refl
    drop_true false = refl

    go : (x n : Bool) → (e.0 == q) ≡ n → (all one : Bool) → all ≡ (one && p q) → (((x && p e.0) && n) || all) ≡ (((x && n) || one) && p q)
    go x true is all one h =
        let eq : p e.0 ≡ p q = ap p (eqb-true e.0 q is) in
        ap (λ b. b || all) (drop_true (x && p e.0)) ∙ ap (λ b. (x && b) || all) eq ∙ same x (p q) all one h ∙ ap (λ b. (b || one) && p q) (sym (drop_true x))
    go x false is all one h =
        ap (λ b. b || all) (and_false (x && p e.0)) ∙ h ∙ ap (λ b. (b || one) && p q) (sym (and_false x))
