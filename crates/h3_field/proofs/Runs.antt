-- Two texts of one length by their first and their last bytes.
use Rattle.std.proofs.Common.{◌≡◌, ℕ, ◌+◌, ◌-◌, ◌≤◌, Bool, true, false, ◌&&◌, bytes_eq, List, ◌++◌, length, take, drop, refl, ap, sym, ◌∙◌, arith}
use Rattle.std.proofs.lemmas.Bool.{false≢true}
use Rattle.std.proofs.lemmas.List.{drop-drop, take-append-drop}
use Rattle.std.proofs.lemmas.Slice.Eq.{bytes_eq-Decides}

pub other_texts : (a b : List ℕ) → (a ≡ b → ⊥) → false ≡ bytes_eq a b
other_texts a b other = by (bytes_eq a b) (λ e. other ((bytes_eq-Decides a b).0 e))
  where
    by : (found : Bool) → (found ≡ true → ⊥) → false ≡ found
    by true never = absurd (never refl)
    by false never = refl

pub other_lengths : (a b : List ℕ) → (length a ≡ length b → ⊥) → false ≡ bytes_eq a b
other_lengths a b other = other_texts a b (λ e. other (ap length e))

pub same_texts : (a b : List ℕ) → a ≡ b → true ≡ bytes_eq a b
same_texts a b e = sym ((bytes_eq-Decides a b).1 e)

-- the last bytes begin where the first ones end, or before that
pub by_ends : (n m : ℕ) (a b : List ℕ) → m ≤ n → take n a ≡ take n b → drop m a ≡ drop m b → a ≡ b
by_ends n m a b reaches front back =
    let rest : drop n a ≡ drop n b = more a ∙ ap (drop (n - m)) back ∙ sym (more b) in
    sym (take-append-drop n a) ∙ ap (λ l. l ++ drop n a) front ∙ ap (λ l. take n b ++ l) rest ∙ take-append-drop n b
  where
    more : (l : List ℕ) → drop n l ≡ drop (n - m) (drop m l)
    more l = ap (λ k. drop k l) (omega (arith, reaches)) ∙ sym (drop-drop (n - m) m l)

pub same_by_ends : (n m : ℕ) (a b : List ℕ) → m ≤ n → (bytes_eq (take n a) (take n b) && bytes_eq (drop m a) (drop m b)) ≡ bytes_eq a b
same_by_ends n m a b reaches = by (bytes_eq (take n a) (take n b)) (bytes_eq (drop m a) (drop m b)) refl refl
  where
    by : (x y : Bool) → bytes_eq (take n a) (take n b) ≡ x → bytes_eq (drop m a) (drop m b) ≡ y → (x && y) ≡ bytes_eq a b
    by true true e f = same_texts a b (by_ends n m a b reaches ((bytes_eq-Decides (take n a) (take n b)).0 e) ((bytes_eq-Decides (drop m a) (drop m b)).0 f))
    by true false e f = other_texts a b (λ same. false≢true (sym f ∙ (bytes_eq-Decides (drop m a) (drop m b)).1 (ap (drop m) same)))
    by false y e f = other_texts a b (λ same. false≢true (sym e ∙ (bytes_eq-Decides (take n a) (take n b)).1 (ap (take n) same)))

-- Their first bytes and their last ones, as many each, are compared.
pub compared : (n : ℕ) (a b first other_first last other_last : List ℕ) (x y : Bool) → length a ≡ length b → length a ≤ n + n → first ≡ take n a → other_first ≡ take n b → last ≡ drop (length a - n) a
    → other_last ≡ drop (length b - n) b → x ≡ bytes_eq first other_first → y ≡ bytes_eq last other_last → (x && y) ≡ bytes_eq a b
compared n a b first other_first last other_last x y same most f g l m e h =
    let front : x ≡ bytes_eq (take n a) (take n b) = e ∙ ap (λ t. bytes_eq t other_first) f ∙ ap (λ t. bytes_eq (take n a) t) g in
    let end : other_last ≡ drop (length a - n) b = m ∙ ap (λ k. drop (k - n) b) (sym same) in
    let back : y ≡ bytes_eq (drop (length a - n) a) (drop (length a - n) b) = h ∙ ap (λ t. bytes_eq t other_last) l ∙ ap (λ t. bytes_eq (drop (length a - n) a) t) end in
    ap (λ p. p && y) front ∙ ap (λ q. bytes_eq (take n a) (take n b) && q) back ∙ same_by_ends n (length a - n) a b (omega (arith, most))
