-- What a list holds behind one field more.
use Rattle.std.proofs.Common.{◌≡◌, ℕ, ◌+◌, Bool, true, false, not, ◌&&◌, ◌||◌, cond, nat_lt, List, [], ◌∷◌, ◌++◌, ap, sym, refl, ◌∙◌, arith}
use Rattle.std.specs.List.{count_by, list_any, list_all}
use Rattle.std.proofs.lemmas.Bool.Decides.{nat_tests}
use Rattle.std.proofs.lemmas.List.Folds.{list_any-append, list_all-append}
use Rattle.std.proofs.lemmas.List.Sums.{sum_by_push, sum_by-cons}
use Rattle.h3_field.specs.Field.{Field}
use Rattle.h3_messages.specs.Messages.{has_name, holds, repeats, value_of, is_pseudo, pseudo_first}

-- the first value
first_by : (b : Bool) (v : List ℕ) (there : Bool) (rest x more : List ℕ) → more ≡ cond there rest x → cond b v more ≡ cond (b || there) (cond b v rest) x
first_by true v there rest x more e = refl
first_by false v there rest x more e = e

pub value_push : (name : List ℕ) (fields : List Field) (f : Field) → value_of name (fields ++ f ∷ []) ≡ cond (holds name fields) (value_of name fields) (cond (has_name name f) f.value [])
value_push name [] f = refl
value_push name (g ∷ fields) f = first_by (has_name name g) g.value (holds name fields) (value_of name fields) _ _ (value_push name fields f)

none_by : (b there : Bool) (v rest : List ℕ) → (there ≡ false → rest ≡ []) → (b || there) ≡ false → cond b v rest ≡ []
none_by true there v rest none h = absurd cc
none_by false there v rest none h = none h

pub value_none : (name : List ℕ) (fields : List Field) → holds name fields ≡ false → value_of name fields ≡ []
value_none name [] h = refl
value_none name (g ∷ fields) h = none_by (has_name name g) (holds name fields) g.value (value_of name fields) (value_none name fields) h

push_any : (a b : Bool) → (a || (b || false)) ≡ (a || b)
push_any true b = refl
push_any false true = refl
push_any false false = refl

pub any_push : {X : Type 0} (p : X → Bool) (xs : List X) (x : X) → list_any p (xs ++ x ∷ []) ≡ (list_any p xs || p x)
any_push p xs x = list_any-append p xs (x ∷ []) ∙ push_any (list_any p xs) (p x)

push_all : (a b : Bool) → (a && (b && true)) ≡ (a && b)
push_all false b = refl
push_all true true = refl
push_all true false = refl

pub all_push : {X : Type 0} (p : X → Bool) (xs : List X) (x : X) → list_all p (xs ++ x ∷ []) ≡ (list_all p xs && p x)
all_push p xs x = list_all-append p xs (x ∷ []) ∙ push_all (list_all p xs) (p x)

one_more : (b : Bool) (n : ℕ) → nat_lt 0 (cond b 1 0 + n) ≡ (b || nat_lt 0 n)
one_more true n = grind (arith, nat_tests)
one_more false n = grind (arith, nat_tests)

pub any_is_count : {X : Type 0} (p : X → Bool) (xs : List X) → list_any p xs ≡ nat_lt 0 (count_by p xs)
any_is_count p [] = refl
any_is_count p (x ∷ xs) =
    ap (λ more. p x || more) (any_is_count p xs)
    ∙ (sym (one_more (p x) (count_by p xs)) ∙ ap (nat_lt 0) (sym (sum_by-cons (λ y. cond (p y) 1 0) x xs)))

second : (b : Bool) (n : ℕ) → nat_lt 1 (n + cond b 1 0) ≡ (nat_lt 1 n || (nat_lt 0 n && b))
second true n = grind (arith, nat_tests)
second false n = grind (arith, nat_tests)

pub repeats_push : (name : List ℕ) (fields : List Field) (f : Field) → repeats name (fields ++ f ∷ []) ≡ (repeats name fields || (holds name fields && has_name name f))
repeats_push name fields f =
    ap (nat_lt 1) (sum_by_push (λ x. cond (has_name name x) 1 0) fields f)
    ∙ (second (has_name name f) (count_by (has_name name) fields)
    ∙ ap (λ there. repeats name fields || (there && has_name name f)) (sym (any_is_count (has_name name) fields)))

late : (any b : Bool) → not (any || b) ≡ (not any && not (b && true))
late true b = refl
late false true = refl
late false false = refl

first_push : (b : Bool) → cond b true true ≡ (true && not (b && false))
first_push true = refl
first_push false = refl

order_by : (g : Bool) (f : Bool) (before after anyp anyp' anyr : Bool) → after ≡ (before && not (f && anyr)) → anyp' ≡ (anyp || f) → cond g after (not anyp') ≡ (cond g before (not anyp) && not (f && (not g || anyr)))
order_by true f before after anyp anyp' anyr e a = e
order_by false f before after anyp anyp' anyr e a = ap not a ∙ late anyp f

pub order_push : (fields : List Field) (f : Field) → pseudo_first (fields ++ f ∷ []) ≡ (pseudo_first fields && not (is_pseudo f && list_any (λ x. not (is_pseudo x)) fields))
order_push [] f = first_push (is_pseudo f)
order_push (g ∷ fields) f = order_by (is_pseudo g) (is_pseudo f) (pseudo_first fields) _ (list_any is_pseudo fields) _ (list_any (λ x. not (is_pseudo x)) fields) (order_push fields f) (any_push is_pseudo fields f)
