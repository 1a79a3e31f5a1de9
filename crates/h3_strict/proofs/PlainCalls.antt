-- What a call of an endpoint is beside that of the same endpoint without strict messages, by its refusal and what it does.
use Rattle.std.proofs.Common.{◌≡◌, ◌⊎◌, inl, inr, ℕ, Bool, true, false, List, ◌∷◌, refl, ap, sym, subst, Option, Some, None}
use Rattle.h3_connection.specs.Control.{Found}
use Rattle.h3_connection.specs.Delivering.{closed_by, taken}
use Rattle.h3_connection.specs.Endpoint.{EndpointHistory}
use Rattle.h3_connection.specs.Refusals.{first_of}
use Rattle.h3_connection.specs.Sending.{does, closed_or}
use Rattle.h3_connection.specs.StrictSending.{unless_malformed}
use Rattle.h3_connection.specs.declared.event.Malformation.{Malformation}
use Rattle.h3_connection.specs.declared.event.Refusal.{Refusal}
use Rattle.h3_connection.specs.declared.event.Refusal.TheVariants as refusal
use Rattle.h3_strict.specs.PlainAlike.{Agrees, Breaks, RulesPlainly, SameUnless}
use Rattle.h3_strict.specs.Plainly.{is_malformed, plainly}

-- the same answer, and the endpoint after it without strict messages
abbrev pub plain_result : {A : Type 0} → A × EndpointHistory → A × EndpointHistory
plain_result x = (x.0, plainly x.1)

abbrev pub tells : Option Refusal → Bool
tells None = false
tells (Some r) = is_malformed r

-- A refusal as malformed, with nothing changed; or the same.
pub data CallsPlainly (e : EndpointHistory) (x y : Option Refusal × EndpointHistory) : Type 0 where
  Malforms : tells x.0 ≡ true → x.1 ≡ e → CallsPlainly e x y
  Does : tells x.0 ≡ false → y ≡ plain_result x → CallsPlainly e x y

-- it accepts a call, or finds a list too large
abbrev pub AcceptsOrLarge : Option Refusal → Type 0
AcceptsOrLarge q = (q ≡ None) ⊎ ((size : ℕ) × (q ≡ Some (refusal.TooLarge size)))

-- Rules in order: one of strict messages refuses, or the same rule as without them.
module _ {unread : Option Malformation} where
  pub behind : (b : Bool) (r : Refusal) (l m : List (Bool × Refusal)) → RulesPlainly unread (first_of l) (first_of m) → RulesPlainly unread (first_of ((b, r) ∷ l)) (first_of ((b, r) ∷ m))
  behind true r l m h = Agrees (inl refl)
  behind false r l m h = h

  pub if_broken : (b : Bool) (why : Malformation) (l m : List (Bool × Refusal)) → AcceptsOrLarge (first_of m) → RulesPlainly unread (first_of l) (first_of m) → RulesPlainly unread (first_of ((b, refusal.Malformed why) ∷ l)) (first_of m)
  if_broken true why l m accepts h = Breaks why refl accepts
  if_broken false why l m accepts h = h

  pub unless_broken : (broken : Option Malformation) (l m : List (Bool × Refusal)) → AcceptsOrLarge (first_of m) → RulesPlainly unread (first_of l) (first_of m) → RulesPlainly unread (first_of (unless_malformed broken l)) (first_of m)
  unless_broken (Some why) l m accepts h = Breaks why refl accepts
  unless_broken None l m accepts h = h

  pub if_open : (closed : Option ℕ) (p q : Option Refusal) → RulesPlainly unread p q → RulesPlainly unread (closed_or closed p) (closed_or closed q)
  if_open (Some code) p q h = Agrees (inl refl)
  if_open None p q h = h

  -- the same of rules that are the same but for what the end does not read
  pub same_behind : (b : Bool) (r : Refusal) (l m : List (Bool × Refusal)) → SameUnless unread (first_of l) (first_of m) → SameUnless unread (first_of ((b, r) ∷ l)) (first_of ((b, r) ∷ m))
  same_behind true r l m h = inl refl
  same_behind false r l m h = h

  pub same_open : (closed : Option ℕ) (p q : Option Refusal) → SameUnless unread p q → SameUnless unread (closed_or closed p) (closed_or closed q)
  same_open (Some code) p q h = inl refl
  same_open None p q h = h

-- what the end does not read is malformed there
pub reads_own : (own all : Option Malformation) (l m : List (Bool × Refusal)) → (own ≡ None → all ≡ None) → RulesPlainly own (first_of l) (first_of m) → RulesPlainly own (first_of (unless_malformed own l)) (first_of (unless_malformed all m))
reads_own None all l m narrows h = subst (λ o. RulesPlainly None (first_of l) (first_of (unless_malformed o m))) (sym (narrows refl)) h
reads_own (Some why) all l m narrows h = Agrees (inr (why, refl, refl))

pub same_own : (own all : Option Malformation) (l : List (Bool × Refusal)) → (own ≡ None → all ≡ None) → SameUnless own (first_of (unless_malformed own l)) (first_of (unless_malformed all l))
same_own None all l narrows = inl (ap (λ o. first_of (unless_malformed o l)) (narrows refl))
same_own (Some why) all l narrows = inr (why, refl, refl)

-- a call by its rules
by_refusal : (r : Option Refusal) (e f g : EndpointHistory) → g ≡ plainly f → CallsPlainly e (does r e f) (does r (plainly e) g)
by_refusal None e f g is = Does refl (ap (λ (x : EndpointHistory). let y : Option Refusal × EndpointHistory = (None, x) in y) is)
by_refusal (Some r) e f g is = by_rule (is_malformed r) refl
  where
    by_rule : (b : Bool) → is_malformed r ≡ b → CallsPlainly e (Some r, e) (Some r, plainly e)
    by_rule true told = Malforms told refl
    by_rule false told = Does told refl

pub does_plainly : {unread : Option Malformation} (p q : Option Refusal) (e f g : EndpointHistory) → RulesPlainly unread p q → g ≡ plainly f → CallsPlainly e (does p e f) (does q (plainly e) g)
does_plainly p q e f g (Breaks why broken accepts) is = subst (λ o. CallsPlainly e (does o e f) (does q (plainly e) g)) (sym broken) (Malforms refl refl)
does_plainly p q e f g (Agrees (inr own)) is = subst (λ o. CallsPlainly e (does o e f) (does q (plainly e) g)) (sym own.2) (Malforms refl refl)
does_plainly p q e f g (Agrees (inl same)) is = subst (λ o. CallsPlainly e (does p e f) (does o (plainly e) g)) (sym same) (by_refusal p e f g is)

-- what comes, by its rules and what is found
closed_plainly : (e : EndpointHistory) (x : Found) → CallsPlainly e (closed_by x) (closed_by (plainly x.0, x.1))
closed_plainly e (f, None) = Does refl refl
closed_plainly e (f, Some code) = Does refl refl

pub taken_plainly : (closed : Option ℕ) (r : Option Refusal) (e : EndpointHistory) (x y : Found) → y ≡ (plainly x.0, x.1) → CallsPlainly e (taken closed r e x) (taken closed r (plainly e) y)
taken_plainly (Some code) r e x y is = Does refl refl
taken_plainly None (Some r) e x y is = by_rule (is_malformed r) refl
  where
    by_rule : (b : Bool) → is_malformed r ≡ b → CallsPlainly e (Some r, e) (Some r, plainly e)
    by_rule true told = Malforms told refl
    by_rule false told = Does told refl
taken_plainly None None e x y is = subst (λ z. CallsPlainly e (closed_by x) (closed_by z)) (sym is) (closed_plainly e x)
