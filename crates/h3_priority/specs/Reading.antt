-- How a text is read: what was read of it and what follows, or nothing where it is refused.
use Rattle.std.specs.Prelude.{◌≡◌, ℕ, zero, suc, Bool, false, ◌==◌, List, [], ◌∷◌, drop, Option, Some, None}
use Rattle.std.specs.List.{prefix_len}

abbrev pub Read : Type 0 → Type 0
Read A = Option (A × List ℕ)

abbrev pub then_read : {A B : Type 0} → Read A → (A → List ℕ → Option B) → Option B
then_read None next = None
then_read (Some p) next = next p.0 p.1

-- what a reader answers, and what it leaves of the text
abbrev pub Answers : {A : Type 0} → Read A → Option A → List ℕ → Type 0
Answers read None rest = read ≡ None
Answers read (Some value) rest = read ≡ Some (value, rest)

-- whether a text begins with this character, or with one that passes
abbrev pub begins_with : ℕ → List ℕ → Bool
begins_with b [] = false
begins_with b (c ∷ text) = c == b

abbrev pub begins_in : (ℕ → Bool) → List ℕ → Bool
begins_in test [] = false
begins_in test (c ∷ text) = test c

-- what follows the characters that pass
abbrev pub after : (ℕ → Bool) → List ℕ → List ℕ
after test text = drop (prefix_len test text) text

-- one round of a loop: it goes on, it is finished, or the text is refused
pub data Round (S A : Type 0) : Type 0 where
  Again : (state : S) → Round S A
  Finished : (answer : A) → Round S A
  Refused : Round S A

abbrev pub go_on : {S A : Type 0} → Round S A → (S → Option A) → Option A
go_on (Again state) next = next state
go_on (Finished answer) next = Some answer
go_on Refused next = None

-- at most so many rounds
abbrev pub rounds : {S A : Type 0} → (S → Round S A) → ℕ → S → Option A
rounds round zero state = None
rounds round (suc most) state = go_on (round state) (rounds round most)

-- each round that goes on leaves less, so there are no more of them than there is to read
unfoldable pub all_rounds : {S A : Type 0} → (S → Round S A) → (S → ℕ) → S → Option A
all_rounds round left state = rounds round (suc (left state)) state
