-- Rounds that leave less each time: how many are allowed does not matter, so all of them are one and the rest.
use Rattle.std.proofs.Common.{◌≡◌, ℕ, zero, suc, ◌<◌, Option, refl, arith}
use Rattle.h3_priority.specs.Reading.{Round, go_on, rounds, all_rounds}
use Rattle.h3_priority.specs.Reading.Round.{Again, Finished, Refused}

-- a round that goes on leaves less
abbrev pub LeavesLess : {S A : Type 0} → (S → ℕ) → ℕ → Round S A → Type 0
LeavesLess left most (Again state) = left state < most
LeavesLess left most (Finished answer) = Unit {0}
LeavesLess left most Refused = Unit {0}

abbrev pub EachLeavesLess : {S A : Type 0} → (S → Round S A) → (S → ℕ) → Type 0
EachLeavesLess {S} round left = (state : S) → LeavesLess left (left state) (round state)

same_on : {S A : Type 0} (left : S → ℕ) (most : ℕ) (r : Round S A) (f g : S → Option A) → LeavesLess left most r → ((state : S) → left state < most → f state ≡ g state) → go_on r f ≡ go_on r g
same_on left most (Again state) f g less same = same state less
same_on left most (Finished answer) f g less same = refl
same_on left most Refused f g less same = refl

pub enough : {S A : Type 0} (round : S → Round S A) (left : S → ℕ) → EachLeavesLess round left → (n m : ℕ) (state : S) → left state < n → left state < m → rounds round n state ≡ rounds round m state
enough round left each zero m state h k = absurd (omega arith)
enough round left each (suc n) zero state h k = absurd (omega arith)
enough round left each (suc n) (suc m) state h k =
    same_on left (left state) (round state) (rounds round n) (rounds round m) (each state) (λ next less. enough round left each n m next (omega arith) (omega arith))

-- all rounds are the first one and all that follow it
pub first_round : {S A : Type 0} (round : S → Round S A) (left : S → ℕ) → EachLeavesLess round left → (state : S) → all_rounds round left state ≡ go_on (round state) (all_rounds round left)
unfolding all_rounds
first_round round left each state =
    same_on left (left state) (round state) (rounds round (left state)) (all_rounds round left) (each state) (λ next less. enough round left each (left state) (suc (left next)) next less (omega arith))
