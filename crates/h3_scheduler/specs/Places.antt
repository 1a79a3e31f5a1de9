-- Where streams stand: at an urgency, incremental or not, with an id. And whose turn it is there.
use Rattle.std.specs.Prelude.{◌≡◌, ◌⊎◌, ◌<◌, ℕ, Bool, true, false, ◌&&◌, ◌||◌, List, Option, Some, None}
use Rattle.h3_scheduler.specs.Least.{IsLeast}
use Rattle.h3_scheduler.specs.Rounds.{is_in, round_at}
use Rattle.h3_scheduler.specs.Streams.{is_it}
use Rattle.h3_scheduler.specs.declared.round.Round.{Round}

-- whether a stream stands there
abbrev pub Places : Type 0
Places = ℕ → Bool → ℕ → Bool

-- the least urgency at which some stream stands
abbrev pub IsFirstUrgency : Places → Option ℕ → Type 0
IsFirstUrgency places None = (urgency : ℕ) (incremental : Bool) (q : ℕ) → places urgency incremental q ≡ false
IsFirstUrgency places (Some first) = ((incremental : Bool) × (q : ℕ) × (places first incremental q ≡ true)) × ((urgency : ℕ) (incremental : Bool) (q : ℕ) → urgency < first → places urgency incremental q ≡ false)

-- who takes turns at an urgency: each that is incremental, and the first of the others
abbrev pub takes_at : Places → ℕ → Option ℕ → ℕ → Bool
takes_at places urgency plain q = places urgency true q || (places urgency false q && is_it plain q)

-- It has the turn: the next of the round, or else the first of another.
abbrev pub IsTurn : (ℕ → Bool) → Round → ℕ → Type 0
IsTurn takes r id = IsLeast (λ q. takes q && is_in r q) 0 (Some id) ⊎ (IsLeast (λ q. takes q && is_in r q) 0 None × IsLeast takes 0 (Some id))

-- It has the turn at the least urgency.
pub record HasTurn (places : Places) (rounds : List Round) (id : ℕ) : Type 0 where
  pub urgency : ℕ
  pub first : IsFirstUrgency places (Some urgency)
  pub plain : Option ℕ
  pub least : IsLeast (places urgency false) 0 plain
  pub turn : IsTurn (takes_at places urgency plain) (round_at rounds urgency) id

-- It sends next; or none stands.
abbrev pub IsNext : Places → List Round → Option ℕ → Type 0
IsNext places rounds None = IsFirstUrgency places None
IsNext places rounds (Some id) = HasTurn places rounds id
