-- Which stream sends next: the least urgency first, and there by turns.
use Rattle.std.specs.Prelude.{ℕ, Bool, true, false, not, ◌&&◌, ◌||◌, ◌==◌, List, [], ◌∷◌, Option, Some, None, if◌then◌else◌}
use Rattle.std.specs.BTreeMap.{is_at}
use Rattle.std.specs.Map.{lookup}
use Rattle.std.specs.Ordering.{nat_cmp}
use Rattle.h3_priority.specs.Priority.{PriorityParameters}
use Rattle.h3_scheduler.specs.Least.{lesser_of}
use Rattle.h3_scheduler.specs.Rounds.{is_in, round_at}
use Rattle.h3_scheduler.specs.declared.round.Round.{Round}

-- a stream: its priority, whether it has something to send, and whether it is held
pub record Stream : Type 0 where
  pub priority : PriorityParameters
  pub is_ready : Bool
  pub is_held : Bool

-- streams by their ids, in the order of these
abbrev pub Streams : Type 0
Streams = List (ℕ × Stream)

abbrev pub stream_at : Streams → ℕ → Option Stream
stream_at streams id = lookup (is_at (nat_cmp id)) streams

-- it has something to send, and is not held
abbrev pub stands : Stream → Bool
stands s = s.is_ready && not s.is_held

-- the priority at which it stands
abbrev pub class_of : Stream → Option PriorityParameters
class_of s = if stands s then Some s.priority else None

-- two Booleans are alike
abbrev pub alike : Bool → Bool → Bool
alike true is = is
alike false is = not is

abbrev pub is_class : Option PriorityParameters → ℕ → Bool → Bool
is_class None urgency incremental = false
is_class (Some p) urgency incremental = (p.urgency == urgency) && alike p.incremental incremental

-- it stands at this urgency, and is incremental or not
abbrev pub stands_as : ℕ → Bool → ℕ × Stream → Bool
stands_as urgency incremental s = is_class (class_of s.1) urgency incremental

-- the least number of those that pass a test
abbrev pub least_by : (ℕ × Stream → ℕ) → (ℕ × Stream → Bool) → Streams → Option ℕ
least_by number test [] = None
least_by number test (s ∷ streams) = if test s then lesser_of (Some (number s)) (least_by number test streams) else least_by number test streams

-- this number is that of one that passes
abbrev pub any_by : (ℕ × Stream → ℕ) → (ℕ × Stream → Bool) → Streams → ℕ → Bool
any_by number test [] n = false
any_by number test (s ∷ streams) n = (test s && (number s == n)) || any_by number test streams n

abbrev pub id_of : ℕ × Stream → ℕ
id_of s = s.0

abbrev pub urgency_of : ℕ × Stream → ℕ
urgency_of s = s.1.priority.urgency

-- the least id of the streams that are not incremental
abbrev pub first_plain : ℕ → Streams → Option ℕ
first_plain urgency streams = least_by id_of (stands_as urgency false) streams

abbrev pub is_it : Option ℕ → ℕ → Bool
is_it None id = false
is_it (Some least) id = least == id

-- these take turns: each incremental stream, and that one
abbrev pub takes_turn : ℕ → Streams → ℕ × Stream → Bool
takes_turn urgency streams s = stands_as urgency true s || (stands_as urgency false s && is_it (first_plain urgency streams) s.0)

abbrev pub or_else : Option ℕ → Option ℕ → Option ℕ
or_else None other = other
or_else (Some id) other = Some id

-- the next of the round, or else the first of another
abbrev pub next_turn : Round → ℕ → Streams → Option ℕ
next_turn r urgency streams =
    or_else (least_by id_of (λ s. takes_turn urgency streams s && is_in r s.0) streams) (least_by id_of (takes_turn urgency streams) streams)

-- the least urgency at which a stream stands
abbrev pub first_urgency : Streams → Option ℕ
first_urgency streams = least_by urgency_of (λ s. stands s.1) streams

abbrev pub next_at : List Round → Streams → Option ℕ → Option ℕ
next_at rounds streams None = None
next_at rounds streams (Some urgency) = next_turn (round_at rounds urgency) urgency streams

-- which stream sends next
unfoldable pub next_of : List Round → Streams → Option ℕ
next_of rounds streams = next_at rounds streams (first_urgency streams)
