-- Which stream sends next (RFC 9218, section 10): what is known of a request stream for that, and of turns.
use Rattle.std.specs.Prelude.{ℕ, Bool, false, List, slice_set, Option, Some, None, if◌then◌else◌, ◌==◌, nat_le}
use Rattle.h3_priority.specs.Priority.{PriorityParameters, default_parameters}
use Rattle.h3_scheduler.specs.Rounds.{after_turn, no_rounds, round_at}
use Rattle.h3_scheduler.specs.declared.round.Round.{Round}
use Rattle.h3_scheduler.specs.declared.round.Rounds.{Rounds}
use Rattle.h3_proto.specs.declared.stream.Side.{Side}
use Rattle.h3_connection.specs.OwnIds.{control_id, encoder_id, decoder_id}
use Rattle.h3_connection.specs.declared.order.Precedence.{Precedence}
use Rattle.h3_connection.specs.declared.order.PrioritySource.{PrioritySource}
use Rattle.h3_connection.specs.declared.order.PrioritySource.TheVariants.{Unsaid, Field, Update, Own}
use Rattle.h3_connection.specs.declared.order.SendOrder.{SendOrder}

-- a stream of which nothing was said
abbrev pub default_precedence : Precedence
default_precedence = record { priority = default_parameters; source = Unsaid; is_held = false }

-- Of what is said of the priority of a stream this counts first: what the endpoint says, then the last update, then the field of the request.
abbrev pub rank : PrioritySource → ℕ
rank Unsaid = 0
rank Field = 1
rank Update = 2
rank Own = 3

-- what is said now counts, too
abbrev pub gives_way : PrioritySource → PrioritySource → Bool
gives_way said now = nat_le (rank said) (rank now)

-- no priority was set, and no own stream is held
abbrev pub no_order : SendOrder
no_order = record { rounds = None; control_is_held = false; encoder_is_held = false; decoder_is_held = false }

-- the round of each urgency: none has begun before a priority was set
abbrev pub rounds_of : Option Rounds → List Round
rounds_of None = no_rounds
rounds_of (Some r) = r.rounds

-- turns count from the first priority on that is set
abbrev pub rounds_begun : Option Rounds → Option Rounds
rounds_begun rounds = Some (record { rounds = rounds_of rounds })

-- a stream had its turn, which counts once a priority was set; all ids that are open are below the bound
abbrev pub turn_over : Option Rounds → PriorityParameters → ℕ → ℕ → Option Rounds
turn_over None p id bound = None
turn_over (Some r) p id bound = Some (record { rounds = slice_set r.rounds p.urgency (after_turn (round_at r.rounds p.urgency) id bound) })

-- an own stream is held, or not any longer
abbrev pub own_held : SendOrder → Side → ℕ → Bool → SendOrder
own_held order side id held =
    if id == control_id side then record order { control_is_held = held } else (
    if id == encoder_id side then record order { encoder_is_held = held } else (
    if id == decoder_id side then record order { decoder_is_held = held } else order))
