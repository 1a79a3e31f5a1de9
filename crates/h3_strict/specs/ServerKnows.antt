-- Schedules in which a server knows what was asked before it sends a response's final head. What that head says of its content is counted only
-- then (RFC 9110, sections 9.3.2 and 9.3.6).
use Rattle.std.specs.Prelude.{◌≡◌, ℕ, Bool, true, false, ◌&&◌, List, ◌∷◌, ◌==◌, if◌then◌else◌}
use Rattle.h3_proto.specs.declared.stream.Side.{Side}
use Rattle.h3_proto.specs.declared.stream.Side.TheVariants.{Client, Server}
use Rattle.h3_connection.specs.Pulling.{is_interim}
use Rattle.h3_connection.specs.declared.event.Item.{Item}
use Rattle.h3_connection.specs.declared.event.Item.TheVariants as item
use Rattle.h3_connection.specs.declared.event.Pull.{Pull}
use Rattle.h3_connection.specs.declared.event.Pull.TheVariants as pull
use Rattle.h3_connection.specs.Lists.{pull_of}
use Rattle.h3_header.specs.Reads.{head_of_fields}
use Rattle.h3_world.specs.declared.event.Answer.{Answer}
use Rattle.h3_world.specs.declared.event.Answer.TheVariants as answer
use Rattle.h3_world.specs.declared.event.Event.{Event}
use Rattle.h3_world.specs.declared.event.Event.TheVariants as event
use Rattle.h3_headline.specs.Messages.{is_done}

abbrev pub is_head : Item → Bool
is_head (item.Head h) = true
is_head _ = false

abbrev pub hands_head : Pull → Bool
hands_head (pull.Item i) = is_head i
hands_head _ = false

-- the final head of a message was handed out, in one piece
abbrev pub tells_head : Answer → Bool
tells_head (answer.Pulled p) = hands_head p
tells_head (answer.Listed l) = hands_head (pull_of l)
tells_head _ = false

abbrev pub is_server : Side → Bool
is_server Client = false
is_server Server = true

-- Whether the server knows what the request on a stream asks, behind an event and its answer: it was handed the request's head.
abbrev pub knows_behind : ℕ → Bool → Event → Answer → Bool
knows_behind id known (event.Pull side i) a = if is_server side && (i == id) && tells_head a then true else known
knows_behind id known (event.PullFields side i) a = if is_server side && (i == id) && tells_head a then true else known
knows_behind id known _ a = known

-- a final head of a response that was accepted is sent where the server knows
abbrev pub AnswersKnowing : (ℕ → Bool) → Event → Answer → Type 0
AnswersKnowing known (event.Head side id head) a = is_server side ≡ true → is_done a ≡ true → is_interim head.status ≡ false → known id ≡ true
AnswersKnowing known (event.Fields side id fields) a = is_server side ≡ true → is_done a ≡ true → is_interim (head_of_fields fields).status ≡ false → known id ≡ true
AnswersKnowing known _ a = Unit {0}

abbrev pub ServerKnowsFrom : (ℕ → Bool) → List Event → List Answer → Type 0
ServerKnowsFrom known (e ∷ events) (a ∷ answers) = AnswersKnowing known e a × ServerKnowsFrom (λ id. knows_behind id (known id) e a) events answers
ServerKnowsFrom known _ _ = Unit {0}

-- over a whole schedule, by its events and answers
abbrev pub ServerKnows : List Event → List Answer → Type 0
ServerKnows events answers = ServerKnowsFrom (λ id. false) events answers
