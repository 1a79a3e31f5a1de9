-- Two endpoints without strict messages, and what is left of a schedule without the sends that were refused as malformed.
use Rattle.std.specs.Prelude.{◌≡◌, ◌≤◌, ℕ, Bool, true, false, List, [], ◌∷◌, ◌++◌, if◌then◌else◌, Option, Some, None, ◌||◌}
use Rattle.h3_proto.specs.declared.stream.Side.{Side}
use Rattle.h3_connection.specs.Bounds.{IsBounded}
use Rattle.h3_connection.specs.Control.{Found}
use Rattle.h3_connection.specs.Endpoint.{EndpointHistory, heads_waiting}
use Rattle.h3_connection.specs.Keeping.{read_all, unkept}
use Rattle.h3_connection.specs.OwnIds.{other}
use Rattle.h3_connection.specs.StrictConnection.{is_strict}
use Rattle.h3_connection.specs.declared.event.Refusal.TheVariants as refusal
use Rattle.h3_connection.specs.Lists.{pull_of}
use Rattle.h3_world.specs.Ends.{Ends, answered, answers_of_ends, delivery, end_at, end_delivery, ends_after, reset_delivery}
use Rattle.h3_world.specs.declared.event.Answer.{Answer}
use Rattle.h3_world.specs.declared.event.Answer.TheVariants as answer
use Rattle.h3_world.specs.declared.event.Event.{Event}
use Rattle.h3_world.specs.declared.event.Event.TheVariants as event
use Rattle.h3_world.specs.Setup.{Setup}
use Rattle.h3_strict.specs.Plainly.{exceeds, is_excess, is_judged, is_malformed, plain, plainly, tells_malformed}

abbrev pub plain_setup : Setup → Setup
plain_setup setup = record { client = plain setup.client; server = plain setup.server }

abbrev pub plain_ends : Ends → Ends
plain_ends ends = record { client = plainly ends.client; server = plainly ends.server }

-- a send that was refused as malformed
abbrev pub is_malformed_refusal : Answer → Bool
is_malformed_refusal (answer.Refused r) = is_malformed r
is_malformed_refusal _ = false

abbrev pub answers_without_malformed : List Answer → List Answer
answers_without_malformed [] = []
answers_without_malformed (a ∷ answers) = if is_malformed_refusal a then answers_without_malformed answers else a ∷ answers_without_malformed answers

-- and these events
abbrev pub without_malformed : List Event → List Answer → List Event
without_malformed (e ∷ events) (a ∷ answers) = if is_malformed_refusal a then without_malformed events answers else e ∷ without_malformed events answers
without_malformed _ _ = []

-- the code of the fault of the connection that what came was answered by
abbrev pub refused_by : Answer → Option ℕ
refused_by (answer.Refused (refusal.Connection code)) = Some code
refused_by _ = None

-- what came was too long for a reader that limits what is unfinished
abbrev pub was_too_long : Ends → Side → Answer → Bool
was_too_long ends reader a = exceeds (end_at ends reader) (refused_by a)

-- The event is a pull that judges a message: it finds it malformed, or a frame of it at the wrong place, or too long. Or it is a delivery that
-- is answered so, at an end that limits what is unfinished.
abbrev pub judges : Ends → Event → Bool
judges ends (event.Pull side id) = is_judged (end_at ends side) id
judges ends (event.PullFields side id) = is_judged (end_at ends side) id
judges ends (event.Deliver writer id count) = was_too_long ends (other writer) (delivery ends writer id count).0
judges ends (event.DeliverEnd writer id) = was_too_long ends (other writer) (end_delivery ends writer id).0
judges ends (event.DeliverReset writer id) = was_too_long ends (other writer) (reset_delivery ends writer id).0
judges ends _ = false

-- None of the events does, each at the ends that those before lead to.
abbrev pub NoneJudges : Ends → List Event → Type 0
NoneJudges ends [] = Unit {0}
NoneJudges ends (e ∷ events) = (judges ends e ≡ false) × NoneJudges (answered ends e).1 events

-- An end asks for a strict connection
abbrev pub asks_strictly : Ends → Bool
asks_strictly ends = is_strict ends.client.announced || is_strict ends.server.announced

-- A pull was answered by a malformed message, a frame at the wrong place or one that is too long; or what came, by the fault of what is too
-- long. No other fault of the connection is one. If an end asks for a strict connection, an error of a stream of instructions is
abbrev pub finds_fault : Bool → Answer → Bool
finds_fault strict (answer.Pulled p) = tells_malformed strict p
finds_fault strict (answer.Listed l) = tells_malformed strict (pull_of l)
finds_fault strict a = is_excess strict (refused_by a)

-- no more streams of it wait for insertions than it announced (RFC 9204, section 2.1.2)
abbrev pub FewWait : EndpointHistory → Type 0
FewWait e = heads_waiting e.decoding.decoder e.incoming ≤ e.announced.limits.blocked

-- nor once it read what it keeps, if that is no fault
abbrev pub FewWaitIn : Found → Type 0
FewWaitIn x = (f : EndpointHistory) → x ≡ (f, None) → FewWait f

abbrev pub FewWaitBehind : EndpointHistory → Type 0
FewWaitBehind e = FewWaitIn (read_all e.kept (unkept e))

-- at either end
abbrev pub FewWaitAt : Ends → Type 0
FewWaitAt ends = (side : Side) → FewWaitBehind (end_at ends side)

-- Both ends are such as calls made: the bounds hold of them that hold of each endpoint.
pub record AreBounded (ends : Ends) : Type 0 where
  pub client : IsBounded ends.client
  pub server : IsBounded ends.server

-- One event at the two ends, beside the same ends without strict messages: a send was refused as malformed, with nothing changed; or a pull
-- judges a message, or a delivery finds it too long, and the answer tells so, unless more streams wait than may; or it is answered alike, and
-- leads to the same ends without strict messages.
pub data StepsPlainly (ends : Ends) (e : Event) : Type 0 where
  RefusesMalformed : is_malformed_refusal (answered ends e).0 ≡ true → (answered ends e).1 ≡ ends → StepsPlainly ends e
  Judges : judges ends e ≡ true → (FewWaitAt ends → finds_fault (asks_strictly ends) (answered ends e).0 ≡ true) → StepsPlainly ends e
  Alike : is_malformed_refusal (answered ends e).0 ≡ false → answered (plain_ends ends) e ≡ ((answered ends e).0, plain_ends (answered ends e).1) → StepsPlainly ends e

-- So it is over a whole schedule in which none judges a message: the answers, without the sends that were refused as malformed, are those of
-- the ends without strict messages over the other events, which lead to the same ends without strict messages.
pub record RunsPlainly (ends : Ends) (events : List Event) : Type 0 where
  pub answers : answers_without_malformed (answers_of_ends ends events) ≡ answers_of_ends (plain_ends ends) (without_malformed events (answers_of_ends ends events))
  pub leads : plain_ends (ends_after ends events) ≡ ends_after (plain_ends ends) (without_malformed events (answers_of_ends ends events))

-- the events in front of the first that does
abbrev pub before_judged : Ends → List Event → List Event
before_judged ends [] = []
before_judged ends (e ∷ events) = if judges ends e then [] else e ∷ before_judged (answered ends e).1 events

-- some events are a front of others, and so are the answers to them
pub record IsFront (ends : Ends) (events front : List Event) : Type 0 where
  pub others : List Event
  pub is : events ≡ front ++ others
  pub answers : answers_of_ends ends events ≡ answers_of_ends ends front ++ answers_of_ends (ends_after ends front) others
