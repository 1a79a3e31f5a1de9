-- Two endpoints that limit what is unfinished, the same endpoints without limits, and schedules in which each limit takes what is sent to it.
use Rattle.std.specs.Prelude.{◌≡◌, ℕ, ◌*◌, ◌-◌, ◌^◌, ◌≤◌, Bool, true, false, List, [], ◌∷◌, is_none, length, max}
use Rattle.h3_field.specs.Field.{Field}
use Rattle.h3_header.specs.Head.{head_fields}
use Rattle.h3_proto.specs.Config.{is_limit}
use Rattle.h3_proto.specs.Pairs.{payload_of}
use Rattle.h3_proto.specs.declared.stream.Side.{Side}
use Rattle.h3_proto.specs.declared.stream.Side.TheVariants.{Client, Server}
use Rattle.h3_connection.specs.Announcing.{section_of}
use Rattle.h3_connection.specs.Endpoint.{EndpointHistory}
use Rattle.h3_connection.specs.OwnIds.{other}
use Rattle.h3_connection.specs.StrictConnection.{is_strict}
use Rattle.h3_connection.specs.declared.setup.Announced.{Announced}
use Rattle.h3_world.specs.Ends.{Ends, answered, answers_of_ends, end_at, ends_after}
use Rattle.h3_world.specs.Setup.{Setup, announced_at}
use Rattle.h3_world.specs.declared.event.Answer.{Answer}
use Rattle.h3_world.specs.declared.event.Event.{Event}
use Rattle.h3_world.specs.declared.event.Event.TheVariants as event
use Rattle.h3_headline.specs.Messages.{is_done}
use Rattle.h3_strict.specs.PlainEnds.{NoneJudges, refused_by}
use Rattle.h3_strict.specs.Plainly.{is_excess}
use Rattle.h3_qpack.specs.InstructionSizes.{most_instruction}
use Rattle.h3_qpack.specs.SectionSizes.{most_encoded}

-- it announces and judges the same, and takes frames and instructions of at most this length
abbrev pub limited : ℕ → Announced → Announced
limited most a = record a { choices = record a.choices { unfinished_limit = most } }

abbrev pub limited_end : ℕ → EndpointHistory → EndpointHistory
limited_end most e = record e { announced = limited most e.announced }

abbrev pub limited_ends : (Side → ℕ) → Ends → Ends
limited_ends most ends = record { client = limited_end (most Client) ends.client; server = limited_end (most Server) ends.server }

-- without limits
abbrev pub unlimited : Announced → Announced
unlimited a = limited (2 ^ 62 - 1) a

abbrev pub unlimited_setup : Setup → Setup
unlimited_setup setup = record { client = unlimited setup.client; server = unlimited setup.server }

abbrev pub unlimited_ends : Ends → Ends
unlimited_ends ends = limited_ends (λ side. 2 ^ 62 - 1) ends

-- how long a frame or an instruction the side takes
abbrev pub limit_at : Setup → Side → ℕ
limit_at setup side = (announced_at setup side).choices.unfinished_limit

-- the side takes an encoding of the list, whatever the encoder did before
abbrev pub TakesSection : Setup → Side → List Field → Type 0
TakesSection setup side fields = is_limit (limit_at setup side) ≡ true → most_encoded fields ≤ limit_at setup side

-- a delivery to the side was not answered by the fault of what is too long
abbrev pub IsNotExcess : Setup → Side → Answer → Type 0
IsNotExcess setup side a = is_excess (is_strict (announced_at setup side)) (refused_by a) ≡ false

-- A head or a trailer that was accepted is one whose encoding its reader takes. No delivery is answered by the fault of what is too long.
abbrev pub IsTaken : Setup → Event → Answer → Type 0
IsTaken setup (event.Head side id head) a = is_done a ≡ true → TakesSection setup (other side) (head_fields head)
IsTaken setup (event.Trailer side id trailer) a = is_done a ≡ true → TakesSection setup (other side) (head_fields trailer)
IsTaken setup (event.Fields side id fields) a = is_done a ≡ true → TakesSection setup (other side) fields
IsTaken setup (event.TrailerFields side id fields) a = is_done a ≡ true → TakesSection setup (other side) fields
IsTaken setup (event.Deliver side id count) a = IsNotExcess setup (other side) a
IsTaken setup (event.DeliverEnd side id) a = IsNotExcess setup (other side) a
IsTaken setup (event.DeliverReset side id) a = IsNotExcess setup (other side) a
IsTaken setup _ a = Unit {0}

-- over a whole schedule, by its events and answers
abbrev pub AreTaken : Setup → List Event → List Answer → Type 0
AreTaken setup (e ∷ events) (a ∷ answers) = IsTaken setup e a × AreTaken setup events answers
AreTaken setup _ _ = Unit {0}

-- A schedule is answered as by the ends without limits, and leads to the same ends without limits. No event of it finds a frame too long: it judges
-- only where it does without limits.
pub record RunsUnlimited (ends : Ends) (events : List Event) : Type 0 where
  pub answers : answers_of_ends ends events ≡ answers_of_ends (unlimited_ends ends) events
  pub leads : unlimited_ends (ends_after ends events) ≡ ends_after (unlimited_ends ends) events
  pub judges : NoneJudges (unlimited_ends ends) events → NoneJudges ends events

-- neither side asks for strict messages
abbrev pub AsksForNone : Setup → Type 0
AsksForNone setup = (side : Side) → (announced_at setup side).choices.strict_messages ≡ false

-- both do
abbrev pub AsksForStrict : Setup → Type 0
AsksForStrict setup = (side : Side) → (announced_at setup side).choices.strict_messages ≡ true

-- Each limit takes every section that its side announces to take (RFC 9114, section 4.2.2) and every instruction for the table that it announces
-- (RFC 9204, section 3.2.3), whatever their encoding; the other side's SETTINGS; and a number of up to ten bytes, as each instruction of a decoder is
-- (RFC 9204, section 4.1.1). The id of a GOAWAY takes at most eight (RFC 9000, section 16), and an empty section two.
abbrev pub LimitsTakeWhatIsSent : Setup → Type 0
LimitsTakeWhatIsSent setup = (side : Side) →
    (max (most_instruction (announced_at setup side).limits.table) (length (payload_of (announced_at setup (other side)).settings)) ≤ limit_at setup side)
    × (is_limit (limit_at setup side) ≡ true → 4 * section_of (announced_at setup side) ≤ limit_at setup side)

-- A side that knows the other's settings sends no more than these allow. Before they came it sends any list: one that is too long ends its own stream.
abbrev pub is_early : Ends → Event → Bool
is_early ends (event.Head side id head) = is_none (end_at ends side).peer.settings
is_early ends (event.Trailer side id trailer) = is_none (end_at ends side).peer.settings
is_early ends (event.Fields side id fields) = is_none (end_at ends side).peer.settings
is_early ends (event.TrailerFields side id fields) = is_none (end_at ends side).peer.settings
is_early ends _ = false

-- what is sent so early is taken too
abbrev pub EarlyAreTaken : Setup → Ends → List Event → Type 0
EarlyAreTaken setup ends [] = Unit {0}
EarlyAreTaken setup ends (e ∷ events) = (is_early ends e ≡ true → IsTaken setup e (answered ends e).0) × EarlyAreTaken setup (answered ends e).1 events
