-- A pull of any stream: its answer, and what both ends are after it.
use Rattle.std.proofs.Common.{ℕ, ◌≡◌, length, Bool, if◌then◌else◌, Option, Some, None, true, List, [], false, nat_lt}
use Rattle.h3_proto.specs.declared.stream.Side.{Side}
use Rattle.h3_connection.specs.OwnIds.{other, control_id}
use Rattle.h3_field.specs.Field.{Field}
use Rattle.h3_world.specs.Flow.{Flow, Section}
use Rattle.h3_world.specs.Lists.{as_flagged}
use Rattle.h3_world.specs.World.{World, Party, with_party}
use Rattle.h3_world.specs.Streams.{with_flow}
use Rattle.h3_connection.specs.Endpoint.{EndpointHistory, Kind, Own, heads_waiting}
use Rattle.h3_connection.specs.Keeping.{pulls}
use Rattle.h3_connection.specs.declared.event.Pull.{Pull}
use Rattle.h3_connection.specs.declared.event.Pull.TheVariants as pull
use Rattle.h3_world.specs.Setup.{Setup}
use Rattle.h3_world.specs.Pulling.{Pulls, PausesExactly, pull_unidirectional, pull_unopened, fault_or}
use Rattle.std.specs.Prelude.{not, ◌==◌}
use Rattle.h3_connection.specs.declared.event.Item.TheVariants as item
use Rattle.h3_connection.specs.declared.event.StreamFault.{StreamFault}
use Rattle.h3_connection.specs.StreamSets.{Streams}
use Rattle.h3_connection.specs.Unidirectional.{Unidirectional, Role, untold}
use Rattle.h3_connection.specs.Endpoint.Kind.{Request, ServerOpened, OwnUnidirectional, PeerUnidirectional}
use Rattle.h3_world.specs.declared.event.Answer.TheVariants as answer
use Rattle.h3_connection.specs.Incoming.{Incoming}
use Rattle.h3_headline.specs.Calls.{Both}
use Rattle.h3_headline.specs.Messages.{contents_of, is_end_of}
use Rattle.h3_headline.specs.Standing.{StandsAt}

abbrev pub with_owner : World → Side → ℕ → Flow → Party → World
with_owner w side id g p = with_flow (with_party w side p) (other side) id g

-- What is there after a pull.
pub record PullStands (setup : Setup) (w : World) (side : Side) (id : ℕ) (er ew : EndpointHistory) : Type 0 where
  pub answer : Pull
  pub after : EndpointHistory
  pub new : World
  pub pulled_is : pulls er id ≡ (answer, after)
  pub step : Pulls setup w side id answer new
  pub exact : PausesExactly w side id answer
  pub reader : StandsAt setup new side after
  pub writer : StandsAt setup new (other side) ew

-- The worlds after the pull of an open stream.
pub record Pulled (setup : Setup) (w new : World) (side : Side) (after f : EndpointHistory) : Type 0 where
  pub both : Both setup new side after f
  pub count : length new.exchanges ≡ length w.exchanges

-- what is settled, by the tests in their order
abbrev pub settled_by : World → Side → ℕ → Bool → Bool → Bool → Option StreamFault → Bool → Option Pull
settled_by w side id is_peer request opened fault over =
    if is_peer then Some (pull_unidirectional w (other side) id) else (
    if not request then Some pull.NoMessages else (
    if not opened then Some (pull_unopened side) else (
    fault_or fault (if over then Some (pull.Item item.End) else None))))

abbrev pub answering : Pull → EndpointHistory → Pull × EndpointHistory
answering a e = (a, e)

abbrev pub having_streams : EndpointHistory → Streams Unidirectional → EndpointHistory
having_streams e s = record e { unidirectional = s }

-- whether its type came
abbrev pub answer_of : ℕ → Pull
answer_of came = if came == 0 then pull.Pending else pull.NoMessages

abbrev pub in_role : Role → Unidirectional
in_role role = record untold { role = role }

-- the kinds by the last two bits of an id
abbrev pub kind_by : Side → ℕ → Kind
kind_by side bits = if bits == 0 then Request else (if bits == 1 then ServerOpened else (if bits == control_id side then OwnUnidirectional else PeerUnidirectional))

-- It hands out nothing, and the end again alone.
pub record SaysNothing (over : Bool) (q : Pull) : Type 0 where
  pub contents : contents_of (answer.Pulled q) ≡ []
  pub ends : is_end_of (answer.Pulled q) ≡ true → over ≡ true

-- the answer by the tests of a settled pull
abbrev pub by_rules : Bool → Bool → Bool → Option StreamFault → Bool → Pull → Pull → Option Pull
by_rules unidirectional request there fault over one unopened =
    if unidirectional then Some one else (if not request then Some pull.NoMessages else (if not there then Some unopened else fault_or fault (if over then Some (pull.Item item.End) else None)))

-- Where a part is looked at, the stream is open, and its end is not out.
pub record LooksOn (there over : Bool) : Type 0 where
  pub is_there : there ≡ true
  pub not_over : over ≡ false

abbrev pub with_streams : EndpointHistory → Streams Incoming → EndpointHistory
with_streams e streams = record e { incoming = streams }

abbrev pub having_own : EndpointHistory → Own → EndpointHistory
having_own e own = record e { own = own }

-- the list of a section that is next, and nothing of another part
abbrev pub IsListOf : Bool → Option (List Field) → Option Section → Type 0
IsListOf guards fields None = Unit {0}
IsListOf guards fields (Some s) = fields ≡ Some (as_flagged guards s.fields)

-- no more streams wait now than allowed
abbrev pub IsWithin : EndpointHistory → Type 0
IsWithin e = nat_lt e.announced.limits.blocked (heads_waiting e.decoding.decoder e.incoming) ≡ false
