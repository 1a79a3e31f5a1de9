-- A pull of an end, whatever it keeps, beside the same end that judges plainly.
use Rattle.std.specs.Prelude.{◌≡◌, ℕ, Bool, true, false, List, Option, Some, None}
use Rattle.h3_field.specs.Field.{Field}
use Rattle.h3_connection.specs.Coming.{fields_behind}
use Rattle.h3_connection.specs.Endpoint.{EndpointHistory}
use Rattle.h3_connection.specs.Incoming.{Incoming}
use Rattle.h3_connection.specs.Keeping.{pulls, read_all, settles, unkept}
use Rattle.h3_connection.specs.StreamSets.{stream_at}
use Rattle.h3_connection.specs.declared.event.Fault.TheVariants.{Connection, Stream}
use Rattle.h3_connection.specs.declared.event.Item.{Item}
use Rattle.h3_connection.specs.declared.event.Item.TheVariants as item
use Rattle.h3_connection.specs.declared.event.Malformation.{Malformation}
use Rattle.h3_connection.specs.declared.event.Pull.{Pull}
use Rattle.h3_connection.specs.declared.event.Pull.TheVariants as pull
use Rattle.h3_connection.specs.declared.event.StreamFault.TheVariants.{Malformed}
use Rattle.h3_world.specs.Headline.{is_connection_fault}
use Rattle.h3_world.specs.declared.event.Answer.TheVariants as answer
use Rattle.h3_headline.specs.GivenUp.{IsGone, giving_up}
use Rattle.h3_connection.specs.declared.setup.Announced.{Announced}
use Rattle.h3_world.specs.Lists.{unreadable}
use Rattle.h3_world.specs.Setup.{TakesAnyLength, takes_any}
use Rattle.h3_strict.specs.CountsNothing.{CountsNothing}
use Rattle.h3_strict.specs.Plainly.{plainly}

-- a fault of the connection or of the stream
abbrev pub tells_fault : Pull → Bool
tells_fault (pull.Fault (Connection code)) = true
tells_fault (pull.Fault (Stream fault)) = true
tells_fault _ = false

-- or a header
abbrev pub shows_header : Pull → Bool
shows_header (pull.Item (item.Interim head)) = true
shows_header (pull.Item (item.Head head)) = true
shows_header (pull.Item (item.Trailer head)) = true
shows_header p = tells_fault p

-- the list is there, and reads as no header by the protocols that the end takes
abbrev pub IsUnread : Announced → Option (List Field) → Malformation → Type 0
IsUnread own next why = (fields : List Field) × (next ≡ Some fields) × (unreadable (takes_any own) fields ≡ Some why)

-- A pull gives a stream up as malformed, where the end that judges plainly stands as `f` once both have read what they keep. With the stream given up there
-- both are the same: at once, or behind the section that the other end hands out. Or that finds a fault too.
pub data LeavesGone (a b : Pull × EndpointHistory) (f : EndpointHistory) (id : ℕ) (why : Malformation) (left : Incoming) : Type 0 where
  LeftAtOnce : plainly a.1 ≡ giving_up f id left → LeavesGone a b f id why left
  LeftBehind : (it : Item) (j : Incoming) → b.0 ≡ pull.Item it → stream_at b.1.incoming id ≡ Some j → j.fault ≡ None → j.is_over ≡ false → IsGone j left (Malformed why) → plainly a.1 ≡ giving_up b.1 id left → LeavesGone a b f id why left
  OtherFaults : tells_fault b.0 ≡ true → LeavesGone a b f id why left

pub record GivesUpAs (a b : Pull × EndpointHistory) (f : EndpointHistory) (id : ℕ) (why : Malformation) : Type 0 where
  pub old : Incoming
  pub left : Incoming
  pub told : a.0 ≡ pull.Fault (Stream (Malformed why))
  pub here : stream_at f.incoming id ≡ Some old
  pub alive : old.fault ≡ None
  pub goes : old.is_over ≡ false
  pub gone : IsGone old left (Malformed why)
  pub leaves : LeavesGone a b f id why left

pub record GivesStreamUp (e : EndpointHistory) (id : ℕ) : Type 0 where
  pub why : Malformation
  pub next : EndpointHistory
  pub unsettled : settles e id ≡ false
  pub reads : read_all (plainly e).kept (unkept (plainly e)) ≡ (plainly next, None)
  pub gives : GivesUpAs (pulls e id) (pulls (plainly e) id) (plainly next) id why
  -- an end that counts nothing and has no limit does so only where it does not read the section that is next, and the other end judges that
  pub judges : (own : Announced) → CountsNothing own e → TakesAnyLength own → IsUnread own (fields_behind (plainly e).kept (plainly e) id) why × (shows_header (pulls (plainly e) id).0 ≡ true)

-- It is answered alike, or by a fault of the connection, or so.
pub data PullPlainly (e : EndpointHistory) (id : ℕ) : Type 0 where
  PullAlike : pulls (plainly e) id ≡ ((pulls e id).0, plainly (pulls e id).1) → PullPlainly e id
  PullFaults : is_connection_fault (answer.Pulled (pulls e id).0) ≡ true → PullPlainly e id
  PullGone : GivesStreamUp e id → PullPlainly e id
