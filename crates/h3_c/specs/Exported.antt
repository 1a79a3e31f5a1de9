-- What the exports promise: the contract of the call that each makes, of the endpoint that the handle owned and the one that the handle
-- for the next call owns, with the numbers that C gets.
use Rattle.std.specs.Prelude.{◌≡◌, ◌≢◌, ◌⊎◌, ◌<◌, ◌≤◌, ◌^◌, ◌+◌, ◌++◌, ◌==◌, ◌&&◌, ℕ, true, false, List, [], length, take, drop, min, Option, Some, None, IsSome, Result, Ok, Err}
use Rattle.h3_field.specs.Field.{Field}
use Rattle.h3_connection.specs.Endpoint.{EndpointHistory, bytes_waiting}
use Rattle.h3_connection.specs.Shown.{is_finished}
use Rattle.h3_connection.specs.ReceivingContracts.{PullsNext}
use Rattle.h3_connection.specs.SendingContracts.{Advances, Opens}
use Rattle.h3_connection.specs.State.{StandsFor}
use Rattle.h3_connection.specs.declared.event.Refusal.{Refusal}
use Rattle.h3_session.specs.Copied.{CopiesTo}
use Rattle.h3_session.specs.NextRequest.{next_request}
use Rattle.h3_connection.specs.Shutdown.{is_rejected_in}
use Rattle.h3_connection.specs.Lists.{list_of, pull_of}
use Rattle.h3_c.specs.declared.items.PulledItem.{PulledItem}
use Rattle.h3_c.specs.declared.numbers.Told.{Told}
use Rattle.h3_session.specs.Listing.{ListsNext}
use Rattle.h3_c.specs.Items.{bytes_of, fields_of, shown}
use Rattle.h3_c.specs.Rows.{fits, flags_of, row_of, sizes_of}
use Rattle.h3_c.specs.declared.fields.FieldSize.{FieldSize}
use Rattle.h3_c.specs.Numbers.{ok, none, room, argument, memory, rejected, TellsList, call_told, refusal_told}
use Rattle.h3_c.specs.Seen.{Seen}
use Rattle.h3_c.specs.Bits.{bit}

-- The handle for the next call owns a connection, and from what the handle owned to that the call does so. Such a call leaves sessions of
-- WebTransport as they are.
abbrev pub Steps : Option Seen → Option Seen → (Seen → Seen → Type 0) → Type 0
Steps before after goes = IsSome after × ((v w : Seen) → before ≡ Some v → after ≡ Some w → goes v w × (w.sessions ≡ v.sessions))

-- What a call does that sessions answer, where they are off,
abbrev pub StepsAlone : Option Seen → Option Seen → (Seen → Seen → Type 0) → Type 0
StepsAlone before after goes = (v w : Seen) → before ≡ Some v → after ≡ Some w → v.sessions.is_on ≡ false → goes v w × (w.sessions ≡ v.sessions)

-- and with them.
abbrev pub StepsBeside : Option Seen → Option Seen → (Seen → Seen → Type 0) → Type 0
StepsBeside before after goes = (v w : Seen) → before ≡ Some v → after ≡ Some w → goes v w

-- The call answered a result, which this number tells, and did this with it. The item that was pulled last stays, and what was reported.
pub record Calls {R : Type 0} (told : R → Told) (n : Told) (v w : Seen) (does : R → Type 0) : Type 0 where
  pub answer : R
  pub is : n ≡ told answer
  pub done : does answer
  pub last : w.last ≡ v.last
  pub events : w.events ≡ v.events

-- A call on a stream: an id of 2^62 or more is refused, with nothing changed.
pub record OnStream (id : ℕ) (n : Told) (v w : Seen) (goes : Type 0) : Type 0 where
  pub known : id < 2 ^ 62 → goes
  pub unknown : 2 ^ 62 ≤ id → (n ≡ argument) × (w ≡ v)

abbrev pub CallsOn : {R : Type 0} → (R → Told) → ℕ → Told → Seen → Seen → (R → Type 0) → Type 0
CallsOn told id n v w does = OnStream id n v w (Calls told n v w does)

-- For such an id what the call would write stays as it was.
abbrev pub Unwritten : ℕ → Type 0 → Type 0
Unwritten id same = 2 ^ 62 ≤ id → same

-- No list was made of what C gave, since memory was refused: of one field or more, where its stream takes a list there now
pub record LacksList (place : EndpointHistory → Option Refusal) (fields : List Field) (n : Told) (v w : Seen) : Type 0 where
  pub told : n ≡ memory
  pub same : w ≡ v
  pub some : fields ≢ []
  pub takes : (e : EndpointHistory) → StandsFor v.endpoint e → place e ≡ None

-- A delivery on a stream whose request is rejected does nothing (`h3_session/Shutdown`, `is_rejected`).
pub record UnlessRejected (id : ℕ) (n : Told) (v w : Seen) (goes : Type 0) : Type 0 where
  pub taken : is_rejected_in v.endpoint id ≡ false → goes
  pub refused : is_rejected_in v.endpoint id ≡ true → (n ≡ rejected) × (w ≡ v)

abbrev pub DeliversOn : {R : Type 0} → (R → Told) → ℕ → Told → Seen → Seen → (R → Type 0) → Type 0
DeliversOn told id n v w does = OnStream id n v w (UnlessRejected id n v w (Calls told n v w does))

-- The call answered a result of this list, which this number tells by the choices of the endpoint (`Numbers`, `TellsList`), and did this with it.
pub record CallsList (fields : List Field) (n : Told) (v w : Seen) (does : Result Unit Refusal → Type 0) : Type 0 where
  pub answer : Result Unit Refusal
  pub is : TellsList answer w.endpoint.announced.choices fields n
  pub done : does answer
  pub last : w.last ≡ v.last
  pub events : w.events ≡ v.events

-- The list that C gave is sent; or its sizes are not those of its bytes or a flag is not known; or there was no memory for it, where `place` tells that no rule of
-- the stream refuses each list there.
abbrev pub SendsCut : Option (List Field) → (EndpointHistory → Option Refusal) → Told → Seen → Seen → (List Field → Result Unit Refusal → Type 0) → Type 0
SendsCut None place n v w does = (n ≡ argument) × (w ≡ v)
SendsCut (Some fields) place n v w does = LacksList place fields n v w ⊎ CallsList fields n v w (does fields)

-- A pull: its answer stays until the next one, and C gets what it is. Of a header or trailer section it is the list of fields that came.
pub record Pulls (id : ℕ) (n : Told) (v w : Seen) (given : PulledItem) : Type 0 where
  pub done : n ≡ ok
  pub pulled : PullsNext v.endpoint w.endpoint id (pull_of w.last)
  pub list : ListsNext v.endpoint id (list_of w.last)
  pub given_so : given ≡ shown w.last
  pub events : w.events ≡ v.events

-- The bytes of an item from one on, as many as fit.
pub record ReadsBytes (v : Seen) (from : ℕ) (n : Told) (before after : List ℕ) (count_before count : ℕ) : Type 0 where
  pub past : length (bytes_of v.last) ≤ from → (n ≡ none) × (after ≡ before) × (count ≡ count_before)
  pub inside : from < length (bytes_of v.last) → (n ≡ ok) × (count ≡ min (length (drop from (bytes_of v.last))) (length before))
      × (after ≡ take (length before) (drop from (bytes_of v.last)) ++ drop (length (drop from (bytes_of v.last))) before)

-- The first bytes that wait, up to a payload that C holds and as many as fit, at the front of C's buffer, and how many of that payload follow.
pub record CopiesOut (v : Seen) (id : ℕ) (n : Told) (before after : List ℕ) (count past fin : ℕ) : Type 0 where
  pub done : n ≡ ok
  pub last : (e : EndpointHistory) → StandsFor v.endpoint e → fin ≡ bit (is_finished e id && (length (bytes_waiting e id) == count + past))
  pub copied : CopiesTo v.endpoint id count past before after
  pub within : count ≤ length before

-- Bytes were taken; not more than wait.
pub record Takes (v w : Seen) (id count : ℕ) (n : Told) : Type 0 where
  pub few : (e : EndpointHistory) → StandsFor v.endpoint e → count ≤ length (bytes_waiting e id) → (n ≡ ok) × Advances v.endpoint w.endpoint id count
  pub many : (e : EndpointHistory) → StandsFor v.endpoint e → length (bytes_waiting e id) < count → (n ≡ argument) × (w ≡ v)
  pub last : w.last ≡ v.last
  pub events : w.events ≡ v.events

-- `h3_open_request`: the id is the next one, and is not written where none is opened
pub record OpensRequest (n : Told) (v w : Seen) (before after : ℕ) : Type 0 where
  pub calls : Calls call_told n v w (λ call. Opens v.endpoint w.endpoint call)
  pub id_is : n ≡ ok → after ≡ v.endpoint.next_id
  pub unwritten : n ≢ ok → after ≡ before

-- `h3_next_request_id`: the id that `h3_open_request` gives next, or the refusal that it answers, and no id is written
abbrev pub GivesId : Result ℕ Refusal → Told → ℕ → ℕ → Type 0
GivesId (Ok id) n before after = (n ≡ ok) × (after ≡ id)
GivesId (Err refusal) n before after = (n ≡ refusal_told refusal) × (after ≡ before)

abbrev pub ShowsNextId : Seen → Told → ℕ → ℕ → Type 0
ShowsNextId v n before after = (e : EndpointHistory) → StandsFor v.endpoint e → GivesId (next_request e) n before after

-- All fields are written at the front of C's buffers, and the rest of these stays; or nothing is, since one is too small. Flags are written
-- as many as have room: C that asks for none gives none.
pub record GivesFields (fields : List Field) (n : Told) (sizes_before sizes : List FieldSize) (flags_before flags before after : List ℕ) : Type 0 where
  pub whole : fits fields (length sizes_before) (length before) ≡ true
      → (n ≡ ok) × (sizes ≡ sizes_of fields ++ drop (length fields) sizes_before)
      × (flags ≡ take (length flags_before) (flags_of fields) ++ drop (length fields) flags_before)
      × (after ≡ row_of fields ++ drop (length (row_of fields)) before)
  pub small : fits fields (length sizes_before) (length before) ≡ false → (n ≡ room) × (sizes ≡ sizes_before) × (flags ≡ flags_before) × (after ≡ before)

-- All fields of the header or trailer section that was pulled last.
abbrev pub ReadsFields : Seen → Told → List FieldSize → List FieldSize → List ℕ → List ℕ → List ℕ → List ℕ → Type 0
ReadsFields v n sizes_before sizes flags_before flags before after = GivesFields (fields_of v.last) n sizes_before sizes flags_before flags before after
