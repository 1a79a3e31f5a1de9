-- Two programs in C, a client and a server: their calls in the order of time, and the bytes that QUIC carries from one to the other, those of a stream in
-- order (RFC 9000, section 2.2). And the schedule that these stand for, with its answers.
use Rattle.std.specs.Prelude.{if◌then◌else◌, ◌≡◌, ◌⊎◌, ◌<◌, ◌≤◌, ℕ, zero, suc, ◌+◌, ◌-◌, Bool, true, false, ◌||◌, ◌==◌, List, [], ◌∷◌, ◌++◌, drop, length, take, Option, Some, None, Ok}
use Rattle.h3_proto.specs.declared.stream.Side.{Side}
use Rattle.h3_proto.specs.declared.stream.Side.TheVariants.{Client, Server}
use Rattle.h3_field.specs.ReadBack.{AreBytes}
use Rattle.h3_connection.specs.OwnIds.{other}
use Rattle.h3_connection.specs.declared.event.Refusal.{Refusal}
use Rattle.h3_connection.specs.declared.event.Refusal.TheVariants as refusal
use Rattle.h3_connection.specs.declared.setup.Announced.{Announced}
use Rattle.h3_connection.specs.declared.lists.ListItem.TheVariants as listed
use Rattle.h3_connection.specs.declared.lists.ListPull.TheVariants as list
use Rattle.h3_incoming.specs.BodyPlaces.{piece_of}
use Rattle.h3_incoming.specs.declared.body_place.BodyPlace.{BodyPlace}
use Rattle.h3_world.specs.Delivering.{reset_code}
use Rattle.h3_world.specs.Setup.{Setup, takes_settings}
use Rattle.h3_world.specs.declared.event.Answer.{Answer}
use Rattle.h3_world.specs.declared.event.Answer.TheVariants as answer
use Rattle.h3_world.specs.declared.event.Event.{Event}
use Rattle.h3_world.specs.declared.event.Event.TheVariants as event
use Rattle.h3_headline.specs.Messages.{is_on}
use Rattle.h3_session.specs.OpeningAt.{to_open}
use Rattle.h3_session.specs.Running.{answer_of}
use Rattle.h3_c.specs.Asked.{GivesBytes, Learns, Tells as TellsAnswer, asked, is_left_out}
use Rattle.h3_c.specs.Configs.{MakesGiven, announced_of, side_of}
use Rattle.h3_c.specs.Does.{CallOfC, Does}
use Rattle.h3_c.specs.Does.CallOfC.{Advance, CloseStream, Deliver, DeliverEnd, DeliverReset, OpenRequestAt, Outgoing, Read as ReadOfC, Reset as ResetOfC, SendBodyOf, Shutdown, ShutdownNotice, Stream}
use Rattle.h3_c.specs.Numbers.{argument, memory, ok, refusal_told, rejected}
use Rattle.h3_c.specs.Items.{shown}
use Rattle.h3_c.specs.Reads.{ends_with, place_shown, taken_of}
use Rattle.h3_c.specs.Seen.{Seen}
use Rattle.h3_c.specs.declared.config.GivenConfig.{GivenConfig}
use Rattle.h3_c.specs.declared.items.PulledItem.{PulledItem}
use Rattle.h3_c.specs.declared.numbers.Told.{Told}
use Rattle.h3_c.specs.declared.state.StreamState.{StreamState}

-- What both handles own. Of each stream of a side, what QUIC carries: the bytes that it took and has not given to the other side, in order. And what its
-- program owes: of the bodies that it announced by their length, the bytes that it has not written, in order.
pub record Handles : Type 0 where
  pub client : Seen
  pub server : Seen
  pub carried : Side → ℕ → List ℕ
  pub owed : Side → ℕ → List ℕ

abbrev pub handle_at : Handles → Side → Seen
handle_at h Client = h.client
handle_at h Server = h.server

-- `h3_new` made this handle, for this side, of what C gave, which announces this
pub record IsMadeFor (side : Side) (announced : Announced) (v : Seen) : Type 0 where
  pub given : GivenConfig
  pub before : Option Seen
  pub side_is : side_of given ≡ side
  pub announces : announced_of given ≡ Ok announced
  pub made : MakesGiven (Some given) ok before (Some v)

-- `h3_new` made a client and a server, and each takes what the other one announces: one of a strict connection refuses WebTransport of a peer that
-- announces no datagrams
pub record AreMade (setup : Setup) (h : Handles) : Type 0 where
  pub client : IsMadeFor Client setup.client h.client
  pub server : IsMadeFor Server setup.server h.server
  pub take : takes_settings setup ≡ true
  pub none : (side : Side) (id : ℕ) → (h.carried side id ≡ []) × (h.owed side id ≡ [])

-- What happens: a side makes a call; or it announces the length of a body that it will write (`h3_send_body_of`); or QUIC takes bytes of a stream from a
-- side (`h3_advance`); or it gives them to the other side, which delivers or reads them, or the end of the stream, or its reset, and n is what that
-- returns; or it is seen that nothing is left to be given of a stream.
pub data Act : Type 0 where
  Call : (side : Side) (call : CallOfC) → Act
  Announce : (side : Side) (id : ℕ) (payload : List ℕ) (n : Told) → Act
  Take : (from : Side) (id : ℕ) (bytes : List ℕ) → Act
  Bytes : (from : Side) (id : ℕ) (bytes : List ℕ) (n : Told) → Act
  Read : (from : Side) (id : ℕ) (bytes : List ℕ) (fin used : ℕ) (before item : PulledItem) (n : Told) → Act
  End : (from : Side) (id : ℕ) (n : Told) → Act
  Reset : (from : Side) (id : ℕ) (n : Told) → Act
  Empty : (from : Side) (id : ℕ) → Act

-- `h3_outgoing` shows what waits on the stream: bytes, and how many of those that the program owes stand behind them. These are the first.
pub record Shows (v : Seen) (id : ℕ) (owed bytes : List ℕ) : Type 0 where
  pub before : List ℕ
  pub buffer : List ℕ
  pub count_before : ℕ
  pub count : ℕ
  pub past_before : ℕ
  pub past : ℕ
  pub fin_before : ℕ
  pub fin : ℕ
  pub call : Does (Outgoing id before buffer count_before count past_before past fin_before fin ok) v v
  pub within : length bytes ≤ count + past
  pub front : bytes ≡ take (length bytes) (take count buffer ++ take past owed)

-- `h3_stream` tells this of the stream
pub record Tells (v : Seen) (id : ℕ) (tells : StreamState → Type 0) : Type 0 where
  pub before : StreamState
  pub state : StreamState
  pub call : Does (Stream id before state ok) v v
  pub told : tells state

-- of the stream these bytes are carried
abbrev pub carrying : (Side → ℕ → List ℕ) → Side → ℕ → List ℕ → Side → ℕ → List ℕ
carrying carried from id bytes = λ side i. if is_on from id side i then bytes else carried side i

-- QUIC takes bytes: it carries them behind those that it carries. The program wrote those of them that it owed.
pub record Takes (from : Side) (id : ℕ) (bytes : List ℕ) (h g : Handles) : Type 0 where
  pub shown : Shows (handle_at h from) id (h.owed from id) bytes
  pub taken : Does (Advance id (length bytes) ok) (handle_at h from) (handle_at g from)
  pub there : handle_at g (other from) ≡ handle_at h (other from)
  pub carried : g.carried ≡ carrying h.carried from id (h.carried from id ++ bytes)
  pub owed : g.owed ≡ carrying h.owed from id (drop (length bytes - shown.count) (h.owed from id))

-- The other side is given bytes, the first that are carried, by this call, and so many of them are not carried any more.
pub record Gives (from : Side) (id : ℕ) (bytes : List ℕ) (used : ℕ) (call : CallOfC) (h g : Handles) : Type 0 where
  pub rest : List ℕ
  pub first : h.carried from id ≡ bytes ++ rest
  pub given : Does call (handle_at h (other from)) (handle_at g (other from))
  pub there : handle_at g from ≡ handle_at h from
  pub carried : g.carried ≡ carrying h.carried from id (drop used bytes ++ rest)
  pub owed : g.owed ≡ h.owed

-- Bytes come of a stream that was not reset, its end behind all of them, and its reset if it was reset.
abbrev pub GoesOn : StreamState → Type 0
GoesOn state = (state.has_outgoing ≡ 1) × (state.is_reset ≡ 0)

abbrev pub HasEnded : StreamState → Type 0
HasEnded state = (state.is_finished ≡ 1) × (state.waiting ≡ 0)

abbrev pub WasReset : StreamState → Type 0
WasReset state = state.is_reset ≡ 1

abbrev pub IsEmpty : StreamState → Type 0
IsEmpty state = (state.has_outgoing ≡ 1) × (state.waiting ≡ 0)

-- nothing is carried, and this is told
abbrev pub NothingLeft : Side → ℕ → (StreamState → Type 0) → Handles → Type 0
NothingLeft from id tells h = (h.carried from id ≡ []) × Tells (handle_at h from) id tells

-- The other side's handle is as it was, and nothing more is carried.
abbrev pub IsAlone : Side → Handles → Handles → Type 0
IsAlone side h g = (handle_at g (other side) ≡ handle_at h (other side)) × (g.carried ≡ h.carried)

-- H3_OK and H3_KEPT: the other side has the bytes
abbrev pub is_taken : Told → Bool
is_taken n = (n.number == 0) || (n.number == 5)

-- One thing happens.
abbrev pub Happens : Act → Handles → Handles → Type 0
Happens (Call side call) h g =
    (is_left_out call (handle_at h side) ≡ false) × GivesBytes call × Does call (handle_at h side) (handle_at g side) × IsAlone side h g × (g.owed ≡ h.owed)
Happens (Announce side id payload n) h g =
    AreBytes payload × Does (SendBodyOf id (length payload) n) (handle_at h side) (handle_at g side) × IsAlone side h g
    × (g.owed ≡ (if n.number == 0 then carrying h.owed side id (h.owed side id ++ payload) else h.owed))
Happens (Take from id bytes) h g = Takes from id bytes h g
Happens (Bytes from id bytes n) h g = Gives from id bytes (taken_of (is_taken n) (length bytes)) (Deliver id bytes n) h g × Tells (handle_at h from) id GoesOn
Happens (Read from id bytes fin used before item n) h g =
    Gives from id bytes used (ReadOfC id bytes fin used before item n) h g × Tells (handle_at h from) id GoesOn × (ends_with fin bytes used ≡ true → NothingLeft from id HasEnded g)
Happens (End from id n) h g = Gives from id [] 0 (DeliverEnd id n) h g × NothingLeft from id HasEnded h
Happens (Reset from id n) h g = Gives from id [] 0 (DeliverReset id reset_code n) h g × Tells (handle_at h from) id WasReset
Happens (Empty from id) h g = NothingLeft from id IsEmpty h × (g ≡ h)

-- **Two programs do this, in this order.**
abbrev pub Happen : Handles → List Act → Handles → Type 0
Happen h [] g = g ≡ h
Happen h (act ∷ acts) g = (next : Handles) × Happens act h next × Happen next acts g

-- What it stands for: an event with the answer that C learns. Or no event, since nothing is told of it or nothing was done: the call has none, or it
-- is answered H3_ARGUMENT or H3_REJECTED, or H3_MEMORY where no list was made of what C gave. Five calls are others (`Comes`).
abbrev pub event_of : Act → Option (Event × Told)
event_of (Take from id bytes) = None
event_of (Read from id bytes fin used before item n) = None
event_of (Call side call) = asked side call
event_of (Announce side id payload n) = Some (event.Body side id payload, n)
event_of (Bytes from id bytes n) = Some (event.Deliver from id (length bytes), n)
event_of (End from id n) = Some (event.DeliverEnd from id, n)
event_of (Reset from id n) = Some (event.DeliverReset from id, n)
event_of (Empty from id) = Some (event.Deliver from id 1, ok)

abbrev pub LearnsOf : Act → Handles → Answer → Type 0
LearnsOf (Call side call) g a = Learns call (handle_at g side) a
LearnsOf (Announce side id payload n) g a = TellsAnswer answer.Done n a
LearnsOf (Take from id bytes) g a = ⊥
LearnsOf (Bytes from id bytes n) g a = TellsAnswer (answer.Delivered (length bytes)) n a
LearnsOf (Read from id bytes fin used before item n) g a = ⊥
LearnsOf (End from id n) g a = TellsAnswer answer.Done n a
LearnsOf (Reset from id n) g a = TellsAnswer answer.Done n a
LearnsOf (Empty from id) g a = a ≡ answer.Short 0

abbrev pub is_list : Event → Bool
is_list (event.Fields side id fields) = true
is_list (event.TrailerFields side id fields) = true
is_list _ = false

-- acts that are events, though none that `event_of` tells: a read, and a call that closes a stream or opens requests up to an id, where that did it
abbrev pub are_events : Act → Bool
are_events (Read from id bytes fin used before item n) = true
are_events (Call side (CloseStream id stop_before stop reset_before reset n)) = n.number == 0
are_events (Call side (OpenRequestAt id n)) = (n.number == 0) || (n.number == 18)
are_events _ = false

-- the last GOAWAY of a side
abbrev pub goaway_at : Handles → Side → Option ℕ
goaway_at h side = (handle_at h side).endpoint.last_goaway

-- a call that shuts a connection down is no event where it writes no GOAWAY: the last one stays
abbrev pub WritesNone : Act → Handles → Handles → Type 0
WritesNone (Call side (ShutdownNotice n)) h g = goaway_at g side ≡ goaway_at h side
WritesNone (Call side (Shutdown n)) h g = goaway_at g side ≡ goaway_at h side
WritesNone _ h g = Unit {0}

-- So many requests are opened, the next ones: an id is 4 above the one before it (RFC 9000, section 2.1).
abbrev pub opened_events : Side → ℕ → List Event
opened_events side zero = []
opened_events side (suc count) = event.OpenRequest side ∷ opened_events side count

abbrev pub opened_answers : ℕ → ℕ → List Answer
opened_answers next zero = []
opened_answers next (suc count) = answer.Opened next ∷ opened_answers (next + 4) count

-- how many `h3_open_request_at` opens: all up to its id, or fewer where memory is refused
abbrev pub OpensSoMany : Told → ℕ → ℕ → Type 0
OpensSoMany n all count = ((n ≡ ok) × (count ≡ all)) ⊎ ((n ≡ memory) × (count < all))

-- so many bytes are delivered, where there are any
abbrev pub bytes_events : Side → ℕ → ℕ → List Event
bytes_events from id used = if used == 0 then [] else event.Deliver from id used ∷ []

abbrev pub bytes_answers : ℕ → List Answer
bytes_answers used = if used == 0 then [] else answer.Delivered used ∷ []

-- What a read stands for. s is what the handle of the reader owns then.
pub data ComesOfRead (from : Side) (id : ℕ) (bytes : List ℕ) (fin used : ℕ) (item : PulledItem) (n : Told) (s : Seen) : List Event → List Answer → Type 0 where
  -- the request is rejected
  Rejects : n ≡ rejected → ComesOfRead from id bytes fin used item n s [] []
  -- a delivery, and a pull that hands out a piece of a body: C gets its place
  InPlace : (p : BodyPlace) → n ≡ ok → item ≡ place_shown p
      → ComesOfRead from id bytes fin used item n s (event.Deliver from id used ∷ event.PullFields (other from) id ∷ [])
      (answer.Delivered used ∷ answer.Listed (list.Item (listed.Body (piece_of p bytes))) ∷ [])
  -- a delivery of what was used, where anything was, and a pull
  Pulls : ends_with fin bytes used ≡ false → n ≡ ok → item ≡ shown s.last
      → ComesOfRead from id bytes fin used item n s (bytes_events from id used ++ event.PullFields (other from) id ∷ []) (bytes_answers used ++ answer.Listed s.last ∷ [])
  -- the same, with the end between the two. It may have come before
  PullsEnd : (a : Answer) → ends_with fin bytes used ≡ true → (a ≡ answer.Done) ⊎ (a ≡ answer.Refused refusal.AfterEnd) → n ≡ ok → item ≡ shown s.last
      → ComesOfRead from id bytes fin used item n s (bytes_events from id used ++ event.DeliverEnd from id ∷ event.PullFields (other from) id ∷ [])
      (bytes_answers used ++ a ∷ answer.Listed s.last ∷ [])
  -- a delivery alone, whose number C gets
  Stops : (a : Answer) (count : ℕ) → count ≤ length bytes → TellsAnswer (answer.Delivered count) n a → ComesOfRead from id bytes fin used item n s (event.Deliver from id count ∷ []) (a ∷ [])
  -- a delivery, where there were bytes, and that of the end, whose number C gets
  StopsEnd : (a : Answer) → ends_with fin bytes used ≡ true → TellsAnswer answer.Done n a → ComesOfRead from id bytes fin used item n s (bytes_events from id used ++ event.DeliverEnd from id ∷ []) (bytes_answers used ++ a ∷ [])

pub data Comes (act : Act) (h g : Handles) : List Event → List Answer → Type 0 where
  IsEvent : {e : Event} {n : Told} {a : Answer} → event_of act ≡ Some (e, n) → LearnsOf act g a → Comes act h g (e ∷ []) (a ∷ [])
  HasNone : are_events act ≡ false → event_of act ≡ None → WritesNone act h g → Comes act h g [] []
  IsRefused : {e : Event} {n : Told} → event_of act ≡ Some (e, n) → (n ≡ argument) ⊎ (n ≡ rejected) → Comes act h g [] []
  -- a reset of a stream that was sent to its end
  IsOver : {side : Side} {id : ℕ} {n : Told} → act ≡ Call side (ResetOfC id n) → n ≡ refusal_told refusal.Ended → Comes act h g [] []
  LacksList : {e : Event} {n : Told} → event_of act ≡ Some (e, n) → is_list e ≡ true → n ≡ memory → g ≡ h → Comes act h g [] []
  -- a call that shuts a connection down, where it writes a GOAWAY: of an id that C did not give
  GoesAway : {side : Side} {n : Told} (id : ℕ) → (act ≡ Call side (ShutdownNotice n)) ⊎ (act ≡ Call side (Shutdown n)) → n ≡ ok → goaway_at g side ≡ Some id → Comes act h g (event.Goaway side id ∷ []) (answer.Done ∷ [])
  -- a stream that is closed both ways is canceled, unless that is over, and reset where C is to reset it
  Closes : {side : Side} {id stop_before stop reset_before reset : ℕ} {n : Told} (canceled : Option Refusal) → act ≡ Call side (CloseStream id stop_before stop reset_before reset n) → n ≡ ok
      → (canceled ≡ None) ⊎ (canceled ≡ Some refusal.Ended)
      → Comes act h g (event.Cancel side id ∷ (if reset == 0 then [] else event.Reset side id ∷ [])) (answer_of answer.Done canceled ∷ (if reset == 0 then [] else answer.Done ∷ []))
  -- requests are opened up to an id that C gave
  OpensUpTo : {side : Side} {id : ℕ} {n : Told} (count : ℕ) → act ≡ Call side (OpenRequestAt id n) → OpensSoMany n (to_open (handle_at h side).endpoint.next_id id) count
      → Comes act h g (opened_events side count) (opened_answers (handle_at h side).endpoint.next_id count)
  IsRead : {from : Side} {id fin used : ℕ} {bytes : List ℕ} {before item : PulledItem} {n : Told} {events : List Event} {answers : List Answer} → act ≡ Read from id bytes fin used before item n
      → ComesOfRead from id bytes fin used item n (handle_at g (other from)) events answers → Comes act h g events answers

-- **All that happens stands for these events with these answers.**
pub data StandFor : Handles → List Act → List Event → List Answer → Handles → Type 0 where
  Nothing : {h : Handles} → StandFor h [] [] [] h
  Then : {h next g : Handles} {act : Act} {acts : List Act} {first events : List Event} {given answers : List Answer}
      → Happens act h next → Comes act h next first given → StandFor next acts events answers g → StandFor h (act ∷ acts) (first ++ events) (given ++ answers) g
