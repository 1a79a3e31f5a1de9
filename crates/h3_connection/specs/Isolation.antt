-- What the answers of one request stream rest on, and how the calls that it sees change that.
use Rattle.std.specs.Prelude.{◌≡◌, ℕ, ◌++◌, Bool, true, false, ◌&&◌, ◌||◌, not, List, [], ◌∷◌, if◌then◌else◌, ◌==◌, Option, Some, None, is_none, is_some, unwrap_or}
use Rattle.h3_coding.specs.Varint.{varint_at}
use Rattle.h3_header.specs.Head.{head_fields}
use Rattle.h3_connection.specs.declared.setup.Announced.{Announced}
use Rattle.h3_proto.specs.declared.stream.Side.{Side}
use Rattle.h3_connection.specs.declared.event.Refusal.{Refusal}
use Rattle.h3_connection.specs.declared.event.Refusal.TheVariants as refusal
use Rattle.h3_connection.specs.declared.event.Pull.TheVariants as answer
use Rattle.h3_connection.specs.declared.event.StreamFault.TheVariants as stream_fault
use Rattle.h3_connection.specs.StreamSets.{stream_at}
use Rattle.h3_connection.specs.Incoming.{Incoming, nothing_came, having_told}
use Rattle.h3_connection.specs.Pulling.{pull_stream, is_client}
use Rattle.h3_connection.specs.StrictConnection.{known_streams}
use Rattle.h3_connection.specs.Unidirectional.{StreamKinds, Unidirectional, Role, untold, is_closed, role_after}
use Rattle.h3_connection.specs.Unidirectional.Role.{Encoder}
use Rattle.h3_connection.specs.Endpoint.{EndpointHistory, Kind, kind_of, new_endpoint}
use Rattle.h3_connection.specs.Endpoint.Kind.{Request, PeerUnidirectional}
use Rattle.h3_connection.specs.Listeners.{Decoding, heard_more, after_hearing}
use Rattle.h3_connection.specs.Delivering.{unidirectional_at, kept, with_end, given_up_once, request_refusal, closed_refusal}
use Rattle.h3_connection.specs.Sending.{open_refusal, head_refusal}
use Rattle.h3_connection.specs.CallLists.{Call, Result, called}
use Rattle.h3_connection.specs.CallLists.Call.{OpenRequest, SendHead, Deliver, DeliverEnd, DeliverReset, PullStream, Cancel}
use Rattle.h3_connection.specs.CallLists.Result.{Opened, Done, Refused}
use Rattle.h3_connection.specs.CallLists.Result.{Pulled as WasPulled}
use Rattle.h3_field.specs.Field.{Field}

-- of a unidirectional stream: what it is read as, and whether its end or reset came
pub record Front : Type 0 where
  pub role : Role
  pub closed : Bool

pub record Sight : Type 0 where
  pub incoming : Option Incoming
  pub decoding : Decoding
  -- the streams that are or become the peer's encoder stream
  pub fronts : ℕ → Front

abbrev pub front_of : Unidirectional → Front
front_of o = record { role = o.role; closed = is_closed o }

-- The endpoint shows this to the stream. The streams that may be read as the peer's encoder stream are told by a test.
pub record IsSight (encoders : ℕ → Bool) (id : ℕ) (e : EndpointHistory) (s : Sight) : Type 0 where
  pub incoming : stream_at e.incoming id ≡ s.incoming
  pub decoding : e.decoding ≡ s.decoding
  pub fronts : (q : ℕ) → encoders q ≡ true → front_of (unidirectional_at e q) ≡ s.fronts q

-- only they are read so
abbrev pub AreEncoders : (ℕ → Bool) → EndpointHistory → Type 0
AreEncoders encoders e = (q : ℕ) → (unidirectional_at e q).role ≡ Encoder → encoders q ≡ true

-- whether the call is one of the stream's own, or a delivery to the peer's encoder stream. A head that is sent is where messages are strict: it says what
-- is awaited, or answers what was read
abbrev pub sees : (ℕ → Bool) → ℕ → EndpointHistory → Call → Bool
sees encoders id e OpenRequest = is_none (open_refusal e) && (e.next_id == id)
sees encoders id e (SendHead q head) = e.announced.choices.strict_messages && (is_none (head_refusal e q head) && (q == id))
sees encoders id e (Deliver q bytes) = (q == id) || encoders q
sees encoders id e (DeliverEnd q) = (q == id) || encoders q
sees encoders id e (DeliverReset q code) = (q == id) || encoders q
sees encoders id e (PullStream q) = q == id
sees encoders id e (Cancel q) = q == id
sees encoders id e _ = false

-- an answer and what is seen after it
abbrev pub Seen : Type 0
Seen = Result × Sight

abbrev pub with_seen : Sight → Incoming → Sight
with_seen s i = record s { incoming = Some i }

abbrev pub seen_incoming : Sight → Incoming
seen_incoming s = unwrap_or s.incoming nothing_came

abbrev pub unless_refused : Option Refusal → Sight → Sight → Seen
unless_refused (Some r) old new = (Refused r, old)
unless_refused None old new = (Done, new)

abbrev pub with_told : Side → Sight → List Field → Option Incoming → Sight
with_told side s fields None = s
with_told side s fields (Some i) = with_seen s (having_told side i fields)

abbrev pub seen_pull : Side → Announced → ℕ → Sight → Option Incoming → Seen
seen_pull side own id s None = (WasPulled (if is_client side then answer.NoMessages else answer.Pending), s)
seen_pull side own id s (Some i) =
    let p = pull_stream side own id s.decoding.decoder i in
    (WasPulled p.answer, with_seen s p.incoming)

abbrev pub seen_cancel_refusal : Sight → Option Refusal
seen_cancel_refusal s =
    if not (is_some s.incoming) then Some refusal.NotOpen else (
    if (seen_incoming s).is_over || is_some (seen_incoming s).fault then Some refusal.Ended else None)

-- a front after a change of its stream
abbrev pub with_front : Sight → ℕ → Front → Sight
with_front s q f = record s { fronts = λ other. if other == q then f else s.fronts other }

abbrev pub is_encoder : Role → Bool
is_encoder Encoder = true
is_encoder _ = false

abbrev pub hears : ℕ → Decoding → Role × List ℕ → Decoding
hears most d (role, bytes) = if is_encoder role then after_hearing (heard_more most d bytes) else d

abbrev pub seen_encoder_bytes : StreamKinds → ℕ → Sight → ℕ → List ℕ → Seen
seen_encoder_bytes known most s q bytes =
    let heard = role_after known (s.fronts q).role bytes in
    unless_refused (closed_refusal (s.fronts q).closed) s
    (with_front (record s { decoding = hears most s.decoding heard }) q (record (s.fronts q) { role = heard.0 }))

abbrev pub seen_encoder_closing : Sight → ℕ → Seen
seen_encoder_closing s q =
    unless_refused (closed_refusal (s.fronts q).closed) s (with_front s q (record (s.fronts q) { closed = true }))

-- What the stream sees of a call.
abbrev pub seen : Side → Announced → ℕ → Sight → Call → Seen
seen side own id s OpenRequest = (Opened id, with_seen s nothing_came)
seen side own id s (SendHead q head) = (Done, with_told side s (head_fields head) s.incoming)
seen side own id s (Deliver q bytes) =
    if q == id then unless_refused (request_refusal side s.incoming) s (with_seen s (kept (seen_incoming s) bytes))
    else seen_encoder_bytes (known_streams own) own.choices.unfinished_limit s q bytes
seen side own id s (DeliverEnd q) =
    if q == id then unless_refused (request_refusal side s.incoming) s (with_seen s (with_end (seen_incoming s)))
    else seen_encoder_closing s q
seen side own id s (DeliverReset q code) =
    if q == id then unless_refused (request_refusal side s.incoming) s
    (with_seen s (given_up_once (record (seen_incoming s) { was_reset = true }) (stream_fault.Reset code)))
    else seen_encoder_closing s q
seen side own id s (PullStream q) = seen_pull side own id s s.incoming
seen side own id s (Cancel q) = unless_refused (seen_cancel_refusal s) s (with_seen s (given_up_once (seen_incoming s) stream_fault.Canceled))
seen side own id s _ = (Done, s)

-- One call: it is answered by what is seen alone, or changes nothing of that.
pub record StepIsSeen (encoders : ℕ → Bool) (id : ℕ) (e new : EndpointHistory) (s : Sight) (c : Call) (result : Result) : Type 0 where
  pub seen_one : sees encoders id e c ≡ true →
      (result ≡ (seen e.side e.announced id s c).0) × IsSight encoders id new (seen e.side e.announced id s c).1
  pub other : sees encoders id e c ≡ false → IsSight encoders id new s

-- What is known before a call: the stream is a request stream, no fault came, only the peer's unidirectional streams are its
-- encoder's, and this is what the stream sees.
pub record Before (encoders : ℕ → Bool) (id : ℕ) (e : EndpointHistory) (s : Sight) : Type 0 where
  pub request : kind_of e.side id ≡ Request
  pub open_still : e.closed ≡ None
  pub peers : (q : ℕ) → encoders q ≡ true → kind_of e.side q ≡ PeerUnidirectional
  pub sight : IsSight encoders id e s

-- the calls find no connection fault
abbrev pub GoesOn : (ℕ → Bool) → EndpointHistory → List Call → Type 0
GoesOn encoders e [] = Unit {0}
GoesOn encoders e (c ∷ cs) = ((called e c).1.closed ≡ None) × AreEncoders encoders (called e c).1 × GoesOn encoders (called e c).1 cs

-- of the calls, those that the stream sees, in order, and the answers to them
abbrev pub view : (ℕ → Bool) → ℕ → EndpointHistory → List Call → List Call
view encoders id e [] = []
view encoders id e (c ∷ cs) =
    if sees encoders id e c then c ∷ view encoders id (called e c).1 cs else view encoders id (called e c).1 cs

abbrev pub answers_seen : (ℕ → Bool) → ℕ → EndpointHistory → List Call → List Result
answers_seen encoders id e [] = []
answers_seen encoders id e (c ∷ cs) =
    if sees encoders id e c then (called e c).0 ∷ answers_seen encoders id (called e c).1 cs else answers_seen encoders id (called e c).1 cs

-- the answers by what is seen alone
abbrev pub fold_seen : Side → Announced → ℕ → Sight → List Call → List Result
fold_seen side own id s [] = []
fold_seen side own id s (c ∷ cs) = (seen side own id s c).0 ∷ fold_seen side own id (seen side own id s c).1 cs

-- and what is seen after them
abbrev pub sight_after : Side → Announced → ℕ → Sight → List Call → Sight
sight_after side own id s [] = s
sight_after side own id s (c ∷ cs) = sight_after side own id (seen side own id s c).1 cs

-- what a stream sees of a new endpoint
abbrev pub first_sight : Side → Announced → Sight
first_sight side own = record { incoming = None; decoding = (new_endpoint side own).decoding; fronts = λ q. front_of untold }

-- the bytes that the calls bring on a stream
abbrev pub brought_by : ℕ → Call → List ℕ
brought_by q (Deliver p bytes) = if q == p then bytes else []
brought_by q _ = []

abbrev pub brought_on : ℕ → List Call → List ℕ
brought_on q [] = []
brought_on q (c ∷ cs) = brought_by q c ++ brought_on q cs

-- they begin with type 2, in any spelling
abbrev pub is_encoder_type : Option (ℕ × List ℕ) → Bool
is_encoder_type None = false
is_encoder_type (Some kind) = kind.0 == 2

abbrev pub is_peer : Kind → Bool
is_peer PeerUnidirectional = true
is_peer _ = false

-- the peer's unidirectional streams whose bytes in these calls begin so
abbrev pub encoders_in : Side → List Call → ℕ → Bool
encoders_in side calls q = is_peer (kind_of side q) && is_encoder_type (varint_at (brought_on q calls))

-- the calls find no connection fault
abbrev pub FindsNoFault : EndpointHistory → List Call → Type 0
FindsNoFault e [] = Unit {0}
FindsNoFault e (c ∷ cs) = ((called e c).1.closed ≡ None) × FindsNoFault (called e c).1 cs

-- what the stream sees of the calls of a new endpoint, by their bytes alone
abbrev pub view_of : Side → Announced → ℕ → List Call → List Call
view_of side own id calls = view (encoders_in side calls) id (new_endpoint side own) calls

-- and the answers to those
abbrev pub answers_to_view : Side → Announced → ℕ → List Call → List Result
answers_to_view side own id calls = answers_seen (encoders_in side calls) id (new_endpoint side own) calls

-- Two lists of calls of new endpoints that find no connection fault, and whose views of a stream are equal, are answered alike on it.
abbrev pub IsIsolated : Side → Announced → ℕ → Type 0
IsIsolated side own id =
    (calls more : List Call) → kind_of side id ≡ Request
    → FindsNoFault (new_endpoint side own) calls → FindsNoFault (new_endpoint side own) more
    → view_of side own id calls ≡ view_of side own id more
    → answers_to_view side own id calls ≡ answers_to_view side own id more

-- these calls where the connection is open, and none behind its fault
abbrev pub where_open : Option ℕ → List Call → List Call
where_open (Some code) calls = []
where_open None calls = calls

-- the calls before the first that finds a connection fault
abbrev pub before_first_fault : EndpointHistory → List Call → List Call
before_first_fault e [] = []
before_first_fault e (c ∷ cs) = where_open (called e c).1.closed (c ∷ before_first_fault (called e c).1 cs)

-- of the calls of a new endpoint
abbrev pub front : Side → Announced → List Call → List Call
front side own calls = before_first_fault (new_endpoint side own) calls

-- those of them that the stream sees (the peer's encoder stream is told by the bytes of all calls), and the answers to them
abbrev pub view_before_fault : Side → Announced → ℕ → List Call → List Call
view_before_fault side own id calls = view (encoders_in side calls) id (new_endpoint side own) (front side own calls)

abbrev pub answers_before_fault : Side → Announced → ℕ → List Call → List Result
answers_before_fault side own id calls = answers_seen (encoders_in side calls) id (new_endpoint side own) (front side own calls)

-- the two lists are equal as far as both go: one is a front of the other
abbrev pub AgreeAsFar : {X : Type 0} → List X → List X → Type 0
AgreeAsFar [] ys = Unit {0}
AgreeAsFar (x ∷ xs) [] = Unit {0}
AgreeAsFar (x ∷ xs) (y ∷ ys) = (x ≡ y) × AgreeAsFar xs ys

-- Two lists of calls of new endpoints whose views of a stream are equal are answered alike on it up to the first connection fault in
-- either, whatever comes behind that.
abbrev pub IsIsolatedUpToFault : Side → Announced → ℕ → Type 0
IsIsolatedUpToFault side own id =
    (calls more : List Call) → kind_of side id ≡ Request
    → view_of side own id calls ≡ view_of side own id more
    → AgreeAsFar (answers_before_fault side own id calls) (answers_before_fault side own id more)

-- And so are two whose views are equal as far as the first fault in either: what comes behind it need not be the same.
abbrev pub IsIsolatedInFront : Side → Announced → ℕ → Type 0
IsIsolatedInFront side own id =
    (calls more : List Call) → kind_of side id ≡ Request
    → AgreeAsFar (view_of side own id (front side own calls)) (view_of side own id (front side own more))
    → AgreeAsFar (answers_to_view side own id (front side own calls)) (answers_to_view side own id (front side own more))
