-- Two lists of calls that differ only in where the bytes of streams are cut into deliveries.
use Rattle.std.specs.Prelude.{◌≡◌, ◌≢◌, ℕ, ◌+◌, List, [], ◌∷◌, length, flat_map, map, replicate, Option, Some, None}
use Rattle.std.specs.List.{concat}
use Rattle.h3_proto.specs.declared.stream.Side.{Side}
use Rattle.h3_field.specs.Instruction.{DecoderInstruction}
use Rattle.h3_field.specs.Instruction.DecoderInstruction.{Increment}
use Rattle.h3_connection.specs.declared.event.Refusal.{Refusal}
use Rattle.h3_connection.specs.declared.event.Refusal.TheVariants as refusal
use Rattle.h3_connection.specs.CallLists.{Call, Result, called, answers, endpoint_after}
use Rattle.h3_connection.specs.CallLists.Call.{Outgoing, Deliver, PullStream}
use Rattle.h3_connection.specs.CallLists.Result.{Refused, Pulled}
use Rattle.h3_connection.specs.DeliveryCuts.{role_with}
use Rattle.h3_connection.specs.Endpoint.{EndpointHistory, kind_of}
use Rattle.h3_connection.specs.Endpoint.Kind.{PeerUnidirectional}
use Rattle.h3_connection.specs.Incoming.{Incoming}
use Rattle.h3_connection.specs.OwnIds.{decoder_id}
use Rattle.h3_connection.specs.PullCuts.{piece_in, HaveBytes, DifferInCuts}
use Rattle.h3_connection.specs.StreamSets.{Streams}
use Rattle.h3_connection.specs.Unidirectional.{Unidirectional}
use Rattle.h3_connection.specs.Unidirectional.Role.{Control}

-- increments that follow one another as one, which is their sum (RFC 9204, section 4.4.3)
abbrev pub with_increment : ℕ → List DecoderInstruction → List DecoderInstruction
with_increment n (Increment m ∷ replies) = Increment (n + m) ∷ replies
with_increment n replies = Increment n ∷ replies

abbrev pub joined_increments : List DecoderInstruction → List DecoderInstruction
joined_increments [] = []
joined_increments (Increment n ∷ replies) = with_increment n (joined_increments replies)
joined_increments (reply ∷ replies) = reply ∷ joined_increments replies

-- a session on a unidirectional stream, of which the bytes that wait are in other pieces
pub record SessionsDifferInCuts (o p : Unidirectional) : Type 0 where
  pub bytes : concat p.unread ≡ concat o.unread
  pub same : p ≡ record o { unread = p.unread }
  pub first : HaveBytes o.unread
  pub second : HaveBytes p.unread

-- the same streams, and this holds of each and its counterpart
abbrev pub EachStream : {X : Type 0} → (X → X → Type 0) → Streams X → Streams X → Type 0
EachStream P [] [] = Unit {0}
EachStream P ((p, x) ∷ one) ((q, y) ∷ two) = (q ≡ p) × P x y × EachStream P one two
EachStream P _ _ = ⊥

abbrev pub with_streams : EndpointHistory → Streams Incoming → Streams Unidirectional → List DecoderInstruction → EndpointHistory
with_streams e incoming unidirectional replies =
    record e { incoming = incoming; unidirectional = unidirectional; own = record e.own { replies = replies } }

-- Nothing of two endpoints differs but how the bytes that wait on streams are cut into pieces, and insertions into increments.
pub record DifferInCutsAlone (one two : EndpointHistory) : Type 0 where
  pub incoming : EachStream DifferInCuts one.incoming two.incoming
  pub unidirectional : EachStream SessionsDifferInCuts one.unidirectional two.unidirectional
  pub replies : joined_increments two.own.replies ≡ joined_increments one.own.replies
  pub same : two ≡ with_streams one two.incoming two.unidirectional two.own.replies

-- A part of one list of calls, beside that of another.
pub data Part : Type 0 where
  -- one call, the same in both
  Same : (call : Call) → Part
  -- deliveries of a stream's bytes, in these pieces and in those
  Cut : (id : ℕ) (one two : List (List ℕ)) → Part
  -- so many pulls of a stream and so many, each of which hands out a piece of a body or of a session
  Pieces : (id one two : ℕ) → Part

abbrev pub deliveries : ℕ → List (List ℕ) → List Call
deliveries id pieces = map (Deliver id) pieces

abbrev pub pulls_of : ℕ → ℕ → List Call
pulls_of id count = replicate count (PullStream id)

abbrev pub calls_of_first : Part → List Call
calls_of_first (Same call) = call ∷ []
calls_of_first (Cut id one two) = deliveries id one
calls_of_first (Pieces id one two) = pulls_of id one

abbrev pub calls_of_second : Part → List Call
calls_of_second (Same call) = call ∷ []
calls_of_second (Cut id one two) = deliveries id two
calls_of_second (Pieces id one two) = pulls_of id two

-- the two lists
abbrev pub first_calls : List Part → List Call
first_calls parts = flat_map calls_of_first parts

abbrev pub second_calls : List Part → List Call
second_calls parts = flat_map calls_of_second parts

-- the bytes that an answer hands out of a body or of a session
abbrev pub piece_of : Result → Option (List ℕ)
piece_of (Pulled answer) = piece_in answer
piece_of _ = None

abbrev pub ArePieces : List Result → Type 0
ArePieces [] = Unit {0}
ArePieces (r ∷ results) = ((bytes : List ℕ) × (piece_of r ≡ Some bytes)) × ArePieces results

abbrev pub bytes_of : Option (List ℕ) → List ℕ
bytes_of None = []
bytes_of (Some bytes) = bytes

-- the bytes of all pieces
abbrev pub handed_out : List Result → List ℕ
handed_out results = flat_map (λ r. bytes_of (piece_of r)) results

-- the first refusal of some calls
abbrev pub first_refusal : List Result → Option Refusal
first_refusal [] = None
first_refusal (Refused why ∷ results) = Some why
first_refusal (_ ∷ results) = first_refusal results

-- What makes a part one of two lists that differ in cuts alone: the bytes are the same, and pieces that are pulled end at the same byte.
abbrev pub IsCut : EndpointHistory → EndpointHistory → Part → Type 0
IsCut e f (Same call) = piece_of (called e call).0 ≡ None
IsCut e f (Cut id one two) = (one ≢ []) × (two ≢ []) × (concat one ≡ concat two)
IsCut e f (Pieces id one two) =
    ArePieces (answers e (pulls_of id one)) × ArePieces (answers f (pulls_of id two))
    × (length (handed_out (answers e (pulls_of id one))) ≡ length (handed_out (answers f (pulls_of id two))))

-- The parts are such, one behind the other, up to a connection fault.
abbrev pub AreCuts : EndpointHistory → EndpointHistory → List Part → Type 0
AreCuts e f [] = Unit {0}
AreCuts e f (p ∷ parts) =
    IsCut e f p × ((endpoint_after e (calls_of_first p)).closed ≡ None → AreCuts (endpoint_after e (calls_of_first p)) (endpoint_after f (calls_of_second p)) parts)

-- Deliveries are refused alike. Two faults may differ in one place: on the control stream, whose bytes bring the settings, where bytes of
-- the decoder stream wait for them and are faulty too.
pub data RefusedAlike (e : EndpointHistory) (id : ℕ) (bytes : List ℕ) (one two : Option Refusal) : Type 0 where
  Alike : one ≡ two → RefusedAlike e id bytes one two
  TwoFaults : (code other : ℕ) → kind_of e.side id ≡ PeerUnidirectional → role_with e id bytes ≡ Control → e.peer.settings ≡ None → e.decoder_unread ≢ []
      → one ≡ Some (refusal.Connection code) → two ≡ Some (refusal.Connection other) → RefusedAlike e id bytes one two

-- The answer is the same. What waits on the own decoder stream has the increments.
abbrev pub SameAnswer : Side → Call → Result → Result → Type 0
SameAnswer side (Outgoing id) one two = id ≢ decoder_id side → one ≡ two
SameAnswer side _ one two = one ≡ two

-- A part is answered alike: pieces have the same bytes in all.
abbrev pub AnsweredAlike : EndpointHistory → EndpointHistory → Part → Type 0
AnsweredAlike e f (Same call) = SameAnswer e.side call (called e call).0 (called f call).0
AnsweredAlike e f (Cut id one two) = RefusedAlike e id (concat one) (first_refusal (answers e (deliveries id one))) (first_refusal (answers f (deliveries id two)))
AnsweredAlike e f (Pieces id one two) = handed_out (answers e (pulls_of id one)) ≡ handed_out (answers f (pulls_of id two))

-- Both endpoints have found a connection fault, or neither has, and then this holds.
abbrev pub BothClosedOr : Type 0 → Option ℕ → Option ℕ → Type 0
BothClosedOr later None None = later
BothClosedOr later (Some code) (Some other) = Unit {0}
BothClosedOr later _ _ = ⊥

-- All parts are answered alike, up to a connection fault, which both endpoints find in the same part; without one the endpoints differ in
-- cuts alone at the end.
abbrev pub AllAnsweredAlike : EndpointHistory → EndpointHistory → List Part → Type 0
AllAnsweredAlike e f [] = DifferInCutsAlone e f
AllAnsweredAlike e f (p ∷ parts) =
    let one = endpoint_after e (calls_of_first p) in
    let two = endpoint_after f (calls_of_second p) in
    AnsweredAlike e f p × BothClosedOr (AllAnsweredAlike one two parts) one.closed two.closed
