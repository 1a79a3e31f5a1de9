-- What two endpoints answer to an event and are after it, where memory may be refused: what the contracts of `Endpoint` say of it. And their
-- whole runs.
use Rattle.std.specs.Prelude.{◌≡◌, ◌≢◌, ◌⊎◌, ℕ, ◌≤◌, ◌<◌, Bool, true, false, List, [], ◌∷◌, ◌++◌, length, take, Option, Some, None}
use Rattle.h3_field.specs.Field.{Field}
use Rattle.h3_header.specs.Head.{head_fields}
use Rattle.h3_proto.specs.declared.stream.Side.{Side}
use Rattle.h3_connection.specs.declared.arrival.Arrival.{Arrival}
use Rattle.h3_connection.specs.declared.arrival.Arrival.TheVariants.{BytesCame, EndCame, ResetCame}
use Rattle.h3_connection.specs.Arrivals.{stream_of}
use Rattle.h3_connection.specs.Delivering.{with_incoming}
use Rattle.h3_connection.specs.Endpoint.{EndpointHistory, bytes_waiting, kind_of}
use Rattle.h3_connection.specs.Endpoint.Kind.{Request}
use Rattle.h3_connection.specs.Incoming.{Incoming}
use Rattle.h3_connection.specs.Keeping.{settles, unkept}
use Rattle.h3_connection.specs.OwnIds.{other}
use Rattle.h3_connection.specs.PartReading.{ReadsPart}
use Rattle.h3_connection.specs.PartReading.{CountsOn, Resumes, ResumesPlainly}
use Rattle.h3_connection.specs.ReceivingContracts.{IsTaken}
use Rattle.h3_connection.specs.Sections.{with_insertions}
use Rattle.h3_connection.specs.Sending as sender
use Rattle.h3_connection.specs.StreamSets.{stream_at}
use Rattle.h3_connection.specs.declared.event.Refusal.{Refusal}
use Rattle.h3_connection.specs.declared.event.Refusal.TheVariants as refusal
use Rattle.h3_connection.specs.declared.event.Fault.TheVariants as fault
use Rattle.h3_connection.specs.declared.event.Pull.TheVariants as pull
use Rattle.h3_world.specs.declared.event.Event.{Event}
use Rattle.h3_world.specs.declared.event.Event.TheVariants as event
use Rattle.h3_world.specs.declared.event.Answer.{Answer}
use Rattle.h3_world.specs.declared.event.Answer.TheVariants as answer
use Rattle.h3_world.specs.EndLists.{send_fields, send_trailer_fields}
use Rattle.h3_world.specs.Run.{Run}
use Rattle.h3_world.specs.Delivering.{reset_code}
use Rattle.h3_world.specs.Ends.{Ends, end_at, with_end, answered}
use Rattle.h3_world.specs.Headline.{is_out_of_memory}
use Rattle.h3_connection.specs.Shown.{waiting, has_outgoing, is_finished, is_reset}
use Rattle.h3_connection.specs.declared.lists.ListPull.TheVariants as list

-- Nothing was sent, but the insertions for a front of the fields were made.
pub record CutsOff (ends : Ends) (side : Side) (id : ℕ) (fields : List Field) (new : Ends) : Type 0 where
  pub front : ℕ
  pub within : front ≤ length fields
  pub is : new ≡ with_end ends side (with_insertions (end_at ends side) id (take front fields))

-- A section that would have been sent was cut off. Of one that is malformed or too large nothing was inserted.
abbrev pub CutsSection : Option Refusal → Ends → Side → ℕ → List Field → Ends → Type 0
CutsSection None ends side id fields new = CutsOff ends side id fields new
CutsSection (Some (refusal.Malformed why)) ends side id fields new = new ≡ ends
CutsSection (Some (refusal.TooLarge size)) ends side id fields new = new ≡ ends
CutsSection (Some r) ends side id fields new = ⊥

-- The same of a list, which is at hand: all else is judged before memory is told of, but for a list of more than 24,576 fields.
abbrev pub CutsList : Option Refusal → Ends → Side → ℕ → List Field → Ends → Type 0
CutsList None ends side id fields new = CutsOff ends side id fields new
CutsList (Some (refusal.TooLarge size)) ends side id fields new = new ≡ ends
CutsList (Some (refusal.Malformed why)) ends side id fields new = (24576 < length fields) × (new ≡ ends)
CutsList (Some refusal.WrongSide) ends side id fields new = (24576 < length fields) × (new ≡ ends)
CutsList (Some refusal.PseudoInTrailer) ends side id fields new = (24576 < length fields) × (new ≡ ends)
CutsList (Some r) ends side id fields new = ⊥

-- What was handed over is kept, and a part of all that is kept was read. What comes on a request stream is kept only behind what is kept.
pub record Stores (ends : Ends) (reader : Side) (a : Arrival) (sent : Ends) (new : Ends) : Type 0 where
  pub taken : IsTaken (end_at ends reader) (stream_of a)
  pub behind : kind_of (end_at ends reader).side (stream_of a) ≡ Request → (end_at ends reader).kept ≢ []
  pub after : EndpointHistory
  pub read : ReadsPart (unkept (end_at ends reader)) ((end_at ends reader).kept ++ a ∷ []) after
  pub some : after.kept ≢ []
  pub is : new ≡ with_end sent reader after

-- the stream goes on as if it had not been asked
pub record IsAsked (e : EndpointHistory) (id : ℕ) (new : EndpointHistory) : Type 0 where
  pub old : Incoming
  pub asked : Incoming
  pub here : stream_at e.incoming id ≡ Some old
  pub resumes : Resumes e.side e.announced id old asked
  pub plainly : ResumesPlainly e.side e.announced id old asked
  pub counts : CountsOn old.content asked.content
  pub is : new ≡ with_incoming e id asked

pub record LosesNothing (ends : Ends) (side : Side) (id : ℕ) (new : Ends) : Type 0 where
  pub unsettled : settles (end_at ends side) id ≡ false
  pub after : EndpointHistory
  pub read : ReadsPart (unkept (end_at ends side)) (end_at ends side).kept after
  pub is : (new ≡ with_end ends side after) ⊎ ((after.kept ≡ []) × IsAsked after id (end_at new side) × (new ≡ with_end ends side (end_at new side)))

-- the writer once so many bytes left it
abbrev pub handed_over : Ends → Side → ℕ → ℕ → Ends
handed_over ends writer id count = with_end ends writer (sender.advance (end_at ends writer) id count)

abbrev pub LacksMemory : Ends → Event → Answer → Ends → Type 0
LacksMemory ends (event.OpenRequest side) (answer.Refused refusal.OutOfMemory) new = ((sender.open_request (end_at ends side)).0 ≡ None) × (new ≡ ends)
LacksMemory ends (event.Head side id head) (answer.Refused refusal.OutOfMemory) new =
    CutsSection (sender.send_head (end_at ends side) id head).0 ends side id (head_fields head) new
LacksMemory ends (event.Fields side id fields) (answer.Refused refusal.OutOfMemory) new = CutsList (send_fields (end_at ends side) id fields).0 ends side id fields new
LacksMemory ends (event.Body side id bytes) (answer.Refused refusal.OutOfMemory) new = new ≡ ends
LacksMemory ends (event.Trailer side id trailer) (answer.Refused refusal.OutOfMemory) new =
    CutsSection (sender.send_trailer (end_at ends side) id trailer).0 ends side id (head_fields trailer) new
LacksMemory ends (event.TrailerFields side id fields) (answer.Refused refusal.OutOfMemory) new = CutsList (send_trailer_fields (end_at ends side) id fields).0 ends side id fields new
LacksMemory ends (event.Cancel side id) (answer.Refused refusal.OutOfMemory) new = ((sender.cancel (end_at ends side) id).0 ≡ None) × (new ≡ ends)
LacksMemory ends (event.Goaway side id) (answer.Refused refusal.OutOfMemory) new = ((sender.goaway (end_at ends side) id).0 ≡ None) × (new ≡ ends)
LacksMemory ends (event.Deliver writer id count) (answer.Refused refusal.OutOfMemory) new = new ≡ ends
LacksMemory ends (event.DeliverEnd writer id) (answer.Refused refusal.OutOfMemory) new =
    (is_finished (end_at ends writer) id ≡ true) × (waiting (end_at ends writer) id ≡ 0) × IsTaken (end_at ends (other writer)) id × (new ≡ ends)
LacksMemory ends (event.DeliverReset writer id) (answer.Refused refusal.OutOfMemory) new =
    (is_reset (end_at ends writer) id ≡ true) × IsTaken (end_at ends (other writer)) id × (new ≡ ends)
LacksMemory ends (event.Deliver writer id count) (answer.Refused refusal.Kept) new =
    (has_outgoing (end_at ends writer) id ≡ true) × (count ≤ waiting (end_at ends writer) id)
    × Stores ends (other writer) (BytesCame id (take count (bytes_waiting (end_at ends writer) id))) (handed_over ends writer id count) new
LacksMemory ends (event.DeliverEnd writer id) (answer.Refused refusal.Kept) new =
    (is_finished (end_at ends writer) id ≡ true) × (waiting (end_at ends writer) id ≡ 0) × Stores ends (other writer) (EndCame id) ends new
LacksMemory ends (event.DeliverReset writer id) (answer.Refused refusal.Kept) new =
    (is_reset (end_at ends writer) id ≡ true) × Stores ends (other writer) (ResetCame id reset_code) ends new
LacksMemory ends (event.Pull side id) (answer.Pulled (pull.Fault fault.Memory)) new = LosesNothing ends side id new
LacksMemory ends (event.PullFields side id) (answer.Listed (list.Fault fault.Memory)) new = LosesNothing ends side id new
LacksMemory ends e given new = ⊥

abbrev pub AnswerOf : Bool → Ends → Event → Answer → Ends → Type 0
AnswerOf true ends e given new = LacksMemory ends e given new
AnswerOf false ends e given new = (given ≡ (answered ends e).0) × (new ≡ (answered ends e).1)

-- The event is answered so, and leaves the endpoints so.
abbrev pub EndsStep : Ends → Event → Answer → Ends → Type 0
EndsStep ends e given new = AnswerOf (is_out_of_memory given) ends e given new

-- They answer the events so, each as the events before it left them.
abbrev pub EndsRun : Ends → List Event → List Answer → Ends → Type 0
EndsRun ends events answers new = Run EndsStep ends events answers new
