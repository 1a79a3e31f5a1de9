-- What each event of a run does: it is a call of one endpoint, or two, by the contracts of these calls. So it is too where memory was refused.
use Rattle.std.specs.Prelude.{◌≡◌, ◌⊎◌, ◌≤◌, ℕ, List, [], ◌∷◌, take, true, false, Result}
use Rattle.h3_proto.specs.declared.stream.Side.{Side}
use Rattle.h3_proto.specs.declared.stream.Side.TheVariants.{Client, Server}
use Rattle.h3_connection.specs.Answers.{delivery_refused}
use Rattle.h3_connection.specs.Endpoint.{EndpointHistory, bytes_waiting}
use Rattle.h3_connection.specs.ReceivingContracts.{Delivers, DeliversEnd, DeliversReset, PullsNext}
use Rattle.h3_connection.specs.SendingContracts.{Opens, SendsHead, SendsBody, SendsTrailer, Finishes, Resets, Cancels, GoesAway, Advances}
use Rattle.h3_connection.specs.Shown.{has_outgoing, waiting, is_finished, is_reset}
use Rattle.h3_connection.specs.State.{EndpointState, StandsFor}
use Rattle.h3_connection.specs.declared.event.DeliverError.{DeliverError}
use Rattle.h3_connection.specs.declared.event.Refusal.TheVariants as refusal
use Rattle.h3_connection.specs.declared.lists.ListPull.{ListPull}
use Rattle.h3_connection.specs.Lists.{list_of, pull_of}
use Rattle.h3_world.specs.declared.event.Event.{Event}
use Rattle.h3_world.specs.declared.event.Event.TheVariants as event
use Rattle.h3_world.specs.declared.event.Answer.{Answer}
use Rattle.h3_world.specs.declared.event.Answer.TheVariants as answer
use Rattle.h3_world.specs.Delivering.{reset_code}
use Rattle.h3_world.specs.Ends.{Ends}
use Rattle.h3_world.specs.Headline.{is_out_of_memory}
use Rattle.h3_session.specs.Listing.{ListsNext}
use Rattle.h3_session.specs.SendingLists.{SendsFieldList, SendsTrailerList}
use Rattle.h3_session.specs.Running.{Carried, Carries, Shown, answer_of, body_answer, bytes_go, done_answer, end_goes, is_stored, opened_answer, reset_goes, told_answer}

-- A call of an endpoint gave a result, of which the answer tells.
pub record Tells {R : Type 0} (told : R → Answer) (call : EndpointState → EndpointState → R → Type 0) (old new : EndpointState) (given : Answer) : Type 0 where
  pub result : R
  pub given_is : given ≡ told result
  pub called : call old new result

-- The side that acts makes the call, and the other one is as it was.
abbrev pub ByOne : Side → (EndpointState → EndpointState → Answer → Type 0) → EndpointState → EndpointState → Answer → EndpointState → EndpointState → Type 0
ByOne Client calls client server given client_after server_after = calls client client_after given × (server_after ≡ server)
ByOne Server calls client server given client_after server_after = calls server server_after given × (client_after ≡ client)

-- The side is the writer, and the other one the reader.
abbrev pub FromOne : Side → (EndpointState → EndpointState → Answer → EndpointState → EndpointState → Type 0) → EndpointState → EndpointState → Answer → EndpointState → EndpointState → Type 0
FromOne Client goes client server given client_after server_after = goes client server given client_after server_after
FromOne Server goes client server given client_after server_after = goes server client given server_after client_after

-- Bytes of a body are shared with the event. Where memory is refused for that nothing has changed.
abbrev pub SendsShared : ℕ → List ℕ → EndpointState → EndpointState → Answer → Type 0
SendsShared id bytes old new given = Tells body_answer (λ s t r. SendsBody s t id bytes r) old new given ⊎ ((given ≡ answer.Refused refusal.OutOfMemory) × (new ≡ old))

-- A pull with lists: a pull, with the list that came in the place of a header.
pub record PullsList (old new : EndpointState) (id : ℕ) (l : ListPull) : Type 0 where
  pub pulls : PullsNext old new id (pull_of l)
  pub list : ListsNext old id (list_of l)

-- So many bytes were offered to the reader. Those that it took left the writer, be they read or not.
pub record Offers (id count : ℕ) (bytes : List ℕ) (writer reader : EndpointState) (given : Answer) (writer_after reader_after : EndpointState) : Type 0 where
  pub result : Result Unit DeliverError
  pub given_is : given ≡ answer_of (answer.Delivered count) (delivery_refused result)
  pub delivers : Delivers reader reader_after id bytes result
  pub taken : is_stored result ≡ true → Advances writer writer_after id count
  pub left : is_stored result ≡ false → writer_after ≡ writer

-- These were the first that wait.
pub record OffersFront (id count : ℕ) (writer reader : EndpointState) (given : Answer) (writer_after reader_after : EndpointState) : Type 0 where
  pub bytes : List ℕ
  pub front : (w : EndpointHistory) → StandsFor writer w → bytes ≡ take count (bytes_waiting w id)
  pub offers : Offers id count bytes writer reader given writer_after reader_after

-- What goes over is there: so many bytes wait; the stream is finished, and none wait; it was reset.
abbrev pub HasBytes : ℕ → ℕ → EndpointHistory → Type 0
HasBytes id count w = (has_outgoing w id ≡ true) × (count ≤ waiting w id)

abbrev pub HasEnd : ℕ → EndpointHistory → Type 0
HasEnd id w = (is_finished w id ≡ true) × (waiting w id ≡ 0)

abbrev pub HasReset : ℕ → EndpointHistory → Type 0
HasReset id w = is_reset w id ≡ true

-- Bytes go over. Memory is refused where so many wait: for a copy of them, and then nothing has changed, or by the delivery.
pub record CarriesBytes (id count : ℕ) (writer reader : EndpointState) (given : Answer) (writer_after reader_after : EndpointState) : Type 0 where
  pub goes : Carries (λ w r. bytes_go w r id count) writer reader given writer_after reader_after
  pub there : is_out_of_memory given ≡ true → (w : EndpointHistory) → StandsFor writer w → HasBytes id count w
  pub lacks : is_out_of_memory given ≡ true
      → OffersFront id count writer reader given writer_after reader_after ⊎ ((given ≡ answer.Refused refusal.OutOfMemory) × (writer_after ≡ writer) × (reader_after ≡ reader))

-- An end or a reset goes over, and the writer is as it was. Memory is refused by the delivery alone, of what is there.
pub record CarriesTold (goes_over : EndpointHistory → EndpointHistory → Carried) (has : EndpointHistory → Type 0) (delivery : EndpointState → EndpointState → Result Unit DeliverError → Type 0) (writer reader : EndpointState) (given : Answer) (writer_after reader_after : EndpointState) : Type 0 where
  pub goes : Carries goes_over writer reader given writer_after reader_after
  pub same : writer_after ≡ writer
  pub there : is_out_of_memory given ≡ true → (w : EndpointHistory) → StandsFor writer w → has w
  pub lacks : is_out_of_memory given ≡ true → Tells told_answer delivery reader reader_after given

abbrev pub CarriesEnd : ℕ → EndpointState → EndpointState → Answer → EndpointState → EndpointState → Type 0
CarriesEnd id writer reader given writer_after reader_after = CarriesTold (λ w r. end_goes w r id) (HasEnd id) (λ s t r. DeliversEnd s t id r) writer reader given writer_after reader_after

abbrev pub CarriesReset : ℕ → EndpointState → EndpointState → Answer → EndpointState → EndpointState → Type 0
CarriesReset id writer reader given writer_after reader_after =
    CarriesTold (λ w r. reset_goes w r id) (HasReset id) (λ s t r. DeliversReset s t id reset_code r) writer reader given writer_after reader_after

-- The event was answered so, and left both endpoints so.
abbrev pub Acts : Event → EndpointState → EndpointState → Answer → EndpointState → EndpointState → Type 0
Acts (event.OpenRequest side) client server given client_after server_after = ByOne side (Tells opened_answer Opens) client server given client_after server_after
Acts (event.Head side id head) client server given client_after server_after = ByOne side (Tells done_answer (λ s t r. SendsHead s t id head r)) client server given client_after server_after
Acts (event.Fields side id fields) client server given client_after server_after = ByOne side (Tells done_answer (λ s t r. SendsFieldList s t id fields r)) client server given client_after server_after
Acts (event.Body side id bytes) client server given client_after server_after = ByOne side (SendsShared id bytes) client server given client_after server_after
Acts (event.Trailer side id trailer) client server given client_after server_after = ByOne side (Tells done_answer (λ s t r. SendsTrailer s t id trailer r)) client server given client_after server_after
Acts (event.TrailerFields side id fields) client server given client_after server_after = ByOne side (Tells done_answer (λ s t r. SendsTrailerList s t id fields r)) client server given client_after server_after
Acts (event.Finish side id) client server given client_after server_after = ByOne side (Tells done_answer (λ s t r. Finishes s t id r)) client server given client_after server_after
Acts (event.Reset side id) client server given client_after server_after = ByOne side (Tells done_answer (λ s t r. Resets s t id r)) client server given client_after server_after
Acts (event.Cancel side id) client server given client_after server_after = ByOne side (Tells done_answer (λ s t r. Cancels s t id r)) client server given client_after server_after
Acts (event.Goaway side id) client server given client_after server_after = ByOne side (Tells done_answer (λ s t r. GoesAway s t id r)) client server given client_after server_after
Acts (event.Deliver side id count) client server given client_after server_after = FromOne side (CarriesBytes id count) client server given client_after server_after
Acts (event.DeliverEnd side id) client server given client_after server_after = FromOne side (CarriesEnd id) client server given client_after server_after
Acts (event.DeliverReset side id) client server given client_after server_after = FromOne side (CarriesReset id) client server given client_after server_after
Acts (event.Pull side id) client server given client_after server_after = ByOne side (Tells answer.Pulled (λ s t p. PullsNext s t id p)) client server given client_after server_after
Acts (event.PullFields side id) client server given client_after server_after = ByOne side (Tells answer.Listed (λ s t l. PullsList s t id l)) client server given client_after server_after
Acts (event.Show side) client server given client_after server_after = ByOne side (λ s t a. (t ≡ s) × Shown s a) client server given client_after server_after

-- Each event was answered so by both endpoints as the events before it left them.
abbrev pub ActsEach : EndpointState → EndpointState → List Event → List Answer → EndpointState → EndpointState → Type 0
ActsEach client server [] [] client_after server_after = (client_after ≡ client) × (server_after ≡ server)
ActsEach client server (e ∷ events) (a ∷ answers) client_after server_after =
    (c : EndpointState) × (s : EndpointState) × Acts e client server a c s × ActsEach c s events answers client_after server_after
ActsEach client server [] (a ∷ answers) client_after server_after = ⊥
ActsEach client server (e ∷ events) [] client_after server_after = ⊥

-- Two endpoints that stood for these ends answered the events so.
pub record RunsByCalls (ends : Ends) (events : List Event) (answers : List Answer) (client_after server_after : EndpointState) : Type 0 where
  pub client : EndpointState
  pub server : EndpointState
  pub client_stands : StandsFor client ends.client
  pub server_stands : StandsFor server ends.server
  pub acts : ActsEach client server events answers client_after server_after
