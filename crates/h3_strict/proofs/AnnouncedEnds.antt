-- What an end announced stays, whatever comes and is called. So whether an end asks for a strict connection does.
use Rattle.std.proofs.Common.{◌≡◌, ℕ, Bool, true, false, if◌then◌else◌, List, [], ◌∷◌, ◌++◌, length, take, refl, ap, sym, ◌∙◌, Option, Some, None}
use Rattle.std.specs.Prelude.{◌==◌, ◌&&◌, ◌||◌, not, nat_lt}
use Rattle.h3_proto.specs.declared.stream.Side.{Side}
use Rattle.h3_proto.specs.declared.stream.Side.TheVariants.{Client, Server}
use Rattle.h3_connection.specs.Arrivals.{stream_of}
use Rattle.h3_connection.specs.Control.{Found}
use Rattle.h3_connection.specs.Delivering.{delivery_refusal, taken}
use Rattle.h3_connection.specs.Endpoint.{EndpointHistory, Kind, bytes_waiting, kind_of}
use Rattle.h3_connection.specs.Endpoint.Kind.{OwnUnidirectional, PeerUnidirectional, Request, ServerOpened}
use Rattle.h3_connection.specs.Incoming.{Incoming}
use Rattle.h3_connection.specs.Keeping.{arrival_refusal, arrives, arrives_behind, pulled_after, pulls, pulls_behind, read_all, read_arrival, settles, unkept, unless_faulty}
use Rattle.h3_connection.specs.Outgoing.{Outgoing}
use Rattle.h3_connection.specs.OwnIds.{other}
use Rattle.h3_connection.specs.Sending as sender
use Rattle.h3_connection.specs.Sending.{after_answer, does, pull_at, pull_peer, pull_request, pull_unless}
use Rattle.h3_connection.specs.Shown.{has_outgoing, is_finished, is_reset, waiting}
use Rattle.h3_connection.specs.StreamSets.{stream_at}
use Rattle.h3_connection.specs.StrictConnection.{is_strict}
use Rattle.h3_connection.specs.Unidirectional.{Unidirectional}
use Rattle.h3_connection.specs.declared.arrival.Arrival.{Arrival}
use Rattle.h3_connection.specs.declared.arrival.Arrival.TheVariants.{BytesCame, EndCame, ResetCame}
use Rattle.h3_connection.specs.declared.event.Fault.TheVariants as fault
use Rattle.h3_connection.specs.declared.event.Pull.{Pull}
use Rattle.h3_connection.specs.declared.event.Pull.TheVariants as pull
use Rattle.h3_connection.specs.declared.event.Refusal.{Refusal}
use Rattle.h3_connection.specs.declared.setup.Announced.{Announced}
use Rattle.h3_world.specs.Delivering.{reset_code}
use Rattle.h3_world.specs.EndLists.{fields_refusal, send_fields, send_trailer_fields, trailer_fields_refusal}
use Rattle.h3_world.specs.Ends.{Ends, answered, done, end_at, ends_after, new_ends, was_listed, was_offered, was_pulled, with_end}
use Rattle.h3_world.specs.Setup.{Setup, announced_at}
use Rattle.h3_world.specs.declared.event.Answer.{Answer}
use Rattle.h3_world.specs.declared.event.Answer.TheVariants as answer
use Rattle.h3_world.specs.declared.event.Event.{Event}
use Rattle.h3_world.specs.declared.event.Event.TheVariants as event
use Rattle.h3_strict.proofs.KeepsCounts.{arrival_announced}
use Rattle.h3_strict.specs.PlainEnds.{asks_strictly}

-- a call by its refusal
does_announced : (r : Option Refusal) (e f : EndpointHistory) → f.announced ≡ e.announced → (does r e f).1.announced ≡ e.announced
does_announced None e f same = same
does_announced (Some r) e f same = refl

body_announced : (e : EndpointHistory) (id : ℕ) (bytes : List ℕ) → (sender.send_body e id bytes).1.announced ≡ e.announced
body_announced e id [] = does_announced (sender.body_refusal e id 0) e _ refl
body_announced e id (byte ∷ bytes) = does_announced (sender.body_refusal e id (length (byte ∷ bytes))) e _ refl

pub advance_announced : (e : EndpointHistory) (id count : ℕ) → (sender.advance e id count).announced ≡ e.announced
advance_announced e id count = by_stream (stream_at e.outgoing id)
  where
    by_stream : (o : Option Outgoing) → (sender.advance_at e id count o).announced ≡ e.announced
    by_stream None = refl
    by_stream (Some o) = refl

-- what comes, behind what is kept
then_announced : (go : EndpointHistory → Found) (x : Found) → ((f : EndpointHistory) → (go f).0.announced ≡ f.announced) → (unless_faulty go x).0.announced ≡ x.0.announced
then_announced go (f, Some code) goes = refl
then_announced go (f, None) goes = goes f

all_announced : (arrivals : List Arrival) (e : EndpointHistory) → (read_all arrivals e).0.announced ≡ e.announced
all_announced [] e = refl
all_announced (a ∷ arrivals) e = then_announced (read_all arrivals) (read_arrival e a) (all_announced arrivals) ∙ arrival_announced e a

taken_announced : (closed : Option ℕ) (r : Option Refusal) (e : EndpointHistory) (x : Found) → x.0.announced ≡ e.announced → (taken closed r e x).1.announced ≡ e.announced
taken_announced (Some code) r e x same = refl
taken_announced None (Some r) e x same = refl
taken_announced None None e (f, None) same = same
taken_announced None None e (f, Some code) same = same

behind_announced : (kept : List Arrival) (e : EndpointHistory) (a : Arrival) → (arrives_behind kept e a).1.announced ≡ e.announced
behind_announced [] e a = taken_announced e.closed (delivery_refusal e (stream_of a)) e (read_arrival e a) (arrival_announced e a)
behind_announced (k ∷ kept) e a = taken_announced e.closed (arrival_refusal e (stream_of a)) e (read_all (k ∷ kept ++ a ∷ []) (unkept e)) (all_announced (k ∷ kept ++ a ∷ []) (unkept e))

arrives_announced : (e : EndpointHistory) (a : Arrival) → (arrives e a).1.announced ≡ e.announced
arrives_announced e a = behind_announced e.kept e a

-- a pull
answer_announced : (a : Pull) (e : EndpointHistory) → (after_answer a e).1.announced ≡ e.announced
answer_announced (pull.Fault (fault.Connection code)) e = refl
answer_announced (pull.Fault (fault.Stream f)) e = refl
answer_announced (pull.Fault fault.Memory) e = refl
answer_announced (pull.Item i) e = refl
answer_announced pull.Pending e = refl
answer_announced (pull.Waiting n) e = refl
answer_announced pull.NoMessages e = refl

request_announced : (e : EndpointHistory) (id : ℕ) (o : Option Incoming) → (pull_request e id o).1.announced ≡ e.announced
request_announced e id None = refl
request_announced e id (Some i) = answer_announced _ _

peer_announced : (e : EndpointHistory) (id : ℕ) (o : Option Unidirectional) → (pull_peer e id o).1.announced ≡ e.announced
peer_announced e id None = refl
peer_announced e id (Some o) = refl

pull_announced : (e : EndpointHistory) (id : ℕ) (k : Kind) → (pull_at e id k).1.announced ≡ e.announced
pull_announced e id Request = request_announced e id (stream_at e.incoming id)
pull_announced e id PeerUnidirectional = peer_announced e id (stream_at e.unidirectional id)
pull_announced e id ServerOpened = refl
pull_announced e id OwnUnidirectional = refl

unless_announced : (closed : Option ℕ) (e : EndpointHistory) (x : Pull × EndpointHistory) → x.1.announced ≡ e.announced → (pull_unless closed e x).1.announced ≡ e.announced
unless_announced (Some code) e x same = refl
unless_announced None e x same = same

after_announced : (x : Found) (id : ℕ) → (pulled_after x id).1.announced ≡ x.0.announced
after_announced (f, Some code) id = refl
after_announced (f, None) id = pull_announced f id (kind_of f.side id)

if_announced : (b : Bool) (e : EndpointHistory) (x y : Pull × EndpointHistory) → x.1.announced ≡ e.announced → y.1.announced ≡ e.announced → (if b then x else y).1.announced ≡ e.announced
if_announced true e x y h k = h
if_announced false e x y h k = k

pulls_announced : (kept : List Arrival) (e : EndpointHistory) (id : ℕ) → (pulls_behind kept e id).1.announced ≡ e.announced
pulls_announced [] e id = unless_announced e.closed e (pull_at e id (kind_of e.side id)) (pull_announced e id (kind_of e.side id))
pulls_announced (k ∷ kept) e id =
    let x = read_all (k ∷ kept) (unkept e) in
    unless_announced e.closed e _ (if_announced (settles e id) e _ _ (pull_announced e id (kind_of e.side id)) (after_announced x id ∙ all_announced (k ∷ kept) (unkept e)))

-- Of both ends.
module _ (ends : Ends) where
  abbrev Stay : Ends → Type 0
  Stay new = (s : Side) → (end_at new s).announced ≡ (end_at ends s).announced

  sets : (side : Side) (e : EndpointHistory) → e.announced ≡ (end_at ends side).announced → Stay (with_end ends side e)
  sets Client e same Client = same
  sets Client e same Server = refl
  sets Server e same Client = refl
  sets Server e same Server = same

  done_stay : (side : Side) (success : Answer) (x : Option Refusal × EndpointHistory) → x.1.announced ≡ (end_at ends side).announced → Stay (done ends side success x).1
  done_stay side success (None, e) same = sets side e same
  done_stay side success (Some r, e) same = sets side e same

  pulled_stay : (side : Side) (x : Pull × EndpointHistory) → x.1.announced ≡ (end_at ends side).announced → Stay (was_pulled ends side x).1
  pulled_stay side (p, e) same = sets side e same

  listed_stay : (side : Side) (id : ℕ) (x : Pull × EndpointHistory) → x.1.announced ≡ (end_at ends side).announced → Stay (was_listed ends side id x).1
  listed_stay side id (p, e) same = sets side e same

  tested : (b c : Bool) (x y z : Answer × Ends) → Stay x.1 → Stay y.1 → Stay z.1 → Stay (if b then x else (if c then y else z)).1
  tested true c x y z h k l = h
  tested false true x y z h k l = k
  tested false false x y z h k l = l

-- bytes that were taken leave the writer
offered_stay : (ends : Ends) (writer : Side) (id count : ℕ) (x : Option Refusal × EndpointHistory) → x.1.announced ≡ (end_at ends (other writer)).announced → Stay ends (was_offered ends writer id count x).1
offered_stay ends writer id count (Some r, e) same = sets ends (other writer) e same
offered_stay ends writer id count (None, e) same =
    let new : EndpointHistory = sender.advance (end_at ends writer) id count in
    let first : Stay ends (with_end ends writer new) = sets ends writer new (advance_announced (end_at ends writer) id count) in
    λ s. sets (with_end ends writer new) (other writer) e (same ∙ sym (first (other writer))) s ∙ first s

-- **Any event.**
pub stays : (ends : Ends) (e : Event) → Stay ends (answered ends e).1
stays ends (event.OpenRequest side) = done_stay ends side (answer.Opened (end_at ends side).next_id) (sender.open_request (end_at ends side)) (does_announced (sender.open_refusal (end_at ends side)) (end_at ends side) _ refl)
stays ends (event.Head side id head) = done_stay ends side answer.Done (sender.send_head (end_at ends side) id head) (does_announced (sender.head_refusal (end_at ends side) id head) (end_at ends side) _ refl)
stays ends (event.Fields side id fields) = done_stay ends side answer.Done (send_fields (end_at ends side) id fields) (does_announced (fields_refusal (end_at ends side) id fields) (end_at ends side) _ refl)
stays ends (event.Body side id bytes) = done_stay ends side answer.Done (sender.send_body (end_at ends side) id bytes) (body_announced (end_at ends side) id bytes)
stays ends (event.Trailer side id trailer) = done_stay ends side answer.Done (sender.send_trailer (end_at ends side) id trailer) (does_announced (sender.trailer_refusal (end_at ends side) id trailer) (end_at ends side) _ refl)
stays ends (event.TrailerFields side id fields) = done_stay ends side answer.Done (send_trailer_fields (end_at ends side) id fields) (does_announced (trailer_fields_refusal (end_at ends side) id fields) (end_at ends side) _ refl)
stays ends (event.Finish side id) = done_stay ends side answer.Done (sender.finish (end_at ends side) id) (does_announced (sender.finish_refusal (end_at ends side) id) (end_at ends side) _ refl)
stays ends (event.Reset side id) = done_stay ends side answer.Done (sender.reset (end_at ends side) id) (does_announced (sender.reset_refusal (end_at ends side) id) (end_at ends side) _ refl)
stays ends (event.Cancel side id) = done_stay ends side answer.Done (sender.cancel (end_at ends side) id) (does_announced (sender.cancel_refusal (end_at ends side) id) (end_at ends side) _ refl)
stays ends (event.Goaway side id) = done_stay ends side answer.Done (sender.goaway (end_at ends side) id) (does_announced (sender.goaway_refusal (end_at ends side) id) (end_at ends side) _ refl)
stays ends (event.Deliver side id count) =
    let e = end_at ends side in
    let came = BytesCame id (take count (bytes_waiting e id)) in
    let reader = end_at ends (other side) in
    tested ends (not (has_outgoing e id)) (nat_lt (waiting e id) count) _ _ _ (λ s. refl) (λ s. refl) (offered_stay ends side id count (arrives reader came) (arrives_announced reader came))
stays ends (event.DeliverEnd side id) =
    let e = end_at ends side in
    let reader = end_at ends (other side) in
    tested ends (not (has_outgoing e id)) (not (is_finished e id && (waiting e id == 0))) _ _ _ (λ s. refl) (λ s. refl) (done_stay ends (other side) answer.Done (arrives reader (EndCame id)) (arrives_announced reader (EndCame id)))
stays ends (event.DeliverReset side id) =
    let e = end_at ends side in
    let reader = end_at ends (other side) in
    tested ends (not (has_outgoing e id)) (not (is_reset e id)) _ _ _ (λ s. refl) (λ s. refl) (done_stay ends (other side) answer.Done (arrives reader (ResetCame id reset_code)) (arrives_announced reader (ResetCame id reset_code)))
stays ends (event.Pull side id) = pulled_stay ends side (pulls (end_at ends side) id) (pulls_announced (end_at ends side).kept (end_at ends side) id)
stays ends (event.PullFields side id) = listed_stay ends side id (pulls (end_at ends side) id) (pulls_announced (end_at ends side).kept (end_at ends side) id)
stays ends (event.Show side) = λ s. refl

-- and over a schedule
stays_behind : (ends : Ends) (events : List Event) → Stay ends (ends_after ends events)
stays_behind ends [] s = refl
stays_behind ends (e ∷ events) s = stays_behind (answered ends e).1 events s ∙ stays ends e s

pub announced_behind : (setup : Setup) (events : List Event) (s : Side) → (end_at (ends_after (new_ends setup) events) s).announced ≡ announced_at setup s
announced_behind setup events s = stays_behind (new_ends setup) events s ∙ begins s
  where
    begins : (s : Side) → (end_at (new_ends setup) s).announced ≡ announced_at setup s
    begins Client = refl
    begins Server = refl

pub asks_stay : (ends : Ends) (e : Event) → asks_strictly (answered ends e).1 ≡ asks_strictly ends
asks_stay ends e =
    ap (λ (a : Announced). is_strict a || is_strict (answered ends e).1.server.announced) (stays ends e Client)
    ∙ ap (λ (a : Announced). is_strict ends.client.announced || is_strict a) (stays ends e Server)
