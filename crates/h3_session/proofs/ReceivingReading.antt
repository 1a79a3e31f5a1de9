-- What came is read arrival by arrival, up to the first fault or to where memory is refused.
use Rattle.std.proofs.Common.{◌≡◌, ℕ, List, [], ◌∷◌, ◌++◌, Option, Some, None, refl, ap, sym, subst, ◌∙◌}
use Rattle.std.specs.Prelude.{IsSome, IfOk, All, Result, Ok, Err, option_map}
use Rattle.std.proofs.lemmas.List.Elements.{All-head, All-nil, All-cons, All-weaker}
use Rattle.h3_connection.specs.Arrivals.{stream_of}
use Rattle.h3_connection.specs.Calls.{AllSame}
use Rattle.h3_connection.specs.Control.{Found}
use Rattle.h3_connection.specs.Delivering.{bytes_at}
use Rattle.h3_connection.specs.Endpoint.{EndpointHistory, Kind, kind_of}
use Rattle.h3_connection.specs.Endpoint.Kind.{Request, ServerOpened, OwnUnidirectional, PeerUnidirectional}
use Rattle.h3_connection.specs.Codes.{stream_creation_error}
use Rattle.h3_connection.specs.Keeping.{read_arrival, read_all}
use Rattle.h3_connection.specs.State.{EndpointState, StandsFor, KeepsOpen, kept_at}
use Rattle.h3_connection.specs.declared.arrival.Arrival.{Arrival}
use Rattle.h3_connection.specs.declared.arrival.Arrival.TheVariants.{BytesCame, EndCame, ResetCame}
use Rattle.h3_proto.specs.declared.stream.Side.{Side}
use Rattle.h3_streams.specs.Placed.{StreamsState, placed, Reads}
use Rattle.h3_streams.specs.ReadingOn.{IsDue, IsPeers, StopsAt, left_arrivals}
use Rattle.h3_streams.specs.ReadingOnLaws.{part_of_some}
use Rattle.h3_streams.specs.declared.left.Left.{Left}
use Rattle.h3_session.specs.Arriving.{IsReceived}
use Rattle.h3_session.proofs.Opened.{stands_same}
use Rattle.h3_session.specs.Changes.{ChangesRequests}
use Rattle.h3_session.specs.Reading.{read_at, GoesOn, Finds, LeavesUnread, ReadsWholly, ReadsFront, ReadsUpTo, KeepsRest, ReadsEach, SameRequests, unread_arrivals}
use Rattle.h3_session.specs.declared.endpoint.reading.Unread.{Unread}
use Rattle.h3_session.proofs.ReceivingKept.{has_read_none, has_read_one, finds_fault, keeps_rest}
use Rattle.h3_session.proofs.ReceivingRequests.{reads_request}

-- what a finding is by its parts
pub found_none : (new : EndpointState) (fault : Option ℕ) (found : Found) → Finds fault new found → found ≡ (found.0, fault)
found_none new fault (f, code) h = ap (λ c. (f, c)) (sym h.0)

pub finds_by : (new : EndpointState) (fault : Option ℕ) (found : Found) → Finds fault new found → StandsFor new found.0
finds_by new fault (f, code) h = h.1

reads_finds : (s : EndpointState) (new : StreamsState) (fault : Option ℕ) (found : Found) → Reads s fault new found → Finds fault (placed s new) found
reads_finds s new fault (f, code) h = h

-- nothing was read
pub front_first : (s : EndpointState) (all : List Arrival) → ReadsUpTo s all s all
front_first s all start h keeps = record { now = start; has = has_read_none start all keeps; stands = h }

open_first : (start : EndpointHistory) (all : List Arrival) (s : EndpointState) (a : Arrival) (rest : List Arrival) (f : ReadsFront start all s (a ∷ rest)) → KeepsOpen f.now.side f.now.incoming a
open_first start all s a rest f = All-head (KeepsOpen f.now.side f.now.incoming) a rest f.has.keeps

-- one more was read
pub front_next : (first s new : EndpointState) (all rest : List Arrival) (a : Arrival) → ReadsUpTo first all s (a ∷ rest) → ReadsEach s a (Ok None) new → ReadsUpTo first all new rest
front_next first s new all rest a front each start h keeps =
    let f = front start h keeps in
    let one : ReadsWholly f.now a None new = each f.now f.stands (open_first start all s a rest f) in
    record {
      now = (read_arrival f.now a).0;
      has = has_read_one start all f.now a rest (read_arrival f.now a).0 f.has (found_none new None (read_arrival f.now a) one.finds) one.on;
      stands = finds_by new None (read_arrival f.now a) one.finds;
    }

-- the last was read
pub front_whole : (first s : EndpointState) (all : List Arrival) → ReadsUpTo first all s []
    → (e : EndpointHistory) → StandsFor first e → All (KeepsOpen e.side e.incoming) all → Finds None s (read_all all e)
front_whole first s all front start h keeps =
    let f = front start h keeps in
    subst (Finds None s) (sym f.has.finds) (refl, f.stands)

-- and nothing is kept
pub front_whole_kept : (first s : EndpointState) (all kept : List Arrival) → ReadsUpTo first all s [] → s.kept ≡ [] → kept ≡ []
    → (e : EndpointHistory) → StandsFor first e → All (KeepsOpen e.side e.incoming) all → Finds None (record s { kept = kept }) (read_all all e)
front_whole_kept first s all kept front none empty e h keeps =
    subst (λ l. Finds None (record s { kept = l }) (read_all all e)) (none ∙ sym empty) (front_whole first s all front e h keeps)

-- a fault was found
pub front_faulty : (first s new : EndpointState) (all rest : List Arrival) (a : Arrival) (code : ℕ) → ReadsUpTo first all s (a ∷ rest) → ReadsEach s a (Ok (Some code)) new
    → (e : EndpointHistory) → StandsFor first e → All (KeepsOpen e.side e.incoming) all → Finds (Some code) new (read_all all e)
front_faulty first s new all rest a code front each start h keeps =
    let f = front start h keeps in
    let one : ReadsWholly f.now a (Some code) new = each f.now f.stands (open_first start all s a rest f) in
    subst (Finds (Some code) new) (sym (finds_fault start all f.now a rest (read_arrival f.now a).0 code f.has (found_none new (Some code) (read_arrival f.now a) one.finds)))
    (refl, finds_by new (Some code) (read_arrival f.now a) one.finds)

-- memory was refused
pub front_stopped : (first s new kept : EndpointState) (all rest : List Arrival) (a : Arrival) (unread : Unread) → ReadsUpTo first all s (a ∷ rest) → ReadsEach s a (Err unread) new
    → kept ≡ record new { kept = unread_arrivals unread ++ rest }
    → (e : EndpointHistory) → StandsFor first e → All (KeepsOpen e.side e.incoming) all → KeepsRest e all kept
front_stopped first s new kept all rest a unread front each is start h keeps =
    let f = front start h keeps in
    subst (KeepsRest start all) (sym is) (keeps_rest start all f.now a rest (unread_arrivals unread) new f.has (each f.now f.stands (open_first start all s a rest f)))

-- Arrivals of each kind.
goes_on_same : (s new : EndpointState) (e f : EndpointHistory) → SameRequests s new → StandsFor s e → StandsFor new f → GoesOn e f
goes_on_same s new e f same h k = record {
  side = sym k.side ∙ same.side ∙ h.side;
  stays = λ q there. subst IsSome (sym (h.incoming q) ∙ ap (λ r. option_map (λ r. r.incoming) r) (ap (λ l. kept_at l q) (sym same.requests)) ∙ k.incoming q) there;
}

pub reads_request_whole : (s new : EndpointState) (a : Arrival) → kind_of s.side (stream_of a) ≡ Request → ChangesRequests s new
    → IsReceived a s.requests new.requests s.own.decoder new.own.decoder → ReadsEach s a (Ok None) new
reads_request_whole s new a kind rest got e h keeps = reads_request s new e a h kind rest got

-- the arrival is left as it is
leaves_all : (new : EndpointState) (e : EndpointHistory) (a : Arrival) → StandsFor new e → KeepsOpen e.side e.incoming a → LeavesUnread e a (a ∷ []) new
leaves_all new e a h keeps = record {
  next = e;
  reads = λ more after read. read;
  on = record { side = refl; stays = λ q there. there };
  stands = h;
  keeps = All-cons (KeepsOpen e.side e.incoming) a [] keeps (All-nil (KeepsOpen e.side e.incoming));
  some = λ is. cc;
}

same_requests : (s new : EndpointState) (e : EndpointHistory) → ChangesRequests s new → AllSame s.requests new.requests → new.own.decoder ≡ s.own.decoder → StandsFor s e → StandsFor new e
same_requests s new e rest same is h =
    subst (λ n. StandsFor n e) (sym rest) (subst (λ b. StandsFor (record s { requests = new.requests; own = record s.own { decoder = b } }) e) (sym is) (stands_same s e new.requests h same))

pub leaves_request : (s new : EndpointState) (a : Arrival) → ChangesRequests s new → AllSame s.requests new.requests → new.own.decoder ≡ s.own.decoder
    → ReadsEach s a (Err (record { first = a; early = None })) new
leaves_request s new a rest same is e h keeps = leaves_all new e a (same_requests s new e rest same is h) keeps

-- what an arrival does, by the kind of its stream
pub read_is : (e : EndpointHistory) (a : Arrival) → read_arrival e a ≡ read_at e a (kind_of e.side (stream_of a))
read_is e (BytesCame id bytes) = refl
read_is e (EndCame id) = refl
read_is e (ResetCame id code) = refl

read_as_kind : (s : EndpointState) (e : EndpointHistory) (a : Arrival) (k : Kind) → StandsFor s e → kind_of s.side (stream_of a) ≡ k → read_arrival e a ≡ read_at e a k
read_as_kind s e a k h is = read_is e a ∙ ap (read_at e a) (ap (λ side. kind_of side (stream_of a)) (sym h.side) ∙ is)

server_opened : (e : EndpointHistory) (a : Arrival) → read_at e a ServerOpened ≡ (e, Some stream_creation_error)
server_opened e (BytesCame id bytes) = refl
server_opened e (EndCame id) = refl
server_opened e (ResetCame id code) = refl

own_stream : (e : EndpointHistory) (a : Arrival) → read_at e a OwnUnidirectional ≡ (e, None)
own_stream e (BytesCame id bytes) = refl
own_stream e (EndCame id) = refl
own_stream e (ResetCame id code) = refl

found_here : (s : EndpointState) (e : EndpointHistory) (a : Arrival) (fault : Option ℕ) → read_arrival e a ≡ (e, fault) → StandsFor s e → ReadsWholly e a fault s
found_here s e a fault is h = record {
  finds = subst (Finds fault s) (sym is) (refl, h);
  on = subst (λ (f : Found). GoesOn e f.0) (sym is) (record { side = refl; stays = λ q there. there });
}

pub reads_server_opened : (s : EndpointState) (a : Arrival) → kind_of s.side (stream_of a) ≡ ServerOpened → ReadsEach s a (Ok (Some stream_creation_error)) s
reads_server_opened s a kind e h keeps = found_here s e a (Some stream_creation_error) (read_as_kind s e a ServerOpened h kind ∙ server_opened e a) h

pub reads_own : (s : EndpointState) (a : Arrival) → kind_of s.side (stream_of a) ≡ OwnUnidirectional → ReadsEach s a (Ok None) s
reads_own s a kind e h keeps = found_here s e a None (read_as_kind s e a OwnUnidirectional h kind ∙ own_stream e a) h

pub reads_peer : (s new : EndpointState) (a : Arrival) (fault : Option ℕ) → kind_of s.side (stream_of a) ≡ PeerUnidirectional → SameRequests s new
    → ((e : EndpointHistory) → StandsFor s e → Finds fault new (read_at e a PeerUnidirectional)) → ReadsEach s a (Ok fault) new
reads_peer s new a fault kind same finds e h keeps =
    let is : read_at e a PeerUnidirectional ≡ read_arrival e a = sym (read_as_kind s e a PeerUnidirectional h kind) in
    let found : Finds fault new (read_arrival e a) = subst (Finds fault new) is (finds e h) in
    record { finds = found; on = goes_on_same s new e (read_arrival e a).0 same h (finds_by new fault (read_arrival e a) found) }

-- what a call on the unidirectional streams finds
pub finds_placed : {E : Type 0} (s : EndpointState) (old new : StreamsState) (found : EndpointHistory → Found) (result : Result (Option ℕ) E) → placed s old ≡ s
    → IfOk result (λ fault. (t : EndpointState) (e : EndpointHistory) → StandsFor (placed t old) e → Reads t fault new (found e))
    → IfOk result (λ fault. (e : EndpointHistory) → StandsFor s e → Finds fault (placed s new) (found e))
finds_placed s old new found (Ok fault) same h = λ e stands. reads_finds s new fault (found e) (h s e (subst (λ t. StandsFor t e) (sym same) stands))
finds_placed s old new found (Err refused) same h = tt

-- the arrival of a peer's stream is left as it is
pub leaves_peer : (s new : EndpointState) (a : Arrival) → ((e : EndpointHistory) → StandsFor s e → StandsFor new e) → ReadsEach s a (Err (record { first = a; early = None })) new
leaves_peer s new a same e h keeps = leaves_all new e a (same e h) keeps

-- Bytes of a unidirectional stream of the peer.
due : (s : EndpointState) (old : StreamsState) (e : EndpointHistory) (id : ℕ) → placed s old ≡ s → kind_of s.side id ≡ PeerUnidirectional → StandsFor s e → IsDue s old e s.side s.announced id
due s old e id same kind h = record {
  stands = subst (λ t. StandsFor t e) (sym same) h;
  side_is = sym h.side;
  own_is = sym h.announced;
  kind = ap (λ side. kind_of side id) (sym h.side) ∙ kind;
}

pub reads_bytes : (s : EndpointState) (old new : StreamsState) (id : ℕ) (bytes : List ℕ) (fault : Option ℕ) → placed s old ≡ s → kind_of s.side id ≡ PeerUnidirectional
    → ((t : EndpointState) (e : EndpointHistory) → IsDue t old e s.side s.announced id → Reads t fault new (bytes_at e id bytes PeerUnidirectional)) → ReadsEach s (BytesCame id bytes) (Ok fault) (placed s new)
reads_bytes s old new id bytes fault same kind reads =
    reads_peer s (placed s new) (BytesCame id bytes) fault kind (record { side = refl; requests = refl; kept = refl })
    (λ e h. reads_finds s new fault (bytes_at e id bytes PeerUnidirectional) (reads s e (due s old e id same kind h)))

-- no request stream
not_request : (side : Side) (a : Arrival) → IsPeers side a → kind_of side (stream_of a) ≡ Request → ⊥
not_request side a peers is = let wrong : PeerUnidirectional ≡ Request = sym peers ∙ is in cc

peers_open : (e next : EndpointHistory) (left : List Arrival) → next.side ≡ e.side → All (IsPeers e.side) left → All (KeepsOpen next.side next.incoming) left
peers_open e next left same kinds = All-weaker (IsPeers e.side) (KeepsOpen next.side next.incoming)
    (λ a peers is. absurd (not_request e.side a peers (ap (λ side. kind_of side (stream_of a)) (sym same) ∙ is))) left kinds

pub leaves_bytes : (s : EndpointState) (old new : StreamsState) (id : ℕ) (bytes : List ℕ) (left : Left) (unread : Unread) → placed s old ≡ s → kind_of s.side id ≡ PeerUnidirectional
    → unread_arrivals unread ≡ left_arrivals left
    → ((t : EndpointState) (e : EndpointHistory) → IsDue t old e s.side s.announced id → StopsAt t new e (BytesCame id bytes ∷ []) (left_arrivals left)) → ReadsEach s (BytesCame id bytes) (Err unread) (placed s new)
leaves_bytes s old new id bytes left unread same kind is stops e h keeps =
    let stop : StopsAt s new e (BytesCame id bytes ∷ []) (left_arrivals left) = stops s e (due s old e id same kind h) in
    let on : GoesOn e stop.after = goes_on_same s (placed s new) e stop.after (record { side = refl; requests = refl; kept = refl }) h stop.stands in
    subst (λ l. LeavesUnread e (BytesCame id bytes) l (placed s new)) (sym is) (record {
      next = stop.after;
      reads = λ more after read. part_of_some (stop.reads more) read;
      on = on;
      stands = stop.stands;
      keeps = peers_open e stop.after (left_arrivals left) on.side stop.kinds;
      some = λ none. cc;
    })
