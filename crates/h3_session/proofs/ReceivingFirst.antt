-- What opens a request stream while something is kept: the stream is opened before that is read, and taken out again where it has a
-- fault. What is left is as if it had been opened in its turn.
use Rattle.std.proofs.Common.{◌≡◌, ℕ, Bool, true, false, List, [], ◌∷◌, ◌++◌, Option, Some, None, Ok, Err, Result, refl, ap, sym, subst, ◌∙◌, inl, inr}
use Rattle.std.specs.Prelude.{◌≢◌, ◌-◌, All, IsSome, is_some, option_map, unwrap_or}
use Rattle.std.proofs.lemmas.Bool.{cases_eq}
use Rattle.std.proofs.lemmas.List.Elements.{All-weaker, All-nil}
use Rattle.h3_blocked.specs.Sums.{TakesOut}
use Rattle.h3_connection.specs.Arrivals.{stream_of, is_closed_in}
use Rattle.h3_connection.specs.Calls.{Sets, IsSame, fresh_request}
use Rattle.h3_connection.specs.Control.{Found, are_refused, increment, lacks_settings}
use Rattle.h3_connection.specs.Delivering.{opened_at, closed_by, request_refusal, unidirectional_at, with_unidirectional}
use Rattle.h3_connection.specs.Endpoint.{EndpointHistory, limit_of, kind_of, replied}
use Rattle.h3_connection.specs.Endpoint.Kind.{Request, PeerUnidirectional}
use Rattle.h3_connection.specs.Incoming.{Incoming, nothing_came}
use Rattle.h3_connection.specs.Keeping.{read_arrival, read_all, keeping, unkept, arrives, refused_behind}
use Rattle.h3_connection.specs.Outgoing.{Outgoing, nothing_sent}
use Rattle.h3_connection.specs.PartReading.{ReadsOn, ReadsPart, MayRead, PeerReadsPart, HearsPart, ListensPart, is_reader, held, after_frames, early}
use Rattle.h3_connection.specs.PeerReading.{Peer}
use Rattle.h3_connection.specs.PartReading.ReadsOn.{ReadsWhole, ReadsFront, Holds, ReadsFrames, Hears, Listens}
use Rattle.h3_connection.specs.PartReading.ReadsPart.{Stops, Goes}
use Rattle.h3_connection.specs.ReceivingContracts.{Receives, StoresArrival, IsTaken, bytes_of}
use Rattle.h3_connection.specs.State.{EndpointState, RequestState, StandsFor, IsOfOutgoing, KeepsOpen, SameAt, kept_at}
use Rattle.h3_connection.specs.StreamSets.{Streams, stream_at}
use Rattle.h3_connection.specs.StrictConnectionLaws.{refused_alike}
use Rattle.h3_connection.specs.StreamSetLaws.{other_id, set-here, set-other}
use Rattle.h3_connection.specs.Unidirectional.{role_after, with_bytes}
use Rattle.h3_proto.specs.declared.stream.Side.{Side}
use Rattle.h3_proto.specs.declared.stream.Side.TheVariants.{Client, Server}
use Rattle.h3_connection.specs.declared.arrival.Arrival.{Arrival}
use Rattle.h3_connection.specs.declared.arrival.Arrival.TheVariants.{BytesCame}
use Rattle.h3_connection.specs.declared.event.DeliverError.{DeliverError}
use Rattle.h3_connection.specs.declared.event.DeliverError.TheVariants as deliver_error
use Rattle.h3_connection.specs.declared.event.Refusal.{Refusal}
use Rattle.h3_session.specs.Arriving.{IsAccepted, ComesFirst, is_stored, arrival_refused, delivery_refused as delivery_refused_in}
use Rattle.h3_session.proofs.Opened.{stands_requests, stands_opened, none_there}
use Rattle.h3_session.proofs.Opening.{OpenBeside, FindBoth, find_elsewhere, step, all_beside, ComesOn, IsOrComes, still_or_comes, open_after, absent_after, kept_after, fold_beside, fold_opens, leaves_others}
use Rattle.h3_session.proofs.OpeningElsewhere.{with_requests, LooksElsewhere, held_elsewhere, frames_elsewhere}
use Rattle.h3_session.proofs.ReceivingArrives.{arrives_is, took_none}
use Rattle.h3_session.proofs.ReceivingCancel.{nothing_changed}
use Rattle.h3_session.proofs.ReceivingRefusals.{arrival_refusal_is}
use Rattle.h3_connection.specs.StrictConnection.{kinds_of, known_streams}

-- What came was read up to some point, beside one that has the stream open, which is open then in both.
record Lands (id : ℕ) (e : EndpointHistory) (arrivals : List Arrival) (other : EndpointHistory) : Type 0 where
  to : EndpointHistory
  read : ReadsPart e arrivals to
  beside : OpenBeside id to other
  there : is_some (stream_at to.incoming id) ≡ true

then_lands : (id : ℕ) (e next other : EndpointHistory) (arrivals more : List Arrival) → ReadsOn e arrivals next more → Lands id next more other → Lands id e arrivals other
then_lands id e next other arrivals more on l = record { to = l.to; read = Goes on l.read; beside = l.beside; there = l.there }

-- what looks at other parts alone is so of both
by_rest : (P : EndpointHistory → Type 0) (id : ℕ) (e f : EndpointHistory) → OpenBeside id e f → P f → P (with_requests e f.incoming f.outgoing)
by_rest P id e f b h = subst P b.rest h

-- whether frames are read looks at no request stream
may_by_rest : (p : Peer) (id : ℕ) (e f : EndpointHistory) → OpenBeside id e f → MayRead f p → MayRead e p
may_by_rest p id e f b may =
    record {
      first = by_rest (λ y. lacks_settings y ≡ false) id e f b may.first;
      taken = refused_alike e (with_requests e f.incoming f.outgoing) e.peer.settings p.settings refl refl
          ∙ by_rest (λ y. are_refused y y.peer.settings p.settings ≡ false) id e f b may.taken;
    }

whole : (id : ℕ) (e f new : EndpointHistory) (a : Arrival) → OpenBeside id e f → read_arrival f a ≡ (new, None) → (read_arrival e a ≡ ((read_arrival e a).0, None)) × OpenBeside id (read_arrival e a).0 new
whole id e f new a b is =
    let s = step id e f a b in
    let none : (read_arrival e a).1 ≡ None = sym s.fault ∙ ap (λ (x : Found). x.1) is in
    (ap (λ c. ((read_arrival e a).0, c)) none, subst (λ (x : Found). OpenBeside id (read_arrival e a).0 x.0) is s.beside)

frame_moves : (id q : ℕ) (left more : List Arrival) (e g : EndpointHistory) → g.incoming ≡ e.incoming → IsOrComes id e (BytesCame q [] ∷ more) → IsOrComes id g (BytesCame q [] ∷ left ++ more)
frame_moves id q left more e g same (inl there) = inl (ap (λ l. is_some (stream_at l id)) same ∙ there)
frame_moves id q left more e g same (inr (inl here)) = inr (inl here)
frame_moves id q left more e g same (inr (inr later)) = inr (inr (behind left))
  where
    behind : (left : List Arrival) → ComesOn id (left ++ more)
    behind [] = later
    behind (a ∷ left) = inr (behind left)

-- how an arrival of which a front was read comes on
same_stream : (id : ℕ) (e : EndpointHistory) (a b : Arrival) (rest : List Arrival) → stream_of b ≡ stream_of a → IsOrComes id e (a ∷ rest) → IsOrComes id e (b ∷ rest)
same_stream id e a b rest same (inl there) = inl there
same_stream id e a b rest same (inr (inl here)) = inr (inl (same ∙ here))
same_stream id e a b rest same (inr (inr later)) = inr (inr later)

-- a reading that looks elsewhere
lands_else : (id : ℕ) (e f other : EndpointHistory) (arrivals more : List Arrival) (find : EndpointHistory → EndpointHistory) → OpenBeside id e f → kind_of e.side id ≡ Request
    → LooksElsewhere e (find e, None) (λ ins outs. (find (with_requests e ins outs), None)) → ReadsOn e arrivals (find e) more
    → (OpenBeside id (find e) (find f) → kind_of (find e).side id ≡ Request → (find e).incoming ≡ e.incoming → Lands id (find e) more other) → Lands id e arrivals other
lands_else id e f other arrivals more find b kind h on later =
    then_lands id e (find e) other arrivals more on (later
    (find_elsewhere id e f (λ x. (find x, None)) b h).beside
    (ap (λ side. kind_of side id) h.side ∙ kind)
    (ap (λ (x : Found). x.0.incoming) (h.apart e.incoming e.outgoing)))

moves_on : (id : ℕ) (list : List Arrival) (e g : EndpointHistory) → g.incoming ≡ e.incoming → IsOrComes id e list → IsOrComes id g list
moves_on id list e g same (inl there) = inl (ap (λ l. is_some (stream_at l id)) same ∙ there)
moves_on id list e g same (inr later) = inr later

lands : (id : ℕ) (e f other : EndpointHistory) (arrivals : List Arrival) → OpenBeside id e f → kind_of e.side id ≡ Request → IsOrComes id e arrivals → ReadsPart f arrivals other → Lands id e arrivals other
lands id e f other arrivals b kind some (Stops {rest}) =
    let folded = fold_beside id rest e f b in
    record {
      to = keeping e rest;
      read = Stops;
      beside = record {
        rest = ap (λ (g : EndpointHistory). record g { kept = rest }) folded.rest;
        here_in = folded.here_in;
        here_out = folded.here_out;
        other_in = folded.other_in;
        other_out = folded.other_out;
        both = folded.both;
        distinct = folded.distinct;
      };
      there = fold_opens id rest e kind some;
    }
lands id e f other arrivals b kind some (Goes {new} (ReadsWhole {a} {more} is) read) =
    let w = whole id e f _ a b is in
    let h = leaves_others e a in
    then_lands id e (read_arrival e a).0 other (a ∷ more) more (ReadsWhole w.0)
    (lands id (read_arrival e a).0 _ other more w.1 (ap (λ side. kind_of side id) h.side ∙ kind) (still_or_comes id e a more kind some) read)
lands id e f other arrivals b kind some (Goes (ReadsFront front rest {id = q} {more} is) read) =
    let a = BytesCame q front in
    let w = whole id e f _ a b is in
    let h = leaves_others e a in
    let comes : IsOrComes id (read_arrival e a).0 (BytesCame q rest ∷ more) = comes_on (same_stream id e (BytesCame q (front ++ rest)) a more refl some) in
    then_lands id e (read_arrival e a).0 other (BytesCame q (front ++ rest) ∷ more) (BytesCame q rest ∷ more) (ReadsFront front rest w.0)
    (lands id (read_arrival e a).0 _ other (BytesCame q rest ∷ more) w.1 (ap (λ side. kind_of side id) h.side ∙ kind) comes read)
  where
    comes_on : IsOrComes id e (BytesCame q front ∷ more) → IsOrComes id (read_arrival e (BytesCame q front)).0 (BytesCame q rest ∷ more)
    comes_on (inl there) = inl ((leaves_others e (BytesCame q front)).stays id there)
    comes_on (inr (inl here)) = inr (inl here)
    comes_on (inr (inr later)) = inr (inr later)
lands id e f other arrivals b kind some (Goes (Holds {id = q} {bytes} {more} kinds reads) read) =
    let o = unidirectional_at e q in
    let x = role_after (known_streams e.announced) o.role bytes in
    let h = held_elsewhere (with_unidirectional e q (with_bytes o x)) q x in
    lands_else id e f other (BytesCame q bytes ∷ more) (BytesCame q [] ∷ more) (λ y. held y q bytes) b kind (record { apart = h.apart; side = h.side; kept = h.kept })
    (Holds (by_rest (λ y. kind_of y.side q ≡ PeerUnidirectional) id e f b kinds) (by_rest (λ y. is_reader y q (role_after (known_streams y.announced) (unidirectional_at y q).role bytes).0 ≡ true) id e f b reads))
    (λ beside then_kind same. lands id (held e q bytes) (held f q bytes) other (BytesCame q [] ∷ more) beside then_kind
    (moves_on id (BytesCame q [] ∷ more) e (held e q bytes) same (same_stream id e (BytesCame q bytes) (BytesCame q []) more refl some)) read)
lands id e f other arrivals b kind some (Goes (ReadsFrames {id = q} {p} {more} on may part) read) =
    let h = frames_elsewhere e p in
    lands_else id e f other (BytesCame q [] ∷ more) (BytesCame q [] ∷ early e p ++ more) (λ y. after_frames y p) b kind h
    (ReadsFrames (by_rest (λ y. y.control_on ≡ Some q) id e f b on) (may_by_rest p id e f b may) (by_rest (λ y. PeerReadsPart (kinds_of y.announced) (limit_of y) y.side y.peer p) id e f b part))
    (λ beside then_kind same. subst (λ l. Lands id (after_frames e p) (BytesCame q [] ∷ l ++ more) other) (ap (λ y. early y p) b.rest)
    (lands id (after_frames e p) (after_frames f p) other (BytesCame q [] ∷ early f p ++ more) beside then_kind (frame_moves id q (early f p) more e (after_frames e p) same some) read))
lands id e f other arrivals b kind some (Goes (Hears {id = q} {d} {more} on part) read) =
    let find : EndpointHistory → EndpointHistory = λ y. replied (record y { decoding = d }) (increment (d.decoder.table.inserted - y.decoding.decoder.table.inserted)) in
    lands_else id e f other (BytesCame q [] ∷ more) (BytesCame q [] ∷ more) find b kind (record { apart = λ ins outs. refl; side = refl; kept = refl })
    (Hears (by_rest (λ y. y.encoder_on ≡ Some q) id e f b on) (by_rest (λ y. HearsPart (limit_of y) y.decoding d) id e f b part))
    (λ beside then_kind same. lands id (find e) (find f) other (BytesCame q [] ∷ more) beside then_kind (moves_on id (BytesCame q [] ∷ more) e (find e) same some) read)
lands id e f other arrivals b kind some (Goes (Listens {id = q} {s} {left} {pairs} {more} on known part) read) =
    let find : EndpointHistory → EndpointHistory = λ y. record y { encoder = s; decoder_unread = left } in
    lands_else id e f other (BytesCame q [] ∷ more) (BytesCame q [] ∷ more) find b kind (record { apart = λ ins outs. refl; side = refl; kept = refl })
    (Listens (by_rest (λ y. y.decoder_on ≡ Some q) id e f b on) (by_rest (λ y. y.peer.settings ≡ Some pairs) id e f b known) (by_rest (λ y. ListensPart (limit_of y) y.encoder s y.decoder_unread left) id e f b part))
    (λ beside then_kind same. lands id (find e) (find f) other (BytesCame q [] ∷ more) beside then_kind (moves_on id (BytesCame q [] ∷ more) e (find e) same some) read)

-- Where the stream is open in both, what is stored stands for both.
there_is : {X : Type 0} (x : X) (o : Option X) → is_some o ≡ true → Some (unwrap_or o x) ≡ o
there_is x (Some y) h = refl
there_is x None h = absurd (cc)

stands_both : (id : ℕ) (e f : EndpointHistory) (s : EndpointState) → OpenBeside id e f → is_some (stream_at e.incoming id) ≡ true → StandsFor s f → StandsFor s e
stands_both id e f s b there h =
    subst (StandsFor s) (ap (λ g. with_requests g e.incoming e.outgoing) b.rest) (stands_requests s f s.requests e.incoming e.outgoing h
    (λ q. h.incoming q ∙ ins q) (λ q. subst (λ o. SameAt IsOfOutgoing o (option_map (λ r. r.outgoing) (kept_at s.requests q))) (outs q) (h.outgoing q)) b.distinct
    (All-weaker (KeepsOpen f.side f.incoming) (KeepsOpen f.side e.incoming) (λ a keeps is. subst IsSome (ins (stream_of a)) (keeps is)) f.kept h.reached.kept))
  where
    ins : (q : ℕ) → stream_at f.incoming q ≡ stream_at e.incoming q
    ins q = elim (cases_eq q id) [
      | inl same ↦ rw same (b.here_in ∙ there_is nothing_came (stream_at e.incoming id) there)
      | inr differs ↦ b.other_in q differs
    ]

    outs : (q : ℕ) → stream_at f.outgoing q ≡ stream_at e.outgoing q
    outs q = elim (cases_eq q id) [
      | inl same ↦ rw same (b.here_out ∙ there_is nothing_sent (stream_at e.outgoing id) (b.both ∙ there))
      | inr differs ↦ b.other_out q differs
    ]

-- Where it is not there in the first, it is taken out.
none_is : {X : Type 0} (o : Option X) → is_some o ≡ false → o ≡ None
none_is None h = refl
none_is (Some x) h = absurd (cc)

stands_without : (id : ℕ) (e f : EndpointHistory) (s : EndpointState) (new : Streams RequestState) → OpenBeside id e f → stream_at e.incoming id ≡ None → f.kept ≡ [] → TakesOut s.requests new id → StandsFor s f
    → StandsFor (record s { requests = new }) e
stands_without id e f s new b absent none takes h =
    subst (StandsFor (record s { requests = new })) (ap (λ g. with_requests g e.incoming e.outgoing) b.rest) (stands_requests s f new e.incoming e.outgoing h ins outs b.distinct
    (subst (All (KeepsOpen f.side e.incoming)) (sym none) (All-nil (KeepsOpen f.side e.incoming))))
  where
    ins : (q : ℕ) → option_map (λ r. r.incoming) (kept_at new q) ≡ stream_at e.incoming q
    ins q = elim (cases_eq q id) [
      | inl same ↦ rw same (ap (option_map (λ r. r.incoming)) takes.here ∙ sym absent)
      | inr differs ↦ ap (option_map (λ r. r.incoming)) (takes.others q differs) ∙ h.incoming q ∙ b.other_in q differs
    ]

    none_sent : stream_at e.outgoing id ≡ None
    none_sent = none_is (stream_at e.outgoing id) (b.both ∙ ap is_some absent)

    Same : Option Outgoing → Option RequestState → Type 0
    Same o r = SameAt IsOfOutgoing o (option_map (λ r. r.outgoing) r)

    outs : (q : ℕ) → SameAt IsOfOutgoing (stream_at e.outgoing q) (option_map (λ r. r.outgoing) (kept_at new q))
    outs q = elim (cases_eq q id) [
      | inl same ↦ rw same (subst (λ r. Same (stream_at e.outgoing id) r) (sym takes.here) (subst (λ o. Same o None) (sym none_sent) tt))
      | inr differs ↦ subst (λ r. Same (stream_at e.outgoing q) r) (sym (takes.others q differs)) (subst (λ o. Same o (kept_at s.requests q)) (b.other_out q differs) (h.outgoing q))
    ]

-- The stream is opened.
first_opened : (s : EndpointState) (e : EndpointHistory) (id : ℕ) → StandsFor s e → kept_at s.requests id ≡ None → OpenBeside id (unkept e) (unkept (opened_at e id None))
first_opened s e id h was =
    let absent : stream_at e.incoming id ≡ None = none_there s e id h was in
    let none_sent : stream_at e.outgoing id ≡ None = no_sender (stream_at e.outgoing id) (subst (λ r. SameAt IsOfOutgoing (stream_at e.outgoing id) (option_map (λ r. r.outgoing) r)) was (h.outgoing id)) in
    record {
      rest = refl;
      here_in = set-here e.incoming id nothing_came ∙ ap (λ o. Some (unwrap_or o nothing_came)) (sym absent);
      here_out = set-here e.outgoing id nothing_sent ∙ ap (λ o. Some (unwrap_or o nothing_sent)) (sym none_sent);
      other_in = λ q differs. set-other e.incoming id q nothing_came (other_id q id differs);
      other_out = λ q differs. set-other e.outgoing id q nothing_sent (other_id q id differs);
      both = ap is_some none_sent ∙ sym (ap is_some absent);
      distinct = h.distinct;
    }
  where
    no_sender : (o : Option Outgoing) → SameAt IsOfOutgoing o None → o ≡ None
    no_sender None h = refl
    no_sender (Some x) h = absurd h

-- It is taken as it would have been.
record IsFirst (s : EndpointState) (opened : Streams RequestState) (a : Arrival) : Type 0 where
  first : ComesFirst s a
  opens : Sets s.requests opened (stream_of a) fresh_request

taken_by : (s : EndpointState) (id : ℕ) → s.closed ≡ None → arrival_refused s id ≡ None → (e : EndpointHistory) → StandsFor s e → IsTaken e id
taken_by s id closed accepted e h = record { open_still = sym h.closed ∙ closed; accepted = sym (arrival_refusal_is s e id h) ∙ accepted }

-- a stream on which nothing came refuses nothing
fresh_accepted : (s : EndpointState) (opened : Streams RequestState) (a : Arrival) → IsFirst s opened a → arrival_refused (record s { requests = opened }) (stream_of a) ≡ None
fresh_accepted s opened a f =
    let id = stream_of a in
    let open_in : delivery_refused_in (record s { requests = opened }) id (kind_of s.side id) ≡ None =
    ap (delivery_refused_in (record s { requests = opened }) id) f.first.request ∙ ap (λ o. request_refusal s.side (option_map (λ r. r.incoming) o)) f.opens.here ∙ fresh_side s.side in
    ap (refused_behind (is_closed_in s.kept id)) open_in ∙ not_closed (is_closed_in s.kept id) (delivery_refused_in s id (kind_of s.side id)) f.first.accepted
  where
    fresh_side : (side : Side) → request_refusal side (Some nothing_came) ≡ None
    fresh_side Client = refl
    fresh_side Server = refl

    not_closed : (b : Bool) (o : Option Refusal) → refused_behind b o ≡ None → refused_behind b None ≡ None
    not_closed false o h = refl
    not_closed true None h = absurd (cc)
    not_closed true (Some r) h = absurd (cc)

accepts : (s : EndpointState) (opened : Streams RequestState) (a : Arrival) → IsFirst s opened a → IsAccepted (record s { requests = opened }) a
accepts s opened a f = record {
  closed = f.first.closed;
  taken = taken_by (record s { requests = opened }) (stream_of a) f.first.closed (fresh_accepted s opened a f);
  there = λ is. ap is_some f.opens.here;
}

closed_when : (x : Found) → x.1 ≡ None → closed_by x ≡ (None, x.0)
closed_when (e, None) none = refl
closed_when (e, Some code) none = absurd (cc)

none_when : (x : Found) → None ≡ (closed_by x).0 → x.1 ≡ None
none_when (e, None) none = refl
none_when (e, Some code) none = absurd (cc)

-- the fault closes both
closes_both : (id : ℕ) (r : Refusal) (new : EndpointState) (without : Streams RequestState) (found other : Found) → FindBoth id found other → (found.1 ≢ None → stream_at found.0.incoming id ≡ None) → other.0.kept ≡ []
    → TakesOut new.requests without id → (Some r ≡ (closed_by other).0) × StandsFor new (closed_by other).1 → (Some r ≡ (closed_by found).0) × StandsFor (record new { requests = without }) (closed_by found).1
closes_both id r new without (e, None) (f, None) b absent none takes h = let wrong : Some r ≡ None = h.0 in absurd (cc)
closes_both id r new without (e, Some code) (f, None) b absent none takes h = let wrong : None ≡ Some code = b.fault in absurd (cc)
closes_both id r new without (e, None) (f, Some again) b absent none takes h = let wrong : Some again ≡ None = b.fault in absurd (cc)
closes_both id r new without (e, Some code) (f, Some again) b absent none takes h =
    let closed : (Some r ≡ (closed_by (f, Some code)).0) × StandsFor new (closed_by (f, Some code)).1 = subst (λ o. (Some r ≡ (closed_by (f, o)).0) × StandsFor new (closed_by (f, o)).1) b.fault h in
    let beside : OpenBeside id (record e { closed = Some code }) (record f { closed = Some code }) = record {
      rest = ap (λ (g : EndpointHistory). record g { closed = Some code }) b.beside.rest;
      here_in = b.beside.here_in;
      here_out = b.beside.here_out;
      other_in = b.beside.other_in;
      other_out = b.beside.other_out;
      both = b.beside.both;
      distinct = b.beside.distinct;
    } in
    (closed.0, stands_without id (record e { closed = Some code }) (record f { closed = Some code }) new without beside (absent (λ is. cc)) none takes closed.1)

-- what is kept is on other streams
apart_from : (id : ℕ) (side : Side) (streams : Streams Incoming) (kept : List Arrival) → kind_of side id ≡ Request → stream_at streams id ≡ None → All (KeepsOpen side streams) kept → All (λ b. stream_of b ≢ id) kept
apart_from id side streams kept kind absent h = All-weaker (KeepsOpen side streams) (λ b. stream_of b ≢ id)
    (λ b keeps same. not_there (ap is_some absent) (subst (λ n. is_some (stream_at streams n) ≡ true) same (keeps (ap (kind_of side) same ∙ kind)))) kept h
  where
    not_there : {b : Bool} → b ≡ false → b ≡ true → ⊥
    not_there f t = let wrong : false ≡ true = sym f ∙ t in cc

comes_last : (id : ℕ) (kept : List Arrival) (a : Arrival) → stream_of a ≡ id → ComesOn id (kept ++ a ∷ [])
comes_last id [] a same = inl same
comes_last id (b ∷ kept) a same = inr (comes_last id kept a same)

module _ (s : EndpointState) (opened : Streams RequestState) (a : Arrival) (f : IsFirst s opened a) where
  abbrev id : ℕ
  id = stream_of a

  abbrev mid : EndpointState
  mid = record s { requests = opened }

  taken : (e : EndpointHistory) → StandsFor s e → IsTaken e id
  taken = taken_by s id f.first.closed f.first.accepted

  taken_mid : (e : EndpointHistory) → StandsFor mid e → IsTaken e id
  taken_mid = taken_by mid id f.first.closed (fresh_accepted s opened a f)

  stands_mid : (e : EndpointHistory) → StandsFor s e → StandsFor mid (opened_at e id None)
  stands_mid e h = stands_opened s e opened id h f.opens

  kind : (e : EndpointHistory) → StandsFor s e → kind_of e.side id ≡ Request
  kind e h = ap (λ side. kind_of side id) (sym h.side) ∙ f.first.request

  abbrev arrivals : EndpointHistory → List Arrival
  arrivals e = e.kept ++ a ∷ []

  abbrev found : EndpointHistory → Found
  found e = read_all (arrivals e) (unkept e)

  abbrev other : EndpointHistory → Found
  other e = read_all (arrivals e) (unkept (opened_at e id None))

  both : (e : EndpointHistory) → StandsFor s e → FindBoth id (found e) (other e)
  both e h = all_beside id (arrivals e) (unkept e) (unkept (opened_at e id None)) (first_opened s e id h f.first.absent)

  here : (e : EndpointHistory) → StandsFor s e → arrives e a ≡ closed_by (found e)
  here e h = arrives_is e a (taken e h)

  there : (e : EndpointHistory) → StandsFor s e → arrives (opened_at e id None) a ≡ closed_by (other e)
  there e h = arrives_is (opened_at e id None) a (taken_mid (opened_at e id None) (stands_mid e h))

  read_first : (e : EndpointHistory) (new : EndpointState) → StandsFor s e → (None ≡ (closed_by (other e)).0) × StandsFor new (closed_by (other e)).1 → (None ≡ (closed_by (found e)).0) × StandsFor new (closed_by (found e)).1
  read_first e new h r =
      let none_there : (other e).1 ≡ None = none_when (other e) r.0 in
      let none : (found e).1 ≡ None = sym (both e h).fault ∙ none_there in
      let is_open = open_after id (arrivals e) (unkept e) (kind e h) (inr (comes_last id e.kept a refl)) none in
      let stands : StandsFor new (other e).0 = subst (λ x. StandsFor new x.1) (closed_when (other e) none_there) r.1 in
      rw (closed_when (found e) none) (refl, stands_both id (found e).0 (other e).0 new (both e h).beside is_open stands)

  first_read : (new : EndpointState) → Receives mid new a (Ok tt) → Receives s new a (Ok tt)
  first_read new r = record {
    done = λ e h memory. rw (here e h) (read_first e new h (rw (there e h) at (r.done (opened_at e id None) (stands_mid e h) refl)));
    same = λ r is. cc;
    back = λ handed is. cc;
    refused = λ e handed h is. cc;
    kept = λ e h is. cc;
    some_kept = λ is. cc;
  }

  -- it is taken out again, and nothing has changed
  undone : (new : EndpointState) (without : Streams RequestState) → TakesOut new.requests without id → IsSame mid new → IsSame s (record new { requests = without })
  undone new without takes h = record {
    rest = record {
      side = h.rest.side;
      announced = h.rest.announced;
      closed = h.rest.closed;
      control_on = h.rest.control_on;
      encoder_on = h.rest.encoder_on;
      decoder_on = h.rest.decoder_on;
      peer = h.rest.peer;
      decoding = h.rest.decoding;
      encoding = h.rest.encoding;
      own = h.rest.own;
      last_goaway = h.rest.last_goaway;
      kept = h.rest.kept;
      sent = h.rest.sent;
      order = h.rest.order;
      unidirectional = record { each = h.rest.unidirectional.each };
    };
    next_id = h.next_id;
    requests = record {
      each = λ q. elim (cases_eq q id) [
        | inl same ↦ rw same (takes.here ∙ sym f.first.absent)
        | inr differs ↦ takes.others q differs ∙ h.requests.each q ∙ f.opens.others q differs
      ];
    };
  }

  absent_then : (e : EndpointHistory) → StandsFor s e → (found e).1 ≢ None → stream_at (found e).0.incoming id ≡ None
  absent_then e h some =
      let absent : stream_at e.incoming id ≡ None = none_there s e id h f.first.absent in
      by (found e).1 refl some absent
    where
      by : (fault : Option ℕ) → (found e).1 ≡ fault → (found e).1 ≢ None → stream_at e.incoming id ≡ None → stream_at (found e).0.incoming id ≡ None
      by None is some absent = absurd (some is)
      by (Some code) is some absent = absent_after e.kept a (unkept e) code (apart_from id e.side e.incoming e.kept (kind e h) absent h.reached.kept) (kind e h) absent is

  first_refused : (new : EndpointState) (without : Streams RequestState) (r : Refusal) → TakesOut new.requests without id → Receives mid new a (Err (deliver_error.Refused r))
      → Receives s (record new { requests = without }) a (Err (deliver_error.Refused r))
  first_refused new without r takes h = record {
    done = λ e stands memory. rw (here e stands)
        (closes_both id r new without (found e) (other e) (both e stands) (absent_then e stands) (kept_after (arrivals e) (unkept (opened_at e id None))) takes
        (rw (there e stands) at (h.done (opened_at e id None) (stands_mid e stands) refl)));
    same = λ q is closed. undone new without takes (h.same q is closed);
    back = λ handed is. cc;
    refused = λ e handed stands is. cc;
    kept = λ e stands is. cc;
    some_kept = λ is. cc;
  }

  first_lacked : (new : EndpointState) (without : Streams RequestState) (bytes : List ℕ) → TakesOut new.requests without id → Receives mid new a (Err (deliver_error.OutOfMemory bytes))
      → Receives s (record new { requests = without }) a (Err (deliver_error.OutOfMemory bytes))
  first_lacked new without bytes takes h = record {
    done = λ e stands memory. cc;
    same = λ r is. cc;
    back = λ handed is. let b = h.back handed is in (b.0, undone new without takes b.1);
    refused = λ e handed stands is. taken e stands;
    kept = λ e stands is. cc;
    some_kept = λ is. cc;
  }

  keeps_first : (e : EndpointHistory) (new : EndpointState) → StandsFor s e → StoresArrival (opened_at e id None) a new → StoresArrival e a new
  keeps_first e new h stored =
      let l = lands id (unkept e) (unkept (opened_at e id None)) stored.after (arrivals e) (first_opened s e id h f.first.absent) (kind e h) (inr (comes_last id e.kept a refl)) stored.read in
      record { after = l.to; read = l.read; stands = stands_both id l.to stored.after new l.beside l.there stored.stands }

  first_kept : (new : EndpointState) → Receives mid new a (Err deliver_error.Kept) → Receives s new a (Err deliver_error.Kept)
  first_kept new h = record {
    done = λ e stands memory. cc;
    same = λ r is. cc;
    back = λ handed is. cc;
    refused = λ e handed stands is. cc;
    kept = λ e stands is. (taken e stands, keeps_first e new stands (h.kept (opened_at e id None) (stands_mid e stands) is).1);
    some_kept = h.some_kept;
  }

is_first : (s mid : EndpointState) (a : Arrival) (q : ℕ) → q ≡ stream_of a → ComesFirst s a → Sets s.requests mid.requests q fresh_request → IsFirst s mid.requests a
is_first s mid a q same f opens = record { first = f; opens = subst (λ n. Sets s.requests mid.requests n fresh_request) same opens }

pub first_accepted : (s mid : EndpointState) (a : Arrival) (q : ℕ) → q ≡ stream_of a → ComesFirst s a → mid ≡ record s { requests = mid.requests } → Sets s.requests mid.requests q fresh_request → IsAccepted mid a
first_accepted s mid a q same f rest opens = subst (λ m. IsAccepted m a) (sym rest) (accepts s mid.requests a (is_first s mid a q same f opens))

pub first_stored : (s mid new : EndpointState) (a : Arrival) (q : ℕ) (result : Result Unit DeliverError) → q ≡ stream_of a → ComesFirst s a → mid ≡ record s { requests = mid.requests }
    → Sets s.requests mid.requests q fresh_request → true ≡ is_stored result → Receives mid new a result → Receives s new a result
first_stored s mid new a q result same f rest opens stored h = by result stored (subst (λ m. Receives m new a result) rest h)
  where
    first : IsFirst s mid.requests a
    first = is_first s mid a q same f opens

    by : (result : Result Unit DeliverError) → true ≡ is_stored result → Receives (record s { requests = mid.requests }) new a result → Receives s new a result
    by (Ok done) is h = first_read s mid.requests a first new h
    by (Err deliver_error.Kept) is h = first_kept s mid.requests a first new h
    by (Err (deliver_error.Refused r)) is h = absurd (cc)
    by (Err (deliver_error.OutOfMemory bytes)) is h = absurd (cc)

pub first_undone : (s mid new now : EndpointState) (a : Arrival) (q : ℕ) (result : Result Unit DeliverError) → q ≡ stream_of a → ComesFirst s a → mid ≡ record s { requests = mid.requests }
    → Sets s.requests mid.requests q fresh_request → false ≡ is_stored result → Receives mid new a result → now ≡ record new { requests = now.requests } → TakesOut new.requests now.requests q → Receives s now a result
first_undone s mid new now a q result same f rest opens stored h undone takes =
    subst (λ n. Receives s n a result) (sym undone) (by result stored (subst (λ m. Receives m new a result) rest h))
  where
    first : IsFirst s mid.requests a
    first = is_first s mid a q same f opens

    out : TakesOut new.requests now.requests (stream_of a)
    out = subst (TakesOut new.requests now.requests) same takes

    by : (result : Result Unit DeliverError) → false ≡ is_stored result → Receives (record s { requests = mid.requests }) new a result → Receives s (record new { requests = now.requests }) a result
    by (Ok done) is h = absurd (cc)
    by (Err deliver_error.Kept) is h = absurd (cc)
    by (Err (deliver_error.Refused r)) is h = first_refused s mid.requests a first new now.requests r out h
    by (Err (deliver_error.OutOfMemory bytes)) is h = first_lacked s mid.requests a first new now.requests bytes out h

-- no memory to open it
pub first_refused_memory : (s new : EndpointState) (a : Arrival) → ComesFirst s a → new ≡ s → Receives s new a (Err (deliver_error.OutOfMemory (bytes_of a)))
first_refused_memory s new a f same = took_none s new a (taken_by s (stream_of a) f.closed f.accepted) (subst (IsSame s) (sym same) (nothing_changed s))
