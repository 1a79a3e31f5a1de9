-- What comes on any stream, and what the peer's own streams say, leaves what an endpoint counts of request streams.
use Rattle.std.proofs.Common.{◌≡◌, ◌⊎◌, inl, inr, ℕ, ◌+◌, ◌++◌, Bool, true, false, List, [], refl, arith, sym, ap, ◌∙◌, subst, Option, Some, None, if◌then◌else◌}
use Rattle.std.specs.Prelude.{◌==◌, is_some, unwrap_or}
use Rattle.std.proofs.lemmas.Grind.{common_steps}
use Rattle.h3_proto.specs.Settings.{value_of}
use Rattle.h3_connection.specs.Arrivals.{stream_of}
use Rattle.h3_connection.specs.declared.arrival.Arrival.TheVariants.{BytesCame, EndCame, ResetCame}
use Rattle.h3_connection.specs.declared.arrival.Arrival.{Arrival}
use Rattle.h3_connection.specs.Codes.{missing_settings, settings_error}
use Rattle.h3_connection.specs.Control.{Found, after_peer, are_refused, holding, if_learned, is_table_usable, kept_unread, lacks_settings, listened_to, read_control, read_decoder, read_held, settings_alone, taken_peer, then_decoder, with_table}
use Rattle.h3_connection.specs.Delivering.{bytes_at, closed_by, delivery_refusal, end_at, given_up_by, given_up_once, heard_as, incoming_at, kept, opened, opened_at, read_unidirectional, reset_at, taken, unidirectional_at, unless_second, with_end}
use Rattle.h3_connection.specs.Endpoint.{EndpointHistory, limit_of, Kind, is_second, kind_of}
use Rattle.h3_connection.specs.Endpoint.Kind.{OwnUnidirectional, PeerUnidirectional, Request, ServerOpened}
use Rattle.h3_connection.specs.ExcessiveInstructions.{listen_up_to}
use Rattle.h3_connection.specs.Incoming.{Incoming, nothing_came}
use Rattle.h3_connection.specs.Keeping.{arrives, arrives_behind, read_arrival}
use Rattle.h3_connection.specs.Outgoing.{Outgoing, nothing_sent, takes_end}
use Rattle.h3_connection.specs.PeerReading.{PeerFound, read_peer}
use Rattle.h3_connection.specs.Sending.{advance, advance_at, outgoing_at}
use Rattle.h3_connection.specs.StreamSets.{Streams, set_stream, stream_at}
use Rattle.h3_connection.specs.Unidirectional.{Role, Unidirectional, role_after}
use Rattle.h3_connection.specs.Unidirectional.Role.{Control, Decoder, Encoder, Ignored, Push, Session, Untold, Other}
use Rattle.h3_connection.specs.declared.event.Refusal.{Refusal}
use Rattle.h3_connection.specs.declared.event.StreamFault.{StreamFault}
use Rattle.h3_connection.specs.declared.event.StreamFault.TheVariants as stream_fault
use Rattle.h3_headline.specs.MovesLaws.{set_at}
use Rattle.h3_strict.specs.Plainly.{is_malformation}
use Rattle.h3_strict.specs.Tallies.{IsFine}
use Rattle.h3_connection.specs.StrictConnection.{kinds_of, known_streams}
use Rattle.h3_messages.specs.declared.content.Content.{Content}
use Rattle.h3_messages.specs.declared.content.Content.TheVariants.{Tunnel, Unanswered, Unsaid}
use Rattle.h3_proto.specs.declared.stream.Side.{Side}
use Rattle.h3_proto.specs.declared.stream.Side.TheVariants.{Client, Server}

-- What is counted of a stream that is received is the same.
pub record SameCounts (i j : Incoming) : Type 0 where
  pub fault : j.fault ≡ i.fault
  pub content : j.content ≡ i.content
  pub left : j.body_left ≡ i.body_left
  pub response : j.response ≡ i.response

-- or it was given up, for no rule of messages
pub record IsLost (i j : Incoming) : Type 0 where
  pub lost : j.fault ≡ None → ⊥
  pub fine : IsFine i.fault → IsFine j.fault
  pub response : j.response ≡ i.response

abbrev pub KeepsAt : Incoming → Incoming → Type 0
KeepsAt i j = SameCounts i j ⊎ IsLost i j

-- A server that sends a response may answer a CONNECT that it read: behind that any bytes come.
abbrev pub MayAnswer : Content → Content → Type 0
MayAnswer before after = (after ≡ before) ⊎ ((before ≡ Unanswered) × ((after ≡ Tunnel) ⊎ (after ≡ Unsaid)))

pub record HasAnswered (i j : Incoming) : Type 0 where
  pub fault : j.fault ≡ i.fault
  pub content : MayAnswer i.content j.content
  pub left : j.body_left ≡ i.body_left
  pub response : j.response ≡ i.response

-- what the own head of a side leaves of what it receives, but on the stream of a request that it sends
abbrev pub HeadKeeps : Side → Incoming → Incoming → Type 0
HeadKeeps Client i j = SameCounts i j
HeadKeeps Server i j = HasAnswered i j

pub head_keeps : (side : Side) (i j : Incoming) → SameCounts i j → HeadKeeps side i j
head_keeps Client i j h = h
head_keeps Server i j h = record { fault = h.fault; content = inl h.content; left = h.left; response = h.response }

pub record SendsSame (o p : Outgoing) : Type 0 where
  pub takes : takes_end p ≡ true → takes_end o ≡ true
  pub content : takes_end p ≡ true → p.content ≡ o.content

-- Each stream of an endpoint, after a call. Only some may be given up.
pub record KeepsBut (only : ℕ → Bool) (e f : EndpointHistory) : Type 0 where
  pub out : (id : ℕ) → SendsSame (outgoing_at e id) (outgoing_at f id)
  pub same : (id : ℕ) → only id ≡ false → SameCounts (incoming_at e id) (incoming_at f id)
  pub kept : (id : ℕ) → only id ≡ true → KeepsAt (incoming_at e id) (incoming_at f id)
  pub announced : f.announced ≡ e.announced

abbrev pub no_stream : ℕ → Bool
no_stream id = false

abbrev pub that : ℕ → ℕ → Bool
that id i = id == i

pub same_counts : (i : Incoming) → SameCounts i i
same_counts i = record { fault = refl; content = refl; left = refl; response = refl }

pub sends_same : (o : Outgoing) → SendsSame o o
sends_same o = record { takes = λ h. h; content = λ h. refl }

-- the same streams
pub record SameStreams (e f : EndpointHistory) : Type 0 where
  pub incoming : f.incoming ≡ e.incoming
  pub outgoing : f.outgoing ≡ e.outgoing
  pub announced : f.announced ≡ e.announced

pub same_streams : (e : EndpointHistory) → SameStreams e e
same_streams e = record { incoming = refl; outgoing = refl; announced = refl }

then_same : (e f g : EndpointHistory) → SameStreams e f → SameStreams f g → SameStreams e g
then_same e f g h k = record { incoming = k.incoming ∙ h.incoming; outgoing = k.outgoing ∙ h.outgoing; announced = k.announced ∙ h.announced }

pub streams_keep : (only : ℕ → Bool) (e f : EndpointHistory) → SameStreams e f → KeepsBut only e f
streams_keep only e f h = record {
  out = λ id. subst (λ (s : Streams Outgoing). SendsSame (outgoing_at e id) (unwrap_or (stream_at s id) nothing_sent)) (sym h.outgoing) (sends_same (outgoing_at e id));
  same = λ id no. at id;
  kept = λ id yes. inl (at id);
  announced = h.announced;
}
  where
    at : (id : ℕ) → SameCounts (incoming_at e id) (incoming_at f id)
    at id = subst (λ (s : Streams Incoming). SameCounts (incoming_at e id) (unwrap_or (stream_at s id) nothing_came)) (sym h.incoming) (same_counts (incoming_at e id))

-- The peer's own streams.
learned_same : (e : EndpointHistory) (pairs : List (ℕ × ℕ)) (b : Bool) (f : EndpointHistory) → SameStreams e f → SameStreams e (if b then f else e)
learned_same e pairs true f h = h
learned_same e pairs false f h = same_streams e

pub if_learned_same : (before after : Option (List (ℕ × ℕ))) (e : EndpointHistory) → SameStreams e (if_learned before after e)
if_learned_same None (Some pairs) e =
    let capacity = unwrap_or (value_of 1 pairs) 0 in
    let blocked = unwrap_or (value_of 7 pairs) 0 in
    learned_same e pairs (is_table_usable e.encoder.most_capacity capacity blocked) (with_table e capacity blocked) (record { incoming = refl; outgoing = refl; announced = refl })
if_learned_same None None e = same_streams e
if_learned_same (Some pairs) after e = same_streams e

decoder_same : (e : EndpointHistory) (bytes : List ℕ) → SameStreams e (read_decoder e bytes).0
decoder_same e bytes = by_test (is_some e.peer.settings)
  where
    by_test : (b : Bool) → SameStreams e (let x : Found = if b then listened_to e (listen_up_to (limit_of e) e.encoder (e.decoder_unread ++ bytes)) else kept_unread e (e.decoder_unread ++ bytes) in x).0
    by_test true = record { incoming = refl; outgoing = refl; announced = refl }
    by_test false = record { incoming = refl; outgoing = refl; announced = refl }

then_decoder_same : (before after : Option (List (ℕ × ℕ))) (e : EndpointHistory) (fault : Option ℕ) → SameStreams e (then_decoder before after e fault).0
then_decoder_same before after e (Some code) = same_streams e
then_decoder_same None (Some pairs) e None = decoder_same e []
then_decoder_same None None e None = same_streams e
then_decoder_same (Some pairs) after e None = same_streams e

taken_same : (e : EndpointHistory) (p : PeerFound) → SameStreams e (taken_peer e p).0
taken_same e (p, fault) =
    let f = if_learned e.peer.settings p.settings (record e { peer = p }) in
    let first : SameStreams e (record e { peer = p }) = record { incoming = refl; outgoing = refl; announced = refl } in
    then_same e f _ (then_same e (record e { peer = p }) f first (if_learned_same e.peer.settings p.settings (record e { peer = p }))) (then_decoder_same e.peer.settings p.settings f fault)

either_same : (b : Bool) (e : EndpointHistory) (x y : Found) → SameStreams e x.0 → SameStreams e y.0 → SameStreams e (if◌then◌else◌ {A = Found} b x y).0
either_same true e x y h k = h
either_same false e x y h k = k

held_same : (e : EndpointHistory) → SameStreams e (read_held e).0
held_same e =
    let x = read_peer (kinds_of e.announced) (limit_of e) e.side e.peer in
    either_same (lacks_settings e) e (e, Some missing_settings) (after_peer e x) (same_streams e)
    (either_same (are_refused e e.peer.settings x.0.settings) e (record e { peer = settings_alone e.peer x.0.settings }, Some settings_error) (taken_peer e x)
    (record { incoming = refl; outgoing = refl; announced = refl }) (taken_same e x))

control_same : (e : EndpointHistory) (bytes : List ℕ) → SameStreams e (read_control e bytes).0
control_same e bytes = then_same e (holding e bytes) _ (record { incoming = refl; outgoing = refl; announced = refl }) (held_same (holding e bytes))

second_same : (b : Bool) (e : EndpointHistory) (x : Found) → SameStreams e x.0 → SameStreams e (unless_second b e x).0
second_same true e x h = same_streams e
second_same false e x h = h

heard_same : (e : EndpointHistory) (id : ℕ) (role : Role) (bytes : List ℕ) → SameStreams e (heard_as e id role bytes).0
heard_same e id Control bytes = second_same (is_second e.control_on id) e _ (then_same e (record e { control_on = Some id }) _ (record { incoming = refl; outgoing = refl; announced = refl }) (control_same (record e { control_on = Some id }) bytes))
heard_same e id Encoder bytes = second_same (is_second e.encoder_on id) e _ (record { incoming = refl; outgoing = refl; announced = refl })
heard_same e id Decoder bytes = second_same (is_second e.decoder_on id) e _ (then_same e (record e { decoder_on = Some id }) _ (record { incoming = refl; outgoing = refl; announced = refl }) (decoder_same (record e { decoder_on = Some id }) bytes))
heard_same e id (Push push) bytes = same_streams e
heard_same e id (Session session) bytes = same_streams e
heard_same e id (Untold front) bytes = same_streams e
heard_same e id Ignored bytes = same_streams e
heard_same e id (Other kind) bytes = same_streams e

pub unidirectional_same : (e : EndpointHistory) (id : ℕ) (o : Unidirectional) (x : Role × List ℕ) → SameStreams e (read_unidirectional e id o x).0
unidirectional_same e id o (role, bytes) = then_same e _ _ (record { incoming = refl; outgoing = refl; announced = refl }) (heard_same _ id role bytes)

-- A stream that is set.
in_if : (b : Bool) (i : Incoming) (o : Option Incoming) → unwrap_or (if b then Some i else o) nothing_came ≡ (if b then i else unwrap_or o nothing_came)
in_if true i o = refl
in_if false i o = refl

pub in_set : (streams : Streams Incoming) (id : ℕ) (i : Incoming) (j : ℕ) → unwrap_or (stream_at (set_stream streams id i) j) nothing_came ≡ (if id == j then i else unwrap_or (stream_at streams j) nothing_came)
in_set streams id i j = ap (λ o. unwrap_or o nothing_came) (set_at streams id j i) ∙ in_if (id == j) i (stream_at streams j)

out_if : (b : Bool) (i : Outgoing) (o : Option Outgoing) → unwrap_or (if b then Some i else o) nothing_sent ≡ (if b then i else unwrap_or o nothing_sent)
out_if true i o = refl
out_if false i o = refl

pub out_set : (streams : Streams Outgoing) (id : ℕ) (o : Outgoing) (j : ℕ) → unwrap_or (stream_at (set_stream streams id o) j) nothing_sent ≡ (if id == j then o else unwrap_or (stream_at streams j) nothing_sent)
out_set streams id o j = ap (λ x. unwrap_or x nothing_sent) (set_at streams id j o) ∙ out_if (id == j) o (stream_at streams j)

pub same_id : (a b : ℕ) → (a == b) ≡ true → a ≡ b
same_id a b e = grind (arith, common_steps, e)

-- one stream is set, and the others are as they were
in_by : (P : Incoming → Type 0) (b : Bool) (i j : Incoming) → (b ≡ true → P i) → (b ≡ false → P j) → P (if b then i else j)
in_by P true i j h k = h refl
in_by P false i j h k = k refl

out_by : (P : Outgoing → Type 0) (b : Bool) (i j : Outgoing) → (b ≡ true → P i) → (b ≡ false → P j) → P (if b then i else j)
out_by P true i j h k = h refl
out_by P false i j h k = k refl

pub set_in : (e f : EndpointHistory) (id : ℕ) (i : Incoming) → f.incoming ≡ set_stream e.incoming id i → (j : ℕ) (P : ℕ → Incoming → Type 0) → P id i → ((id == j) ≡ false → P j (incoming_at e j)) → P j (incoming_at f j)
set_in e f id i is j P here there =
    subst (λ (s : Streams Incoming). P j (unwrap_or (stream_at s j) nothing_came)) (sym is)
    (subst (P j) (sym (in_set e.incoming id i j)) (in_by (P j) (id == j) i (incoming_at e j) (λ same. subst (λ n. P n i) (same_id id j same) here) there))

pub set_out : (e f : EndpointHistory) (id : ℕ) (o : Outgoing) → f.outgoing ≡ set_stream e.outgoing id o → (j : ℕ) (P : ℕ → Outgoing → Type 0) → P id o → ((id == j) ≡ false → P j (outgoing_at e j)) → P j (outgoing_at f j)
set_out e f id o is j P here there =
    subst (λ (s : Streams Outgoing). P j (unwrap_or (stream_at s j) nothing_sent)) (sym is)
    (subst (P j) (sym (out_set e.outgoing id o j)) (out_by (P j) (id == j) o (outgoing_at e j) (λ same. subst (λ n. P n o) (same_id id j same) here) there))

-- A stream of which nothing is there counts nothing, and takes no end.
pub nothing_taken : (o : Outgoing) → SendsSame o nothing_sent
nothing_taken o = record { takes = λ h. absurd (cc); content = λ h. absurd (cc) }

pub opened_out : (e : EndpointHistory) (id j : ℕ) → SendsSame (outgoing_at e j) (outgoing_at (opened e id) j)
opened_out e id j = by_stream (stream_at e.incoming id)
  where
    by_stream : (o : Option Incoming) → SendsSame (outgoing_at e j) (outgoing_at (opened_at e id o) j)
    by_stream (Some i) = sends_same (outgoing_at e j)
    by_stream None = set_out e (opened_at e id None) id nothing_sent refl j (λ n o. SendsSame (outgoing_at e n) o) (nothing_taken (outgoing_at e id)) (λ h. sends_same (outgoing_at e j))

pub opened_in : (e : EndpointHistory) (id j : ℕ) → incoming_at (opened e id) j ≡ incoming_at e j
opened_in e id j = by_stream (stream_at e.incoming id) refl
  where
    by_stream : (o : Option Incoming) → stream_at e.incoming id ≡ o → incoming_at (opened_at e id o) j ≡ incoming_at e j
    by_stream (Some i) is = refl
    by_stream None is = set_in e (opened_at e id None) id nothing_came refl j (λ n i. i ≡ incoming_at e n) (sym (ap (λ o. unwrap_or o nothing_came) is)) (λ h. refl)

pub opened_announced : (e : EndpointHistory) (id : ℕ) → (opened e id).announced ≡ e.announced
opened_announced e id = by_stream (stream_at e.incoming id)
  where
    by_stream : (o : Option Incoming) → (opened_at e id o).announced ≡ e.announced
    by_stream (Some i) = refl
    by_stream None = refl

-- What comes on a request stream: its receiver changes, and it is opened where it was not.
comes_keep : (only : ℕ → Bool) (e : EndpointHistory) (id : ℕ) (i : Incoming) (f : EndpointHistory) → f.incoming ≡ set_stream (opened e id).incoming id i → f.outgoing ≡ (opened e id).outgoing → f.announced ≡ e.announced
    → (only id ≡ false → SameCounts (incoming_at e id) i) → (only id ≡ true → KeepsAt (incoming_at e id) i) → KeepsBut only e f
comes_keep only e id i f in_is out_is announced same kept = record {
  out = λ j. subst (λ (s : Streams Outgoing). SendsSame (outgoing_at e j) (unwrap_or (stream_at s j) nothing_sent)) (sym out_is) (opened_out e id j);
  same = λ j no. set_in (opened e id) f id i in_is j (λ n k. only n ≡ false → SameCounts (incoming_at e n) k) same
      (λ other no. subst (SameCounts (incoming_at e j)) (sym (opened_in e id j)) (same_counts (incoming_at e j))) no;
  kept = λ j yes. set_in (opened e id) f id i in_is j (λ n k. only n ≡ true → KeepsAt (incoming_at e n) k) kept
      (λ other yes. inl (subst (SameCounts (incoming_at e j)) (sym (opened_in e id j)) (same_counts (incoming_at e j)))) yes;
  announced = announced;
}

found_keeps : (only : ℕ → Bool) (e : EndpointHistory) (x : Found) → KeepsBut only e x.0 → KeepsBut only e (closed_by x).1
found_keeps only e (f, None) h = h
found_keeps only e (f, Some code) h = record { out = h.out; same = h.same; kept = h.kept; announced = h.announced }

pub taken_keeps : (only : ℕ → Bool) (closed : Option ℕ) (r : Option Refusal) (e : EndpointHistory) (x : Found) → KeepsBut only e x.0 → KeepsBut only e (taken closed r e x).1
taken_keeps only (Some code) r e x h = streams_keep only e e (same_streams e)
taken_keeps only None (Some r) e x h = streams_keep only e e (same_streams e)
taken_keeps only None None e x h = found_keeps only e x h

bytes_keep : (e : EndpointHistory) (id : ℕ) (bytes : List ℕ) (k : Kind) → KeepsBut no_stream e (bytes_at e id bytes k).0
bytes_keep e id bytes Request = comes_keep no_stream e id (kept (incoming_at e id) bytes) _ refl refl (opened_announced e id) (λ h. record { fault = refl; content = refl; left = refl; response = refl }) (λ h. absurd (cc))
bytes_keep e id bytes ServerOpened = streams_keep no_stream e e (same_streams e)
bytes_keep e id bytes OwnUnidirectional = streams_keep no_stream e e (same_streams e)
bytes_keep e id bytes PeerUnidirectional = streams_keep no_stream e _ (unidirectional_same e id (unidirectional_at e id) (role_after (known_streams e.announced) (unidirectional_at e id).role bytes))

end_keeps : (e : EndpointHistory) (id : ℕ) (k : Kind) → KeepsBut no_stream e (end_at e id k).0
end_keeps e id Request = comes_keep no_stream e id (with_end (incoming_at e id)) _ refl refl (opened_announced e id) (λ h. record { fault = refl; content = refl; left = refl; response = refl }) (λ h. absurd (cc))
end_keeps e id ServerOpened = streams_keep no_stream e e (same_streams e)
end_keeps e id OwnUnidirectional = streams_keep no_stream e e (same_streams e)
end_keeps e id PeerUnidirectional = streams_keep no_stream e _ (record { incoming = refl; outgoing = refl; announced = refl })

-- a stream that is given up
pub once_lost : (i : Incoming) (fault : StreamFault) → is_malformation fault ≡ false → IsLost i (given_up_once i fault)
once_lost i fault no_rule = by_fault i.fault refl
  where
    by_fault : (o : Option StreamFault) → i.fault ≡ o → IsLost i (given_up_by i fault o)
    by_fault (Some first) is = record { lost = λ none. absurd (let never : Some first ≡ None = sym is ∙ none in cc); fine = λ h. h; response = refl }
    by_fault None is = record { lost = λ none. absurd (cc); fine = λ h. no_rule; response = refl }

pub not_itself : (id : ℕ) → (id == id) ≡ false → ⊥
not_itself id e = grind (arith, common_steps, e)

lost_reset : (i : Incoming) (code : ℕ) → IsLost i (given_up_once (record i { was_reset = true }) (stream_fault.Reset code))
lost_reset i code = let k = once_lost (record i { was_reset = true }) (stream_fault.Reset code) refl in record { lost = k.lost; fine = k.fine; response = k.response }

resets_keep : (e : EndpointHistory) (id code : ℕ) (k : Kind) → KeepsBut (that id) e (reset_at e id code k).0
resets_keep e id code Request =
    comes_keep (that id) e id (given_up_once (record (incoming_at e id) { was_reset = true }) (stream_fault.Reset code)) _ refl refl (opened_announced e id)
    (λ h. absurd (not_itself id h)) (λ h. inr (lost_reset (incoming_at e id) code))
resets_keep e id code ServerOpened = streams_keep (that id) e e (same_streams e)
resets_keep e id code OwnUnidirectional = streams_keep (that id) e e (same_streams e)
resets_keep e id code PeerUnidirectional = streams_keep (that id) e _ (record { incoming = refl; outgoing = refl; announced = refl })

-- the streams that an arrival may give up
abbrev pub lost_by : Arrival → ℕ → Bool
lost_by (ResetCame id code) i = id == i
lost_by _ i = false

pub arrival_keeps : (e : EndpointHistory) (a : Arrival) → KeepsBut (lost_by a) e (read_arrival e a).0
arrival_keeps e (BytesCame id bytes) = bytes_keep e id bytes (kind_of e.side id)
arrival_keeps e (EndCame id) = end_keeps e id (kind_of e.side id)
arrival_keeps e (ResetCame id code) = resets_keep e id code (kind_of e.side id)

-- what was announced stays
pub arrival_announced : (e : EndpointHistory) (a : Arrival) → (read_arrival e a).0.announced ≡ e.announced
arrival_announced e a = (arrival_keeps e a).announced

-- **What comes, with nothing kept.**
pub arrives_keep : (e : EndpointHistory) (a : Arrival) → e.kept ≡ [] → KeepsBut (lost_by a) e (arrives e a).1
arrives_keep e a nothing =
    subst (λ k. KeepsBut (lost_by a) e (arrives_behind k e a).1) (sym nothing) (taken_keeps (lost_by a) e.closed (delivery_refusal e (stream_of a)) e (read_arrival e a) (arrival_keeps e a))

-- **What is taken of the writer's bytes.**
pub advance_keeps : (e : EndpointHistory) (id count : ℕ) → KeepsBut no_stream e (advance e id count)
advance_keeps e id count = by_stream (stream_at e.outgoing id) refl
  where
    by_stream : (o : Option Outgoing) → stream_at e.outgoing id ≡ o → KeepsBut no_stream e (advance_at e id count o)
    by_stream None is = streams_keep no_stream e _ (record { incoming = refl; outgoing = refl; announced = refl })
    by_stream (Some o) is = record {
      out = λ j. set_out e (advance_at e id count (Some o)) id (record o { taken = o.taken + count }) refl j (λ n p. SendsSame (outgoing_at e n) p)
          (subst (λ p. SendsSame p (record o { taken = o.taken + count })) (sym (ap (λ x. unwrap_or x nothing_sent) is)) (record { takes = λ h. h; content = λ h. refl })) (λ other. sends_same (outgoing_at e j));
      same = λ j no. same_counts (incoming_at e j);
      kept = λ j yes. inl (same_counts (incoming_at e j));
      announced = refl;
    }
