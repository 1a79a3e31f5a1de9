-- A connection that is drained stays drained: what is done with stays so, and no request comes any more.
use Rattle.std.proofs.Common.{arith, ◌≡◌, ◌<◌, ◌≤◌, ℕ, zero, suc, ◌*◌, ◌/◌, ◌%◌, Bool, true, false, List, [], ◌∷◌, ◌++◌, length, drop, refl, sym, ◌∙◌, ap, subst}
use Rattle.std.specs.Prelude.{Option, Some, None, if◌then◌else◌, ◌==◌, nat_le, nat_lt, not, ◌&&◌, ◌||◌, is_some, option_map, unwrap_or}
use Rattle.std.proofs.Math.Bool.{and_assoc}
use Rattle.std.proofs.lemmas.Bool.{and_parts, and_from, and_left, and_right, not_from_true, eq-eqb, eqb-true, leb-false}
use Rattle.std.proofs.lemmas.List.{length-drop}
use Rattle.h3_proto.specs.Settings.{value_of}
use Rattle.h3_proto.specs.StreamIds.{is_request_stream}
use Rattle.h3_proto.specs.declared.stream.Side.{Side}
use Rattle.h3_proto.specs.declared.stream.Side.TheVariants.{Client, Server}
use Rattle.h3_frames.specs.ExcessiveFrames.{is_excessive_by}
use Rattle.h3_frames.specs.Frames.{Front, Whole, Unknown, Refused, Unfinished, frame_by}
use Rattle.h3_frames.specs.Known.{known_by}
use Rattle.h3_priority.specs.Priority.{PriorityParameters, priority_of}
use Rattle.h3_frames.specs.Update.{Update}
use Rattle.h3_frames.specs.declared.proto.frame.PayloadLen.{PayloadLen}
use Rattle.h3_frames.specs.declared.proto.frame.Frame.{Frame}
use Rattle.h3_frames.specs.declared.proto.frame.Frame.TheVariants as frame
use Rattle.h3_qpack.specs.DecoderState.{DecoderState}
use Rattle.h3_connection.specs.declared.setup.Announced.{Announced}
use Rattle.h3_connection.specs.declared.event.Item.TheVariants as item
use Rattle.h3_connection.specs.declared.event.Pull.{Pull}
use Rattle.h3_connection.specs.declared.event.Pull.TheVariants as answer
use Rattle.h3_connection.specs.declared.event.Fault.TheVariants as fault
use Rattle.h3_connection.specs.declared.event.Refusal.{Refusal}
use Rattle.h3_connection.specs.declared.event.Refusal.TheVariants as refusal
use Rattle.h3_connection.specs.declared.event.StreamFault.{StreamFault}
use Rattle.h3_connection.specs.declared.event.StreamFault.TheVariants as stream_fault
use Rattle.h3_connection.specs.CallLists.{Call, called, was_pulled, endpoint_after}
use Rattle.h3_connection.specs.CallLists.Call.{OpenRequest, SendHead, SendBody, SendTrailer, Finish, Reset, Goaway, Advance, TakeEnd, Outgoing, Deliver, DeliverEnd, DeliverReset, PullStream, Cancel, Show}
use Rattle.h3_connection.specs.CallLists.Result.{Done}
use Rattle.h3_connection.specs.Control.{Found, are_refused, holding, lacks_settings, read_control, read_encoder, read_decoder, settings_alone, taken_peer, after_peer, then_decoder, if_learned, is_table_usable, with_table, listened_to, kept_unread}
use Rattle.h3_connection.specs.Delivering.{delivery_refusal, refusal_at, request_refusal, opened_at, opened, incoming_at, unidirectional_at, with_unidirectional, with_incoming, taken, bytes_at, end_at, reset_at, given_up_once, given_up_by, kept, with_end, heard_as, unless_second, read_unidirectional}
use Rattle.h3_connection.specs.Draining.{is_served, brings_rejected, LeavesOutRejected, NoneComes}
use Rattle.h3_connection.specs.Endpoint.{EndpointHistory, Kind, kind_of, own_waiting, heads_waiting, replied, limit_of, is_critical_id}
use Rattle.h3_connection.specs.Endpoint.Kind.{Request, ServerOpened, OwnUnidirectional, PeerUnidirectional}
use Rattle.h3_connection.specs.ExcessiveInstructions.{listen_up_to}
use Rattle.h3_connection.specs.FirstRequests.{count_below}
use Rattle.h3_connection.specs.FirstRequestLaws.{each_passes, one_passes}
use Rattle.h3_connection.specs.Incoming.{Incoming, nothing_came}
use Rattle.h3_connection.specs.Lasts.{last_id}
use Rattle.h3_connection.specs.LastLaws.{last_appended}
use Rattle.h3_connection.specs.Outgoing.{Outgoing as Out, nothing_sent, is_sent_off, part_bytes_waiting, end_waits}
use Rattle.h3_connection.specs.OwnIds.{control_id}
use Rattle.h3_connection.specs.OwnSettings.{control_start}
use Rattle.h3_connection.specs.OwnUpdates.{OwnUpdate, control_frames}
use Rattle.h3_connection.specs.PeerReading.{Peer, PeerFound, having_frame, is_no_element, is_no_goaway, is_above, is_below, read_max_push, read_priority, read_update, read_frame, unless_fault, at_front, read_within, read_peer}
use Rattle.h3_connection.specs.Pulling.{Pulled, pull_stream, just, next_item, is_client}
use Rattle.h3_connection.specs.Sending.{pull_at, pull_unless, pull_request, pull_peer, pulled, within_limit, if_too_many, after_answer, body_refusal, trailer_refusal, finish_refusal, reset_refusal, outgoing_at, goaway, cancel_refusal, asked}
use Rattle.h3_connection.specs.Outgoing.{with_finish, with_reset}
use Rattle.h3_connection.specs.Shutdown.{are_seen_below, takes_no_more, is_done, are_done, is_control_taken, is_drained, is_named, is_rejected}
use Rattle.h3_connection.specs.StreamSets.{Streams, stream_at, set_stream}
use Rattle.h3_connection.specs.StreamTestLaws.{all_pass, each_pass}
use Rattle.h3_connection.specs.Unidirectional.{Unidirectional, Role, with_bytes, role_after}
use Rattle.h3_connection.specs.Unidirectional.Role.{Untold, Control, Encoder, Decoder, Session, Push, Ignored, Other}
use Rattle.h3_connection.proofs.Seen.{eq_refl}
use Rattle.h3_connection.proofs.SameSetups.{same_setup}
use Rattle.h3_connection.proofs.SentOff.{sent_in, stop_refused, body_refused, trailer_refused, finish_refused, reset_refused}
use Rattle.h3_connection.proofs.LeavesDone.{Over, Leaves, Rests, start_and_updates, written, settled_in, itself, at_rest, rests, leaves_then, receives, does_leave, taken_leaves, open_leaves, head_leaves, set_leaves, body_does, advance_leaves, end_leaves, goaway_leaves}
use Rattle.h3_frames.specs.declared.frame.kinds.FrameKinds.{FrameKinds}
use Rattle.h3_connection.specs.StrictConnection.{known_streams, kinds_of}

-- The peer's GOAWAY frames stay, whatever its control stream says.
abbrev HasGoaway : Peer → Type 0
HasGoaway p = is_some (last_id p.goaways) ≡ true

goes_if : (b : Bool) (x y : PeerFound) → HasGoaway x.0 → HasGoaway y.0 → HasGoaway (if b then x else y).0
goes_if true x y h k = h
goes_if false x y h k = k

push_goes : (side : Side) (p : Peer) (id : ℕ) → HasGoaway p → HasGoaway (read_max_push side p id).0
push_goes Client p id h = h
push_goes Server p id h = goes_if (is_below id p.most_pushes) _ _ h h

update_goes : (side : Side) (p : Peer) (u : Update) → HasGoaway p → HasGoaway (read_update side p u).0
update_goes Client p u h = h
update_goes Server p u h = goes_if (is_no_element u) _ _ h (by_text (priority_of u.value))
  where
    by_text : (o : Option PriorityParameters) → HasGoaway (read_priority p u.id o).0
    by_text None = h
    by_text (Some priority) = h

frame_goes : (side : Side) (p : Peer) (o : Option (List (ℕ × ℕ))) (f : Frame PayloadLen) → HasGoaway p → HasGoaway (read_frame side p o f).0
frame_goes side p None (frame.Data len) h = h
frame_goes side p None (frame.Headers section) h = h
frame_goes side p None (frame.CancelPush id) h = h
frame_goes side p None (frame.Settings pairs) h = h
frame_goes side p None (frame.PushPromise promise) h = h
frame_goes side p None (frame.PriorityUpdate u) h = h
frame_goes side p None (frame.Goaway id) h = h
frame_goes side p None (frame.MaxPushId id) h = h
frame_goes side p None (frame.WebTransportStream id) h = h
frame_goes side p None (frame.Grease kind) h = h
frame_goes side p (Some pairs) (frame.Data len) h = h
frame_goes side p (Some pairs) (frame.Headers section) h = h
frame_goes side p (Some pairs) (frame.CancelPush id) h = h
frame_goes side p (Some pairs) (frame.Settings others) h = h
frame_goes side p (Some pairs) (frame.PushPromise promise) h = h
frame_goes side p (Some pairs) (frame.PriorityUpdate u) h = update_goes side p u h
frame_goes side p (Some pairs) (frame.Goaway id) h = goes_if (is_no_goaway side id || is_above id (last_id p.goaways)) _ _ h (ap is_some (last_appended p.goaways id))
frame_goes side p (Some pairs) (frame.MaxPushId id) h = push_goes side p id h
frame_goes side p (Some pairs) (frame.WebTransportStream id) h = h
frame_goes side p (Some pairs) (frame.Grease kind) h = h

found_goes : (x : PeerFound) (go : Peer → PeerFound) → HasGoaway x.0 → ((q : Peer) → HasGoaway q → HasGoaway (go q).0) → HasGoaway (unless_fault x go).0
found_goes (q, Some code) go h later = h
found_goes (q, None) go h later = later q h

front_goes : (side : Side) (p : Peer) (bytes : List ℕ) (x : Front) (go : Peer → PeerFound) → HasGoaway p → ((q : Peer) → HasGoaway q → HasGoaway (go q).0) → HasGoaway (at_front go side p bytes x).0
front_goes side p bytes (Whole f rest) go h later = found_goes (read_frame side (having_frame p f bytes rest) p.settings f) go (frame_goes side (having_frame p f bytes rest) p.settings f h) later
front_goes side p bytes (Unknown kind rest) go h later = h
front_goes side p bytes (Refused e) go h later = h
front_goes side p bytes (Unfinished least) go h later = h

within_goes : (kinds : FrameKinds) (n limit : ℕ) (side : Side) (p : Peer) → HasGoaway p → HasGoaway (read_within kinds n limit side p).0
within_goes kinds zero limit side p h = h
within_goes kinds (suc n) limit side p h =
    goes_if (is_excessive_by kinds limit (known_by kinds p.unread)) _ _ h (front_goes side p (known_by kinds p.unread) (frame_by kinds (known_by kinds p.unread)) (read_within kinds n limit side) h (λ q is. within_goes kinds n limit side q is))

peer_goes : (kinds : FrameKinds) (limit : ℕ) (side : Side) (p : Peer) → HasGoaway p → HasGoaway (read_peer kinds limit side p).0
unfolding read_peer
peer_goes kinds limit side p h = within_goes kinds (length p.unread) limit side p h

-- What a unidirectional stream of the peer says changes no request stream.
rests_then : (e f g : EndpointHistory) → Rests e f → Rests f g → Rests e g
rests_then e f g h k = record {
  incoming = k.incoming ∙ h.incoming;
  outgoing = k.outgoing ∙ h.outgoing;
  written_same = k.written_same ∙ h.written_same;
  control_taken = k.control_taken ∙ h.control_taken;
  peer = λ was. k.peer (h.peer was);
}

-- every field but those of the tables, and what the peer said
rests_same : (e f : EndpointHistory) → f.incoming ≡ e.incoming → f.outgoing ≡ e.outgoing → written f ≡ written e → f.own.control_taken ≡ e.own.control_taken → f.peer ≡ e.peer → Rests e f
rests_same e f a b c d p = record { incoming = a; outgoing = b; written_same = c; control_taken = d; peer = λ was. ap (λ p. is_some (last_id p.goaways)) p ∙ was }

rests_if : (b : Bool) (e f g : EndpointHistory) → Rests e f → Rests e g → Rests e (if b then f else g)
rests_if true e f g h k = h
rests_if false e f g h k = k

learned_rests : (before after : Option (List (ℕ × ℕ))) (e : EndpointHistory) → Rests e (if_learned before after e)
learned_rests None (Some pairs) e =
    let capacity : ℕ = unwrap_or (value_of 1 pairs) 0 in
    let blocked : ℕ = unwrap_or (value_of 7 pairs) 0 in
    rests_if (is_table_usable e.encoder.most_capacity capacity blocked) e (with_table e capacity blocked) e (rests_same e (with_table e capacity blocked) refl refl refl refl refl) (at_rest e)
learned_rests None None e = at_rest e
learned_rests (Some first) after e = at_rest e

decoder_rests : (e : EndpointHistory) (bytes : List ℕ) → Rests e (read_decoder e bytes).0
decoder_rests e bytes = by_test (is_some e.peer.settings)
  where
    heard : Found
    heard = listened_to e (listen_up_to (limit_of e) e.encoder (e.decoder_unread ++ bytes))

    early : Found
    early = kept_unread e (e.decoder_unread ++ bytes)

    by_test : (b : Bool) → Rests e (if b then heard else early).0
    by_test true = rests_same e heard.0 refl refl refl refl refl
    by_test false = rests_same e early.0 refl refl refl refl refl

then_rests : (before after : Option (List (ℕ × ℕ))) (e : EndpointHistory) (code : Option ℕ) → Rests e (then_decoder before after e code).0
then_rests before after e (Some code) = at_rest e
then_rests None (Some pairs) e None = decoder_rests e []
then_rests None None e None = at_rest e
then_rests (Some first) after e None = at_rest e

taken_rests : (e : EndpointHistory) (found : PeerFound) → (HasGoaway e.peer → HasGoaway found.0) → Rests e (taken_peer e found).0
taken_rests e (p, code) goes =
    let f = record e { peer = p } in
    let g = if_learned e.peer.settings p.settings f in
    rests_then e f _ (record { incoming = refl; outgoing = refl; written_same = refl; control_taken = refl; peer = goes })
    (rests_then f g _ (learned_rests e.peer.settings p.settings f) (then_rests e.peer.settings p.settings g code))

found_rests : (b : Bool) (e : EndpointHistory) (x y : Found) → Rests e x.0 → Rests e y.0 → Rests e (if b then x else y).0
found_rests true e x y h k = h
found_rests false e x y h k = k

peer_rests : (e : EndpointHistory) (p : Peer) → (HasGoaway e.peer → HasGoaway p) → Rests e (record e { peer = p })
peer_rests e p goes = record { incoming = refl; outgoing = refl; written_same = refl; control_taken = refl; peer = goes }

after_rests : (e : EndpointHistory) (found : PeerFound) → (HasGoaway e.peer → HasGoaway found.0) → Rests e (after_peer e found).0
after_rests e (p, code) goes =
    found_rests (are_refused e e.peer.settings p.settings) e _ _ (peer_rests e (settings_alone e.peer p.settings) (λ was. was)) (taken_rests e (p, code) goes)

control_rests : (e : EndpointHistory) (bytes : List ℕ) → Rests e (read_control e bytes).0
control_rests e bytes =
    let h = holding e bytes in
    found_rests (lacks_settings h) e _ _ (peer_rests e h.peer (λ was. was))
    (rests_then e h _ (peer_rests e h.peer (λ was. was)) (after_rests h (read_peer (kinds_of h.announced) (limit_of h) h.side h.peer) (λ was. peer_goes _ (limit_of h) h.side h.peer was)))

second_rests : (e : EndpointHistory) (b : Bool) (found : Found) → Rests e found.0 → Rests e (unless_second b e found).0
second_rests e true found h = at_rest e
second_rests e false found h = h

role_rests : (e : EndpointHistory) (id : ℕ) (role : Role) (bytes : List ℕ) → Rests e (heard_as e id role bytes).0
role_rests e id (Untold front) bytes = at_rest e
role_rests e id Control bytes =
    let f = record e { control_on = Some id } in
    second_rests e _ (read_control f bytes) (rests_then e f _ (rests_same e f refl refl refl refl refl) (control_rests f bytes))
role_rests e id Encoder bytes = second_rests e _ (read_encoder (record e { encoder_on = Some id }) bytes) (rests_same e _ refl refl refl refl refl)
role_rests e id Decoder bytes =
    let f = record e { decoder_on = Some id } in
    second_rests e _ (read_decoder f bytes) (rests_then e f _ (rests_same e f refl refl refl refl refl) (decoder_rests f bytes))
role_rests e id (Session n) bytes = at_rest e
role_rests e id (Push n) bytes = at_rest e
role_rests e id Ignored bytes = at_rest e
role_rests e id (Other kind) bytes = at_rest e

heard_rests : (e : EndpointHistory) (id : ℕ) (o : Unidirectional) (heard : Role × List ℕ) → Rests e (read_unidirectional e id o heard).0
heard_rests e id o (role, bytes) =
    let f = with_unidirectional e id (with_bytes o (role, bytes)) in
    rests_then e f _ (rests_same e f refl refl refl refl refl) (role_rests f id role bytes)

-- What comes first on a request stream at a server that is done is rejected.
unseen : (goaway : Option ℕ) (streams : Streams Incoming) (id : ℕ) → are_seen_below goaway (λ q. is_some (stream_at streams q)) ≡ true → is_request_stream id ≡ true → stream_at streams id ≡ None → is_named goaway id ≡ true
unseen None streams id all request none = absurd (cc)
unseen (Some first) streams id all request none = by_test (nat_le first id) refl
  where
    by_test : (b : Bool) → nat_le first id ≡ b → nat_le first id ≡ true
    by_test true is = is
    by_test false is =
        let below : id < first = leb-false first id is in
        let whole : id % 4 ≡ 0 = eqb-true (id % 4) 0 request in
        let place : 4 * (id / 4) ≡ id = omega (arith, whole) in
        let few : id / 4 < count_below first = omega (arith, below, whole) in
        let there : is_some (stream_at streams id) ≡ true =
        subst (λ n. is_some (stream_at streams n) ≡ true) place (one_passes (λ q. is_some (stream_at streams q)) (count_below first) (id / 4) all few) in
        absurd (let wrong : false ≡ true = sym (ap is_some none) ∙ there in cc)

is_request : (side : Side) (id : ℕ) → kind_of side id ≡ Request → is_request_stream id ≡ true
is_request side id is = by_test (id % 4 == 0) (id % 4 == 1) (id % 4 == control_id side) is
  where
    by_test : (first second third : Bool) → (if first then Request else (if second then ServerOpened else (if third then OwnUnidirectional else PeerUnidirectional))) ≡ Request → first ≡ true
    by_test true second third is = refl
    by_test false true third is = absurd (cc)
    by_test false false true is = absurd (cc)
    by_test false false false is = absurd (cc)

rejected : (asked named request : Bool) → asked ≡ true → named ≡ true → request ≡ true → (asked && not false && not false && named && request && not false) ≡ true
rejected true true true asked named request = refl
rejected true true false asked named request = absurd (cc)
rejected true false request asked named is = absurd (cc)
rejected false named request asked is other = absurd (cc)

-- At a client such a stream is not open, and at a server its caller leaves it out.
module _ (e : EndpointHistory) (q : ℕ) (over : Over e) (asked : e.side ≡ Server → e.announced.choices.extensions.requests_rejected ≡ true) (left : e.side ≡ Server → is_rejected e q ≡ false) where
  none_comes : (side : Side) → e.side ≡ side → e.closed ≡ None → kind_of e.side q ≡ Request → stream_at e.incoming q ≡ None → request_refusal side None ≡ None → ⊥
  none_comes Client is opens kind none taken = cc
  none_comes Server is opens kind none taken =
      let more : are_seen_below (last_id e.own.goaways) (λ id. is_some (stream_at e.incoming id)) ≡ true = sym (ap (λ side. takes_no_more side e) is) ∙ over.no_more in
      let request = is_request e.side q kind in
      let named = unseen (last_id e.own.goaways) e.incoming q more request none in
      let asks : Bool = e.announced.choices.extensions.requests_rejected in
      let was : is_rejected e q ≡ true =
      ap (λ o. asks && not (is_some o) && not (is_client e.side) && is_named (last_id e.own.goaways) q && is_request_stream q && not (is_some (stream_at e.incoming q))) opens
      ∙ ap (λ side. asks && not false && not (is_client side) && is_named (last_id e.own.goaways) q && is_request_stream q && not (is_some (stream_at e.incoming q))) is
      ∙ ap (λ o. asks && not false && not false && is_named (last_id e.own.goaways) q && is_request_stream q && not (is_some o)) none
      ∙ rejected asks (is_named (last_id e.own.goaways) q) (is_request_stream q) (asked is) named request in
      let wrong : false ≡ true = sym (left is) ∙ was in
      cc

  -- a delivery on a request stream that was seen
  request_leaves : (f : EndpointHistory) (j : Incoming) → f.incoming ≡ set_stream (opened e q).incoming q j → f.outgoing ≡ (opened e q).outgoing → written f ≡ written (opened e q) → f.own.control_taken ≡ (opened e q).own.control_taken → f.peer ≡ (opened e q).peer
      → (settled_in (Some (incoming_at e q)) ≡ true → settled_in (Some j) ≡ true) → e.closed ≡ None → kind_of e.side q ≡ Request → request_refusal e.side (stream_at e.incoming q) ≡ None → Leaves e f
  request_leaves f j incoming outgoing same_written control_taken peer settles opens kind none = by_stream (stream_at e.incoming q) refl
    where
      by_stream : (at : Option Incoming) → stream_at e.incoming q ≡ at → Leaves e f
      by_stream None was = absurd (none_comes e.side refl opens kind was (sym (ap (request_refusal e.side) was) ∙ none))
      by_stream (Some i) was =
          let same : opened e q ≡ e = ap (opened_at e q) was in
          receives e f q i j was (incoming ∙ ap (λ g. set_stream g.incoming q j) same) (outgoing ∙ ap (λ g. g.outgoing) same) (same_written ∙ ap written same) (control_taken ∙ ap (λ g. g.own.control_taken) same) (peer ∙ ap (λ g. g.peer) same)
          (λ before. settles (ap (λ at. settled_in (Some (unwrap_or at nothing_came))) was ∙ before))

  -- a delivery, by what its stream is
  arrives_at : (bytes : List ℕ) (k : Kind) → kind_of e.side q ≡ k → e.closed ≡ None → refusal_at e q k ≡ None → Leaves e (bytes_at e q bytes k).0
  arrives_at bytes Request kind opens none = request_leaves (bytes_at e q bytes Request).0 (kept (incoming_at e q) bytes) refl refl refl refl refl (λ h. h) opens kind none
  arrives_at bytes ServerOpened kind opens none = itself e
  arrives_at bytes OwnUnidirectional kind opens none = itself e
  arrives_at bytes PeerUnidirectional kind opens none = rests e _ (heard_rests e q (unidirectional_at e q) (role_after (known_streams e.announced) (unidirectional_at e q).role bytes))

  ends_at : (k : Kind) → kind_of e.side q ≡ k → e.closed ≡ None → refusal_at e q k ≡ None → Leaves e (end_at e q k).0
  ends_at Request kind opens none = request_leaves (end_at e q Request).0 (with_end (incoming_at e q)) refl refl refl refl refl (λ h. h) opens kind none
  ends_at ServerOpened kind opens none = itself e
  ends_at OwnUnidirectional kind opens none = itself e
  ends_at PeerUnidirectional kind opens none = rests e _ (rests_same e _ refl refl refl refl refl)

  given_settles : (i : Incoming) (why : StreamFault) (first : Option StreamFault) → i.fault ≡ first → settled_in (Some (given_up_by i why first)) ≡ true
  given_settles i why None is = by_over i.is_over
    where
      by_over : (b : Bool) → (b || true) ≡ true
      by_over true = refl
      by_over false = refl
  given_settles i why (Some first) is = ap (λ o. i.is_over || is_some o) is ∙ by_over i.is_over
    where
      by_over : (b : Bool) → (b || true) ≡ true
      by_over true = refl
      by_over false = refl

  resets_at : (code : ℕ) (k : Kind) → kind_of e.side q ≡ k → e.closed ≡ None → refusal_at e q k ≡ None → Leaves e (reset_at e q code k).0
  resets_at code Request kind opens none =
      let i : Incoming = record (incoming_at e q) { was_reset = true } in
      request_leaves (reset_at e q code Request).0 (given_up_once i (stream_fault.Reset code)) refl refl refl refl refl (λ h. given_settles i (stream_fault.Reset code) i.fault refl) opens kind none
  resets_at code ServerOpened kind opens none = itself e
  resets_at code OwnUnidirectional kind opens none = itself e
  resets_at code PeerUnidirectional kind opens none = rests e _ (rests_same e _ refl refl refl refl refl)

-- A pull of a stream that is done with changes nothing of that.
too_many : (b : Bool) (p : Pulled) → settled_in (Some (if_too_many b p).incoming) ≡ settled_in (Some p.incoming)
too_many true p = refl
too_many false p = refl

-- a pull, by whether the stream was given up
abbrev pull_by : Side → Announced → ℕ → DecoderState → Incoming → Option StreamFault → Pulled
pull_by side own id r i given = elim given [
  | Some why ↦ just (answer.Fault (fault.Stream why)) i
  | None ↦ if i.is_over then just (answer.Item item.End) i else next_item side own id r i i.place
]

settled_same : (side : Side) (own : Announced) (id : ℕ) (r : DecoderState) (i : Incoming) → settled_in (Some i) ≡ true → (pull_stream side own id r i).incoming ≡ i
unfolding pull_stream
settled_same side own id r i h = by_fault i.fault refl
  where
    by_over : (over : Bool) → i.fault ≡ None → i.is_over ≡ over → (pull_by side own id r i i.fault).incoming ≡ i
    by_over true none over =
        ap (λ o. (pull_by side own id r i o).incoming) none
        ∙ ap (λ b. (if b then just (answer.Item item.End) i else next_item side own id r i i.place).incoming) over
    by_over false none over = absurd (let wrong : false ≡ true = sym (ap (λ o. i.is_over || is_some o) none ∙ ap (λ x. x || false) over) ∙ h in cc)

    by_fault : (o : Option StreamFault) → i.fault ≡ o → (pull_by side own id r i i.fault).incoming ≡ i
    by_fault (Some why) is = ap (λ o. (pull_by side own id r i o).incoming) is
    by_fault None is = by_over i.is_over is refl

settled_pulled : (side : Side) (own : Announced) (id : ℕ) (r : DecoderState) (i : Incoming) (b : Bool) → settled_in (Some i) ≡ true → settled_in (Some (if_too_many b (pull_stream side own id r i)).incoming) ≡ true
settled_pulled side own id r i b h = too_many b (pull_stream side own id r i) ∙ ap (λ j. settled_in (Some j)) (settled_same side own id r i h) ∙ h

answer_rests : (given : Pull) (e : EndpointHistory) → Rests e (after_answer given e).1
answer_rests (answer.Fault (fault.Connection code)) e = rests_same e _ refl refl refl refl refl
answer_rests (answer.Fault (fault.Stream f)) e = at_rest e
answer_rests (answer.Fault fault.Memory) e = at_rest e
answer_rests (answer.Item i) e = at_rest e
answer_rests answer.Pending e = at_rest e
answer_rests (answer.Waiting n) e = at_rest e
answer_rests answer.NoMessages e = at_rest e

pulled_leaves : (e : EndpointHistory) (q : ℕ) (i : Incoming) → stream_at e.incoming q ≡ Some i → Leaves e (pulled e q (within_limit e q (pull_stream e.side e.announced q e.decoding.decoder i))).1
pulled_leaves e q i was =
    let given : Pulled = pull_stream e.side e.announced q e.decoding.decoder i in
    let many : Bool = nat_lt e.announced.limits.blocked (heads_waiting e.decoding.decoder (set_stream e.incoming q given.incoming)) in
    let p : Pulled = if_too_many many given in
    let k = answer_rests p.answer (replied (with_incoming e q p.incoming) p.replies) in
    let same : Leaves e (replied (with_incoming e q p.incoming) p.replies) =
    receives e _ q i p.incoming was refl refl refl refl refl (settled_pulled e.side e.announced q e.decoding.decoder i many) in
    leaves_then e _ _ same (rests _ _ k)

pull_leaves : (e : EndpointHistory) (q : ℕ) (k : Kind) → Leaves e (pull_at e q k).1
pull_leaves e q Request = by_stream (stream_at e.incoming q) refl
  where
    by_stream : (at : Option Incoming) → stream_at e.incoming q ≡ at → Leaves e (pull_request e q at).1
    by_stream None was = itself e
    by_stream (Some i) was = pulled_leaves e q i was
pull_leaves e q ServerOpened = itself e
pull_leaves e q OwnUnidirectional = itself e
pull_leaves e q PeerUnidirectional = by_stream (stream_at e.unidirectional q)
  where
    by_stream : (at : Option Unidirectional) → Leaves e (pull_peer e q at).1
    by_stream None = itself e
    by_stream (Some o) = rests e _ (rests_same e _ refl refl refl refl refl)

pull_unless_leaves : (closed : Option ℕ) (e : EndpointHistory) (later : Pull × EndpointHistory) → Leaves e later.1 → Leaves e (was_pulled (pull_unless closed e later)).1
pull_unless_leaves (Some code) e later h = itself e
pull_unless_leaves None e (given, f) h = h

cancel_leaves : (e : EndpointHistory) (q : ℕ) → Over e → Leaves e (called e (Cancel q)).1
cancel_leaves e q over = does_leave (cancel_refusal e q) e _ Done (λ none. absurd (stop_refused e.closed (is_critical_id e q) (is_some (stream_at e.incoming q)) ((incoming_at e q).is_over || is_some (incoming_at e q).fault) (by_stream (stream_at e.incoming q) (over.settled q)) none))
  where
    by_stream : (at : Option Incoming) → (is_some at ≡ true → settled_in at ≡ true) → (is_some at && not ((unwrap_or at nothing_came).is_over || is_some (unwrap_or at nothing_came).fault)) ≡ false
    by_stream None settled = refl
    by_stream (Some i) settled = not_from_true (i.is_over || is_some i.fault) (settled refl)

-- What the caller leaves out, of one call.
call_leaves : (e : EndpointHistory) (c : Call) → Over e → (e.side ≡ Server → e.announced.choices.extensions.requests_rejected ≡ true) → (e.side ≡ Server → brings_rejected e c ≡ false) → Leaves e (called e c).1
call_leaves e OpenRequest over asked left = open_leaves e over
call_leaves e (SendHead q head) over asked left = head_leaves e q head
call_leaves e (SendBody q bytes) over asked left = does_leave (body_refusal e q (length bytes)) e _ Done (λ none. body_does e q bytes (λ sent. body_refused e q sent (length bytes) none))
call_leaves e (SendTrailer q head) over asked left = does_leave (trailer_refusal e q head) e _ Done (λ none. set_leaves e _ q _ refl refl refl refl refl (λ sent. absurd (trailer_refused e q sent head none)))
call_leaves e (Finish q) over asked left = does_leave (finish_refusal e q) e _ Done (λ none. set_leaves e _ q (with_finish (outgoing_at e q)) refl refl refl refl refl (λ sent. absurd (finish_refused e q sent none)))
call_leaves e (Reset q) over asked left = does_leave (reset_refusal e q) e _ Done (λ none. set_leaves e _ q (with_reset (outgoing_at e q)) refl refl refl refl refl (λ sent. absurd (reset_refused e q sent none)))
call_leaves e (Goaway n) over asked left = goaway_leaves e n
call_leaves e (Advance q count) over asked left = advance_leaves e q count (stream_at e.outgoing q) refl
call_leaves e (TakeEnd q) over asked left = end_leaves e q (stream_at e.outgoing q) refl
call_leaves e (Outgoing q) over asked left = itself e
call_leaves e (Deliver q bytes) over asked left = taken_leaves e.closed (delivery_refusal e q) e _ (λ opens none. arrives_at e q over asked left bytes (kind_of e.side q) refl opens none)
call_leaves e (DeliverEnd q) over asked left = taken_leaves e.closed (delivery_refusal e q) e _ (λ opens none. ends_at e q over asked left (kind_of e.side q) refl opens none)
call_leaves e (DeliverReset q code) over asked left = taken_leaves e.closed (delivery_refusal e q) e _ (λ opens none. resets_at e q over asked left code (kind_of e.side q) refl opens none)
call_leaves e (PullStream q) over asked left = pull_unless_leaves e.closed e (pull_at e q (kind_of e.side q)) (pull_leaves e q (kind_of e.side q))
call_leaves e (Cancel q) over asked left = cancel_leaves e q over
call_leaves e Show over asked left = itself e

-- The same of all calls, in order.
seen_too : (goaway : Option ℕ) (one other : ℕ → Bool) → ((id : ℕ) → other id ≡ one id) → are_seen_below goaway one ≡ true → are_seen_below goaway other ≡ true
seen_too None one other same all = all
seen_too (Some id) one other same all = each_passes other (count_below id) (λ n few. same (4 * n) ∙ one_passes one (count_below id) n all few)

still_over : (e f : EndpointHistory) → f.side ≡ e.side → Leaves e f → Over e → Over f
still_over e f side h over = record {
  no_more = subst (λ s. takes_no_more s f ≡ true) (sym side) (by_side e.side over.no_more);
  settled = λ id was. h.settled id (over.settled id (sym (h.seen id) ∙ was));
  sent = λ id was. h.sent id (over.sent id (sym (h.seen id) ∙ was));
}
  where
    by_side : (side : Side) → takes_no_more side e ≡ true → takes_no_more side f ≡ true
    by_side Client was = h.peer was
    by_side Server was = seen_too (last_id f.own.goaways) (λ id. is_some (stream_at e.incoming id)) (λ id. is_some (stream_at f.incoming id)) h.seen (h.named (λ id. is_some (stream_at e.incoming id)) was)

record After (e f : EndpointHistory) : Type 0 where
  over : Over f
  announced : f.announced ≡ e.announced
  taken : e.own.control_taken ≤ f.own.control_taken
  text : start_and_updates f ≡ start_and_updates e

over_after : (e : EndpointHistory) (calls : List Call) → Over e → (e.side ≡ Server → e.announced.choices.extensions.requests_rejected ≡ true) → (e.side ≡ Server → LeavesOutRejected e calls) → After e (endpoint_after e calls)
over_after e [] over asked left = record { over = over; announced = refl; taken = omega arith; text = refl }
over_after e (c ∷ calls) over asked left =
    let f : EndpointHistory = (called e c).1 in
    let setup = same_setup e c in
    let leaves = call_leaves e c over asked (λ server. (left server).0) in
    let after = over_after f calls (still_over e f setup.side leaves over) (λ server. ap (λ a. a.choices.extensions.requests_rejected) setup.announced ∙ asked (sym setup.side ∙ server)) (λ server. (left (sym setup.side ∙ server)).1) in
    record { over = after.over; announced = after.announced ∙ setup.announced; taken = omega (arith, leaves.taken, after.taken); text = after.text ∙ leaves.text }

-- What is done with, by its receiver and its sender.
abbrev waiting_of : Option Out → List ℕ → List ℕ
waiting_of o own = elim o [ None ↦ own | Some o ↦ part_bytes_waiting o ]

abbrev done_of : Option Incoming → Option Out → List ℕ → Bool
done_of i o own =
    ((unwrap_or i nothing_came).is_over || is_some (unwrap_or i nothing_came).fault) && is_sent_off (unwrap_or o nothing_sent)
    && not (nat_lt 0 (length (waiting_of o own)) || unwrap_or (option_map end_waits o) false)

done_parts : (i : Option Incoming) (o : Option Out) (own : List ℕ) → is_some i ≡ true → done_of i o own ≡ (settled_in i && sent_in o)
done_parts None o own some = absurd (cc)
done_parts (Some i) None own some =
    let settled : Bool = i.is_over || is_some i.fault in
    let none : (settled && false) ≡ false = and_right settled false refl in
    and_left (settled && false) (not (nat_lt 0 (length own) || false)) none ∙ sym none
done_parts (Some i) (Some o) own some = and_assoc (i.is_over || is_some i.fault) (is_sent_off o) (not (nat_lt 0 (length (part_bytes_waiting o)) || end_waits o))

done_is : (e : EndpointHistory) (id : ℕ) → is_some (stream_at e.incoming id) ≡ true → is_done e id ≡ (settled_in (stream_at e.incoming id) && sent_in (stream_at e.outgoing id))
done_is e id seen = done_parts (stream_at e.incoming id) (stream_at e.outgoing id) (own_waiting e id) seen

served_over : (e : EndpointHistory) → is_served e ≡ true → Over e
served_over e served = record { no_more = both.0; settled = λ id seen. (parts id seen).0; sent = λ id seen. (parts id seen).1 }
  where
    both : (takes_no_more e.side e ≡ true) × (are_done e ≡ true)
    both = and_parts (takes_no_more e.side e) (are_done e) served

    parts : (id : ℕ) → is_some (stream_at e.incoming id) ≡ true → (settled_in (stream_at e.incoming id) ≡ true) × (sent_in (stream_at e.outgoing id) ≡ true)
    parts id seen = and_parts (settled_in (stream_at e.incoming id)) (sent_in (stream_at e.outgoing id)) (sym (done_is e id seen) ∙ each_pass (is_done e) e.incoming id both.1 seen)

over_served : (e : EndpointHistory) → Over e → is_served e ≡ true
over_served e over =
    and_from (takes_no_more e.side e) (are_done e) over.no_more
    (all_pass (is_done e) e.incoming (λ id seen. done_is e id seen ∙ and_from (settled_in (stream_at e.incoming id)) (sent_in (stream_at e.outgoing id)) (over.settled id seen) (over.sent id seen)))

-- What was written on the control stream was taken, and is as it was.
abbrev control_text : EndpointHistory → List ℕ
control_text e = control_start e.announced.settings e.own.further ++ control_frames 0 e.own.goaways e.own.updates

control_waits : (e : EndpointHistory) → own_waiting e (control_id e.side) ≡ drop e.own.control_taken (control_text e)
control_waits e = rw (eq_refl (control_id e.side)) refl

still_taken : (e f : EndpointHistory) → f.announced ≡ e.announced → f.own.goaways ≡ e.own.goaways → start_and_updates f ≡ start_and_updates e → e.own.control_taken ≤ f.own.control_taken → is_control_taken e ≡ true → is_control_taken f ≡ true
still_taken e f announced goaways others more was =
    let none : length (drop e.own.control_taken (control_text e)) ≡ 0 = eqb-true (length (drop e.own.control_taken (control_text e))) 0 (ap (λ l. length l == 0) (sym (control_waits e)) ∙ was) in
    let text : control_text f ≡ control_text e =
    ap (λ (a : Announced). control_start a.settings f.own.further ++ control_frames 0 f.own.goaways f.own.updates) announced
    ∙ ap (λ ids. control_start e.announced.settings f.own.further ++ control_frames 0 ids f.own.updates) goaways
    ∙ ap (λ (x : List OwnUpdate × List (ℕ × ℕ)). control_start e.announced.settings x.1 ++ control_frames 0 e.own.goaways x.0) others in
    let before = length-drop e.own.control_taken (control_text e) in
    let after = length-drop f.own.control_taken (control_text e) in
    let left : length (drop f.own.control_taken (control_text e)) ≡ 0 = omega (arith, none, before, after, more) in
    ap (λ l. length l == 0) (control_waits f) ∙ ap (λ l. length (drop f.own.control_taken l) == 0) text ∙ eq-eqb (length (drop f.own.control_taken (control_text e))) 0 left

-- A server asks, and its caller leaves out.
asks : (side : Side) (e : EndpointHistory) (calls : List Call) → NoneComes side e calls → side ≡ Server → e.announced.choices.extensions.requests_rejected ≡ true
asks Client e calls none is = absurd (cc)
asks Server e calls none is = none.0

leaves_out : (side : Side) (e : EndpointHistory) (calls : List Call) → NoneComes side e calls → side ≡ Server → LeavesOutRejected e calls
leaves_out Client e calls none is = absurd (cc)
leaves_out Server e calls none is = none.1

after : (e : EndpointHistory) (calls : List Call) → NoneComes e.side e calls → is_served e ≡ true → After e (endpoint_after e calls)
after e calls none served = over_after e calls (served_over e served) (asks e.side e calls none) (leaves_out e.side e calls none)

pub served_stays : (e : EndpointHistory) (calls : List Call) → NoneComes e.side e calls → is_served e ≡ true → is_served (endpoint_after e calls) ≡ true
served_stays e calls none served = over_served (endpoint_after e calls) (after e calls none served).over

pub drained_stays : (e : EndpointHistory) (calls : List Call) → NoneComes e.side e calls → (endpoint_after e calls).own.goaways ≡ e.own.goaways → is_drained e ≡ true → is_drained (endpoint_after e calls) ≡ true
drained_stays e calls none goaways drained =
    let f : EndpointHistory = endpoint_after e calls in
    let parts = and_parts (is_served e) (is_control_taken e) drained in
    let later = after e calls none parts.0 in
    and_from (is_served f) (is_control_taken f) (over_served f later.over) (still_taken e f later.announced goaways later.text later.taken parts.1)
