-- The streams that are read as the peer's encoder stream are those whose bytes begin with its type.
use Rattle.std.proofs.Common.{◌≡◌, ℕ, Bool, true, false, List, [], ◌∷◌, refl, sym, ◌∙◌, ap, subst}
use Rattle.std.specs.Prelude.{Option, Some, None, unwrap_or}
use Rattle.h3_proto.specs.declared.stream.Side.{Side}
use Rattle.h3_connection.specs.declared.event.Refusal.{Refusal}
use Rattle.h3_connection.specs.StreamSets.{Streams, stream_at, set_stream}
use Rattle.h3_connection.specs.Incoming.{Incoming}
use Rattle.h3_connection.specs.Unidirectional.{Unidirectional, untold, role_after, with_bytes}
use Rattle.h3_connection.specs.Unidirectional.Role.{Untold, Encoder}
use Rattle.h3_connection.specs.Outgoing.{Outgoing as Out, is_end_next}
use Rattle.h3_connection.specs.Endpoint.{EndpointHistory, Kind, kind_of}
use Rattle.h3_connection.specs.Endpoint.Kind.{Request, ServerOpened, OwnUnidirectional, PeerUnidirectional}
use Rattle.h3_connection.specs.Control.{Found}
use Rattle.h3_connection.specs.Delivering.{unidirectional_at, opened_at, taken, bytes_at, end_at, reset_at}
use Rattle.h3_connection.specs.Sending.{does, pull_at, pull_unless, pull_request, pull_peer, within_limit, advance_at, sent_bytes}
use Rattle.h3_connection.specs.Pulling.{pull_stream}
use Rattle.h3_connection.specs.CallLists.{Call, Result, called, done, was_pulled}
use Rattle.h3_connection.specs.EndsWaiting.{end_taken_at, end_taken_if}
use Rattle.h3_connection.specs.CallLists.Call.{OpenRequest, SendHead, SendBody, SendTrailer, Finish, Reset, Goaway, Advance, TakeEnd, Outgoing, Deliver, DeliverEnd, DeliverReset, PullStream, Cancel, Show}
use Rattle.h3_connection.specs.CallLists.Result.{Done}
use Rattle.h3_connection.specs.Isolation.{AreEncoders, is_peer}
use Rattle.h3_connection.proofs.Seen.{at_other}
use Rattle.h3_connection.proofs.SeenEncoder.{by_eq, heard_bytes}
use Rattle.h3_connection.proofs.Isolated.{keeps_rest, true_not_false}

-- only the peer's unidirectional streams are kept as such
abbrev pub OnlyPeers : Side → Streams Unidirectional → Type 0
OnlyPeers side streams = (p : ℕ) → is_peer (kind_of side p) ≡ false → stream_at streams p ≡ None

set_peer : (side : Side) (s : Streams Unidirectional) (q : ℕ) (o : Unidirectional) → kind_of side q ≡ PeerUnidirectional → OnlyPeers side s → OnlyPeers side (set_stream s q o)
set_peer side s q o kind h p blind =
    at_other s q p o (by_eq q p (λ b. b ≡ false) (λ same. absurd (true_not_false (sym (ap is_peer kind) ∙ ap (λ x. is_peer (kind_of side x)) same ∙ blind))) (λ d. refl)) ∙ h p blind

taken_peers : (side : Side) (closed : Option ℕ) (r : Option Refusal) (e : EndpointHistory) (found : Found) → (done Done (taken closed r e found)).1.closed ≡ None
    → (found.1 ≡ None → OnlyPeers side found.0.unidirectional) → OnlyPeers side e.unidirectional → OnlyPeers side (done Done (taken closed r e found)).1.unidirectional
taken_peers side (Some code) r e found p h k = k
taken_peers side None (Some r) e found p h k = k
taken_peers side None None e (f, None) p h k = h refl
taken_peers side None None e (f, Some code) p h k = cc

does_peers : (side : Side) (success : Result) (r : Option Refusal) (e f : EndpointHistory) → OnlyPeers side e.unidirectional → OnlyPeers side f.unidirectional → OnlyPeers side (done success (does r e f)).1.unidirectional
does_peers side success (Some r) e f h k = h
does_peers side success None e f h k = k

opened_peers : (side : Side) (e : EndpointHistory) (q : ℕ) (at : Option Incoming) → OnlyPeers side e.unidirectional → OnlyPeers side (opened_at e q at).unidirectional
opened_peers side e q (Some i) h = h
opened_peers side e q None h = h

bytes_peers : (e : EndpointHistory) (q : ℕ) (bytes : List ℕ) (k : Kind) → kind_of e.side q ≡ k → OnlyPeers e.side e.unidirectional → (bytes_at e q bytes k).1 ≡ None → OnlyPeers e.side (bytes_at e q bytes k).0.unidirectional
bytes_peers e q bytes Request kind h p = opened_peers e.side e q (stream_at e.incoming q) h
bytes_peers e q bytes ServerOpened kind h p = h
bytes_peers e q bytes OwnUnidirectional kind h p = h
bytes_peers e q bytes PeerUnidirectional kind h p =
    let o = unidirectional_at e q in
    let heard = role_after _ o.role bytes in
    subst (λ s. OnlyPeers e.side s) (sym (heard_bytes e q o heard p).unidirectional) (set_peer e.side e.unidirectional q (with_bytes o heard) kind h)

end_peers : (e : EndpointHistory) (q : ℕ) (k : Kind) → kind_of e.side q ≡ k → OnlyPeers e.side e.unidirectional → OnlyPeers e.side (end_at e q k).0.unidirectional
end_peers e q Request kind h = opened_peers e.side e q (stream_at e.incoming q) h
end_peers e q ServerOpened kind h = h
end_peers e q OwnUnidirectional kind h = h
end_peers e q PeerUnidirectional kind h = set_peer e.side e.unidirectional q _ kind h

reset_peers : (e : EndpointHistory) (q code : ℕ) (k : Kind) → kind_of e.side q ≡ k → OnlyPeers e.side e.unidirectional → OnlyPeers e.side (reset_at e q code k).0.unidirectional
reset_peers e q code Request kind h = opened_peers e.side e q (stream_at e.incoming q) h
reset_peers e q code ServerOpened kind h = h
reset_peers e q code OwnUnidirectional kind h = h
reset_peers e q code PeerUnidirectional kind h = set_peer e.side e.unidirectional q _ kind h

request_peers : (e : EndpointHistory) (q : ℕ) (at : Option Incoming) → OnlyPeers e.side e.unidirectional → OnlyPeers e.side (pull_request e q at).1.unidirectional
request_peers e q None h = h
request_peers e q (Some i) h = subst (λ s. OnlyPeers e.side s) (sym (keeps_rest (within_limit e q (pull_stream e.side e.announced q e.decoding.decoder i)).answer _).2) h

peer_peers : (e : EndpointHistory) (q : ℕ) (at : Option Unidirectional) → kind_of e.side q ≡ PeerUnidirectional → OnlyPeers e.side e.unidirectional → OnlyPeers e.side (pull_peer e q at).1.unidirectional
peer_peers e q None kind h = h
peer_peers e q (Some o) kind h = set_peer e.side e.unidirectional q _ kind h

pull_peers : (e : EndpointHistory) (q : ℕ) (closed : Option ℕ) (k : Kind) → kind_of e.side q ≡ k → OnlyPeers e.side e.unidirectional → OnlyPeers e.side (was_pulled (pull_unless closed e (pull_at e q k))).1.unidirectional
pull_peers e q (Some code) k kind h = h
pull_peers e q None Request kind h = request_peers e q (stream_at e.incoming q) h
pull_peers e q None ServerOpened kind h = h
pull_peers e q None OwnUnidirectional kind h = h
pull_peers e q None PeerUnidirectional kind h = peer_peers e q (stream_at e.unidirectional q) kind h

body_peers : (e : EndpointHistory) (q : ℕ) (bytes : List ℕ) → OnlyPeers e.side e.unidirectional → OnlyPeers e.side (sent_bytes e q bytes).unidirectional
body_peers e q [] h = h
body_peers e q (byte ∷ bytes) h = h

advance_peers : (e : EndpointHistory) (q count : ℕ) (at : Option Out) → OnlyPeers e.side e.unidirectional → OnlyPeers e.side (advance_at e q count at).unidirectional
advance_peers e q count (Some o) h = h
advance_peers e q count None h = h

end_taken_peers : (e : EndpointHistory) (q : ℕ) (at : Option Out) → OnlyPeers e.side e.unidirectional → OnlyPeers e.side (end_taken_at e q at).1.unidirectional
end_taken_peers e q (Some o) h = by_test (is_end_next o)
  where
    by_test : (b : Bool) → OnlyPeers e.side (end_taken_if b e q o).1.unidirectional
    by_test true = h
    by_test false = h
end_taken_peers e q None h = h

pub peers_step : (e : EndpointHistory) (c : Call) → (called e c).1.closed ≡ None → OnlyPeers e.side e.unidirectional → OnlyPeers e.side (called e c).1.unidirectional
peers_step e OpenRequest p h = does_peers e.side _ _ e _ h (opened_peers e.side e e.next_id None h)
peers_step e (SendHead q head) p h = does_peers e.side _ _ e _ h h
peers_step e (SendBody q bytes) p h = does_peers e.side _ _ e _ h (body_peers e q bytes h)
peers_step e (SendTrailer q head) p h = does_peers e.side _ _ e _ h h
peers_step e (Finish q) p h = does_peers e.side _ _ e _ h h
peers_step e (Reset q) p h = does_peers e.side _ _ e _ h h
peers_step e (Goaway n) p h = does_peers e.side _ _ e _ h h
peers_step e (Advance q count) p h = advance_peers e q count (stream_at e.outgoing q) h
peers_step e (TakeEnd q) p h = end_taken_peers e q (stream_at e.outgoing q) h
peers_step e (Outgoing q) p h = h
peers_step e (Deliver q bytes) p h = taken_peers e.side e.closed _ e _ p (bytes_peers e q bytes (kind_of e.side q) refl h) h
peers_step e (DeliverEnd q) p h = taken_peers e.side e.closed _ e _ p (λ none. end_peers e q (kind_of e.side q) refl h) h
peers_step e (DeliverReset q code) p h = taken_peers e.side e.closed _ e _ p (λ none. reset_peers e q code (kind_of e.side q) refl h) h
peers_step e (PullStream q) p h = pull_peers e q e.closed (kind_of e.side q) refl h
peers_step e (Cancel q) p h = does_peers e.side _ _ e _ h h
peers_step e Show p h = h

-- then only they are read as an encoder stream
abbrev pub any_peer : Side → ℕ → Bool
any_peer side q = is_peer (kind_of side q)

encoder_peer : (side : Side) (s : Streams Unidirectional) (q : ℕ) → OnlyPeers side s → (unwrap_or (stream_at s q) untold).role ≡ Encoder → (b : Bool) → any_peer side q ≡ b → any_peer side q ≡ true
encoder_peer side s q h role true is = is
encoder_peer side s q h role false is = let wrong : (unwrap_or (stream_at s q) untold).role ≡ Untold [] = ap (λ x. (unwrap_or x untold).role) (h q is) in absurd (differ (sym wrong ∙ role))
  where
    differ : Untold [] ≡ Encoder → ⊥
    differ x = cc

pub are_peers : (side : Side) (e : EndpointHistory) → OnlyPeers side e.unidirectional → AreEncoders (any_peer side) e
are_peers side e h q role = encoder_peer side e.unidirectional q h role (any_peer side q) refl
