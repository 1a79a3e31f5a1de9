-- Frames of unknown types at an endpoint: on a request stream, and on the peer's control stream.
use Rattle.std.proofs.Common.{◌≡◌, ℕ, false, ◌&&◌, if◌then◌else◌, List, [], ◌++◌, refl, ap, sym, ◌∙◌, Option, Some, None}
use Rattle.std.specs.Prelude.{nat_lt, not}
use Rattle.std.specs.List.{concat}
use Rattle.h3_frames.specs.Known.{known_by}
use Rattle.h3_proto.specs.declared.stream.Side.{Side}
use Rattle.h3_connection.specs.Incoming.{Incoming}
use Rattle.h3_connection.specs.StreamSets.{stream_at, set_stream}
use Rattle.h3_connection.specs.StreamSetLaws.{set-set, set-same}
use Rattle.h3_connection.specs.Endpoint.{EndpointHistory, limit_of, kind_of, replied, heads_waiting}
use Rattle.h3_connection.specs.Endpoint.Kind.{Request}
use Rattle.h3_connection.specs.PeerReading.{Peer, PeerFound, with_unread, read_peer}
use Rattle.h3_connection.specs.PeerReadingLaws.{nothing_read_on}
use Rattle.h3_connection.proofs.PeerReadings.{peer_known}
use Rattle.h3_frames.specs.FirstFrames.{begins_other}
use Rattle.h3_connection.specs.Codes.{missing_settings, settings_error}
use Rattle.h3_connection.specs.Control.{Found, are_refused, awaits_settings, holding, settings_alone, if_learned, then_decoder, after_peer, read_control}
use Rattle.h3_connection.specs.Unidirectional.{role_after}
use Rattle.h3_connection.specs.Unidirectional.Role.{Control}
use Rattle.h3_connection.specs.Delivering.{delivery_refusal, unidirectional_at, with_incoming, with_unidirectional, taken, closed_by, only_one, unless_second, read_unidirectional, bytes_at, deliver}
use Rattle.h3_connection.specs.Pulling.{Pulled, left_with, pull_stream}
use Rattle.h3_connection.specs.Sending.{after_answer, if_too_many, within_limit, pulled, pull}
use Rattle.h3_connection.specs.UnknownFrames.{BeginsUnknown, MayBeginFrame, ReadsControl}
use Rattle.h3_connection.proofs.Seen.{at_same, eq_refl}
use Rattle.h3_connection.proofs.EndStays.{pull_is}
use Rattle.h3_connection.proofs.UnknownFrames.{unknown_left_out, pull_unknown}
use Rattle.h3_frames.specs.declared.frame.kinds.FrameKinds.{FrameKinds}
use Rattle.h3_connection.specs.StrictConnection.{kinds_of, known_streams}

-- what a pull of the stream leaves does not rest on what the stream was
pulled_anew : (e : EndpointHistory) (id : ℕ) (j : Incoming) (p : Pulled) → pulled (with_incoming e id j) id (within_limit (with_incoming e id j) id p) ≡ pulled e id (within_limit e id p)
pulled_anew e id j p =
    ap (λ s. pulled (with_incoming e id j) id (if_too_many (nat_lt e.announced.limits.blocked (heads_waiting e.decoding.decoder s)) p)) (set-set e.incoming id j p.incoming)
    ∙ ap (λ s. let q = within_limit e id p in after_answer q.answer (replied (record e { incoming = s }) q.replies)) (set-set e.incoming id j (within_limit e id p).incoming)

pub endpoint_unknown : (e : EndpointHistory) (id : ℕ) (i : Incoming) (rest : List ℕ) → e.closed ≡ None → kind_of e.side id ≡ Request → stream_at e.incoming id ≡ Some i → MayBeginFrame i → BeginsUnknown (kinds_of e.announced) (concat i.unread) rest
    → pull e id ≡ pull (with_incoming e id (left_with i rest)) id
endpoint_unknown e id i rest open_still request here m b =
    let j = left_with i rest in
    pull_is e id i open_still request here
    ∙ ap (λ p. pulled e id (within_limit e id p)) (pull_unknown e.side e.announced id e.decoding.decoder i rest m b)
    ∙ sym (pulled_anew e id j (pull_stream e.side e.announced id e.decoding.decoder j))
    ∙ sym (pull_is (with_incoming e id j) id j open_still request (at_same e.incoming id j))

pub peer_unknown : (kinds : FrameKinds) (limit : ℕ) (side : Side) (p : Peer) (rest : List ℕ) → BeginsUnknown kinds p.unread rest → read_peer kinds limit side p ≡ read_peer kinds limit side (with_unread p rest)
peer_unknown kinds limit side p rest b = peer_known kinds limit side p rest (unknown_left_out kinds p.unread rest b)

-- where frames of unknown types are taken there, and no settings came now, frames are all that is judged
taken_unknown : (e : EndpointHistory) (bytes : List ℕ) → awaits_settings e ≡ false → read_control e bytes ≡ after_peer (holding e bytes) (read_peer (kinds_of e.announced) (limit_of e) e.side (with_unread e.peer (e.peer.unread ++ bytes)))
taken_unknown e bytes takes =
    let h = holding e bytes in
    ap (λ b. if b && begins_other h.peer.unread then (h, Some missing_settings) else after_peer h (read_peer (kinds_of h.announced) (limit_of h) h.side h.peer)) takes

-- and what is found does not rest on what was unread
after_same : (e : EndpointHistory) (a b : List ℕ) (x : PeerFound) → after_peer (holding e a) x ≡ after_peer (holding e b) x
after_same e a b (p, fault) = by_settings e.peer.settings
  where
    left : (l : List ℕ) → Found
    left l = (record (holding e l) { peer = settings_alone (holding e l).peer p.settings }, Some settings_error)

    by_settings : (o : Option (List (ℕ × ℕ)))
        → (if are_refused (holding e a) o p.settings then left a else then_decoder e.peer.settings p.settings (if_learned e.peer.settings p.settings (record e { peer = p })) fault)
        ≡ (if are_refused (holding e b) o p.settings then left b else then_decoder e.peer.settings p.settings (if_learned e.peer.settings p.settings (record e { peer = p })) fault)
    by_settings None = refl
    by_settings (Some pairs) = refl

control_unknown : (e : EndpointHistory) (bytes rest : List ℕ) → awaits_settings e ≡ false → e.peer.unread ≡ [] → BeginsUnknown (kinds_of e.announced) bytes rest → read_control e bytes ≡ read_control e rest
control_unknown e bytes rest takes empty b =
    let same : known_by (kinds_of e.announced) (e.peer.unread ++ bytes) ≡ known_by (kinds_of e.announced) (e.peer.unread ++ rest) =
    ap (λ l. known_by (kinds_of e.announced) (l ++ bytes)) empty ∙ unknown_left_out (kinds_of e.announced) bytes rest b ∙ sym (ap (λ l. known_by (kinds_of e.announced) (l ++ rest)) empty) in
    taken_unknown e bytes takes
    ∙ ap (after_peer (holding e bytes)) (peer_known (kinds_of e.announced) (limit_of e) e.side (with_unread e.peer (e.peer.unread ++ bytes)) (e.peer.unread ++ rest) same)
    ∙ after_same e bytes rest (read_peer (kinds_of e.announced) (limit_of e) e.side (with_unread e.peer (e.peer.unread ++ rest)))
    ∙ sym (taken_unknown e rest takes)

-- what a delivery on the control stream does
delivered_control : (e : EndpointHistory) (id : ℕ) (bytes : List ℕ) → ReadsControl e id
    → deliver e id bytes ≡ closed_by (read_control (record (with_unidirectional e id (record (unidirectional_at e id) { role = Control })) { control_on = Some id }) bytes)
delivered_control e id bytes c =
    let o = unidirectional_at e id in
    let f = with_unidirectional e id (record o { role = Control }) in
    ap (λ closed. taken closed (delivery_refusal e id) e (bytes_at e id bytes (kind_of e.side id))) c.open_still
    ∙ ap (λ refused. taken None refused e (bytes_at e id bytes (kind_of e.side id))) c.accepted
    ∙ ap (λ k. closed_by (bytes_at e id bytes k)) c.kind
    ∙ ap (λ role. closed_by (read_unidirectional e id o (role_after (known_streams e.announced) role bytes))) c.role
    ∙ ap (λ first. closed_by (only_one first id f (read_control (record f { control_on = Some id }) bytes))) c.first
    ∙ ap (λ same. closed_by (unless_second (not same) f (read_control (record f { control_on = Some id }) bytes))) (eq_refl id)

pub deliver_unknown : (e : EndpointHistory) (id : ℕ) (bytes rest : List ℕ) → ReadsControl e id → e.peer.unread ≡ [] → BeginsUnknown (kinds_of e.announced) bytes rest → deliver e id bytes ≡ deliver e id rest
deliver_unknown e id bytes rest c empty b =
    let f = record (with_unidirectional e id (record (unidirectional_at e id) { role = Control })) { control_on = Some id } in
    delivered_control e id bytes c ∙ ap closed_by (control_unknown f bytes rest c.takes_unknown empty b) ∙ sym (delivered_control e id rest c)

nothing_learned : (o : Option (List (ℕ × ℕ))) (e : EndpointHistory) → then_decoder o o (if_learned o o e) None ≡ (e, None)
nothing_learned None e = refl
nothing_learned (Some pairs) e = refl

-- settings that stay are not judged
judged_before : (o : Option (List (ℕ × ℕ))) (e : EndpointHistory) (x y : Found) → (if are_refused e o o then x else y) ≡ y
judged_before None e x y = refl
judged_before (Some pairs) e x y = refl

nothing_read : (e : EndpointHistory) → awaits_settings e ≡ false → e.peer.unread ≡ [] → read_control e [] ≡ (e, None)
nothing_read e takes empty =
    taken_unknown e [] takes
    ∙ ap (λ l. after_peer (holding e []) (read_peer (kinds_of e.announced) (limit_of e) e.side (with_unread e.peer (l ++ [])))) empty
    ∙ ap (after_peer (holding e [])) (nothing_read_on _ (limit_of e) e.side e.peer)
    ∙ judged_before e.peer.settings (holding e []) _ _
    ∙ nothing_learned e.peer.settings (record e { peer = with_unread e.peer [] })
    ∙ ap (λ l. (record e { peer = with_unread e.peer l }, None)) (sym empty)

-- no bytes change nothing
pub deliver_nothing : (e : EndpointHistory) (id : ℕ) → ReadsControl e id → e.peer.unread ≡ [] → deliver e id [] ≡ (None, e)
deliver_nothing e id c empty =
    let o = unidirectional_at e id in
    let there : set_stream e.unidirectional id (record o { role = Control }) ≡ e.unidirectional =
    ap (λ role. set_stream e.unidirectional id (record o { role = role })) (sym c.role) ∙ set-same e.unidirectional id o c.here in
    delivered_control e id [] c
    ∙ ap closed_by (nothing_read (record (with_unidirectional e id (record o { role = Control })) { control_on = Some id }) c.takes_unknown empty)
    ∙ ap (λ s. (None, record e { unidirectional = s; control_on = Some id })) there
    ∙ ap (λ on. (None, record e { control_on = on })) (sym c.first)
