-- An endpoint that does not ask for a strict connection judges what it judged before that could be asked for.
use Rattle.std.proofs.Common.{◌≡◌, ℕ, Bool, true, false, ◌&&◌, ◌||◌, if◌then◌else◌, List, [], ◌++◌, append-nil, Option, Some, None, Err, refl, ap, sym, ◌∙◌}
use Rattle.std.proofs.lemmas.Bool.{and_right}
use Rattle.h3_coding.specs.VarintLaws.{none_at_end}
use Rattle.std.specs.Prelude.{is_none, not}
use Rattle.h3_proto.specs.StreamIds.{is_request_stream}
use Rattle.h3_proto.specs.declared.stream.Side.{Side}
use Rattle.h3_proto.specs.declared.stream.Side.TheVariants.{Client, Server}
use Rattle.h3_proto.specs.Config.{is_enabled}
use Rattle.h3_frames.specs.FirstFrames.{begins_other, is_other}
use Rattle.h3_connection.specs.Announcing.{unless_alone, unless_below}
use Rattle.h3_connection.specs.Codes.{id_error, missing_settings, settings_error}
use Rattle.h3_connection.specs.Control.{are_refused, after_peer, holding, if_learned, lacks_settings, read_control, read_held, settings_alone, taken_peer, then_decoder}
use Rattle.h3_qpack.specs.DecoderState.{announcing, checking}
use Rattle.h3_connection.specs.Endpoint.{EndpointHistory, first_decoder, limit_of}
use Rattle.h3_connection.specs.Incoming.{Incoming}
use Rattle.h3_connection.specs.FirstSettingsLaws.{first_still, other_stays}
use Rattle.h3_connection.specs.PeerReading.{Peer, PeerFound, read_peer, with_unread}
use Rattle.h3_connection.specs.PeerReadingLaws.{nothing_read_on}
use Rattle.h3_connection.specs.Pulling.{at_session, just, connection_fault}
use Rattle.h3_connection.specs.StrictConnection.{knows_sessions, kinds_of, begins_none_after, have_bad_value, is_strict, lacks_datagrams, session_fault, settings_refused, stream_fault}
use Rattle.h3_connection.specs.declared.event.Item.TheVariants as item
use Rattle.h3_connection.specs.declared.event.Pull.TheVariants as pull
use Rattle.h3_connection.specs.declared.place.Place.TheVariants.{InSession}
use Rattle.h3_connection.specs.declared.setup.Announced.{Announced}
use Rattle.h3_connection.specs.declared.setup.NewError.TheVariants.{Settings}
use Rattle.h3_proto.specs.declared.frame.SettingsError.TheVariants.{InvalidSettingValue}

pub none_refused : (side : Side) (own : Announced) (settings : Option (List (ℕ × ℕ))) → is_strict own ≡ false → settings_refused side own settings ≡ false
none_refused side own None off = refl
none_refused side own (Some pairs) off = ap (λ b. b && have_bad_value side own.settings pairs) off

pub fault_as_found : (own : Announced) (code : ℕ) (fault : Option ℕ) → is_strict own ≡ false → stream_fault (is_strict own) code fault ≡ fault
fault_as_found own code fault off = ap (λ b. stream_fault b code fault) off

pub any_session : (own : Announced) (id : ℕ) → is_strict own ≡ false → session_fault own id ≡ None
any_session own id off = ap (λ b. if b && not (is_request_stream id) then Some id_error else None) off

pub any_place : (own : Announced) (i : Incoming) (session : ℕ) → is_strict own ≡ false → at_session own i session ≡ just (pull.Item (item.Session session)) (record i { place = InSession })
any_place own i session off =
    ap (λ b. if b && not (is_request_stream session) then connection_fault id_error i else just (pull.Item (item.Session session)) (record i { place = InSession })) off

pub checks_none : (own : Announced) → is_strict own ≡ false → first_decoder own ≡ announcing own.limits.table
checks_none own off = ap (λ b. checking b (announcing own.limits.table)) off

pub begins_any : (own : Announced) (side : Side) (last : Option ℕ) → is_strict own ≡ false → begins_none_after own side last ≡ None
begins_any own Client last off = ap (λ b. if b then last else None) off
begins_any own Server last off = refl

pub announces_any : (own : Announced) → is_strict own ≡ false → unless_alone own ≡ unless_below own
announces_any own off = ap (λ b. if b && lacks_datagrams own.settings then Err (Settings (InvalidSettingValue 0x2b603742 1)) else unless_below own) off

-- it knows frames of sessions, and sessions on unidirectional streams
pub knows_all : (own : Announced) → is_strict own ≡ false → knows_sessions own ≡ true
knows_all own off = ap (λ b. not b || is_enabled 0x2b603742 own.settings) off

-- what the control stream says
refused_none : (e : EndpointHistory) (before after : Option (List (ℕ × ℕ))) → is_strict e.announced ≡ false → are_refused e before after ≡ false
refused_none e None after off = none_refused e.side e.announced after off
refused_none e (Some known) after off = refl

pub peer_taken : (e : EndpointHistory) (x : PeerFound) → is_strict e.announced ≡ false → after_peer e x ≡ taken_peer e x
peer_taken e (p, fault) off = ap (λ b. if b then (record e { peer = settings_alone e.peer p.settings }, Some settings_error) else taken_peer e (p, fault)) (refused_none e e.peer.settings p.settings off)

pub control_taken : (e : EndpointHistory) (bytes : List ℕ) → is_strict e.announced ≡ false → read_control e bytes ≡ taken_peer e (read_peer (kinds_of e.announced) (limit_of e) e.side (with_unread e.peer (e.peer.unread ++ bytes)))
control_taken e bytes off =
    let h = holding e bytes in
    ap (λ b. if (b && is_none e.peer.settings) && begins_other h.peer.unread then (h, Some missing_settings) else after_peer h (read_peer (kinds_of h.announced) (limit_of h) h.side h.peer)) off
    ∙ peer_taken h (read_peer (kinds_of h.announced) (limit_of h) h.side h.peer) off

-- no fault is told of none
pub nothing_told : (strict : Bool) (code : ℕ) → stream_fault strict code None ≡ None
nothing_told true code = refl
nothing_told false code = refl

pub held_refused : (e : EndpointHistory) → lacks_settings e ≡ false → are_refused e e.peer.settings (read_peer (kinds_of e.announced) (limit_of e) e.side e.peer).0.settings ≡ true
    → read_held e ≡ (record e { peer = settings_alone e.peer (read_peer (kinds_of e.announced) (limit_of e) e.side e.peer).0.settings }, Some settings_error)
held_refused e first bad =
    let x = read_peer (kinds_of e.announced) (limit_of e) e.side e.peer in
    ap (λ b. if b then (e, Some missing_settings) else after_peer e x) first
    ∙ ap (λ b. if b then (record e { peer = settings_alone e.peer x.0.settings }, Some settings_error) else taken_peer e x) bad

pub held_taken : (e : EndpointHistory) → lacks_settings e ≡ false → are_refused e e.peer.settings (read_peer (kinds_of e.announced) (limit_of e) e.side e.peer).0.settings ≡ false
    → read_held e ≡ taken_peer e (read_peer (kinds_of e.announced) (limit_of e) e.side e.peer)
held_taken e first good =
    let x = read_peer (kinds_of e.announced) (limit_of e) e.side e.peer in
    ap (λ b. if b then (e, Some missing_settings) else after_peer e x) first
    ∙ ap (λ b. if b then (record e { peer = settings_alone e.peer x.0.settings }, Some settings_error) else taken_peer e x) good

-- both pass where the settings came before,
pub known_missed : (e : EndpointHistory) (pairs : List (ℕ × ℕ)) → e.peer.settings ≡ Some pairs → lacks_settings e ≡ false
known_missed e pairs is =
    ap (λ o. (is_strict e.announced && is_none o) && begins_other e.peer.unread) is
    ∙ ap (λ b. b && begins_other e.peer.unread) (and_right (is_strict e.announced) false refl)

pub known_refused : (e : EndpointHistory) (o q : Option (List (ℕ × ℕ))) (pairs : List (ℕ × ℕ)) → o ≡ Some pairs → are_refused e o q ≡ false
known_refused e o q pairs is = ap (λ x. are_refused e x q) is

-- and the second one where none come now
pub same_taken : (e : EndpointHistory) (o : Option (List (ℕ × ℕ))) → are_refused e o o ≡ false
same_taken e None = refl
same_taken e (Some pairs) = refl

-- it looks at what the endpoint chose alone
pub refused_alike : (e f : EndpointHistory) (o after : Option (List (ℕ × ℕ))) → e.side ≡ f.side → e.announced ≡ f.announced → are_refused e o after ≡ are_refused f o after
refused_alike e f None after side own = ap (λ t. settings_refused t e.announced after) side ∙ ap (λ a. settings_refused f.side a after) own
refused_alike e f (Some pairs) after side own = refl

-- and the first one at no front where not at the whole
pub front_missed : (e : EndpointHistory) (front rest : List ℕ) → e.peer.unread ≡ front ++ rest → lacks_settings e ≡ false → lacks_settings (record e { peer = with_unread e.peer front }) ≡ false
front_missed e front rest cut first = by_front (begins_other front) refl
  where
    awaits : Bool
    awaits = is_strict e.announced && is_none e.peer.settings

    by_front : (b : Bool) → begins_other front ≡ b → (awaits && begins_other front) ≡ false
    by_front false other = ap (λ b. awaits && b) other ∙ and_right awaits false refl
    by_front true other =
        ap (λ b. awaits && b) (other ∙ sym (other_stays front rest other)) ∙ ap (λ l. awaits && begins_other l) (sym cut) ∙ first

nothing_learned : (o : Option (List (ℕ × ℕ))) (e : EndpointHistory) → then_decoder o o (if_learned o o e) None ≡ (e, None)
nothing_learned None e = refl
nothing_learned (Some pairs) e = refl

-- what was read is not read again
pub held_again : (e : EndpointHistory) → lacks_settings e ≡ false → read_peer (kinds_of e.announced) (limit_of e) e.side e.peer ≡ (e.peer, None) → read_control e [] ≡ (e, None)
held_again e first done =
    ap (λ l. read_held (record e { peer = with_unread e.peer l })) (append-nil e.peer.unread)
    ∙ held_taken e first (ap (λ (x : PeerFound). are_refused e e.peer.settings x.0.settings) done ∙ same_taken e e.peer.settings)
    ∙ ap (taken_peer e) done ∙ nothing_learned e.peer.settings e

-- and where nothing came nothing is judged
pub nothing_held : (e : EndpointHistory) → e.peer.unread ≡ [] → read_control e [] ≡ taken_peer e (read_peer (kinds_of e.announced) (limit_of e) e.side (with_unread e.peer (e.peer.unread ++ [])))
nothing_held e empty =
    let h = holding e [] in
    let none : e.peer.unread ++ [] ≡ [] = append-nil e.peer.unread ∙ empty in
    let found : read_peer (kinds_of e.announced) (limit_of e) e.side h.peer ≡ (with_unread e.peer [], None) = ap (λ l. read_peer (kinds_of e.announced) (limit_of e) e.side (with_unread e.peer l)) none ∙ nothing_read_on _ (limit_of e) e.side e.peer in
    held_taken h (and_right (is_strict e.announced && is_none e.peer.settings) (begins_other h.peer.unread) (ap begins_other none ∙ ap is_other none_at_end))
    (ap (λ (x : PeerFound). are_refused h e.peer.settings x.0.settings) found ∙ same_taken h e.peer.settings)

-- so what was read where they are due is not read again either
pub still_first : (e : EndpointHistory) (q : Peer) → lacks_settings e ≡ false → e.peer.settings ≡ None → read_peer (kinds_of e.announced) (limit_of e) e.side e.peer ≡ (q, None) → lacks_settings (record e { peer = q }) ≡ false
still_first e q first none read = by_choice (is_strict e.announced) refl q.settings refl
  where
    g : EndpointHistory
    g = record e { peer = q }

    by_choice : (s : Bool) → is_strict e.announced ≡ s → (o : Option (List (ℕ × ℕ))) → q.settings ≡ o → lacks_settings g ≡ false
    by_choice false off o is = ap (λ b. (b && is_none q.settings) && begins_other q.unread) off
    by_choice true on (Some pairs) is = known_missed g pairs is
    by_choice true on None is =
        let begins : begins_other e.peer.unread ≡ false =
        sym (ap (λ b. (b && is_none e.peer.settings) && begins_other e.peer.unread) on ∙ ap (λ o. (true && is_none o) && begins_other e.peer.unread) none) ∙ first in
        ap (λ (p : Peer). lacks_settings (record e { peer = p })) (first_still _ (limit_of e) e.side e.peer q none begins read is) ∙ first
