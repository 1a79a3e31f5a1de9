-- A strict endpoint sends no list that a strict peer calls malformed.
use Rattle.std.proofs.Common.{◌≡◌, ℕ, List, [], ◌∷◌, None}
use Rattle.std.specs.Prelude.{not}
use Rattle.h3_field.specs.Field.{Field, section_size}
use Rattle.h3_header.specs.Head.{has_pseudo}
use Rattle.h3_header.specs.HeadRead.{HeadRead, IsHead, IsNone, head_by}
use Rattle.h3_connection.specs.Endpoint.{EndpointHistory}
use Rattle.h3_connection.specs.Remembering.{settings_known}
use Rattle.h3_connection.specs.Outgoing.{takes_head, takes_body}
use Rattle.h3_connection.specs.OwnIds.{other}
use Rattle.h3_connection.specs.Pulling.{is_for}
use Rattle.h3_connection.specs.Refusals.{is_too_large, unless_going}
use Rattle.h3_connection.specs.Sending.{is_open, outgoing_at, sender_at, broken_head_at, known_of}
use Rattle.h3_connection.specs.StrictMessages.{broken_rule}
use Rattle.h3_connection.specs.StrictSending.{broken_protocol, broken_trailer, early_trailer, unless_malformed}
use Rattle.h3_connection.specs.StrictSendingLaws.{head_taken, trailer_taken, not_closed, passed, not_early, not_malformed, was_allowed, not_going}
use Rattle.h3_connection.specs.StrictSends.{IsStrictTo}
use Rattle.h3_connection.specs.declared.event.Refusal.{Refusal}
use Rattle.h3_connection.specs.declared.event.Refusal.TheVariants as refusal
use Rattle.h3_connection.specs.declared.place.Place.TheVariants.{BeforeHead, InBody}
use Rattle.h3_connection.specs.declared.setup.Announced.{Announced}
use Rattle.h3_session.specs.SendingLists.{after_head, after_trailer, listed_head_refusal, listed_trailer_refusal, send_read_head, send_read_trailer}
use Rattle.h3_session.specs.StrictLists.{SendsWellFormedLists, SendsWellFormedTrailerLists}
use Rattle.h3_connection.specs.StreamSets.{stream_at}

head_list : (r : HeadRead) (e : EndpointHistory) (peer : Announced) (id : ℕ) (fields : List Field) → IsStrictTo e peer → (send_read_head e id fields r).0 ≡ None → broken_rule (other e.side) peer BeforeHead fields ≡ None
head_list (IsNone why) e peer id fields strict sent = absurd (cc)
head_list (IsHead head) e peer id fields strict sent =
    let rule = listed_head_refusal e id head fields in
    let after = after_head e id head fields in
    let protocol = broken_protocol e.announced head in
    let broken = broken_head_at e id fields in
    let size = (is_too_large (settings_known e.announced e.peer.settings) fields, refusal.TooLarge (section_size fields)) ∷ [] in
    let wrong = (not (is_for (other e.side) head), refusal.WrongSide) ∷ unless_malformed broken size in
    let going = (sender_at e id).going in
    let judged = unless_going going (unless_malformed protocol wrong) in
    let allowed = not_closed e.closed _ (was_allowed rule e after sent) in
    let there = passed (not (is_open e id)) refusal.NotOpen ((not (takes_head (outgoing_at e id)), refusal.OutOfOrder) ∷ judged) allowed in
    let placed = not_early protocol wrong (not_going going (unless_malformed protocol wrong) (passed (not (takes_head (outgoing_at e id))) refusal.OutOfOrder judged there)) in
    head_taken e.side e.announced peer (settings_known e.announced e.peer.settings) (known_of (stream_at e.incoming id)) fields strict.strict strict.knows
    (not_malformed broken size (passed (not (is_for (other e.side) head)) refusal.WrongSide (unless_malformed broken size) placed))

trailer_list : (r : HeadRead) (e : EndpointHistory) (peer : Announced) (id : ℕ) (fields : List Field) → IsStrictTo e peer → (send_read_trailer e id fields r).0 ≡ None → broken_rule (other e.side) peer InBody fields ≡ None
trailer_list (IsNone why) e peer id fields strict sent = absurd (cc)
trailer_list (IsHead trailer) e peer id fields strict sent =
    let rule = listed_trailer_refusal e id trailer fields in
    let after = after_trailer e id fields in
    let protocol = broken_protocol e.announced trailer in
    let broken = broken_trailer e.announced fields in
    let size = (is_too_large (settings_known e.announced e.peer.settings) fields, refusal.TooLarge (section_size fields)) ∷ [] in
    let early = early_trailer (outgoing_at e id).content in
    let behind = unless_malformed broken size in
    let pseudo = (has_pseudo trailer, refusal.PseudoInTrailer) ∷ unless_malformed early behind in
    let allowed = not_closed e.closed _ (was_allowed rule e after sent) in
    let there = passed (not (is_open e id)) refusal.NotOpen ((not (takes_body (outgoing_at e id)), refusal.OutOfOrder) ∷ unless_malformed protocol pseudo) allowed in
    let placed = not_early protocol pseudo (passed (not (takes_body (outgoing_at e id))) refusal.OutOfOrder (unless_malformed protocol pseudo) there) in
    trailer_taken (other e.side) e.announced peer fields strict.strict
    (not_malformed broken size (not_early early behind (passed (has_pseudo trailer) refusal.PseudoInTrailer (unless_malformed early behind) placed)))

pub sends_well_formed_lists : SendsWellFormedLists
sends_well_formed_lists e peer id fields strict sent = head_list (head_by e.announced.choices.extensions.any_protocol fields) e peer id fields strict sent

pub sends_well_formed_trailer_lists : SendsWellFormedTrailerLists
sends_well_formed_trailer_lists e peer id fields strict sent = trailer_list (head_by e.announced.choices.extensions.any_protocol fields) e peer id fields strict sent
