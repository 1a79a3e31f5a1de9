-- A strict endpoint sends no head and no trailer whose list a strict peer calls malformed.
use Rattle.std.proofs.Common.{[], ◌∷◌}
use Rattle.std.specs.Prelude.{not}
use Rattle.h3_field.specs.Field.{section_size}
use Rattle.h3_header.specs.Head.{head_fields, has_pseudo}
use Rattle.h3_connection.specs.Outgoing.{takes_head, takes_body, OwnTrailer}
use Rattle.h3_connection.specs.Remembering.{settings_known}
use Rattle.h3_connection.specs.OwnIds.{other}
use Rattle.h3_connection.specs.Pulling.{is_for}
use Rattle.h3_connection.specs.Sections.{written_section}
use Rattle.h3_connection.specs.Refusals.{is_too_large, unless_going}
use Rattle.h3_connection.specs.Sending.{appended, asked, counted, encoded, fields_cost, head_part, head_refusal, is_open, outgoing_at, trailer_refusal, sender_at, broken_head_at, known_of}
use Rattle.h3_connection.specs.StrictSending.{broken_protocol, broken_trailer, early_trailer, unless_malformed}
use Rattle.h3_connection.specs.StrictSends.{SendsWellFormedHeads, SendsWellFormedTrailers}
use Rattle.h3_connection.specs.StrictSendingLaws.{head_taken, trailer_taken, not_closed, passed, not_early, not_malformed, was_allowed, not_going}
use Rattle.h3_connection.specs.declared.event.Refusal.TheVariants as refusal
use Rattle.h3_connection.specs.StreamSets.{stream_at}

pub sends_well_formed_heads : SendsWellFormedHeads
sends_well_formed_heads e peer id head strict sent =
    let fields = head_fields head in
    let protocol = broken_protocol e.announced head in
    let broken = broken_head_at e id fields in
    let size = (is_too_large (settings_known e.announced e.peer.settings) fields, refusal.TooLarge (section_size fields)) ∷ [] in
    let wrong = (not (is_for (other e.side) head), refusal.WrongSide) ∷ unless_malformed broken size in
    let after = asked (counted (appended (encoded e id fields) id (head_part head (written_section e.encoder id fields))) (fields_cost fields)) id fields in
    let allowed = not_closed e.closed _ (was_allowed (head_refusal e id head) e after sent) in
    let going = (sender_at e id).going in
    let there = passed (not (is_open e id)) refusal.NotOpen ((not (takes_head (outgoing_at e id)), refusal.OutOfOrder) ∷ unless_going going (unless_malformed protocol wrong)) allowed in
    let placed = not_early protocol wrong (not_going going (unless_malformed protocol wrong) (passed (not (takes_head (outgoing_at e id))) refusal.OutOfOrder (unless_going going (unless_malformed protocol wrong)) there)) in
    head_taken e.side e.announced peer (settings_known e.announced e.peer.settings) (known_of (stream_at e.incoming id)) fields strict.strict strict.knows
    (not_malformed broken size (passed (not (is_for (other e.side) head)) refusal.WrongSide (unless_malformed broken size) placed))

pub sends_well_formed_trailers : SendsWellFormedTrailers
sends_well_formed_trailers e peer id trailer strict sent =
    let fields = head_fields trailer in
    let protocol = broken_protocol e.announced trailer in
    let broken = broken_trailer e.announced fields in
    let size = (is_too_large (settings_known e.announced e.peer.settings) fields, refusal.TooLarge (section_size fields)) ∷ [] in
    let early = early_trailer (outgoing_at e id).content in
    let behind = unless_malformed broken size in
    let pseudo = (has_pseudo trailer, refusal.PseudoInTrailer) ∷ unless_malformed early behind in
    let after = counted (appended (encoded e id fields) id (OwnTrailer (written_section e.encoder id fields))) (fields_cost fields) in
    let allowed = not_closed e.closed _ (was_allowed (trailer_refusal e id trailer) e after sent) in
    let there = passed (not (is_open e id)) refusal.NotOpen ((not (takes_body (outgoing_at e id)), refusal.OutOfOrder) ∷ unless_malformed protocol pseudo) allowed in
    let placed = not_early protocol pseudo (passed (not (takes_body (outgoing_at e id))) refusal.OutOfOrder (unless_malformed protocol pseudo) there) in
    trailer_taken (other e.side) e.announced peer fields strict.strict
    (not_malformed broken size (not_early early behind (passed (has_pseudo trailer) refusal.PseudoInTrailer (unless_malformed early behind) placed)))
