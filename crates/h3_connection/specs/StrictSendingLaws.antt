-- What an endpoint that asks for strict messages sends, a peer that asks for them takes.
use Rattle.std.proofs.Common.{◌≡◌, ℕ, Bool, true, false, List, [], ◌∷◌, Option, Some, None, refl, ap}
use Rattle.std.specs.Prelude.{not, ◌&&◌, ◌||◌, codes, option_map, if◌then◌else◌}
use Rattle.std.specs.List.{list_any}
use Rattle.h3_field.specs.Field.{Field}
use Rattle.h3_messages.specs.Messages.{first_broken, violation_of_request, violation_of_response, violation_of_trailer, holds, pseudo_first, only_pseudo_of, request_names, repeats_pseudo, has_connection_field, is_te_wrong, is_length_wrong, is_protocol_wrong, is_connect, is_connect_wrong, misses_pseudo, is_scheme_wrong, is_authority_wrong, is_path_wrong, has_space_around}
use Rattle.h3_messages.specs.OwnMessageLaws.{own_request_unbroken, own_response_unbroken, own_trailer_unbroken, own_answer_unbroken}
use Rattle.h3_messages.specs.OwnMessages.{violation_of_own_request, violation_of_own_trailer, violation_of_own_answer}
use Rattle.h3_messages.specs.declared.violation.Violation.{Violation}
use Rattle.h3_messages.specs.declared.violation.Violation.TheVariants.{PseudoOrder, RepeatedPseudo, WrongPseudo, MissingPseudo, ConnectionField, Protocol, Connect, Scheme, Authority, Path, ContentLength, Value}
use Rattle.h3_proto.specs.declared.stream.Side.{Side}
use Rattle.h3_proto.specs.declared.stream.Side.TheVariants.{Client, Server}
use Rattle.h3_connection.specs.Announcing.{connects}
use Rattle.h3_connection.specs.OwnIds.{other}
use Rattle.h3_connection.specs.Refusals.{first_of, unless_going}
use Rattle.h3_connection.specs.Sending.{closed_or, does}
use Rattle.h3_connection.specs.Endpoint.{EndpointHistory}
use Rattle.h3_connection.specs.StrictMessages.{broken_rule, malformation_by}
use Rattle.h3_connection.specs.StrictSending.{broken_head, broken_trailer, peer_connects, unless_malformed}
use Rattle.h3_connection.specs.declared.event.Malformation.{Malformation}
use Rattle.h3_connection.specs.declared.event.Malformation.TheVariants as malformation
use Rattle.h3_connection.specs.declared.event.Refusal.{Refusal}
use Rattle.h3_connection.specs.declared.place.Place.TheVariants.{BeforeHead, InBody}
use Rattle.h3_connection.specs.declared.setup.Announced.{Announced}
use Rattle.h3_messages.specs.declared.content.Content.{Content}

-- Where no rule of a list is broken, none is where one of them is broken less often.
fewer : (b c : Bool) (v : Violation) (rules : List (Bool × Violation)) → (c ≡ true → b ≡ true) → first_broken ((b, v) ∷ rules) ≡ None → first_broken ((c, v) ∷ rules) ≡ None
fewer true c v rules more e = absurd (cc)
fewer false false v rules more e = e
fewer false true v rules more e = absurd (let never : false ≡ true = more refl in cc)

less_wrong : (h k : Bool) → (h && not (true && k)) ≡ true → (h && not (false && k)) ≡ true
less_wrong true k is = refl
less_wrong false k is = is

-- the same behind the rules that stand in front of that of :protocol
fewer_behind : (a b c d e p q : Bool) (later : List (Bool × Violation)) → (q ≡ true → p ≡ true)
    → first_broken ((a, PseudoOrder) ∷ (b, WrongPseudo) ∷ (c, RepeatedPseudo) ∷ (d, ConnectionField) ∷ (e, ContentLength) ∷ (p, Protocol) ∷ later) ≡ None
    → first_broken ((a, PseudoOrder) ∷ (b, WrongPseudo) ∷ (c, RepeatedPseudo) ∷ (d, ConnectionField) ∷ (e, ContentLength) ∷ (q, Protocol) ∷ later) ≡ None
fewer_behind true b c d e p q later more is = absurd (cc)
fewer_behind false true c d e p q later more is = absurd (cc)
fewer_behind false false true d e p q later more is = absurd (cc)
fewer_behind false false false true e p q later more is = absurd (cc)
fewer_behind false false false false true p q later more is = absurd (cc)
fewer_behind false false false false false p q later more is = fewer p q Protocol later more is

-- a request that breaks no rule where extended CONNECT was not announced breaks none where it was
connects_more : (fields : List Field) → violation_of_request false fields ≡ None → violation_of_request true fields ≡ None
unfolding violation_of_request
connects_more fields is =
    let later : List (Bool × Violation) =
    (is_connect_wrong fields, Connect) ∷
    (misses_pseudo fields, MissingPseudo) ∷
    (is_scheme_wrong fields, Scheme) ∷
    (is_authority_wrong fields, Authority) ∷
    (is_path_wrong fields, Path) ∷
    (list_any has_space_around fields, Value) ∷ [] in
    fewer_behind (not (pseudo_first fields)) (not (only_pseudo_of request_names fields)) (repeats_pseudo fields) (has_connection_field fields || is_te_wrong fields) (is_length_wrong fields)
    (is_protocol_wrong false fields) (is_protocol_wrong true fields) later (less_wrong (holds (codes ":protocol") fields) (is_connect fields)) is

request_taken : (known announced : Bool) (fields : List Field) → (known ≡ true → announced ≡ true) → violation_of_request known fields ≡ None → violation_of_request announced fields ≡ None
request_taken true true fields h e = e
request_taken false false fields h e = e
request_taken false true fields h e = connects_more fields e
request_taken true false fields h e = absurd (let never : false ≡ true = h refl in cc)

no_violation : (v : Option Violation) → option_map malformation_by v ≡ None → v ≡ None
no_violation None e = refl
no_violation (Some v) e = absurd (cc)

no_rule : (strict : Bool) (v : Option Violation) → v ≡ None → (let rule : Option Malformation = if strict then option_map malformation_by v else None in rule) ≡ None
no_rule true v e = ap (option_map malformation_by) e
no_rule false v e = refl

told : (strict : Bool) (v : Option Violation) → strict ≡ true → (let rule : Option Malformation = if strict then option_map malformation_by v else None in rule) ≡ None → v ≡ None
told true v is e = no_violation v e
told false v is e = absurd (cc)

-- the head of a message that breaks no rule for its sender breaks none for a peer that announced what the sender knows of it
pub head_taken : (side : Side) (own peer : Announced) (settings : Option (List (ℕ × ℕ))) (known : Option Content) (fields : List Field) → own.choices.strict_messages ≡ true
    → (peer_connects settings ≡ true → connects peer ≡ true) → broken_head side own settings known fields ≡ None → broken_rule (other side) peer BeforeHead fields ≡ None
head_taken Client own peer settings known fields strict knows e =
    no_rule peer.choices.strict_messages (violation_of_request (connects peer) fields)
    (request_taken (peer_connects settings) (connects peer) fields knows
    (own_request_unbroken (peer_connects settings) fields (told own.choices.strict_messages (violation_of_own_request (peer_connects settings) fields) strict e)))
head_taken Server own peer settings known fields strict knows e =
    no_rule peer.choices.strict_messages (violation_of_response fields)
    (own_response_unbroken fields (own_answer_unbroken known fields (told own.choices.strict_messages (violation_of_own_answer known fields) strict e)))

pub trailer_taken : (reader : Side) (own peer : Announced) (fields : List Field) → own.choices.strict_messages ≡ true → broken_trailer own fields ≡ None → broken_rule reader peer InBody fields ≡ None
trailer_taken reader own peer fields strict e =
    no_rule peer.choices.strict_messages (violation_of_trailer fields) (own_trailer_unbroken fields (told own.choices.strict_messages (violation_of_own_trailer fields) strict e))

-- A call that its rules do not refuse.
pub not_closed : (closed : Option ℕ) (o : Option Refusal) → closed_or closed o ≡ None → o ≡ None
not_closed None o e = e
not_closed (Some code) o e = absurd (cc)

pub passed : (b : Bool) (r : Refusal) (rules : List (Bool × Refusal)) → first_of ((b, r) ∷ rules) ≡ None → first_of rules ≡ None
passed true r rules e = absurd (cc)
passed false r rules e = e

pub not_malformed : (broken : Option Malformation) (later : List (Bool × Refusal)) → first_of (unless_malformed broken later) ≡ None → broken ≡ None
not_malformed None later e = refl
not_malformed (Some why) later e = absurd (cc)

pub not_early : (early : Option Malformation) (later : List (Bool × Refusal)) → first_of (unless_malformed early later) ≡ None → first_of later ≡ None
not_early None later e = e
not_early (Some why) later e = absurd (cc)

pub not_going : (going : Option ℕ) (later : List (Bool × Refusal)) → first_of (unless_going going later) ≡ None → first_of later ≡ None
not_going None later e = e
not_going (Some id) later e = absurd (cc)

pub was_allowed : (rule : Option Refusal) (old new : EndpointHistory) → (does rule old new).0 ≡ None → rule ≡ None
was_allowed None old new e = refl
was_allowed (Some r) old new e = absurd (cc)
