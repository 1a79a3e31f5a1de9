-- The list of a head reads as that head, but for what its list does not tell, which is not asked where it is sent.
use Rattle.std.proofs.Common.{◌≡◌, ℕ, Bool, true, false, List, [], ◌∷◌, Option, Some, None, if◌then◌else◌, refl, ap, sym, ◌∙◌}
use Rattle.std.specs.Prelude.{not}
use Rattle.h3_field.specs.Field.{Field, section_size}
use Rattle.h3_header.specs.Head.{Head, head_fields, has_pseudo}
use Rattle.h3_header.specs.HeadRead.{HeadRefusal, IsHead, IsNone, Value, head_by, head_of}
use Rattle.h3_header.specs.HeadTests.{takes_protocol}
use Rattle.h3_header.specs.ReadLaws.{same_has_pseudo}
use Rattle.h3_header.specs.Reads.{IsHeadOf, head_of_fields}
use Rattle.h3_header.specs.ReadsBack.{ReadsBackBy, as_read}
use Rattle.h3_proto.specs.declared.stream.Side.{Side}
use Rattle.h3_proto.specs.declared.stream.Side.TheVariants.{Client, Server}
use Rattle.h3_connection.specs.Endpoint.{EndpointHistory}
use Rattle.h3_connection.specs.Remembering.{settings_known}
use Rattle.h3_connection.specs.Outgoing.{takes_head, takes_body}
use Rattle.h3_connection.specs.OwnIds.{other}
use Rattle.h3_connection.specs.Pulling.{is_for}
use Rattle.h3_connection.specs.Refusals.{first_of, is_too_large, unless_going}
use Rattle.h3_connection.specs.Sending.{does, closed_or, unless_closed, is_open, outgoing_at, send_head, send_trailer, sender_at, broken_head_at}
use Rattle.h3_connection.specs.StrictSending.{broken_protocol, broken_trailer, early_trailer, unless_malformed}
use Rattle.h3_connection.specs.declared.event.Malformation.{Malformation}
use Rattle.h3_connection.specs.declared.event.Malformation.TheVariants as malformation
use Rattle.h3_connection.specs.declared.event.Refusal.{Refusal}
use Rattle.h3_connection.specs.declared.event.Refusal.TheVariants as refusal
use Rattle.h3_session.specs.SendingLists.{refusal_after, malformed, after_head, after_trailer, send_fields, send_trailer_fields, send_read_head, send_read_trailer}

same_for : (side : Side) (h : Head) → is_for side (as_read h) ≡ is_for side h
same_for Client h = refl
same_for Server h = refl

-- what is said of the header whose list it is
abbrev ReadsAsTaken : Head → Type 0
ReadsAsTaken h = (any : Bool) → takes_protocol any h.protocol ≡ true → ReadsBackBy any (head_fields h)

abbrev ReadsByValue : Type 0
ReadsByValue = (any : Bool) (fields : List Field) (k : Head) → IsHeadOf any fields k → head_by any fields ≡ IsHead k

list_reads : (h : Head) (any : Bool) → ReadsAsTaken h → head_of_fields (head_fields h) ≡ as_read h → ReadsByValue → takes_protocol any h.protocol ≡ true
    → head_by any (head_fields h) ≡ IsHead (as_read h)
list_reads h any back read law taken = law any (head_fields h) (as_read h) ((back any taken).0, sym read)

-- the list of a header whose protocol is not taken is malformed
list_malformed : (h : Head) (any : Bool) → takes_protocol true h.protocol ≡ true → (takes_protocol false h.protocol ≡ false → head_of (head_fields h) ≡ IsNone Value) → takes_protocol any h.protocol ≡ false
    → head_by any (head_fields h) ≡ IsNone Value
list_malformed h true token untaken not_taken = absurd (let never : true ≡ false = sym token ∙ not_taken in cc)
list_malformed h false token untaken not_taken = untaken not_taken

-- and so is the header, behind what the stream takes and the GOAWAY that comes before
pub malformed_third : (why : HeadRefusal) (closed : Option ℕ) (a b : Bool) (going : Option ℕ) (rules : List (Bool × Refusal)) (e new : EndpointHistory)
    → does (closed_or closed (first_of ((a, refusal.NotOpen) ∷ (b, refusal.OutOfOrder) ∷ unless_going going ((true, malformed why) ∷ rules)))) e new
    ≡ (Some (refusal_after (closed_or closed (first_of ((a, refusal.NotOpen) ∷ (b, refusal.OutOfOrder) ∷ unless_going going []))) (malformed why)), e)
malformed_third why (Some code) a b going rules e new = refl
malformed_third why None true b going rules e new = refl
malformed_third why None false true going rules e new = refl
malformed_third why None false false None rules e new = refl
malformed_third why None false false (Some id) rules e new = refl

module _ (h : Head) (back : ReadsAsTaken h) (token : takes_protocol true h.protocol ≡ true) (untaken : takes_protocol false h.protocol ≡ false → head_of (head_fields h) ≡ IsNone Value) (read : head_of_fields (head_fields h) ≡ as_read h) (law : ReadsByValue) (e : EndpointHistory) (id : ℕ) where
  abbrev fields : List Field
  fields = head_fields h

  abbrev any : Bool
  any = e.announced.choices.extensions.any_protocol

  abbrev rule : Bool → Option Malformation
  rule taken = if taken then None else Some malformation.Value

  abbrev sides : Bool → List (Bool × Refusal)
  sides b = (not b, refusal.WrongSide) ∷ unless_malformed (broken_head_at e id fields) ((is_too_large (settings_known e.announced e.peer.settings) fields, refusal.TooLarge (section_size fields)) ∷ [])

  abbrev head_sent : Option Malformation → Bool → Option Refusal × EndpointHistory
  head_sent protocol b =
      does (unless_closed e (first_of (
      (not (is_open e id), refusal.NotOpen) ∷ (not (takes_head (outgoing_at e id)), refusal.OutOfOrder) ∷ unless_going (sender_at e id).going (unless_malformed protocol (sides b))))) e (after_head e id h fields)

  pub head_as_list : send_fields e id fields ≡ send_head e id h
  head_as_list = by (takes_protocol any h.protocol) refl
    where
      by : (taken : Bool) → takes_protocol any h.protocol ≡ taken → send_fields e id fields ≡ send_head e id h
      by true is =
          ap (send_read_head e id fields) (list_reads h any back read law is) ∙ ap (head_sent (broken_protocol e.announced h)) (same_for (other e.side) h)
      by false is =
          ap (send_read_head e id fields) (list_malformed h any token untaken is)
          ∙ sym (ap (λ t. head_sent (rule t) (is_for (other e.side) h)) is
          ∙ malformed_third Value e.closed (not (is_open e id)) (not (takes_head (outgoing_at e id))) (sender_at e id).going (sides (is_for (other e.side) h)) e (after_head e id h fields))

  abbrev pseudo : Bool → List (Bool × Refusal)
  pseudo b =
      (b, refusal.PseudoInTrailer) ∷
      unless_malformed (early_trailer (outgoing_at e id).content) (unless_malformed (broken_trailer e.announced fields) ((is_too_large (settings_known e.announced e.peer.settings) fields, refusal.TooLarge (section_size fields)) ∷ []))

  abbrev trailer_sent : Option Malformation → Bool → Option Refusal × EndpointHistory
  trailer_sent protocol b =
      does (unless_closed e (first_of (
      (not (is_open e id), refusal.NotOpen) ∷ (not (takes_body (outgoing_at e id)), refusal.OutOfOrder) ∷ unless_malformed protocol (pseudo b)))) e (after_trailer e id fields)

  pub trailer_as_list : send_trailer_fields e id fields ≡ send_trailer e id h
  trailer_as_list = by (takes_protocol any h.protocol) refl
    where
      by : (taken : Bool) → takes_protocol any h.protocol ≡ taken → send_trailer_fields e id fields ≡ send_trailer e id h
      by true is =
          ap (send_read_trailer e id fields) (list_reads h any back read law is) ∙ ap (trailer_sent (broken_protocol e.announced h)) (same_has_pseudo h)
      by false is =
          ap (send_read_trailer e id fields) (list_malformed h any token untaken is)
          ∙ sym (ap (λ t. trailer_sent (rule t) (has_pseudo h)) is
          ∙ malformed_third Value e.closed (not (is_open e id)) (not (takes_body (outgoing_at e id))) None (pseudo (has_pseudo h)) e (after_trailer e id fields))
