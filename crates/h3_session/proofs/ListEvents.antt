-- Lists that are sent do what their events say.
use Rattle.std.proofs.Common.{◌≡◌, ℕ, Bool, true, false, List, [], ◌∷◌, if◌then◌else◌, Option, Some, None, refl, ap, sym, ◌∙◌}
use Rattle.std.specs.Prelude.{not, fold}
use Rattle.h3_field.specs.Field.{Field}
use Rattle.h3_header.specs.Head.{Head, trailer_head}
use Rattle.h3_header.specs.HeadRead.{HeadRead, HeadRefusal, IsHead, IsNone, head_by, head_of, head_of_any, read_from, refusal_at, unless_refused}
use Rattle.h3_header.specs.Reads.{head_of_fields, kind_of, with_field}
use Rattle.h3_header.specs.ReadTakenLaws.{heads_are_taken}
use Rattle.h3_connection.specs.Remembering.{settings_known}
use Rattle.h3_connection.specs.Endpoint.{EndpointHistory}
use Rattle.h3_connection.specs.Outgoing.{takes_head, takes_body}
use Rattle.h3_connection.specs.Refusals.{of_list, refusal_of_head, refusal_of_trailer, with_pseudo, wrong_side}
use Rattle.h3_connection.specs.Sending.{does, is_open, outgoing_at, sender_at, unless_closed, broken_head_at}
use Rattle.h3_connection.specs.StrictSending.{broken_trailer, early_trailer, unless_malformed}
use Rattle.h3_connection.specs.declared.event.Malformation.{Malformation}
use Rattle.h3_connection.specs.declared.event.Malformation.TheVariants as malformation
use Rattle.h3_connection.specs.declared.event.Refusal.{Refusal}
use Rattle.h3_world.specs.EndLists as events
use Rattle.h3_world.specs.Lists.{unread_by}
use Rattle.h3_session.specs.SendingLists.{after_head, after_trailer, send_fields, send_trailer_fields, send_read_head, send_read_trailer}
use Rattle.h3_session.proofs.ReadLists.{malformed_third}

passed : (o : Option HeadRefusal) (later : HeadRead) (h : Head) → unless_refused o later ≡ IsHead h → later ≡ IsHead h
passed None later h is = is
passed (Some why) later h is = absurd (cc)

-- What a list reads as is the header of its fields.
reads_as : (any : Bool) (start : Head) (fields : List Field) (h : Head) → read_from any start fields ≡ IsHead h → h ≡ fold with_field start fields
reads_as any start [] h is = let same : start ≡ h = cc in sym same
reads_as any start (f ∷ fields) h is =
    reads_as any (with_field start f) fields h (passed (refusal_at any (kind_of f.name) start f) (read_from any (with_field start f) fields) h is)

head_is : (any : Bool) (fields : List Field) (h : Head) → head_by any fields ≡ IsHead h → h ≡ head_of_fields fields
unfolding head_of head_of_any
head_is true fields h is = reads_as true (trailer_head []) fields h is
head_is false fields h is = reads_as false (trailer_head []) fields h is

module _ (e : EndpointHistory) (id : ℕ) (fields : List Field) where
  abbrev any : Bool
  any = e.announced.choices.extensions.any_protocol

  abbrev rule : Bool → Option Malformation
  rule taken = if taken then None else Some malformation.Value

  abbrev head_sent : Option Malformation → Head → Option Refusal × EndpointHistory
  head_sent protocol head =
      does (unless_closed e (refusal_of_head (sender_at e id) protocol (broken_head_at e id fields) head fields)) e (after_head e id head fields)

  read_head : (r : HeadRead) → head_by any fields ≡ r → send_read_head e id fields r ≡ head_sent (unread_by r) (head_of_fields fields)
  read_head (IsHead h) is = ap (λ b. head_sent (rule b) h) (heads_are_taken any fields h is) ∙ ap (head_sent None) (head_is any fields h is)
  read_head (IsNone why) is = sym (malformed_third why e.closed (not (is_open e id)) (not (takes_head (outgoing_at e id))) (sender_at e id).going (wrong_side e.side (head_of_fields fields) ∷ of_list (broken_head_at e id fields) (settings_known e.announced e.peer.settings) fields) e (after_head e id (head_of_fields fields) fields))

  pub fields_sent : send_fields e id fields ≡ events.send_fields e id fields
  fields_sent = read_head (head_by any fields) refl

  abbrev trailer_sent : Option Malformation → Head → Option Refusal × EndpointHistory
  trailer_sent protocol head =
      does (unless_closed e (refusal_of_trailer (sender_at e id) protocol (early_trailer (outgoing_at e id).content) (broken_trailer e.announced fields) head fields)) e (after_trailer e id fields)

  read_trailer : (r : HeadRead) → head_by any fields ≡ r → send_read_trailer e id fields r ≡ trailer_sent (unread_by r) (head_of_fields fields)
  read_trailer (IsHead h) is = ap (λ b. trailer_sent (rule b) h) (heads_are_taken any fields h is) ∙ ap (trailer_sent None) (head_is any fields h is)
  read_trailer (IsNone why) is = sym (malformed_third why e.closed (not (is_open e id)) (not (takes_body (outgoing_at e id))) None (with_pseudo (head_of_fields fields) ∷ unless_malformed (early_trailer (outgoing_at e id).content) (of_list (broken_trailer e.announced fields) (settings_known e.announced e.peer.settings) fields)) e (after_trailer e id fields))

  pub trailer_fields_sent : send_trailer_fields e id fields ≡ events.send_trailer_fields e id fields
  trailer_fields_sent = read_trailer (head_by any fields) refl
