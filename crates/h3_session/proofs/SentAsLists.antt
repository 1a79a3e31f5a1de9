-- A header goes out as the list of its fields does: where memory is refused for that, no rule is told that a header is asked before.
use Rattle.std.proofs.Common.{◌≡◌, ℕ, Bool, true, false, if◌then◌else◌, List, [], ◌∷◌, Option, Some, None, Err, refl, ap, sym, subst, ◌∙◌}
use Rattle.std.specs.Prelude.{not, option_map, unwrap_or}
use Rattle.h3_field.specs.Field.{Field, section_size}
use Rattle.h3_header.specs.Head.{Head, head_fields}
use Rattle.h3_messages.specs.Content.{may_end, takes_trailer}
use Rattle.h3_connection.specs.Endpoint.{EndpointHistory}
use Rattle.h3_connection.specs.Refusals.{first_of, is_too_large, or_later, unless_going}
use Rattle.h3_connection.specs.Remembering.{settings_known}
use Rattle.h3_connection.specs.Sending.{closed_or, does, send_head, send_trailer}
use Rattle.h3_connection.specs.SendingContracts.{MayLackMemory, SendsSection}
use Rattle.h3_connection.specs.State.{EndpointState, StandsFor, kept_at}
use Rattle.h3_connection.specs.StrictSending.{broken_trailer, unless_malformed}
use Rattle.h3_connection.specs.declared.event.Malformation.{Malformation}
use Rattle.h3_connection.specs.declared.event.Malformation.TheVariants as malformation
use Rattle.h3_connection.specs.declared.event.Refusal.{Refusal}
use Rattle.h3_connection.specs.declared.event.Refusal.TheVariants as refusal
use Rattle.h3_connection.specs.declared.setup.Announced.{Announced}
use Rattle.h3_messages.specs.declared.section.Section.{Section}
use Rattle.h3_messages.specs.declared.section.Section.TheVariants.{Trailer}
use Rattle.h3_proto.specs.declared.stream.Side.{Side}
use Rattle.h3_session.proofs.JudgedPlaces.{pseudo_is, side_is}
use Rattle.h3_session.specs.JudgedLists.{head_section, header_refused}
use Rattle.h3_requests.specs.Refused.{body_refused_at, early_trailer_at, outgoing_in, seen_in}
use Rattle.h3_session.proofs.Lists.{alike}
use Rattle.h3_session.proofs.SendingHeads.{all_here, trailer_unreserved}
use Rattle.h3_session.proofs.SendingRefusals.{head_refusal_is, trailer_refusal_is}
use Rattle.h3_session.specs.Refused.{broken_head_in, head_refused_in, list_refused, own_head_refused, own_trailer_refused, protocol_refused, sender_on}
use Rattle.h3_session.specs.SendingLists.{MayLackMap, SendsList, SendsListedTrailer, after_head, after_trailer, listed_head_refusal, listed_trailer_refusal, refusal_after, send_fields, send_trailer_fields}

-- behind the rules of a stream those of a list alone are left
abbrev Lacks : Option Refusal → EndpointHistory → EndpointHistory → Type 0
Lacks o e f = MayLackMap (does o e f).0 → MayLackMemory (does o e f).0

head_lacks : (e f : EndpointHistory) (a b : Bool) (going : Option ℕ) (broken : Option Malformation) (large : Bool) (size : ℕ)
    → Lacks (or_later (or_later (or_later (first_of ((a, refusal.NotOpen) ∷ (b, refusal.OutOfOrder) ∷ [])) (first_of (unless_going going []))) None)
    (first_of (unless_malformed broken ((large, refusal.TooLarge size) ∷ [])))) e f
head_lacks e f true b going broken large size = λ may. may
head_lacks e f false true going broken large size = λ may. may
head_lacks e f false false (Some id) broken large size = λ may. may
head_lacks e f false false None (Some why) large size = λ may. may
head_lacks e f false false None None true size = λ may. may
head_lacks e f false false None None false size = λ may. may

trailer_lacks : (e f : EndpointHistory) (a b takes ends : Bool) (broken : Option Malformation) (large : Bool) (size : ℕ)
    → Lacks (or_later (or_later (first_of ((a, refusal.NotOpen) ∷ (b, refusal.OutOfOrder) ∷ []))
    (or_later None (option_map refusal.Malformed (if takes then (if ends then None else Some malformation.ContentLength) else Some malformation.Connect))))
    (first_of (unless_malformed broken ((large, refusal.TooLarge size) ∷ [])))) e f
trailer_lacks e f true b takes ends broken large size = λ may. may
trailer_lacks e f false true takes ends broken large size = λ may. may
trailer_lacks e f false false false ends broken large size = λ may. may
trailer_lacks e f false false true false broken large size = λ may. may
trailer_lacks e f false false true true (Some why) large size = λ may. may
trailer_lacks e f false false true true None true size = λ may. may
trailer_lacks e f false false true true None false size = λ may. may

-- why a header is no head of a side, and no trailer
pub own_head_is : (own : Announced) (side : Side) (h : Head) (section : Section) (told : Option Refusal) → told ≡ header_refused own section h → section ≡ head_section side
    → told ≡ own_head_refused own side h
own_head_is own side h section told is at = is ∙ ap (λ of. header_refused own of h) at ∙ ap (or_later (protocol_refused own h)) (side_is side h)

pub own_trailer_is : (own : Announced) (h : Head) (told : Option Refusal) → told ≡ header_refused own Trailer h → told ≡ own_trailer_refused own h
own_trailer_is own h told is = is ∙ ap (or_later (protocol_refused own h)) (pseudo_is h)

module _ (s : EndpointState) (id : ℕ) (h : Head) where
  abbrev fields : List Field
  fields = head_fields h

  head_rules : (e : EndpointHistory) → StandsFor s e → s.closed ≡ None → own_head_refused s.announced s.side h ≡ None
      → Lacks (listed_head_refusal e id h fields) e (after_head e id h fields)
  head_rules e stands closed sent =
      let v = seen_in (kept_at s.requests id) in
      let rules = list_refused (broken_head_in s id fields) (settings_known s.announced s.peer.settings) fields in
      let is = sym (head_refusal_is s e id h fields stands)
      ∙ ap (λ c. or_later (closed_or c (or_later (head_refused_in s id) (own_head_refused s.announced s.side h))) rules) closed
      ∙ ap (λ o. or_later (or_later (head_refused_in s id) o) rules) sent in
      subst (λ o. Lacks o e (after_head e id h fields)) (sym is)
      (head_lacks e (after_head e id h fields) (not v.is_open) (not v.takes_head) (sender_on s id).going (broken_head_in s id fields) (is_too_large (settings_known s.announced s.peer.settings) fields) (section_size fields))

  pub head_by_list : (new : EndpointState) (told : Option Refusal) → s.closed ≡ None → own_head_refused s.announced s.side h ≡ None
      → ((e : EndpointHistory) (id : ℕ) → send_fields e id fields ≡ send_head e id h)
      → SendsList (λ e. send_fields e id fields) s new id fields told → SendsSection (λ e. send_head e id h) s new id fields told
  head_by_list new told closed sent same list =
      let here = alike (λ e. send_fields e id fields) (λ e. send_head e id h) s new id fields told (λ e stands. same e id) list in
      record {
        done = here.done;
        same = here.same;
        memory = λ e stands memory. let lacks = here.memory e stands memory in (head_rules e stands closed sent lacks.0, lacks.1);
        too_large = here.refused;
      }

  trailer_rules : (e : EndpointHistory) → StandsFor s e → s.closed ≡ None → own_trailer_refused s.announced h ≡ None
      → Lacks (listed_trailer_refusal e id h fields) e (after_trailer e id fields)
  trailer_rules e stands closed sent =
      let v = seen_in (kept_at s.requests id) in
      let content = (outgoing_in (kept_at s.requests id)).content in
      let early = early_trailer_at (kept_at s.requests id) in
      let rules = list_refused (broken_trailer s.announced fields) (settings_known s.announced s.peer.settings) fields in
      let is = sym (trailer_refusal_is s e id h fields stands)
      ∙ ap (λ c. or_later (closed_or c (or_later (body_refused_at (kept_at s.requests id)) (or_later (own_trailer_refused s.announced h) early))) rules) closed
      ∙ ap (λ o. or_later (or_later (body_refused_at (kept_at s.requests id)) (or_later o early)) rules) sent in
      subst (λ o. Lacks o e (after_trailer e id fields)) (sym is)
      (trailer_lacks e (after_trailer e id fields) (not v.is_open) (not v.takes_body) (takes_trailer content) (may_end content) (broken_trailer s.announced fields) (is_too_large (settings_known s.announced s.peer.settings) fields) (section_size fields))

  pub trailer_by_list : (new : EndpointState) (told : Option Refusal) → s.closed ≡ None → own_trailer_refused s.announced h ≡ None
      → ((e : EndpointHistory) (id : ℕ) → send_trailer_fields e id fields ≡ send_trailer e id h)
      → SendsList (λ e. send_trailer_fields e id fields) s new id fields told → SendsSection (λ e. send_trailer e id h) s new id fields told
  trailer_by_list new told closed sent same list =
      let here = alike (λ e. send_trailer_fields e id fields) (λ e. send_trailer e id h) s new id fields told (λ e stands. same e id) list in
      record {
        done = here.done;
        same = here.same;
        memory = λ e stands memory. let lacks = here.memory e stands memory in (trailer_rules e stands closed sent lacks.0, lacks.1);
        too_large = here.refused;
      }

  -- a trailer that was refused before its list was made: the stream's own refusal comes first
  trailer_after : (first early : Option Refusal) (later : Refusal) → refusal_after first later ≡ unwrap_or (or_later first (or_later (Some later) early)) refusal.OutOfMemory
  trailer_after (Some r) early later = refl
  trailer_after None early later = refl

  pub trailer_refused_first : (later r : Refusal) → s.closed ≡ None → Some later ≡ own_trailer_refused s.announced h → r ≡ refusal_after (body_refused_at (kept_at s.requests id)) later
      → SendsListedTrailer s s id h fields (Err r)
  trailer_refused_first later r closed is told =
      trailer_unreserved s s id h fields (Some later) r closed is refl (all_here s.requests)
      (told ∙ trailer_after (body_refused_at (kept_at s.requests id)) (early_trailer_at (kept_at s.requests id)) later)
