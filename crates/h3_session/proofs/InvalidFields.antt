-- A list that is refused for a name or a value has the field that is told of it.
use Rattle.std.proofs.Common.{◌≡◌, ℕ, Bool, true, false, if◌then◌else◌, List, [], ◌∷◌, Option, Some, None, refl, ap, sym, subst, inl, inr}
use Rattle.std.specs.Prelude.{◌≢◌, not, option_map, unwrap_or}
use Rattle.h3_field.specs.Field.{Field, section_size}
use Rattle.h3_header.specs.Head.{Head, has_pseudo}
use Rattle.h3_header.specs.HeadRead.{HeadRead, HeadRefusal, IsHead, IsNone, Name, Value, TooMany, head_by}
use Rattle.h3_header.specs.declared.headers.judge.BadPart.TheVariants as part
use Rattle.h3_messages.specs.Content.{may_end, takes_trailer}
use Rattle.h3_messages.specs.InvalidField.{HasSpacedValue}
use Rattle.h3_messages.specs.InvalidFieldLaws.{invalid_of_refused, spaced_of_request, spaced_of_response, spaced_of_trailer}
use Rattle.h3_messages.specs.declared.violation.Violation.{Violation}
use Rattle.h3_messages.specs.declared.violation.Violation.TheVariants as violation
use Rattle.h3_proto.specs.declared.config.Choices.{Choices}
use Rattle.h3_proto.specs.declared.stream.Side.{Side}
use Rattle.h3_proto.specs.declared.stream.Side.TheVariants.{Client, Server}
use Rattle.h3_connection.specs.Calls.{IsSame}
use Rattle.h3_connection.specs.Remembering.{settings_known}
use Rattle.h3_connection.specs.Endpoint.{EndpointHistory}
use Rattle.h3_connection.specs.OwnIds.{other}
use Rattle.h3_connection.specs.Pulling.{is_for, is_interim}
use Rattle.h3_connection.specs.Refusals.{first_of, is_too_large, or_later, unless_going}
use Rattle.h3_connection.specs.State.{EndpointState, RequestState, kept_at}
use Rattle.h3_connection.specs.StrictMessages.{malformation_by}
use Rattle.h3_connection.specs.StrictSending.{peer_connects, unless_malformed, violation_of_own_head}
use Rattle.h3_connection.specs.declared.event.Malformation.{Malformation}
use Rattle.h3_connection.specs.declared.event.Malformation.TheVariants as malformation
use Rattle.h3_connection.specs.declared.event.Refusal.{Refusal}
use Rattle.h3_connection.specs.declared.event.Refusal.TheVariants as refusal
use Rattle.h3_connection.specs.declared.place.SendPlace.{SendPlace}
use Rattle.h3_connection.specs.declared.place.SendPlace.TheVariants.{NothingSent, HeadSent, TrailerSent}
use Rattle.h3_connection.specs.declared.setup.Announced.{Announced}
use Rattle.h3_requests.specs.Refused.{body_refused_at, early_trailer_at, outgoing_in, seen_in, known_in}
use Rattle.h3_session.proofs.Remembering.{before_trailer}
use Rattle.h3_session.specs.InvalidFields.{NamesField}
use Rattle.h3_session.specs.JudgedLists.{head_list_refusal, trailer_list_refusal, IsHeadAt, IsTrailer}
use Rattle.h3_session.specs.Refused.{broken_behind, head_refused_in, refused_behind, sender_on, violation_behind}
use Rattle.h3_session.specs.SendingFields.{SendsFields}
use Rattle.h3_session.specs.SendingLists.{IsJudgedOr, malformed, refusal_after}

-- A list that reads as none has its field by what refuses it,
module _ (choices : Choices) (fields : List Field) where
  names_read : (why : HeadRefusal) → head_by choices.extensions.any_protocol fields ≡ IsNone why → NamesField (Some (malformed why)) choices fields
  names_read Name is = invalid_of_refused choices.extensions.any_protocol choices.strict_messages fields part.Name is
  names_read Value is = inl (invalid_of_refused choices.extensions.any_protocol choices.strict_messages fields part.Value is)
  names_read TooMany is = tt

  abbrev Names : Refusal → Type 0
  Names r = NamesField (Some r) choices fields

  by_rule : (b : Bool) (p later : Refusal) → first_of ((b, p) ∷ []) ≡ Some later → Names p → Names later
  by_rule true p later is names = let same : p ≡ later = cc in subst Names same names
  by_rule false p later is names = absurd (cc)

  names_head : (side : Side) (r : HeadRead) (later : Refusal) → head_by choices.extensions.any_protocol fields ≡ r → head_list_refusal side r ≡ Some later → Names later
  names_head side (IsHead head) later reads is = by_rule (not (is_for (other side) head)) refusal.WrongSide later is tt
  names_head side (IsNone why) later reads is = let same : malformed why ≡ later = cc in subst Names same (names_read why reads)

  names_trailer : (r : HeadRead) (later : Refusal) → head_by choices.extensions.any_protocol fields ≡ r → trailer_list_refusal r ≡ Some later → Names later
  names_trailer (IsHead trailer) later reads is = by_rule (has_pseudo trailer) refusal.PseudoInTrailer later is tt
  names_trailer (IsNone why) later reads is = let same : malformed why ≡ later = cc in subst Names same (names_read why reads)

  -- unless memory is told of
  unless_memory : (later : Refusal) → (later ≢ refusal.OutOfMemory → Names later) → Names later
  unless_memory refusal.OutOfMemory names = tt
  unless_memory later names = names (λ same. absurd (cc))

  -- behind the refusal of its stream
  behind_stream : (a b : Bool) (later : Refusal) → Names later → Names (refusal_after (first_of ((a, refusal.NotOpen) ∷ (b, refusal.OutOfOrder) ∷ [])) later)
  behind_stream true b later names = tt
  behind_stream false true later names = tt
  behind_stream false false later names = names

  -- and behind the peer's GOAWAY
  behind_going : (a b : Bool) (going : Option ℕ) (later : Refusal) → Names later
      → Names (refusal_after (or_later (first_of ((a, refusal.NotOpen) ∷ (b, refusal.OutOfOrder) ∷ [])) (first_of (unless_going going []))) later)
  behind_going true b going later names = tt
  behind_going false true going later names = tt
  behind_going false false (Some id) later names = tt
  behind_going false false None later names = names

  pub head_names : (s : EndpointState) (id : ℕ) (later told : Refusal) → (later ≢ refusal.OutOfMemory → head_list_refusal s.side (head_by choices.extensions.any_protocol fields) ≡ Some later)
      → told ≡ refusal_after (head_refused_in s id) later → Names told
  head_names s id later told errs is =
      let v = seen_in (kept_at s.requests id) in
      subst Names (sym is) (behind_going (not v.is_open) (not v.takes_head) (sender_on s id).going later
      (unless_memory later (λ differs. names_head s.side (head_by choices.extensions.any_protocol fields) later refl (errs differs))))

  pub trailer_names : (there : Option RequestState) (later told : Refusal) → (later ≢ refusal.OutOfMemory → trailer_list_refusal (head_by choices.extensions.any_protocol fields) ≡ Some later)
      → told ≡ refusal_after (body_refused_at there) later → Names told
  trailer_names there later told errs is =
      let v = seen_in there in
      subst Names (sym is) (behind_stream (not v.is_open) (not v.takes_body) later
      (unless_memory later (λ differs. names_trailer (head_by choices.extensions.any_protocol fields) later refl (errs differs))))

-- and one that reads as a head by the rule that it breaks.
abbrev TellsBroken : Option Refusal → SendPlace → EndpointState → ℕ → List Field → Type 0
TellsBroken (Some (refusal.Malformed malformation.Name)) place s id fields = broken_behind place s id fields ≡ Some malformation.Name
TellsBroken (Some (refusal.Malformed malformation.Value)) place s id fields = broken_behind place s id fields ≡ Some malformation.Value
TellsBroken _ place s id fields = Unit {0}

by_list : (broken : Option Malformation) (b : Bool) (size : ℕ) (why : Malformation) → first_of (unless_malformed broken ((b, refusal.TooLarge size) ∷ [])) ≡ Some (refusal.Malformed why) → broken ≡ Some why
by_list (Some w) b size why is = let same : w ≡ why = cc in ap Some same
by_list None true size why is = absurd (cc)
by_list None false size why is = absurd (cc)

rule_by : (strict : Bool) (v : Option Violation) (why : Malformation) → (if strict then option_map malformation_by v else None) ≡ Some why → (strict ≡ true) × (option_map malformation_by v ≡ Some why)
rule_by true v why is = (refl, is)
rule_by false v why is = absurd (cc)

value_by : (v : Option Violation) → option_map malformation_by v ≡ Some malformation.Value → v ≡ Some violation.Value
value_by None is = absurd (cc)
value_by (Some violation.Value) is = refl
value_by (Some _) is = absurd (cc)

no_name : (v : Option Violation) → option_map malformation_by v ≡ Some malformation.Name → ⊥
no_name None is = absurd (cc)
no_name (Some violation.Value) is = absurd (cc)
no_name (Some _) is = absurd (cc)

-- a refusal that names no field
abbrev NamesNone : Refusal → Type 0
NamesNone (refusal.Malformed malformation.Name) = ⊥
NamesNone (refusal.Malformed malformation.Value) = ⊥
NamesNone _ = Unit {0}

module _ (s : EndpointState) (id : ℕ) (fields : List Field) where
  abbrev any : Bool
  any = s.announced.choices.extensions.any_protocol

  module _ (head : Head) (reads : head_by any fields ≡ IsHead head) where
    spaced_head : (side : Side) → violation_of_own_head side (settings_known s.announced s.peer.settings) (known_in (kept_at s.requests id)) fields ≡ Some violation.Value → HasSpacedValue any true fields
    spaced_head Client is = spaced_of_request any fields head reads (peer_connects (settings_known s.announced s.peer.settings)) is
    spaced_head Server is = spaced_of_response any fields head reads (known_in (kept_at s.requests id)) is

    spaced : (place : SendPlace) → violation_behind place s id fields ≡ Some violation.Value → HasSpacedValue any true fields
    spaced TrailerSent is = spaced_of_trailer any fields head reads is
    spaced HeadSent is = spaced_head s.side is
    spaced NothingSent is = spaced_head s.side is

    names_broken : (o : Option Refusal) (place : SendPlace) → TellsBroken o place s id fields → NamesField o s.announced.choices fields
    names_broken (Some (refusal.Malformed malformation.Name)) place broken =
        absurd (no_name (violation_behind place s id fields) (rule_by s.announced.choices.strict_messages (violation_behind place s id fields) malformation.Name broken).1)
    names_broken (Some (refusal.Malformed malformation.Value)) place broken =
        let rule = rule_by s.announced.choices.strict_messages (violation_behind place s id fields) malformation.Value broken in
        inr (subst (λ b. HasSpacedValue any b fields) (sym rule.0) (spaced place (value_by (violation_behind place s id fields) rule.1)))
    names_broken _ place broken = tt

  module _ (place : SendPlace) where
    told_broken : (o : Option Refusal) → (o ≢ Some refusal.OutOfMemory → o ≡ refused_behind s id place fields) → TellsBroken o place s id fields
    told_broken (Some (refusal.Malformed malformation.Name)) list =
        by_list (broken_behind place s id fields) (is_too_large (settings_known s.announced s.peer.settings) fields) (section_size fields) malformation.Name (sym (list (λ memory. absurd (cc))))
    told_broken (Some (refusal.Malformed malformation.Value)) list =
        by_list (broken_behind place s id fields) (is_too_large (settings_known s.announced s.peer.settings) fields) (section_size fields) malformation.Value (sym (list (λ memory. absurd (cc))))
    told_broken _ list = tt

    none_told : (r : Refusal) → NamesNone r → TellsBroken (Some r) place s id fields
    none_told (refusal.Malformed malformation.Name) none = absurd none
    none_told (refusal.Malformed malformation.Value) none = absurd none
    none_told _ none = tt

    judged_broken : (refused told : Refusal) → NamesNone refused → IsJudgedOr s id place fields refused told → TellsBroken (Some told) place s id fields
    judged_broken refusal.OutOfMemory (refusal.Malformed malformation.Name) none h =
        by_list (broken_behind place s id fields) (is_too_large (settings_known s.announced s.peer.settings) fields) (section_size fields) malformation.Name (h.list refl (λ same. absurd (cc)))
    judged_broken refusal.OutOfMemory (refusal.Malformed malformation.Value) none h =
        by_list (broken_behind place s id fields) (is_too_large (settings_known s.announced s.peer.settings) fields) (section_size fields) malformation.Value (h.list refl (λ same. absurd (cc)))
    judged_broken refusal.OutOfMemory _ none h = tt
    judged_broken refused told none h = subst (λ r. TellsBroken (Some r) place s id fields) (sym (h.other (λ same. absurd (cc)))) (none_told refused none)

-- What a stream refuses a section by names no field.
head_none : (a b : Bool) (going : Option ℕ)
    → NamesNone (unwrap_or (or_later (or_later (first_of ((a, refusal.NotOpen) ∷ (b, refusal.OutOfOrder) ∷ [])) (first_of (unless_going going []))) None) refusal.OutOfMemory)
head_none true b going = tt
head_none false true going = tt
head_none false false (Some id) = tt
head_none false false None = tt

trailer_none : (a b takes ends : Bool)
    → NamesNone (unwrap_or (or_later (first_of ((a, refusal.NotOpen) ∷ (b, refusal.OutOfOrder) ∷ []))
    (or_later None (option_map refusal.Malformed (if takes then (if ends then None else Some malformation.ContentLength) else Some malformation.Connect)))) refusal.OutOfMemory)
trailer_none true b takes ends = tt
trailer_none false true takes ends = tt
trailer_none false false true true = tt
trailer_none false false true false = tt
trailer_none false false false ends = tt

-- The section begins over streams that are found as they were.
module _ (s mid : EndpointState) (fields : List Field) (place : SendPlace) (rest : mid ≡ record s { requests = mid.requests })
    (head : Head) (reads : head_by s.announced.choices.extensions.any_protocol fields ≡ IsHead head) where
  abbrev begun : EndpointState
  begun = record s { requests = mid.requests }

  names_judged : (id : ℕ) (refused told : Refusal) → NamesNone refused → IsJudgedOr mid id place fields refused told → NamesField (Some told) s.announced.choices fields
  names_judged id refused told none h =
      names_broken begun id fields head reads (Some told) place (judged_broken begun id fields place refused told none (subst (λ m. IsJudgedOr m id place fields refused told) rest h))

  pub head_judged_names : (id : ℕ) (refused told : Refusal) → refused ≡ unwrap_or (or_later (head_refused_in s id) None) refusal.OutOfMemory
      → IsJudgedOr mid id place fields refused told → NamesField (Some told) s.announced.choices fields
  head_judged_names id refused told why h =
      let v = seen_in (kept_at s.requests id) in
      names_judged id refused told (subst NamesNone (sym why) (head_none (not v.is_open) (not v.takes_head) (sender_on s id).going)) h

  pub trailer_judged_names : (id : ℕ) (refused told : Refusal) → refused ≡ unwrap_or (or_later (body_refused_at (kept_at s.requests id)) (or_later None (early_trailer_at (kept_at s.requests id)))) refusal.OutOfMemory
      → IsJudgedOr mid id place fields refused told → NamesField (Some told) s.announced.choices fields
  trailer_judged_names id refused told why h =
      let v = seen_in (kept_at s.requests id) in
      let content = (outgoing_in (kept_at s.requests id)).content in
      names_judged id refused told (subst NamesNone (sym why) (trailer_none (not v.is_open) (not v.takes_body) (takes_trailer content) (may_end content))) h

  pub section_names : (behind : EndpointHistory → EndpointHistory) (new : EndpointState) (id : ℕ) (o : Option Refusal) → SendsFields behind mid new id fields place o → NamesField o s.announced.choices fields
  section_names behind new id o h =
      names_broken begun id fields head reads o place (told_broken begun id fields place o (subst (λ m. o ≢ Some refusal.OutOfMemory → o ≡ refused_behind m id place fields) rest h.list))

-- What a list reads as in its place, and what its call leaves.
module _ (s : EndpointState) (fields : List Field) (o : Option Refusal) where
  abbrev NamesBehind : EndpointState → Type 0
  NamesBehind new = NamesField o new.announced.choices fields

  pub head_at_names : (place : SendPlace) → IsHeadAt s.side (head_by s.announced.choices.extensions.any_protocol fields) place
      → ((head : Head) → head_by s.announced.choices.extensions.any_protocol fields ≡ IsHead head → place ≢ TrailerSent → NamesBehind s) → NamesBehind s
  head_at_names place at names = by (head_by s.announced.choices.extensions.any_protocol fields) refl at
    where
      by : (r : HeadRead) → head_by s.announced.choices.extensions.any_protocol fields ≡ r → IsHeadAt s.side r place → NamesBehind s
      by (IsHead head) reads here = names head reads (before_trailer (is_interim head.status) place here.1)
      by (IsNone why) reads here = absurd here

  pub trailer_at_names : IsTrailer (head_by s.announced.choices.extensions.any_protocol fields)
      → ((trailer : Head) → head_by s.announced.choices.extensions.any_protocol fields ≡ IsHead trailer → NamesBehind s) → NamesBehind s
  trailer_at_names at names = by (head_by s.announced.choices.extensions.any_protocol fields) refl at
    where
      by : (r : HeadRead) → head_by s.announced.choices.extensions.any_protocol fields ≡ r → IsTrailer r → NamesBehind s
      by (IsHead trailer) reads here = names trailer reads
      by (IsNone why) reads here = absurd here

-- Where a list is refused, what is announced stays.
pub still_names : (old new : EndpointState) (fields : List Field) (o : Option Refusal) → (o ≢ None → o ≢ Some refusal.OutOfMemory → IsSame old new) → NamesField o old.announced.choices fields
    → NamesField o new.announced.choices fields
still_names old new fields (Some (refusal.Malformed malformation.Name)) same names =
    subst (λ (own : Announced). NamesField (Some (refusal.Malformed malformation.Name)) own.choices fields) (sym (same (λ none. absurd (cc)) (λ memory. absurd (cc))).rest.announced) names
still_names old new fields (Some (refusal.Malformed malformation.Value)) same names =
    subst (λ (own : Announced). NamesField (Some (refusal.Malformed malformation.Value)) own.choices fields) (sym (same (λ none. absurd (cc)) (λ memory. absurd (cc))).rest.announced) names
still_names old new fields _ same names = tt
