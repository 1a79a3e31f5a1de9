-- Lists of fields that go out as they are, in their order: what each reads as says whether it may go, as of a head or trailer (RFC 9114,
-- sections 4.1 to 4.3).
use Rattle.std.specs.Prelude.{◌≡◌, ◌≢◌, ℕ, ◌≤◌, List, [], length, Option, Some, None, Result}
use Rattle.h3_field.specs.Field.{Field}
use Rattle.h3_header.specs.Head.{Head}
use Rattle.h3_header.specs.HeadRead.{HeadRead, HeadRefusal, IsHead, IsNone, head_by}
use Rattle.h3_connection.specs.Answers.{call_refused}
use Rattle.h3_connection.specs.Calls.{IsSame}
use Rattle.h3_connection.specs.Endpoint.{EndpointHistory}
use Rattle.h3_connection.specs.Outgoing.OwnPart.{OwnTrailer}
use Rattle.h3_connection.specs.Pulling.{malformation_of}
use Rattle.h3_connection.specs.Sections.{written_section}
use Rattle.h3_connection.specs.Refusals.{first_of, not_next, refusal_of_head, refusal_of_trailer, unless_going}
use Rattle.h3_connection.specs.Sending.{does, unless_closed, outgoing_at, seen_at, sender_at, appended, asked, counted, encoded, fields_cost, head_part, broken_head_at}
use Rattle.h3_connection.specs.SendingContracts.{CutsOff, MayLackMemory, SendsSection}
use Rattle.h3_connection.specs.State.{EndpointState, StandsFor}
use Rattle.h3_connection.specs.StrictSending.{broken_protocol, broken_trailer, early_trailer}
use Rattle.h3_connection.specs.declared.event.Refusal.{Refusal}
use Rattle.h3_connection.specs.declared.event.Refusal.TheVariants as refusal
use Rattle.h3_connection.specs.declared.place.SendPlace.{SendPlace}
use Rattle.h3_session.specs.Refused.{broken_behind, refused_behind}

-- A head that is sent as this list: as `send_head`, which sends `head_fields`. What was read of a list has a protocol that is taken.
abbrev pub listed_head_refusal : EndpointHistory → ℕ → Head → List Field → Option Refusal
listed_head_refusal e id head fields = unless_closed e (refusal_of_head (sender_at e id) (broken_protocol e.announced head) (broken_head_at e id fields) head fields)

abbrev pub after_head : EndpointHistory → ℕ → Head → List Field → EndpointHistory
after_head e id head fields = asked (counted (appended (encoded e id fields) id (head_part head (written_section e.encoder id fields))) (fields_cost fields)) id fields

abbrev pub send_listed_head : EndpointHistory → ℕ → Head → List Field → Option Refusal × EndpointHistory
send_listed_head e id head fields = does (listed_head_refusal e id head fields) e (after_head e id head fields)

-- A trailer that is sent as this list: as `send_trailer`.
abbrev pub listed_trailer_refusal : EndpointHistory → ℕ → Head → List Field → Option Refusal
listed_trailer_refusal e id trailer fields =
    unless_closed e (refusal_of_trailer (sender_at e id) (broken_protocol e.announced trailer) (early_trailer (outgoing_at e id).content) (broken_trailer e.announced fields) trailer fields)

abbrev pub after_trailer : EndpointHistory → ℕ → List Field → EndpointHistory
after_trailer e id fields = counted (appended (encoded e id fields) id (OwnTrailer (written_section e.encoder id fields))) (fields_cost fields)

abbrev pub send_listed_trailer : EndpointHistory → ℕ → Head → List Field → Option Refusal × EndpointHistory
send_listed_trailer e id trailer fields = does (listed_trailer_refusal e id trailer fields) e (after_trailer e id fields)

-- The list is at hand: it is judged by the rules of strict messages before memory is told of.
abbrev pub NotMalformed : Option Refusal → Type 0
NotMalformed None = Unit {0}
NotMalformed (Some (refusal.Malformed why)) = ⊥
NotMalformed (Some _) = Unit {0}

pub record SendsJudged (act : EndpointHistory → Option Refusal × EndpointHistory) (old new : EndpointState) (id : ℕ) (fields : List Field) (refused : Option Refusal) : Type 0 where
  pub sends : SendsSection act old new id fields refused
  pub judged : (e : EndpointHistory) → StandsFor old e → refused ≡ Some refusal.OutOfMemory → NotMalformed (act e).0

abbrev pub SendsListedHead : EndpointState → EndpointState → ℕ → Head → List Field → Result Unit Refusal → Type 0
SendsListedHead old new id head fields result = SendsSection (λ e. send_listed_head e id head fields) old new id fields (call_refused result)

abbrev pub SendsListedTrailer : EndpointState → EndpointState → ℕ → Head → List Field → Result Unit Refusal → Type 0
SendsListedTrailer old new id trailer fields result = SendsSection (λ e. send_listed_trailer e id trailer fields) old new id fields (call_refused result)

abbrev pub SendsJudgedHead : EndpointState → EndpointState → ℕ → Head → List Field → Result Unit Refusal → Type 0
SendsJudgedHead old new id head fields result = SendsJudged (λ e. send_listed_head e id head fields) old new id fields (call_refused result)

abbrev pub SendsJudgedTrailer : EndpointState → EndpointState → ℕ → Head → List Field → Result Unit Refusal → Type 0
SendsJudgedTrailer old new id trailer fields result = SendsJudged (λ e. send_listed_trailer e id trailer fields) old new id fields (call_refused result)

-- What a list is refused by for which no room was made: by the stream's refusal, or else by its own before want of memory
pub record IsJudgedOr (s : EndpointState) (id : ℕ) (place : SendPlace) (fields : List Field) (refused told : Refusal) : Type 0 where
  pub other : refused ≢ refusal.OutOfMemory → told ≡ refused
  pub list : refused ≡ refusal.OutOfMemory → told ≢ refusal.OutOfMemory → refused_behind s id place fields ≡ Some told
  pub unbroken : refused ≡ refusal.OutOfMemory → told ≡ refusal.OutOfMemory → broken_behind place s id fields ≡ None

-- Why a stream takes no head now, whatever is in it.
abbrev pub place_refusal : EndpointHistory → ℕ → Option Refusal
place_refusal e id = unless_closed e (first_of (not_next (seen_at e id) (seen_at e id).takes_head (unless_going (sender_at e id).going [])))

-- Why it takes no trailer.
abbrev pub order_refusal : EndpointHistory → ℕ → Option Refusal
order_refusal e id = unless_closed e (first_of (not_next (seen_at e id) (seen_at e id).takes_body []))

-- That comes before what is malformed.
abbrev pub refusal_after : Option Refusal → Refusal → Refusal
refusal_after (Some r) later = r
refusal_after None later = later

abbrev pub malformed : HeadRefusal → Refusal
malformed why = refusal.Malformed (malformation_of why)

abbrev pub send_read_head : EndpointHistory → ℕ → List Field → HeadRead → Option Refusal × EndpointHistory
send_read_head e id fields (IsHead head) = send_listed_head e id head fields
send_read_head e id fields (IsNone why) = (Some (refusal_after (place_refusal e id) (malformed why)), e)

abbrev pub send_read_trailer : EndpointHistory → ℕ → List Field → HeadRead → Option Refusal × EndpointHistory
send_read_trailer e id fields (IsHead trailer) = send_listed_trailer e id trailer fields
send_read_trailer e id fields (IsNone why) = (Some (refusal_after (order_refusal e id) (malformed why)), e)

-- A list goes out as a head, or as a trailer, where it reads as one.
abbrev pub send_fields : EndpointHistory → ℕ → List Field → Option Refusal × EndpointHistory
send_fields e id fields = send_read_head e id fields (head_by e.announced.choices.extensions.any_protocol fields)

abbrev pub send_trailer_fields : EndpointHistory → ℕ → List Field → Option Refusal × EndpointHistory
send_trailer_fields e id fields = send_read_trailer e id fields (head_by e.announced.choices.extensions.any_protocol fields)

-- Want of memory comes last: it may be told of a list that is too large, and of none that breaks a rule of strict messages,
abbrev pub MayLackSize : Option Refusal → Type 0
MayLackSize None = Unit {0}
MayLackSize (Some (refusal.TooLarge size)) = Unit {0}
MayLackSize (Some r) = ⊥

-- or is no list of a header
abbrev pub IsReadable : HeadRead → Type 0
IsReadable (IsHead head) = Unit {0}
IsReadable (IsNone why) = ⊥

-- Where a map has to be made for the list, also of one that is malformed, or none of this place.
abbrev pub MayLackMap : Option Refusal → Type 0
MayLackMap None = Unit {0}
MayLackMap (Some refusal.WrongSide) = Unit {0}
MayLackMap (Some refusal.PseudoInTrailer) = Unit {0}
MayLackMap (Some r) = MayLackMemory (Some r)

-- The list is sent, or refused with nothing changed; or memory was refused, and it was cut off.
pub record SendsList (act : EndpointHistory → Option Refusal × EndpointHistory) (old new : EndpointState) (id : ℕ) (fields : List Field) (told : Option Refusal) : Type 0 where
  pub done : (e : EndpointHistory) → StandsFor old e → told ≢ Some refusal.OutOfMemory → (told ≡ (act e).0) × StandsFor new (act e).1
  pub same : told ≢ None → told ≢ Some refusal.OutOfMemory → IsSame old new
  pub memory : (e : EndpointHistory) → StandsFor old e → told ≡ Some refusal.OutOfMemory → MayLackMap (act e).0 × CutsOff e id fields new
  -- no map is made of so few fields
  pub short : (e : EndpointHistory) → StandsFor old e → told ≡ Some refusal.OutOfMemory → length fields ≤ 24576 → MayLackSize (act e).0
  pub readable : told ≡ Some refusal.OutOfMemory → length fields ≤ 24576 → IsReadable (head_by old.announced.choices.extensions.any_protocol fields)
  -- of a list that is refused nothing was inserted
  pub refused : (e : EndpointHistory) → StandsFor old e → told ≡ Some refusal.OutOfMemory → (act e).0 ≢ None → IsSame old new

-- `send_fields` and `send_trailer_fields`
abbrev pub SendsFieldList : EndpointState → EndpointState → ℕ → List Field → Result Unit Refusal → Type 0
SendsFieldList old new id fields result = SendsList (λ e. send_fields e id fields) old new id fields (call_refused result)

abbrev pub SendsTrailerList : EndpointState → EndpointState → ℕ → List Field → Result Unit Refusal → Type 0
SendsTrailerList old new id fields result = SendsList (λ e. send_trailer_fields e id fields) old new id fields (call_refused result)
