-- What a list that reads as a head with an outline is in the place of a head or a trailer.
use Rattle.std.proofs.Common.{◌≡◌, Bool, true, false, if◌then◌else◌, Option, Some, None, refl, ap, sym, ◌∙◌}
use Rattle.std.specs.Prelude.{◌≢◌, not, option_map}
use Rattle.h3_header.specs.Head.{Head, has_pseudo}
use Rattle.h3_header.specs.HeadRead.{HeadRead, HeadRefusal, IsHead, IsNone}
use Rattle.h3_connection.specs.OwnIds.{other}
use Rattle.h3_connection.specs.Pulling.{is_for, is_interim, malformation_of}
use Rattle.h3_connection.specs.declared.event.Malformation.{Malformation}
use Rattle.h3_connection.specs.declared.event.Refusal.{Refusal}
use Rattle.h3_connection.specs.declared.event.Refusal.TheVariants as refusal
use Rattle.h3_connection.specs.declared.place.SendPlace.{SendPlace}
use Rattle.h3_connection.specs.declared.place.SendPlace.TheVariants.{NothingSent, HeadSent}
use Rattle.h3_messages.specs.Outline.{IsOutlined, is_outline_of, outline_of}
use Rattle.h3_messages.specs.declared.outline.Outline.{Outline}
use Rattle.h3_messages.specs.declared.section.Section.{Section}
use Rattle.h3_messages.specs.declared.section.Section.TheVariants.{Trailer}
use Rattle.h3_proto.specs.declared.stream.Side.{Side}
use Rattle.h3_proto.specs.declared.stream.Side.TheVariants.{Client, Server}
use Rattle.h3_session.specs.JudgedLists.{IsHeadAt, IsTrailer, head_list_refusal, head_section, list_refusal, misplaced, section_refused, trailer_list_refusal}
use Rattle.h3_session.specs.Refused.{pseudo_refused, side_refused}
use Rattle.h3_session.specs.SendingLists.{malformed}

-- a side sends what the other reads
sent_for : (side : Side) (h : Head) → is_outline_of (head_section side) (outline_of h) ≡ is_for (other side) h
sent_for Client h = refl
sent_for Server h = refl

abbrev refused_by : Bool → Option Refusal
refused_by b = if not b then Some refusal.WrongSide else None

pub head_at : (side : Side) (r : HeadRead) (o : Outline) (place : SendPlace) → IsOutlined r o → is_outline_of (head_section side) o ≡ true → place ≡ (if is_interim o.status then NothingSent else HeadSent) → IsHeadAt side r place
head_at side (IsHead h) o place is sent at =
    let ours : is_for (other side) h ≡ true = sym (sent_for side h) ∙ ap (is_outline_of (head_section side)) (sym is) ∙ sent in
    (ap refused_by ours, at ∙ ap (λ (p : Outline). if is_interim p.status then NothingSent else HeadSent) is)
head_at side (IsNone why) o place is sent at = absurd is

-- a header that is no head of this side, and a trailer
pub side_is : (side : Side) (h : Head) → section_refused (head_section side) h ≡ side_refused side h
side_is Client h = refl
side_is Server h = refl

twice_not : (b : Bool) → (let r : Option Refusal = if not (not b) then Some refusal.PseudoInTrailer else None in r) ≡ (let r : Option Refusal = if b then Some refusal.PseudoInTrailer else None in r)
twice_not true = refl
twice_not false = refl

pub pseudo_is : (h : Head) → section_refused Trailer h ≡ pseudo_refused h
pseudo_is h = twice_not (has_pseudo h)

pub head_refusal_is : (side : Side) (r : HeadRead) → list_refusal (head_section side) r ≡ head_list_refusal side r
head_refusal_is side (IsHead h) = side_is side h
head_refusal_is side (IsNone why) = refl

pub trailer_refusal_is : (r : HeadRead) → list_refusal Trailer r ≡ trailer_list_refusal r
trailer_refusal_is (IsHead h) = pseudo_is h
trailer_refusal_is (IsNone why) = refl

-- a list that is another section
abbrev other_by : Section → Bool → Option Refusal
other_by section b = if not b then Some (misplaced section) else None

pub other_section : (section : Section) (r : HeadRead) (o : Outline) → IsOutlined r o → is_outline_of section o ≡ false → list_refusal section r ≡ Some (misplaced section)
other_section section (IsHead h) o is none = ap (other_by section) (ap (is_outline_of section) (sym is) ∙ none)
other_section section (IsNone why) o is none = absurd is

abbrev pseudo_by : Bool → Option Refusal
pseudo_by b = if b then Some refusal.PseudoInTrailer else None

none_there : (b : Bool) → not b ≡ true → b ≡ false
none_there false is = refl
none_there true is = absurd (cc)

pub trailer_at : (r : HeadRead) (o : Outline) → IsOutlined r o → is_outline_of Trailer o ≡ true → IsTrailer r
trailer_at (IsHead h) o is none = ap pseudo_by (ap (λ (p : Outline). p.pseudo) (sym is) ∙ none_there o.pseudo none)
trailer_at (IsNone why) o is none = absurd is

-- why a list is no head, unless memory was refused
pub told_malformed : {A : Type 0} (o : Option HeadRefusal) (e : Refusal) → ((why : HeadRefusal) → o ≡ Some why → e ≡ malformed why) → (o ≡ None → e ≡ refusal.OutOfMemory) → e ≢ refusal.OutOfMemory
    → ((why : HeadRefusal) → o ≡ Some why → e ≡ malformed why → A) → A
told_malformed None e some none differs given = absurd (differs (none refl))
told_malformed (Some why) e some none differs given = given why refl (some why refl)

pub malformed_is : (o : Option HeadRefusal) (w : Malformation) (why : HeadRefusal) → Some w ≡ option_map malformation_of o → o ≡ Some why → refusal.Malformed w ≡ malformed why
malformed_is o w why is some = let same : ◌≡◌ {A = Option Malformation} (Some w) (Some (malformation_of why)) = is ∙ ap (option_map malformation_of) some in cc

pub never_none : (o : Option HeadRefusal) (w : Malformation) → Some w ≡ option_map malformation_of o → o ≡ None → ⊥
never_none (Some why) w is none = cc
never_none None w is none = cc

pub never_some : (o : Option HeadRefusal) (why : HeadRefusal) → None ≡ option_map malformation_of o → o ≡ Some why → ⊥
never_some (Some q) why is some = cc
never_some None why is some = cc

pub untold : (o : Option HeadRefusal) → None ≡ option_map malformation_of o → o ≡ None
untold (Some why) is = absurd (cc)
untold None is = refl
