-- What a list reads as where the two names of a protocol alone are taken, beside what it reads as where any is.
use Rattle.std.proofs.Common.{◌≡◌, ◌⊎◌, inl, inr, ℕ, Bool, true, false, List, [], ◌∷◌, if◌then◌else◌, Option, Some, None, refl, ap, sym, subst}
use Rattle.std.specs.Prelude.{not}
use Rattle.std.specs.List.{AllByRecursion}
use Rattle.h3_field.specs.Field.{Field}
use Rattle.h3_header.specs.Head.{Head, trailer_head}
use Rattle.h3_header.specs.HeadRead.{HeadRead, HeadRefusal, IsNone, Value, head_by, head_of, head_of_any, read_from, refusal_at, unless_refused}
use Rattle.h3_header.specs.HeadTests.{is_protocol_text, is_short_token, takes_protocol}
use Rattle.h3_header.specs.Reads.{kind_of, with_field}
use Rattle.h3_header.specs.TakenLaws.{named_is_token, takes_named}
use Rattle.h3_header.specs.declared.headers.kind.FieldKind.{FieldKind}
use Rattle.h3_header.specs.declared.headers.kind.FieldKind.TheVariants.{Method, Scheme, Authority, Path, Status, Protocol, Regular}
use Rattle.h3_connection.specs.StrictSending.{broken_protocol}
use Rattle.h3_connection.specs.declared.event.Malformation.{Malformation}
use Rattle.h3_connection.specs.declared.event.Malformation.TheVariants as malformation
use Rattle.h3_connection.specs.declared.setup.Announced.{Announced}
use Rattle.h3_world.specs.Lists.{unread_by, unreadable}
use Rattle.h3_world.specs.Sendable.{IsSendableBy, IsSendableHead, IsSendableList}
use Rattle.h3_world.specs.declared.event.Event.{Event}
use Rattle.h3_world.specs.declared.event.Event.TheVariants as event
use Rattle.h3_strict.specs.Plainly.{plain}

-- the value of a `:protocol`
protocol_less : (named any : Bool) → (named ≡ true → any ≡ true)
    → ((if not named then Some Value else None) ≡ (if not any then Some Value else None)) ⊎ ((if not named then Some Value else None) ≡ Some Value)
protocol_less true any h = inl (sym (ap (λ (taken : Bool). if not taken then Some Value else None) (h refl)))
protocol_less false any h = inr refl

-- one field
field_less : (at : FieldKind) (h : Head) (f : Field) → (refusal_at false at h f ≡ refusal_at true at h f) ⊎ (refusal_at false at h f ≡ Some Value)
field_less Method h f = inl refl
field_less Scheme h f = inl refl
field_less Authority h f = inl refl
field_less Path h f = inl refl
field_less Status h f = inl refl
field_less Protocol h f = protocol_less (is_protocol_text f.value) (is_short_token f.value) (named_is_token f.value)
field_less Regular h f = inl refl

-- and those behind it
later_less : (o : Option HeadRefusal) (x y : HeadRead) → (x ≡ y) ⊎ (x ≡ IsNone Value) → (unless_refused o x ≡ unless_refused o y) ⊎ (unless_refused o x ≡ IsNone Value)
later_less None x y h = h
later_less (Some why) x y h = inl refl

list_less : (h : Head) (fields : List Field) → (read_from false h fields ≡ read_from true h fields) ⊎ (read_from false h fields ≡ IsNone Value)
list_less h [] = inl refl
list_less h (f ∷ fields) = by_first (list_less (with_field h f) fields) (field_less (kind_of f.name) h f)
  where
    named : HeadRead
    named = read_from false (with_field h f) fields

    any : HeadRead
    any = read_from true (with_field h f) fields

    by_first : (named ≡ any) ⊎ (named ≡ IsNone Value) → (refusal_at false (kind_of f.name) h f ≡ refusal_at true (kind_of f.name) h f) ⊎ (refusal_at false (kind_of f.name) h f ≡ Some Value)
        → (unless_refused (refusal_at false (kind_of f.name) h f) named ≡ unless_refused (refusal_at true (kind_of f.name) h f) any) ⊎ (unless_refused (refusal_at false (kind_of f.name) h f) named ≡ IsNone Value)
    by_first later (inr refused) = inr (ap (λ o. unless_refused o named) refused)
    by_first later (inl same) =
        subst (λ o. (unless_refused o named ≡ unless_refused (refusal_at true (kind_of f.name) h f) any) ⊎ (unless_refused o named ≡ IsNone Value)) (sym same)
        (later_less (refusal_at true (kind_of f.name) h f) named any later)

-- **It is the same, or malformed by a value where the two names alone are taken.**
pub reads_less : (any : Bool) (fields : List Field) → (head_by any fields ≡ head_by true fields) ⊎ ((head_by any fields ≡ IsNone Value) × (any ≡ false))
unfolding head_of head_of_any
reads_less true fields = inl refl
reads_less false fields = by_list (list_less (trailer_head []) fields)
  where
    by_list : (read_from false (trailer_head []) fields ≡ read_from true (trailer_head []) fields) ⊎ (read_from false (trailer_head []) fields ≡ IsNone Value)
        → (read_from false (trailer_head []) fields ≡ read_from true (trailer_head []) fields) ⊎ ((read_from false (trailer_head []) fields ≡ IsNone Value) × (false ≡ false))
    by_list (inl same) = inl same
    by_list (inr none) = inr (none, refl)

-- So what an endpoint reads is read where any protocol is taken.
pub list_narrows : (any : Bool) (fields : List Field) → unreadable any fields ≡ None → unreadable true fields ≡ None
list_narrows any fields none = by_read (reads_less any fields)
  where
    by_read : (head_by any fields ≡ head_by true fields) ⊎ ((head_by any fields ≡ IsNone Value) × (any ≡ false)) → unreadable true fields ≡ None
    by_read (inl same) = subst (λ x. unread_by x ≡ None) same none
    by_read (inr value) = absurd (let never : Some malformation.Value ≡ None = subst (λ x. unread_by x ≡ None) value.0 none in cc)

-- So it is of a header.
takes_wide : (any : Bool) (protocol : Option (List ℕ)) → takes_protocol any protocol ≡ true → takes_protocol true protocol ≡ true
takes_wide true protocol h = h
takes_wide false protocol h = takes_named true protocol h

pub protocol_narrows : (own : Announced) (head : Head) → broken_protocol own head ≡ None → broken_protocol (plain own) head ≡ None
protocol_narrows own head none = ap told (takes_wide own.choices.extensions.any_protocol head.protocol (taken (takes_protocol own.choices.extensions.any_protocol head.protocol) none))
  where
    told : Bool → Option Malformation
    told b = if b then None else Some malformation.Value

    taken : (b : Bool) → told b ≡ None → b ≡ true
    taken true h = refl
    taken false h = absurd (cc)

-- What may be sent between two sides may be sent where any protocol is taken.
head_widens : (any : Bool) (head : Head) → IsSendableHead any head → IsSendableHead true head
head_widens any head h = record { taken = takes_wide any head.protocol h.taken; reads_back = h.reads_back; section = h.section; read_as = h.read_as }

list_widens : (any : Bool) (fields : List Field) → IsSendableList any fields → IsSendableList true fields
list_widens any fields h = record { taken = λ head is. is; section = h.section }

pub event_widens : (any : Bool) (e : Event) → IsSendableBy any e → IsSendableBy true e
event_widens any (event.Head side id head) h = head_widens any head h
event_widens any (event.Fields side id fields) h = list_widens any fields h
event_widens any (event.Trailer side id trailer) h = head_widens any trailer h
event_widens any (event.TrailerFields side id fields) h = list_widens any fields h
event_widens any (event.Body side id bytes) h = h
event_widens any (event.Goaway side id) h = h
event_widens any (event.OpenRequest side) h = tt
event_widens any (event.Finish side id) h = tt
event_widens any (event.Reset side id) h = tt
event_widens any (event.Cancel side id) h = tt
event_widens any (event.Deliver side id count) h = tt
event_widens any (event.DeliverEnd side id) h = tt
event_widens any (event.DeliverReset side id) h = tt
event_widens any (event.Pull side id) h = tt
event_widens any (event.PullFields side id) h = tt
event_widens any (event.Show side) h = tt

pub all_widen : (any : Bool) (events : List Event) → AllByRecursion (IsSendableBy any) events → AllByRecursion (IsSendableBy true) events
all_widen any [] h = tt
all_widen any (e ∷ events) h = (event_widens any e h.0, all_widen any events h.1)
