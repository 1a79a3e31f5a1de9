-- What reads as a head has a protocol that is taken.
use Rattle.std.specs.Prelude.{◌≡◌, Bool, true, false, not, List, [], ◌∷◌, if◌then◌else◌, Option, Some, None, refl}
use Rattle.std.proofs.Common.{subst}
use Rattle.h3_field.specs.Field.{Field}
use Rattle.h3_header.specs.Head.{Head, trailer_head}
use Rattle.h3_header.specs.HeadRead.{HeadRead, HeadRefusal, IsHead, Value, refusal_at, unless_refused, read_from, head_of, head_of_any, head_by}
use Rattle.h3_header.specs.HeadTests.{is_protocol_by, takes_protocol}
use Rattle.h3_header.specs.Reads.{kind_of, with_field, with_kind}
use Rattle.h3_header.specs.declared.headers.kind.FieldKind.{FieldKind}
use Rattle.h3_header.specs.declared.headers.kind.FieldKind.TheVariants.{Method, Scheme, Authority, Path, Status, Protocol, Regular}

not_refused : (o : Option HeadRefusal) (later : HeadRead) (h : Head) → unless_refused o later ≡ IsHead h → (o ≡ None) × (later ≡ IsHead h)
not_refused None later h is = (refl, is)
not_refused (Some why) later h is = absurd (cc)

passes : (b : Bool) → (let rule : Option HeadRefusal = if not b then Some Value else None in rule) ≡ None → b ≡ true
passes true none = refl
passes false none = absurd (cc)

-- one field more
stays_taken : (any : Bool) (at : FieldKind) (h : Head) (f : Field) → takes_protocol any h.protocol ≡ true → refusal_at any at h f ≡ None → takes_protocol any (with_kind at h f).protocol ≡ true
stays_taken any Method h f taken none = taken
stays_taken any Scheme h f taken none = taken
stays_taken any Authority h f taken none = taken
stays_taken any Path h f taken none = taken
stays_taken any Status h f taken none = taken
stays_taken any Protocol h f taken none = passes (is_protocol_by any f.value) none
stays_taken any Regular h f taken none = taken

read_taken : (any : Bool) (start : Head) (fields : List Field) (h : Head) → takes_protocol any start.protocol ≡ true → read_from any start fields ≡ IsHead h → takes_protocol any h.protocol ≡ true
read_taken any start [] h taken is = let same : start ≡ h = cc in subst (λ (x : Head). takes_protocol any x.protocol ≡ true) same taken
read_taken any start (f ∷ fields) h taken is =
    let step = not_refused (refusal_at any (kind_of f.name) start f) (read_from any (with_field start f) fields) h is in
    read_taken any (with_field start f) fields h (stays_taken any (kind_of f.name) start f taken step.0) step.1

-- of what a list reads as
pub heads_are_taken : (any : Bool) (fields : List Field) (h : Head) → head_by any fields ≡ IsHead h → takes_protocol any h.protocol ≡ true
unfolding head_of head_of_any
heads_are_taken true fields h is = read_taken true (trailer_head []) fields h refl is
heads_are_taken false fields h is = read_taken false (trailer_head []) fields h refl is
