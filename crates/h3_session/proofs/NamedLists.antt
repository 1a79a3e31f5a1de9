-- A list of which each `:protocol` is taken reads as it does where any protocol is taken.
use Rattle.std.proofs.Common.{◌≡◌, ℕ, Bool, true, false, List, [], ◌∷◌, if◌then◌else◌, Option, Some, None, refl, ap, ◌∙◌}
use Rattle.std.specs.Prelude.{not, codes, bytes_eq}
use Rattle.std.specs.List.{AllByRecursion}
use Rattle.h3_field.specs.Field.{Field}
use Rattle.h3_header.specs.Head.{Head, trailer_head}
use Rattle.h3_header.specs.HeadRead.{HeadRead, HeadRefusal, IsHead, Value, head_by, head_of, head_of_any, read_from, refusal_at, unless_refused}
use Rattle.h3_header.specs.NamedProtocolLaws.{named_taken}
use Rattle.h3_header.specs.ProtocolText.{IsProtocolText}
use Rattle.h3_header.specs.Reads.{kind_of, with_field}
use Rattle.h3_header.specs.declared.headers.kind.FieldKind.{FieldKind}
use Rattle.h3_header.specs.declared.headers.kind.FieldKind.TheVariants.{Method, Scheme, Authority, Path, Status, Protocol, Regular}
use Rattle.h3_world.specs.Sendable.{NamesTakenIn}

kind_by : (method scheme authority path status protocol : Bool)
    → (if method then Method else (if scheme then Scheme else (if authority then Authority else (if path then Path else (if status then Status else (if protocol then Protocol else Regular)))))) ≡ Protocol
    → protocol ≡ true
kind_by true scheme authority path status protocol is = absurd (cc)
kind_by false true authority path status protocol is = absurd (cc)
kind_by false false true path status protocol is = absurd (cc)
kind_by false false false true status protocol is = absurd (cc)
kind_by false false false false true protocol is = absurd (cc)
kind_by false false false false false true is = refl
kind_by false false false false false false is = absurd (cc)

-- the one name of that kind
named_protocol : (name : List ℕ) → kind_of name ≡ Protocol → bytes_eq name (codes ":protocol") ≡ true
unfolding kind_of
named_protocol name is = kind_by (bytes_eq name (codes ":method")) (bytes_eq name (codes ":scheme")) (bytes_eq name (codes ":authority")) (bytes_eq name (codes ":path")) (bytes_eq name (codes ":status")) (bytes_eq name (codes ":protocol")) is

-- One field that is taken where any protocol is.
taken_at : (at : FieldKind) (h : Head) (f : Field) → (at ≡ Protocol → IsProtocolText f.value) → refusal_at true at h f ≡ None → refusal_at false at h f ≡ None
taken_at Method h f named none = none
taken_at Scheme h f named none = none
taken_at Authority h f named none = none
taken_at Path h f named none = none
taken_at Status h f named none = none
taken_at Protocol h f named none = ap (λ b. let refused : Option HeadRefusal = if not b then Some Value else None in refused) (named_taken (Some f.value) (named refl))
taken_at Regular h f named none = none

passed : (o : Option HeadRefusal) (later : HeadRead) (h : Head) → unless_refused o later ≡ IsHead h → (o ≡ None) × (later ≡ IsHead h)
passed None later h is = (refl, is)
passed (Some why) later h is = absurd (cc)

read_named : (start : Head) (fields : List Field) (h : Head) → AllByRecursion (NamesTakenIn false) fields → read_from true start fields ≡ IsHead h → read_from false start fields ≡ IsHead h
read_named start [] h named is = is
read_named start (f ∷ fields) h named is =
    let step = passed (refusal_at true (kind_of f.name) start f) (read_from true (with_field start f) fields) h is in
    let none = taken_at (kind_of f.name) start f (λ at. named.0 (named_protocol f.name at)) step.0 in
    ap (λ o. unless_refused o (read_from false (with_field start f) fields)) none ∙ read_named (with_field start f) fields h named.1 step.1

pub list_taken : (any : Bool) (fields : List Field) → AllByRecursion (NamesTakenIn any) fields → (h : Head) → head_by true fields ≡ IsHead h → head_by any fields ≡ IsHead h
unfolding head_of head_of_any
list_taken true fields named h is = is
list_taken false fields named h is = read_named (trailer_head []) fields h named is
