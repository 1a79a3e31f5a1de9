-- A list reads alike whichever flags its fields have: a head is read by names and values alone.
use Rattle.std.proofs.Common.{◌≡◌, ℕ, Bool, true, false, List, [], ◌∷◌, ◌++◌, codes, map, Option, Some, None, option_map, refl, sym, ap, ◌∙◌}
use Rattle.std.proofs.lemmas.List.{map-append}
use Rattle.http_header.specs.FieldValue.{FieldValue}
use Rattle.http_header.specs.HeaderMap.{pairs}
use Rattle.http.specs.StatusCode.{code_digits}
use Rattle.http_uri.specs.Grammar.{or_slash}
use Rattle.h3_field.specs.Field.{Field, flagged, unflagged, with_flags}
use Rattle.h3_header.specs.Head.{Head, trailer_head, optional_field, to_field, regular_fields, pseudo_fields, head_fields}
use Rattle.h3_header.specs.HeadRead.{unless_refused, refusal_at, read_from, head_of, head_of_any, head_by}
use Rattle.h3_header.specs.Reads.{kind_of, with_kind, with_field}
use Rattle.h3_header.specs.declared.headers.kind.FieldKind.{FieldKind}
use Rattle.h3_header.specs.declared.headers.kind.FieldKind.TheVariants.{Method, Scheme, Authority, Path, Status, Protocol, Regular}

refusal_unflagged : (any : Bool) (at : FieldKind) (h : Head) (f : Field) (b : Bool) → refusal_at any at h (flagged f b) ≡ refusal_at any at h f
refusal_unflagged any Method h f b = refl
refusal_unflagged any Scheme h f b = refl
refusal_unflagged any Authority h f b = refl
refusal_unflagged any Path h f b = refl
refusal_unflagged any Status h f b = refl
refusal_unflagged any Protocol h f b = refl
refusal_unflagged any Regular h f b = refl

kind_unflagged : (at : FieldKind) (h : Head) (f : Field) (b : Bool) → with_kind at h (flagged f b) ≡ with_kind at h f
kind_unflagged Method h f b = refl
kind_unflagged Scheme h f b = refl
kind_unflagged Authority h f b = refl
kind_unflagged Path h f b = refl
kind_unflagged Status h f b = refl
kind_unflagged Protocol h f b = refl
kind_unflagged Regular h f b = refl

module _ (any : Bool) (flag : Field → Bool) where
  read_unflagged : (h : Head) (fields : List Field) → read_from any h (with_flags flag fields) ≡ read_from any h fields
  read_unflagged h [] = refl
  read_unflagged h (f ∷ fields) =
      let rest = with_flags flag fields in
      ap (λ o. unless_refused o (read_from any (with_field h (flagged f (flag f))) rest)) (refusal_unflagged any (kind_of f.name) h f (flag f))
      ∙ ap (λ k. unless_refused (refusal_at any (kind_of f.name) h f) (read_from any k rest)) (kind_unflagged (kind_of f.name) h f (flag f))
      ∙ ap (unless_refused (refusal_at any (kind_of f.name) h f)) (read_unflagged (with_field h f) fields)

-- whichever flag each field gets, the list reads alike
pub flags_are_not_read : (any : Bool) (flag : Field → Bool) (fields : List Field) → head_by any (with_flags flag fields) ≡ head_by any fields
unfolding head_of head_of_any
flags_are_not_read true flag fields = read_unflagged true flag (trailer_head []) fields
flags_are_not_read false flag fields = read_unflagged false flag (trailer_head []) fields

-- lists of the same names and values read alike
pub texts_read_alike : (any : Bool) (fields others : List Field) → map unflagged fields ≡ map unflagged others → head_by any fields ≡ head_by any others
texts_read_alike any fields others same =
    sym (flags_are_not_read any (λ f. false) fields) ∙ ap (head_by any) same ∙ flags_are_not_read any (λ f. false) others

plain_optional : (name : List ℕ) (o : Option (List ℕ)) → map unflagged (optional_field name o) ≡ optional_field name o
plain_optional name None = refl
plain_optional name (Some value) = refl

plain_joined : (front back : List Field) → map unflagged front ≡ front → map unflagged back ≡ back → map unflagged (front ++ back) ≡ front ++ back
plain_joined front back h k = map-append unflagged front back ∙ ap (λ fields. fields ++ map unflagged back) h ∙ ap (λ fields. front ++ fields) k

plain_pairs : (ps : List (List ℕ × FieldValue)) → map unflagged (map to_field ps) ≡ map to_field ps
plain_pairs [] = refl
plain_pairs (p ∷ ps) = ap (λ fields. to_field p ∷ fields) (plain_pairs ps)

plain_pseudo : (method scheme authority path : Option (List ℕ)) (status : Option ℕ) (protocol : Option (List ℕ)) → map unflagged (pseudo_fields method scheme authority path status protocol) ≡ pseudo_fields method scheme authority path status protocol
plain_pseudo method scheme authority path status protocol =
    let first = optional_field (codes ":method") method in
    let second = optional_field (codes ":scheme") scheme in
    let third = optional_field (codes ":authority") authority in
    let fourth = optional_field (codes ":path") (option_map or_slash path) in
    let fifth = optional_field (codes ":status") (option_map code_digits status) in
    let two = plain_joined first second (plain_optional _ method) (plain_optional _ scheme) in
    let three = plain_joined (first ++ second) third two (plain_optional _ authority) in
    let four = plain_joined (first ++ second ++ third) fourth three (plain_optional _ (option_map or_slash path)) in
    let five = plain_joined (first ++ second ++ third ++ fourth) fifth four (plain_optional _ (option_map code_digits status)) in
    plain_joined (first ++ second ++ third ++ fourth ++ fifth) (optional_field (codes ":protocol") protocol) five (plain_optional _ protocol)

-- what a head is written as has no flag
pub written_plain : (h : Head) → map unflagged (head_fields h) ≡ head_fields h
written_plain h =
    plain_joined (pseudo_fields h.method h.scheme h.authority h.path h.status h.protocol) (regular_fields h.regular)
    (plain_pseudo h.method h.scheme h.authority h.path h.status h.protocol) (plain_pairs (pairs h.regular))
