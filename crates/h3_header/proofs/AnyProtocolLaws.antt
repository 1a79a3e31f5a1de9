-- What a list reads as where any protocol is taken, and where the two names alone are.
use Rattle.std.proofs.Common.{◌≡◌, ℕ, Bool, true, false, not, List, [], ◌∷◌, ◌++◌, codes, Option, Some, None, option_map, refl, sym, ap, append_assoc, ◌∙◌, if◌then◌else◌}
use Rattle.std.specs.List.{AllByRecursion}
use Rattle.http_header.specs.FieldValue.{FieldValue}
use Rattle.http_header.specs.HeaderMap.{Entries}
use Rattle.http.specs.StatusCode.{code_digits}
use Rattle.http_uri.specs.Grammar.{or_slash}
use Rattle.h3_field.specs.Field.{Field}
use Rattle.h3_header.specs.Head.{Head, trailer_head, optional_field, regular_fields, head_fields}
use Rattle.h3_header.specs.HeadRead.{IsHead, IsNone, Name, Value, TooMany, is_name_at, is_value_at, is_full_at, refusal_at, unless_refused, read_from, head_of, head_by}
use Rattle.h3_header.specs.HeadTests.{takes_protocol}
use Rattle.h3_header.specs.Parts.{head_of_parts}
use Rattle.h3_header.specs.Reads.{IsHeadOf, kind_of, with_field}
use Rattle.h3_header.specs.ReadsBack.{IsValidMap, IsValidPseudo, as_read}
use Rattle.h3_header.specs.TakenLaws.{named_is_token}
use Rattle.h3_header.specs.declared.headers.pseudo.Pseudo.{Pseudo}
use Rattle.h3_header.specs.declared.headers.kind.FieldKind.{FieldKind}
use Rattle.h3_header.specs.declared.headers.kind.FieldKind.TheVariants.{Method, Scheme, Authority, Path, Status, Protocol, Regular}
use Rattle.h3_header.proofs.BackLemmas.{Reading-front, parts, reads_as, reads_back}
use Rattle.h3_header.proofs.HeadReads.{accepted_from, by_reading, head_is_read, not_refused}

value_stays : (at : FieldKind) (value : List ℕ) → is_value_at false at value ≡ true → is_value_at true at value ≡ true
value_stays Method value is = is
value_stays Scheme value is = is
value_stays Authority value is = is
value_stays Path value is = is
value_stays Status value is = is
value_stays Protocol value is = named_is_token value is
value_stays Regular value is = is

refusal_stays : (at : FieldKind) (h : Head) (f : Field) → refusal_at false at h f ≡ None → refusal_at true at h f ≡ None
refusal_stays at h f none = by_tests (is_name_at at f.name) (is_value_at false at f.value) (is_value_at true at f.value) (is_full_at at h f) (value_stays at f.value) none
  where
    by_tests : (name few any full : Bool) → (few ≡ true → any ≡ true)
        → (if not name then Some Name else (if not few then Some Value else (if full then Some TooMany else None))) ≡ None
        → (if not name then Some Name else (if not any then Some Value else (if full then Some TooMany else None))) ≡ None
    by_tests false few any full stays none = absurd (cc)
    by_tests true false any full stays none = absurd (cc)
    by_tests true true any full stays none = rw (stays refl) none

-- what reads as a head with the two names reads so with any
read_stays : (h : Head) (fields : List Field) (k : Head) → read_from false h fields ≡ IsHead k → read_from true h fields ≡ IsHead k
read_stays h [] k is = is
read_stays h (f ∷ fields) k is =
    let step = not_refused (refusal_at false (kind_of f.name) h f) (read_from false (with_field h f) fields) k is in
    ap (λ o. unless_refused o (read_from true (with_field h f) fields)) (refusal_stays (kind_of f.name) h f step.0) ∙ read_stays (with_field h f) fields k step.1

pub heads_stay : (fields : List Field) (k : Head) → head_of fields ≡ IsHead k → head_by true fields ≡ IsHead k
heads_stay fields k is = by_reading true fields ∙ read_stays (trailer_head []) fields k (sym (by_reading false fields) ∙ is)

refusal_alike : (at : FieldKind) (h : Head) (f : Field) → (at ≡ Protocol → ⊥) → refusal_at true at h f ≡ refusal_at false at h f
refusal_alike Method h f other = refl
refusal_alike Scheme h f other = refl
refusal_alike Authority h f other = refl
refusal_alike Path h f other = refl
refusal_alike Status h f other = refl
refusal_alike Protocol h f other = absurd (other refl)
refusal_alike Regular h f other = refl

read_alike : (h : Head) (fields : List Field) → AllByRecursion (λ f. kind_of f.name ≡ Protocol → ⊥) fields → read_from true h fields ≡ read_from false h fields
read_alike h [] others = refl
read_alike h (f ∷ fields) others =
    ap (λ o. unless_refused o (read_from true (with_field h f) fields)) (refusal_alike (kind_of f.name) h f others.0)
    ∙ ap (unless_refused (refusal_at false (kind_of f.name) h f)) (read_alike (with_field h f) fields others.1)

-- the choice speaks of `:protocol` alone
pub without_protocol : (fields : List Field) → AllByRecursion (λ f. kind_of f.name ≡ Protocol → ⊥) fields → head_by true fields ≡ head_of fields
without_protocol fields others = by_reading true fields ∙ read_alike (trailer_head []) fields others ∙ sym (by_reading false fields)

-- what reads as a head with the two names is the same one with the choice and without it
pub named_is_read : (any : Bool) (fields : List Field) (h : Head) → IsHeadOf false fields h → head_by any fields ≡ IsHead h
named_is_read true fields h is = heads_stay fields h (head_is_read false fields h is)
named_is_read false fields h is = head_is_read false fields h is

-- the field list of a head with any short token as its protocol is read as this head
pub tokens_read_back : (p : Pseudo) (m : Entries FieldValue) → IsValidPseudo true p → IsValidMap m → head_by true (head_fields (head_of_parts p m)) ≡ IsHead (as_read (head_of_parts p m))
tokens_read_back p m valid map =
    let back = reads_back true p m valid map in
    head_is_read true (head_fields (head_of_parts p m)) (as_read (head_of_parts p m)) (back.0, sym (reads_as true p m valid map))

-- a list that reads as a head, and then more
read_on : (any : Bool) (h : Head) (fields more : List Field) (k : Head) → read_from any h fields ≡ IsHead k → read_from any h (fields ++ more) ≡ read_from any k more
read_on any h [] more k is = let same : h ≡ k = cc in ap (λ x. read_from any x more) same
read_on any h (f ∷ fields) more k is =
    let step = not_refused (refusal_at any (kind_of f.name) h f) (read_from any (with_field h f) fields) k is in
    ap (λ o. unless_refused o (read_from any (with_field h f) (fields ++ more))) step.0 ∙ read_on any (with_field h f) fields more k step.1

token_refused : (h : Head) (protocol : Option (List ℕ)) (more : List Field) → takes_protocol false protocol ≡ false
    → read_from false h (optional_field (codes ":protocol") protocol ++ more) ≡ IsNone Value
unfolding kind_of
token_refused h None more untaken = absurd (cc)
token_refused h (Some text) more untaken = rw untaken refl

-- the list of a head with another protocol than the two is malformed where these alone are taken
pub untaken_refused : (p : Pseudo) (m : Entries FieldValue) → IsValidPseudo true p → takes_protocol false p.protocol ≡ false → head_of (head_fields (head_of_parts p m)) ≡ IsNone Value
untaken_refused p m valid untaken =
    let front = optional_field (codes ":method") p.method ++ optional_field (codes ":scheme") p.scheme ++ optional_field (codes ":authority") p.authority
    ++ optional_field (codes ":path") (option_map or_slash p.path) ++ optional_field (codes ":status") (option_map code_digits p.status) in
    let begun = parts p.method p.scheme p.authority (option_map or_slash p.path) p.status None in
    let others : IsValidPseudo false (record p { protocol = None }) = record { method = valid.method; scheme = valid.scheme; authority = valid.authority; path = valid.path; status = valid.status; protocol = tt } in
    let reading = Reading-front false (record p { protocol = None }) others in
    let first = accepted_from false (trailer_head []) front reading.accepts ∙ ap IsHead reading.makes in
    by_reading false (head_fields (head_of_parts p m))
    ∙ ap (read_from false (trailer_head [])) (append_assoc front (optional_field (codes ":protocol") p.protocol) (regular_fields m))
    ∙ read_on false (trailer_head []) front (optional_field (codes ":protocol") p.protocol ++ regular_fields m) begun first
    ∙ token_refused begun p.protocol (regular_fields m) untaken
