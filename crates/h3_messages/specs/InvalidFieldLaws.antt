-- A list that is refused for a name or a value has a field that is invalid by itself.
use Rattle.std.proofs.Common.{◌≡◌, bytes_eq, codes, ℕ, zero, suc, ◌+◌, Bool, true, false, not, ◌&&◌, ◌||◌, List, [], ◌∷◌, length, take, Option, Some, None, refl, ap, sym, ◌∙◌, arith, if◌then◌else◌, nat_lt, inl, inr}
use Rattle.std.specs.Prelude.{All, is_some, ◌⊎◌}
use Rattle.std.specs.List.{list_any, position, position_or_len}
use Rattle.std.specs.Option.{option_or}
use Rattle.std.proofs.lemmas.Bool.{le-ltb, lt-ltb}
use Rattle.h3_field.specs.Field.{Field}
use Rattle.h3_header.specs.BadPart.{bad_part, refusal_of}
use Rattle.h3_header.specs.Head.{Head, trailer_head}
use Rattle.h3_header.specs.HeadRead.{HeadRead, HeadRefusal, IsHead, IsNone, Name, Value, TooMany, head_by, head_of, head_of_any, is_full_at, is_name_at, is_value_at, read_from, refusal_at, unless_refused}
use Rattle.h3_header.specs.Reads.{kind_of, with_field}
use Rattle.h3_header.specs.declared.headers.judge.BadPart.{BadPart}
use Rattle.h3_header.specs.declared.headers.judge.BadPart.TheVariants as part
use Rattle.h3_messages.specs.FirstInvalid.{Finds, FindsBad, FindsSpaced, breaks_value, is_value}
use Rattle.h3_messages.specs.InvalidField.{is_invalid, invalid_field, IsFirst, HasInvalidPart, HasSpacedValue}
use Rattle.h3_messages.specs.Messages.{first_broken, has_connection_field, has_space_around, holds, is_authority_wrong, is_connect_wrong, is_length_misplaced, is_length_wrong, is_path_wrong, is_protocol_wrong, is_pseudo, is_scheme_wrong, is_te_wrong, misses_pseudo, only_pseudo_of, pseudo_first, repeats, repeats_pseudo, request_names, response_names, value_of, violation_of_request, violation_of_response, violation_of_trailer}
use Rattle.h3_messages.specs.OwnMessages.{awaits_tunnel, has_no_trailer_field, is_own_length_misplaced, is_trace, or_broken, says_content, says_tunnel_length, violation_of_own_answer, violation_of_own_request, violation_of_own_response, violation_of_own_trailer}
use Rattle.h3_messages.specs.declared.content.Content.{Content}
use Rattle.h3_messages.specs.declared.violation.Violation.{Violation}
use Rattle.h3_messages.specs.declared.violation.Violation.TheVariants as violation

-- One field in front of others, which keeps a rule or breaks it.
module _ (keeps breaks : Field → Type 0) (f : Field) (fields : List Field) where
  first_here : breaks f → IsFirst keeps breaks (f ∷ fields) 0
  first_here is = record { inside = omega arith; before = λ k d less. absurd (omega (arith, less)); here = λ d. is }

  first_later : keeps f → (index : ℕ) → IsFirst keeps breaks fields index → IsFirst keeps breaks (f ∷ fields) (suc index)
  first_later is index first = record { inside = omega (arith, first.inside); before = before; here = first.here }
    where
      before : All keeps (take (suc index) (f ∷ fields))
      before zero d less = is
      before (suc k) d less = first.before k d (omega (arith, less))

all_cons : (keeps : Field → Type 0) (f : Field) (fields : List Field) → keeps f → All keeps fields → All keeps (f ∷ fields)
all_cons keeps f fields here rest zero d less = here
all_cons keeps f fields here rest (suc k) d less = rest k d (omega (arith, less))

found : (test : Field → Bool) (keeps breaks : Field → Type 0) (fields : List Field) (h : Finds test keeps breaks fields) → position test fields ≡ Some h.index
found test keeps breaks fields h =
    ap (λ n. let there : Option ℕ = if nat_lt n (length fields) then Some n else None in there) h.at
    ∙ ap (λ b. let there : Option ℕ = if b then Some h.index else None in there) (lt-ltb _ _ h.first.inside)

-- The rules of a field by itself, apart from room.
bad_by : (name value full : Bool) (bad : BadPart)
    → (if not name then Some Name else (if not value then Some Value else (if full then Some TooMany else None))) ≡ Some (refusal_of bad)
    → (if not name then Some part.Name else (if not value then Some part.Value else None)) ≡ Some bad
bad_by false value full part.Name is = refl
bad_by false value full part.Value is = absurd (cc)
bad_by true false full part.Name is = absurd (cc)
bad_by true false full part.Value is = refl
bad_by true true true part.Name is = absurd (cc)
bad_by true true true part.Value is = absurd (cc)
bad_by true true false bad is = absurd (cc)

good_by : (name value full : Bool)
    → (let rule : Option HeadRefusal = if not name then Some Name else (if not value then Some Value else (if full then Some TooMany else None)) in rule) ≡ None
    → (let rule : Option BadPart = if not name then Some part.Name else (if not value then Some part.Value else None) in rule) ≡ None
good_by false value full is = absurd (cc)
good_by true false full is = absurd (cc)
good_by true true full is = refl

module _ (any : Bool) where
  bad_at : (h : Head) (f : Field) (bad : BadPart) → refusal_at any (kind_of f.name) h f ≡ Some (refusal_of bad) → bad_part any f ≡ Some bad
  bad_at h f bad is = bad_by (is_name_at (kind_of f.name) f.name) (is_value_at any (kind_of f.name) f.value) (is_full_at (kind_of f.name) h f) bad is

  good_at : (h : Head) (f : Field) → refusal_at any (kind_of f.name) h f ≡ None → bad_part any f ≡ None
  good_at h f is = good_by (is_name_at (kind_of f.name) f.name) (is_value_at any (kind_of f.name) f.value) (is_full_at (kind_of f.name) h f) is

  here_or_later : (o : Option HeadRefusal) (later : HeadRead) (why : HeadRefusal) → unless_refused o later ≡ IsNone why → (o ≡ Some why) ⊎ ((o ≡ None) × (later ≡ IsNone why))
  here_or_later None later why is = inr (refl, is)
  here_or_later (Some other) later why is = let same : other ≡ why = cc in inl (ap Some same)

  passed : (o : Option HeadRefusal) (later : HeadRead) (head : Head) → unless_refused o later ≡ IsHead head → (o ≡ None) × (later ≡ IsHead head)
  passed None later head is = (refl, is)
  passed (Some why) later head is = absurd (cc)

  -- the position of a field of which this is malformed, and of one behind a field of which nothing is
  bad_position : (f : Field) (fields : List Field) (bad : BadPart) → bad_part any f ≡ Some bad → position_or_len (is_invalid any) (f ∷ fields) ≡ 0
  bad_position f fields bad is = ap (λ (p : Option BadPart). if not (is_some p) then 1 + position_or_len (is_invalid any) fields else 0) is

  good_position : (f : Field) (fields : List Field) → bad_part any f ≡ None → position_or_len (is_invalid any) (f ∷ fields) ≡ suc (position_or_len (is_invalid any) fields)
  good_position f fields is = ap (λ (p : Option BadPart). if not (is_some p) then 1 + position_or_len (is_invalid any) fields else 0) is ∙ (omega arith)

  finds_bad : (h : Head) (fields : List Field) (bad : BadPart) → read_from any h fields ≡ IsNone (refusal_of bad) → FindsBad any bad fields
  finds_bad h [] bad is = absurd (cc)
  finds_bad h (f ∷ fields) bad is =
      elim (here_or_later (refusal_at any (kind_of f.name) h f) (read_from any (with_field h f) fields) (refusal_of bad) is) [
        | inl here ↦
            let broken = bad_at h f bad here in
            record { index = 0; at = bad_position f fields bad broken; first = first_here _ _ f fields broken }
        | inr later ↦
            let next = finds_bad (with_field h f) fields bad later.1 in
            let kept = good_at h f later.0 in
            record { index = suc next.index; at = good_position f fields kept ∙ ap suc next.at; first = first_later _ _ f fields kept next.index next.first }
      ]

  finds_none : (h : Head) (fields : List Field) (head : Head) → read_from any h fields ≡ IsHead head → position_or_len (is_invalid any) fields ≡ length fields
  finds_none h [] head is = refl
  finds_none h (f ∷ fields) head is =
      let step = passed (refusal_at any (kind_of f.name) h f) (read_from any (with_field h f) fields) head is in
      good_position f fields (good_at h f step.0) ∙ ap suc (finds_none (with_field h f) fields head step.1)

  by_reading : (fields : List Field) → head_by any fields ≡ read_from any (trailer_head []) fields
  unfolding head_of head_of_any
  by_reading fields = by any
    where
      by : (b : Bool) → head_by b fields ≡ read_from b (trailer_head []) fields
      by true = refl
      by false = refl

  heads_good : (h : Head) (fields : List Field) (head : Head) → read_from any h fields ≡ IsHead head → All (λ f. bad_part any f ≡ None) fields
  heads_good h [] head is = λ k d less. absurd (omega (arith, less))
  heads_good h (f ∷ fields) head is =
      let step = passed (refusal_at any (kind_of f.name) h f) (read_from any (with_field h f) fields) head is in
      all_cons (λ g. bad_part any g ≡ None) f fields (good_at h f step.0) (heads_good (with_field h f) fields head step.1)

  -- of the fields of a head none is malformed
  pub head_is_good : (fields : List Field) (head : Head) → head_by any fields ≡ IsHead head → All (λ f. bad_part any f ≡ None) fields
  head_is_good fields head is = heads_good (trailer_head []) fields head (sym (by_reading fields) ∙ is)

  -- a list that is refused for one of its fields
  pub invalid_of_refused : (strict : Bool) (fields : List Field) (bad : BadPart) → head_by any fields ≡ IsNone (refusal_of bad) → HasInvalidPart any strict fields bad
  invalid_of_refused strict fields bad is =
      let h = finds_bad (trailer_head []) fields bad (sym (by_reading fields) ∙ is) in
      record {
        index = h.index;
        told = ap (λ o. option_or o (if strict then position has_space_around fields else None)) (found _ _ _ fields h);
        first = h.first;
      }

  -- a list that is not
  none_of_head : (fields : List Field) (head : Head) → head_by any fields ≡ IsHead head → position (is_invalid any) fields ≡ None
  none_of_head fields head is =
      ap (λ n. let there : Option ℕ = if nat_lt n (length fields) then Some n else None in there) (finds_none (trailer_head []) fields head (sym (by_reading fields) ∙ is))
      ∙ ap (λ b. let there : Option ℕ = if b then Some (length fields) else None in there) (not_less (length fields))
    where
      not_less : (n : ℕ) → nat_lt n n ≡ false
      not_less n = le-ltb n n (omega arith)

  pub no_invalid_of_head : (fields : List Field) (head : Head) → head_by any fields ≡ IsHead head → invalid_field any false fields ≡ None
  no_invalid_of_head fields head is = ap (λ (o : Option ℕ). option_or o None) (none_of_head fields head is)

-- a value with white space around it
finds_spaced : (fields : List Field) → list_any has_space_around fields ≡ true → FindsSpaced fields
finds_spaced [] is = absurd (cc)
finds_spaced (f ∷ fields) is = by (has_space_around f) refl is (λ some. finds_spaced fields some)
  where
    here : has_space_around f ≡ true → position_or_len has_space_around (f ∷ fields) ≡ 0
    here at = ap (λ t. if not t then 1 + position_or_len has_space_around fields else 0) at

    later : has_space_around f ≡ false → position_or_len has_space_around (f ∷ fields) ≡ suc (position_or_len has_space_around fields)
    later at = ap (λ t. if not t then 1 + position_or_len has_space_around fields else 0) at ∙ (omega arith)

    by : (b : Bool) → has_space_around f ≡ b → (b || list_any has_space_around fields) ≡ true → (list_any has_space_around fields ≡ true → FindsSpaced fields) → FindsSpaced (f ∷ fields)
    by true at some rest = record { index = 0; at = here at; first = first_here _ _ f fields at }
    by false at some rest =
        let next = rest some in
        record { index = suc next.index; at = later at ∙ ap suc next.at; first = first_later _ _ f fields at next.index next.first }

-- The rule on that white space is the last.
told_value : (rules : List (Bool × Violation)) → first_broken rules ≡ Some violation.Value → breaks_value rules ≡ true
told_value [] is = absurd (cc)
told_value ((true, v) ∷ rules) is =
    let same : v ≡ violation.Value = cc in
    ap (λ w. (is_value w && true) || breaks_value rules) same
told_value ((false, v) ∷ rules) is = later (is_value v) (told_value rules is)
  where
    later : (b : Bool) → breaks_value rules ≡ true → ((b && false) || breaks_value rules) ≡ true
    later true more = more
    later false more = more

last_alone : (b : Bool) → (b || false) ≡ true → b ≡ true
last_alone true is = refl
last_alone false is = absurd (cc)

of_reader : (o : Option Violation) (b : Bool) (v : Violation) → is_value v ≡ false → or_broken o b v ≡ Some violation.Value → o ≡ Some violation.Value
of_reader None true v other is = absurd (let same : v ≡ violation.Value = cc in let wrong : false ≡ true = sym other ∙ ap is_value same in cc)
of_reader None false v other is = absurd (cc)
of_reader (Some w) b v other is = is

spaced_request : (extended : Bool) (fields : List Field) → violation_of_request extended fields ≡ Some violation.Value → list_any has_space_around fields ≡ true
unfolding violation_of_request
spaced_request extended fields is = last_alone (list_any has_space_around fields) (told_value (
    (not (pseudo_first fields), violation.PseudoOrder) ∷
    (not (only_pseudo_of request_names fields), violation.WrongPseudo) ∷
    (repeats_pseudo fields, violation.RepeatedPseudo) ∷
    (has_connection_field fields || is_te_wrong fields, violation.ConnectionField) ∷
    (is_length_wrong fields, violation.ContentLength) ∷
    (is_protocol_wrong extended fields, violation.Protocol) ∷
    (is_connect_wrong fields, violation.Connect) ∷
    (misses_pseudo fields, violation.MissingPseudo) ∷
    (is_scheme_wrong fields, violation.Scheme) ∷
    (is_authority_wrong fields, violation.Authority) ∷
    (is_path_wrong fields, violation.Path) ∷
    (list_any has_space_around fields, violation.Value) ∷ []) is)

spaced_response : (fields : List Field) → violation_of_response fields ≡ Some violation.Value → list_any has_space_around fields ≡ true
unfolding violation_of_response
spaced_response fields is = last_alone (list_any has_space_around fields) (told_value (
    (not (pseudo_first fields), violation.PseudoOrder) ∷
    (not (only_pseudo_of response_names fields), violation.WrongPseudo) ∷
    (repeats (codes ":status") fields, violation.RepeatedPseudo) ∷
    (has_connection_field fields || holds (codes "te") fields, violation.ConnectionField) ∷
    (is_length_wrong fields, violation.ContentLength) ∷
    (not (holds (codes ":status") fields), violation.MissingPseudo) ∷
    (bytes_eq (value_of (codes ":status") fields) (codes "101"), violation.Status) ∷
    (is_length_misplaced fields, violation.ContentLength) ∷
    (list_any has_space_around fields, violation.Value) ∷ []) is)

spaced_trailer : (fields : List Field) → violation_of_trailer fields ≡ Some violation.Value → list_any has_space_around fields ≡ true
unfolding violation_of_trailer
spaced_trailer fields is = last_alone (list_any has_space_around fields) (told_value (
    (list_any is_pseudo fields, violation.WrongPseudo) ∷
    (has_connection_field fields || holds (codes "te") fields, violation.ConnectionField) ∷
    (holds (codes "content-length") fields || holds (codes "host") fields, violation.TrailerField) ∷
    (list_any has_space_around fields, violation.Value) ∷ []) is)

module _ (any : Bool) (fields : List Field) (head : Head) (reads : head_by any fields ≡ IsHead head) where
  spaced_of : list_any has_space_around fields ≡ true → HasSpacedValue any true fields
  spaced_of is =
      let h = finds_spaced fields is in
      record {
        index = h.index;
        told = ap (λ (o : Option ℕ). option_or o (position has_space_around fields)) (none_of_head any fields head reads) ∙ found _ _ _ fields h;
        first = h.first;
      }

  pub spaced_of_request : (extended : Bool) → violation_of_own_request extended fields ≡ Some violation.Value → HasSpacedValue any true fields
  spaced_of_request extended is =
      spaced_of (spaced_request extended fields (of_reader (violation_of_request extended fields) (is_trace fields && says_content fields) violation.ContentLength refl is))

  pub spaced_of_response : (known : Option Content) → violation_of_own_answer known fields ≡ Some violation.Value → HasSpacedValue any true fields
  spaced_of_response known is =
      let own = of_reader (violation_of_own_response fields) (says_tunnel_length fields && awaits_tunnel known) violation.ContentLength refl is in
      spaced_of (spaced_response fields (of_reader (violation_of_response fields) (is_own_length_misplaced fields) violation.ContentLength refl own))

  pub spaced_of_trailer : violation_of_own_trailer fields ≡ Some violation.Value → HasSpacedValue any true fields
  spaced_of_trailer is = spaced_of (spaced_trailer fields (of_reader (violation_of_trailer fields) (has_no_trailer_field fields) violation.TrailerField refl is))
