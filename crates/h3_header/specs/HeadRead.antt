-- The head of a field list, or the first refusal, as a value (RFC 9114, sections 4.2 and 4.3).
use Rattle.std.specs.Prelude.{ℕ, Bool, true, false, not, List, [], ◌∷◌, if◌then◌else◌, Option, Some, None}
use Rattle.h3_field.specs.Field.{Field}
use Rattle.h3_header.specs.Head.{Head, trailer_head}
use Rattle.h3_header.specs.Reads.{kind_of, with_field}
use Rattle.h3_header.specs.declared.headers.kind.FieldKind.{FieldKind}
use Rattle.h3_header.specs.declared.headers.kind.FieldKind.TheVariants.{Method, Scheme, Authority, Path, Status, Protocol, Regular}
use Rattle.h3_header.specs.declared.headers.error.HeaderError.{HeaderError}
use Rattle.h3_header.specs.declared.headers.error.HeaderError.TheVariants as error
use Rattle.h3_header.specs.HeadTests.{is_token, is_header_name, is_scheme, is_authority, is_path_input, is_code_text, is_protocol_by, is_field_value, refuses_append}

pub data HeadRefusal : Type 0 where
  Name : HeadRefusal
  Value : HeadRefusal
  TooMany : HeadRefusal

pub data HeadRead : Type 0 where
  IsHead : (h : Head) → HeadRead
  IsNone : (why : HeadRefusal) → HeadRead

-- RFC 9114 4.2: malformed names of fields
abbrev pub is_name_at : FieldKind → List ℕ → Bool
is_name_at Regular name = is_header_name name
is_name_at _ name = true

-- RFC 9114 10.3: malformed values of fields
abbrev pub is_value_at : Bool → FieldKind → List ℕ → Bool
is_value_at any Method value = is_token value
is_value_at any Scheme value = is_scheme value
is_value_at any Authority value = is_authority value
is_value_at any Path value = is_path_input value
is_value_at any Status value = is_code_text value
is_value_at any Protocol value = is_protocol_by any value
is_value_at any Regular value = is_field_value value

abbrev pub is_full_at : FieldKind → Head → Field → Bool
is_full_at Regular h f = refuses_append h.regular f.name
is_full_at _ h f = false

-- why a field may not come: its name, then its value, then room
abbrev pub refusal_at : Bool → FieldKind → Head → Field → Option HeadRefusal
refusal_at any at h f =
    if not (is_name_at at f.name) then Some Name else (
    if not (is_value_at any at f.value) then Some Value else (
    if is_full_at at h f then Some TooMany else None))

abbrev pub unless_refused : Option HeadRefusal → HeadRead → HeadRead
unless_refused (Some why) later = IsNone why
unless_refused None later = later

-- what follows a head, where any protocol is taken or the two names alone
abbrev pub read_from : Bool → Head → List Field → HeadRead
read_from any h [] = IsHead h
read_from any h (f ∷ fields) = unless_refused (refusal_at any (kind_of f.name) h f) (read_from any (with_field h f) fields)

-- what the list reads as
unfoldable pub head_of : List Field → HeadRead
head_of fields = read_from false (trailer_head []) fields

-- what it reads as where any protocol is taken
unfoldable pub head_of_any : List Field → HeadRead
head_of_any fields = read_from true (trailer_head []) fields

-- the one or the other
abbrev pub head_by : Bool → List Field → HeadRead
head_by any fields = if any then head_of_any fields else head_of fields

-- the refusal as `Header::try_from` tells it. Want of memory tells none
abbrev pub told : HeaderError → Option HeadRefusal
told (error.InvalidHeaderName _) = Some Name
told (error.InvalidHeaderValue _) = Some Value
told error.TooManyFields = Some TooMany
told _ = None
