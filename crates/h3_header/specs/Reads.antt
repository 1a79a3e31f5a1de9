-- Which field lists are read as a head, and why the others are refused.
use Rattle.std.specs.Prelude.{◌≡◌, ℕ, ◌+◌, ◌-◌, ◌*◌, ◌⊎◌, ⊤, ◌≤◌, Bool, List, [], ◌∷◌, length, codes, fold, bytes_eq, slice_index, Some, if◌then◌else◌}
use Rattle.http_header.specs.Token.{IsToken}
use Rattle.http_header.specs.FieldName.{IsHeaderName}
use Rattle.http_header.specs.FieldValue.{FieldValue, plain_value, IsFieldValue}
use Rattle.http_header.specs.HeaderMap.{Entries, append, RefusesAppend}
use Rattle.http.specs.StatusCode.{IsCodeText}
use Rattle.http_uri.specs.Grammar.{IsScheme, IsAuthority, IsPathInput, without_fragment}
use Rattle.h3_field.specs.Field.{Field}
use Rattle.h3_header.specs.ProtocolText.{IsProtocolBy}
use Rattle.h3_header.specs.Head.{Head, trailer_head}
use Rattle.h3_header.specs.declared.headers.pseudo.Pseudo.{Pseudo}
use Rattle.h3_header.specs.declared.headers.kind.FieldKind.{FieldKind}
use Rattle.h3_header.specs.declared.headers.kind.FieldKind.TheVariants.{Method, Scheme, Authority, Path, Status, Protocol, Regular}
use Rattle.h3_header.specs.declared.headers.error.HeaderError.{HeaderError}
use Rattle.h3_header.specs.declared.headers.error.HeaderError.TheVariants.{InvalidHeaderName, InvalidHeaderValue, InvalidRequest, MissingMethod, MissingStatus, MissingAuthority, ContradictedAuthority, TooManyFields, OutOfMemory}

-- which pseudo-header field a name is, or else a regular one
unfoldable pub kind_of : List ℕ → FieldKind
kind_of name =
    if bytes_eq name (codes ":method") then Method else (
    if bytes_eq name (codes ":scheme") then Scheme else (
    if bytes_eq name (codes ":authority") then Authority else (
    if bytes_eq name (codes ":path") then Path else (
    if bytes_eq name (codes ":status") then Status else (
    if bytes_eq name (codes ":protocol") then Protocol else
    Regular)))))

-- the name may stand there. A name with `:` that is no pseudo-header field's is no header name either
abbrev pub IsNameAt : FieldKind → List ℕ → Type 0
IsNameAt Regular name = IsHeaderName name
IsNameAt _ name = ⊤

-- the value may stand there, where any protocol is taken or the two names alone. That an authority of http and https has no userinfo
-- (RFC 9114, section 4.3.1) is not enforced
abbrev pub IsValueAt : Bool → FieldKind → List ℕ → Type 0
IsValueAt any Method value = IsToken value
IsValueAt any Scheme value = IsScheme value
IsValueAt any Authority value = IsAuthority value
IsValueAt any Path value = IsPathInput value
IsValueAt any Status value = IsCodeText value
IsValueAt any Protocol value = IsProtocolBy any value
IsValueAt any Regular value = IsFieldValue value

-- a method that is kept in place, with no memory of its own
abbrev pub IsShortMethod : List ℕ → Type 0
IsShortMethod value = IsToken value × (length value ≤ 15)

-- the number of three digits
abbrev pub status_number : List ℕ → ℕ
status_number text = (slice_index text 0 - 48) * 100 + (slice_index text 1 - 48) * 10 + (slice_index text 2 - 48)

-- the head with one more field. A pseudo-header field takes the place of an earlier one, also behind regular fields: that each
-- comes once and first (RFC 9114, section 4.3) is not enforced. Nor are connection-specific fields refused (section 4.2)
abbrev pub with_kind : FieldKind → Head → Field → Head
with_kind Method h f = record h { method = Some f.value }
with_kind Scheme h f = record h { scheme = Some f.value }
with_kind Authority h f = record h { authority = Some f.value }
with_kind Path h f = record h { path = Some (without_fragment f.value) }
with_kind Status h f = record h { status = Some (status_number f.value) }
with_kind Protocol h f = record h { protocol = Some f.value }
with_kind Regular h f = record h { regular = append h.regular f.name (plain_value f.value) }

-- the map has room for the field
abbrev pub HasRoomAt : FieldKind → Head → Field → Type 0
HasRoomAt Regular h f = ¬ (RefusesAppend h.regular f.name)
HasRoomAt _ h f = ⊤

-- the field may come after those of the head
pub record AcceptsAt (any : Bool) (at : FieldKind) (h : Head) (f : Field) : Type 0 where
  pub name : IsNameAt at f.name
  pub value : IsValueAt any at f.value
  pub room : HasRoomAt at h f

-- reading the field may ask for memory: to keep its bytes, or for the text of its refusal
abbrev pub MayAskMemory : Bool → FieldKind → List ℕ → Type 0
MayAskMemory any Method value = ¬ (IsShortMethod value)
MayAskMemory any Status value = ¬ (IsCodeText value)
MayAskMemory any Protocol value = ¬ (IsProtocolBy any value)
MayAskMemory any _ value = ⊤

-- why it may not. A name is judged before its value, and room comes last
abbrev pub RefusesAt : Bool → FieldKind → Head → Field → HeaderError → Type 0
RefusesAt any at h f (InvalidHeaderName _) = ¬ (IsNameAt at f.name)
RefusesAt any at h f (InvalidHeaderValue _) = IsNameAt at f.name × ¬ (IsValueAt any at f.value)
RefusesAt any at h f TooManyFields = (at ≡ Regular) × IsNameAt at f.name × IsValueAt any at f.value × RefusesAppend h.regular f.name
RefusesAt any at h f InvalidRequest = ⊥
RefusesAt any at h f MissingMethod = ⊥
RefusesAt any at h f MissingStatus = ⊥
RefusesAt any at h f MissingAuthority = ⊥
RefusesAt any at h f ContradictedAuthority = ⊥
RefusesAt any at h f OutOfMemory = MayAskMemory any at f.value

-- the refusal of a name that should be valid
abbrev pub RefusesName : Type 0 → HeaderError → Type 0
RefusesName Valid (InvalidHeaderName _) = ¬ Valid
RefusesName Valid OutOfMemory = ⊤
RefusesName Valid _ = ⊥

-- the refusal of a value that should be valid. The second fact is why memory may be asked for
abbrev pub RefusesValue : Type 0 → Type 0 → HeaderError → Type 0
RefusesValue Valid Asks (InvalidHeaderValue _) = ¬ Valid
RefusesValue Valid Asks OutOfMemory = Asks
RefusesValue Valid Asks _ = ⊥

-- the refusal of the value of a pseudo-header field
abbrev pub RefusesPseudo : Bool → FieldKind → List ℕ → HeaderError → Type 0
RefusesPseudo any at value (InvalidHeaderValue _) = ¬ (IsValueAt any at value)
RefusesPseudo any at value OutOfMemory = MayAskMemory any at value
RefusesPseudo any at value _ = ⊥

-- pseudo-header fields with one more, which takes the place of an earlier one
abbrev pub with_pseudo : FieldKind → Pseudo → List ℕ → Pseudo
with_pseudo Method p value = record p { method = Some value }
with_pseudo Scheme p value = record p { scheme = Some value }
with_pseudo Authority p value = record p { authority = Some value }
with_pseudo Path p value = record p { path = Some (without_fragment value) }
with_pseudo Status p value = record p { status = Some (status_number value) }
with_pseudo Protocol p value = record p { protocol = Some value }
with_pseudo Regular p value = p

-- the refusal of a regular field
abbrev pub RefusesRegular : Entries FieldValue → List ℕ → List ℕ → HeaderError → Type 0
RefusesRegular m name value (InvalidHeaderName _) = ¬ (IsHeaderName name)
RefusesRegular m name value (InvalidHeaderValue _) = IsHeaderName name × ¬ (IsFieldValue value)
RefusesRegular m name value TooManyFields = IsHeaderName name × IsFieldValue value × RefusesAppend m name
RefusesRegular m name value OutOfMemory = ⊤
RefusesRegular m name value _ = ⊥

abbrev pub with_field : Head → Field → Head
with_field h f = with_kind (kind_of f.name) h f

abbrev pub Accepts : Bool → Head → Field → Type 0
Accepts any h f = AcceptsAt any (kind_of f.name) h f

abbrev pub Refuses : Bool → Head → Field → HeaderError → Type 0
Refuses any h f e = RefusesAt any (kind_of f.name) h f e

-- the head of a field list, if it has one
abbrev pub head_of_fields : List Field → Head
head_of_fields fields = fold with_field (trailer_head []) fields

-- each field may come after those before it
unfoldable pub AcceptsAll : Bool → Head → List Field → Type 0
AcceptsAll any h [] = ⊤
AcceptsAll any h (f ∷ fields) = Accepts any h f × AcceptsAll any (with_field h f) fields

-- some field is refused, and those before it are not
unfoldable pub RefusesOne : Bool → Head → List Field → HeaderError → Type 0
RefusesOne any h [] e = ⊥
RefusesOne any h (f ∷ fields) e = Refuses any h f e ⊎ (Accepts any h f × RefusesOne any (with_field h f) fields e)

-- the list is that of a head, and this is the head
abbrev pub IsHeadOf : Bool → List Field → Head → Type 0
IsHeadOf any fields h = AcceptsAll any (trailer_head []) fields × (h ≡ head_of_fields fields)
