-- What a contract sees of a `Header`: its pseudo-header fields and the map of its regular fields (RFC 9114, 4.2 and 4.3),
-- and the field list that they make.
use Rattle.std.specs.Prelude.{ℕ, List, [], ◌∷◌, ◌++◌, map, codes, Bool, ◌&&◌, ◌||◌, not, is_some, Option, Some, None, option_map}
use Rattle.http_header.specs.FieldValue.{FieldValue}
use Rattle.http_header.specs.HeaderMap.{Entries, pairs}
use Rattle.http.specs.StatusCode.{code_digits}
use Rattle.http_uri.specs.Grammar.{or_slash}
use Rattle.h3_field.specs.Field.{Field, plain_field}

-- the pseudo-header fields, each as its bytes or its number, and the map of the regular ones
pub record Head : Type 0 where
  pub method : Option (List ℕ)
  pub scheme : Option (List ℕ)
  pub authority : Option (List ℕ)
  pub path : Option (List ℕ)
  pub status : Option ℕ
  pub protocol : Option (List ℕ)
  pub regular : Entries FieldValue

-- a head with nothing but regular fields
abbrev pub trailer_head : Entries FieldValue → Head
trailer_head m = record { method = None; scheme = None; authority = None; path = None; status = None; protocol = None; regular = m }

-- a head with a status and regular fields
abbrev pub response_head : ℕ → Entries FieldValue → Head
response_head n m = record { method = None; scheme = None; authority = None; path = None; status = Some n; protocol = None; regular = m }

-- a field that may be missing
abbrev pub optional_field : List ℕ → Option (List ℕ) → List Field
optional_field name None = []
optional_field name (Some value) = plain_field name value ∷ []

-- the field of a name and a value in a map
abbrev pub to_field : List ℕ × FieldValue → Field
to_field p = plain_field p.0 p.1.bytes

-- the regular fields in the map's order, the values of one name together
abbrev pub regular_fields : Entries FieldValue → List Field
regular_fields m = map to_field (pairs m)

-- the pseudo-header fields that are there, in order
abbrev pub pseudo_fields : Option (List ℕ) → Option (List ℕ) → Option (List ℕ) → Option (List ℕ) → Option ℕ → Option (List ℕ) → List Field
pseudo_fields method scheme authority path status protocol =
    optional_field (codes ":method") method ++ optional_field (codes ":scheme") scheme
    ++ optional_field (codes ":authority") authority ++ optional_field (codes ":path") (option_map or_slash path)
    ++ optional_field (codes ":status") (option_map code_digits status) ++ optional_field (codes ":protocol") protocol

-- the field list of a head: the pseudo-header fields, and then the regular ones
abbrev pub head_fields : Head → List Field
head_fields h = pseudo_fields h.method h.scheme h.authority h.path h.status h.protocol ++ regular_fields h.regular

-- a request has a method and no status, a response the reverse. That a response has no other pseudo-header field of requests
-- (RFC 9114, section 4.3) is not enforced
abbrev pub is_request : Head → Bool
is_request h = is_some h.method && not (is_some h.status)

abbrev pub is_response : Head → Bool
is_response h = is_some h.status && not (is_some h.method)

-- whether any pseudo-header field is there
abbrev pub has_pseudo : Head → Bool
has_pseudo h =
    is_some h.method || is_some h.scheme || is_some h.authority || is_some h.path || is_some h.status || is_some h.protocol
