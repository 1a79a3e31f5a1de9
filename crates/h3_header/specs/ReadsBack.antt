-- The field list of a head is read as a head with that very list.
use Rattle.std.specs.Prelude.{◌≡◌, ℕ, Bool, List, [], map, option_map, IfSome, All}
use Rattle.http_header.specs.Token.{IsToken}
use Rattle.http_header.specs.FieldName.{IsHeaderName}
use Rattle.http_header.specs.FieldValue.{FieldValue, plain_value, IsFieldValue}
use Rattle.http_header.specs.HeaderMap.{Entries, pairs, IsHeaderMap}
use Rattle.http.specs.StatusCode.{IsStatusCode}
use Rattle.http_uri.specs.Grammar.{IsScheme, IsAuthority, IsPathAndQuery, or_slash}
use Rattle.h3_header.specs.ProtocolText.{IsProtocolBy}
use Rattle.h3_field.specs.Field.{Field}
use Rattle.h3_header.specs.declared.headers.pseudo.Pseudo.{Pseudo}
use Rattle.h3_header.specs.Head.{Head, trailer_head, head_fields}
use Rattle.h3_header.specs.Reads.{AcceptsAll, head_of_fields}

-- a name and a value as a map holds them
abbrev pub IsPair : List ℕ × FieldValue → Type 0
IsPair p = IsHeaderName p.0 × IsFieldValue p.1.bytes

-- each pseudo-header field is what its type holds, and the protocol one that is taken
pub record IsValidPseudo (any : Bool) (p : Pseudo) : Type 0 where
  pub method : IfSome p.method IsToken
  pub scheme : IfSome p.scheme IsScheme
  pub authority : IfSome p.authority IsAuthority
  pub path : IfSome p.path IsPathAndQuery
  pub status : IfSome p.status IsStatusCode
  pub protocol : IfSome p.protocol (IsProtocolBy any)

-- each name and value is what its type holds, and the map is one
pub record IsValidMap (m : Entries FieldValue) : Type 0 where
  pub fields : All IsPair (pairs m)
  pub map : IsHeaderMap m

-- the list is that of a head, and this head has this list, where any protocol is taken or the two names alone
abbrev pub ReadsBackBy : Bool → List Field → Type 0
ReadsBackBy any fields = AcceptsAll any (trailer_head []) fields × (head_fields (head_of_fields fields) ≡ fields)

-- a map whose values are not marked sensitive
abbrev pub unmarked : Entries FieldValue → Entries FieldValue
unmarked m = map (λ e. (e.0, map (λ v. plain_value v.bytes) e.1)) m

-- the head as its field list is read: an empty path is `/`, and no value is marked sensitive
abbrev pub as_read : Head → Head
as_read h = record h { path = option_map or_slash h.path; regular = unmarked h.regular }
