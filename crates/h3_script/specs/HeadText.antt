-- The heads and trailers of a script's lines.
use Rattle.std.specs.Prelude.{◌≡◌, ℕ, Bool, true, false, ◌&&◌, ◌==◌, List, [], ◌∷◌, length, None, Some}
use Rattle.std.specs.List.{list_all}
use Rattle.http.specs.StatusCode.{IsStatusCode, code_digits}
use Rattle.http_header.specs.Token.{IsToken, lowercase}
use Rattle.http_header.specs.FieldName.{IsFieldName}
use Rattle.http_header.specs.FieldValue.{FieldValue, plain_value, IsFieldValue}
use Rattle.http_header.specs.HeaderMap.{Entries, append, RefusesAppend}
use Rattle.http_uri.specs.Uri.{Spells, uri_authority}
use Rattle.http_uri.specs.declared.uri.Uri.{Uri as Target}
use Rattle.h3_header.specs.Head.{Head, response_head, trailer_head}
use Rattle.h3_header.specs.Request.{host_of, authority_refusal, request_head}
use Rattle.h3_script.specs.Pieces.{cut}
use Rattle.h3_script.specs.Words.{is_digit}

-- The word is `name=value`, cut at its first `=`, and the map with this field is the new one.
pub record AddsField (old : Entries FieldValue) (word : List ℕ) (new : Entries FieldValue) : Type 0 where
  pub name : List ℕ
  pub value : List ℕ
  pub parts : cut 61 word ≡ Some (name, value)
  pub is_name : IsFieldName name
  pub is_value : IsFieldValue value
  pub room : ¬ (RefusesAppend old (lowercase name))
  pub after : new ≡ append old (lowercase name) (plain_value value)

-- each word adds its field, in order
abbrev pub AddsFields : Entries FieldValue → List (List ℕ) → Entries FieldValue → Type 0
AddsFields old [] new = new ≡ old
AddsFields old (word ∷ words) new = (mid : Entries FieldValue) × AddsField old word mid × AddsFields mid words new

-- three digits
abbrev pub is_status : List ℕ → Bool
is_status word = (length word == 3) && list_all is_digit word

-- the head of a response: its status, and its fields
pub record IsResponse (status : List ℕ) (words : List (List ℕ)) (head : Head) : Type 0 where
  pub code : ℕ
  pub fields : Entries FieldValue
  pub is_code : IsStatusCode code
  pub digits : status ≡ code_digits code
  pub adds : AddsFields [] words fields
  pub head_is : head ≡ response_head code fields

-- the head of a request: its method, its URI, and its fields
pub record IsRequest (method uri : List ℕ) (words : List (List ℕ)) (head : Head) : Type 0 where
  pub target : Target
  pub fields : Entries FieldValue
  pub is_method : IsToken method
  pub spells : Spells uri target
  pub adds : AddsFields [] words fields
  pub agrees : authority_refusal (uri_authority target) (host_of fields) ≡ None
  pub head_is : head ≡ request_head method target fields None

abbrev pub IsRequestHead : List ℕ → List (List ℕ) → Head → Type 0
IsRequestHead method [] head = ⊥
IsRequestHead method (uri ∷ words) head = IsRequest method uri words head

-- a response where the first word is a status, else a request
abbrev pub HeadBy : Bool → List ℕ → List (List ℕ) → Head → Type 0
HeadBy true what words head = IsResponse what words head
HeadBy false what words head = IsRequestHead what words head

-- a status or a method and a URI, and then fields
abbrev pub IsHeadText : List (List ℕ) → Head → Type 0
IsHeadText [] head = ⊥
IsHeadText (what ∷ words) head = HeadBy (is_status what) what words head

-- a trailer: its fields
pub record IsTrailerText (words : List (List ℕ)) (trailer : Head) : Type 0 where
  pub fields : Entries FieldValue
  pub adds : AddsFields [] words fields
  pub trailer_is : trailer ≡ trailer_head fields
