-- What makes the head of a request, and what is taken out of one.
use Rattle.std.specs.Prelude.{◌≡◌, ◌⊎◌, ℕ, Bool, true, false, List, codes, bytes_eq, Option, Some, None, IfSome, IsSome, option_map, unwrap_or, if◌then◌else◌}
use Rattle.std.specs.Option.{option_or}
use Rattle.http_header.specs.FieldValue.{FieldValue}
use Rattle.http_header.specs.HeaderMap.{Entries, get}
use Rattle.http_uri.specs.Grammar.{IsAuthority}
use Rattle.http_uri.specs.Uri.{uri_scheme, uri_authority, uri_data, has_path, PartsFit, IsUriOfParts}
use Rattle.http_uri.specs.declared.uri.Uri.{Uri as Target}
use Rattle.http_uri.specs.declared.uri.Parts.{Parts}
use Rattle.h3_header.specs.Head.{Head}
use Rattle.h3_header.specs.RequestPath.{rooted, is_rooted}
use Rattle.h3_header.specs.declared.headers.error.HeaderError.{HeaderError}
use Rattle.h3_header.specs.declared.headers.error.HeaderError.TheVariants.{InvalidHeaderName, InvalidHeaderValue, InvalidRequest, MissingMethod, MissingStatus, MissingAuthority, ContradictedAuthority, TooManyFields, OutOfMemory}

-- the first `host` of a map
abbrev pub host_of : Entries FieldValue → Option (List ℕ)
host_of m = option_map (λ v. v.bytes) (get m (codes "host"))

-- one of the two is needed, and both have to have the same bytes
abbrev pub authority_refusal : Option (List ℕ) → Option (List ℕ) → Option HeaderError
authority_refusal None None = Some MissingAuthority
authority_refusal None (Some host) = None
authority_refusal (Some authority) None = None
authority_refusal (Some authority) (Some host) = if bytes_eq authority host then None else Some ContradictedAuthority

-- the head of a request. The protocol counts for CONNECT alone
abbrev pub request_head : List ℕ → Target → Entries FieldValue → Option (List ℕ) → Head
request_head method u m protocol =
    record {
      method = Some method;
      scheme = Some (unwrap_or (uri_scheme u) (codes "https"));
      authority = uri_authority u;
      path = Some (if has_path u then rooted method (uri_data u) else codes "/");
      status = None;
      protocol = if bytes_eq method (codes "CONNECT") then protocol else None;
      regular = m;
    }

-- the parts of a URI, where a `host` stands for a missing authority
abbrev pub with_host : Parts → Option (List ℕ) → Parts
with_host p host = record { scheme = p.scheme; authority = option_or p.authority host; path_and_query = p.path_and_query }

-- they make a URI
abbrev pub AreOfUri : Parts → Type 0
AreOfUri p = IfSome p.authority IsAuthority × PartsFit p

-- path, scheme and authority of a head. The first `host` stands for a missing authority
abbrev pub request_parts : Head → Parts
request_parts h =
    with_host (record { scheme = h.scheme; authority = h.authority; path_and_query = h.path }) (host_of h.regular)

-- they make a URI
abbrev pub CanBeUri : Head → Type 0
CanBeUri h = AreOfUri (request_parts h)

-- its URI takes memory: `host` stands for the authority, or `/` is ahead of a query
abbrev pub is_path_rooted : Option (List ℕ) → Bool
is_path_rooted None = false
is_path_rooted (Some path) = is_rooted path

abbrev pub NeedsMemory : Head → Type 0
NeedsMemory h = (h.authority ≡ None) ⊎ (is_path_rooted h.path ≡ true)

-- why a head gives no request, in the order of judging. Not enforced are the rules of CONNECT (RFC 9114, section 4.4), that
-- `:protocol` comes with it alone, what a second `host` says, and that other methods have `:scheme` and `:path` (section 4.3.1)
-- where both are missing
abbrev pub RefusesRequest : Head → HeaderError → Type 0
RefusesRequest h MissingAuthority = authority_refusal h.authority (host_of h.regular) ≡ Some MissingAuthority
RefusesRequest h ContradictedAuthority = authority_refusal h.authority (host_of h.regular) ≡ Some ContradictedAuthority
RefusesRequest h MissingMethod = (authority_refusal h.authority (host_of h.regular) ≡ None) × (h.method ≡ None)
RefusesRequest h InvalidRequest =
    (authority_refusal h.authority (host_of h.regular) ≡ None) × IsSome h.method × ¬ (CanBeUri h)
RefusesRequest h OutOfMemory =
    (authority_refusal h.authority (host_of h.regular) ≡ None) × IsSome h.method × NeedsMemory h
RefusesRequest h (InvalidHeaderName _) = ⊥
RefusesRequest h (InvalidHeaderValue _) = ⊥
RefusesRequest h MissingStatus = ⊥
RefusesRequest h TooManyFields = ⊥

-- the method and the URI of a request head
pub record IsRequestOf (h : Head) (method : List ℕ) (u : Target) : Type 0 where
  pub authority : authority_refusal h.authority (host_of h.regular) ≡ None
  pub method_is : h.method ≡ Some method
  pub can : CanBeUri h
  pub uri : IsUriOfParts (request_parts h) u

-- why an authority can't be had: it is there and no authority, or `host` stands for it and memory ran out
abbrev pub IsHostError : Option (List ℕ) → Option (List ℕ) → HeaderError → Type 0
IsHostError own host e =
    ((e ≡ InvalidRequest) × ¬ (IfSome (option_or own host) IsAuthority)) ⊎ ((e ≡ OutOfMemory) × (own ≡ None))
