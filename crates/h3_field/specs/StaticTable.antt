-- The static table (RFC 9204, appendix A): names, and the values of consecutive indexes.
use Rattle.std.specs.Prelude.{ℕ, List, [], ◌∷◌, map, codes, flat_map, position, bytes_eq, Option, Some, slice_get, ◌≡◌}
use Rattle.h3_field.specs.Field.{Field, plain_field, field_eq}

-- one entry for each value
abbrev pub entries : List ℕ × List (List ℕ) → List Field
entries row = map (λ value. plain_field row.0 value) row.1

abbrev pub static_rows : List (List ℕ × List (List ℕ))
static_rows =
    (codes ":authority", [] ∷ []) ∷
    (codes ":path", codes "/" ∷ []) ∷
    (codes "age", codes "0" ∷ []) ∷
    (codes "content-disposition", [] ∷ []) ∷
    (codes "content-length", codes "0" ∷ []) ∷
    (codes "cookie", [] ∷ []) ∷
    (codes "date", [] ∷ []) ∷
    (codes "etag", [] ∷ []) ∷
    (codes "if-modified-since", [] ∷ []) ∷
    (codes "if-none-match", [] ∷ []) ∷
    (codes "last-modified", [] ∷ []) ∷
    (codes "link", [] ∷ []) ∷
    (codes "location", [] ∷ []) ∷
    (codes "referer", [] ∷ []) ∷
    (codes "set-cookie", [] ∷ []) ∷
    (codes ":method", codes "CONNECT" ∷ codes "DELETE" ∷ codes "GET" ∷ codes "HEAD" ∷ codes "OPTIONS" ∷ codes "POST" ∷ codes "PUT" ∷ []) ∷
    (codes ":scheme", codes "http" ∷ codes "https" ∷ []) ∷
    (codes ":status", codes "103" ∷ codes "200" ∷ codes "304" ∷ codes "404" ∷ codes "503" ∷ []) ∷
    (codes "accept", codes "*/*" ∷ codes "application/dns-message" ∷ []) ∷
    (codes "accept-encoding", codes "gzip, deflate, br" ∷ []) ∷
    (codes "accept-ranges", codes "bytes" ∷ []) ∷
    (codes "access-control-allow-headers", codes "cache-control" ∷ codes "content-type" ∷ []) ∷
    (codes "access-control-allow-origin", codes "*" ∷ []) ∷
    (codes "cache-control", codes "max-age=0" ∷ codes "max-age=2592000" ∷ codes "max-age=604800" ∷ codes "no-cache" ∷ codes "no-store" ∷ codes "public, max-age=31536000" ∷ []) ∷
    (codes "content-encoding", codes "br" ∷ codes "gzip" ∷ []) ∷
    (codes "content-type", codes "application/dns-message" ∷ codes "application/javascript" ∷ codes "application/json" ∷ codes "application/x-www-form-urlencoded" ∷ codes "image/gif" ∷ codes "image/jpeg" ∷ codes "image/png" ∷ codes "text/css" ∷ codes "text/html; charset=utf-8" ∷ codes "text/plain" ∷ codes "text/plain;charset=utf-8" ∷ []) ∷
    (codes "range", codes "bytes=0-" ∷ []) ∷
    (codes "strict-transport-security", codes "max-age=31536000" ∷ codes "max-age=31536000; includesubdomains" ∷ codes "max-age=31536000; includesubdomains; preload" ∷ []) ∷
    (codes "vary", codes "accept-encoding" ∷ codes "origin" ∷ []) ∷
    (codes "x-content-type-options", codes "nosniff" ∷ []) ∷
    (codes "x-xss-protection", codes "1; mode=block" ∷ []) ∷
    (codes ":status", codes "100" ∷ codes "204" ∷ codes "206" ∷ codes "302" ∷ codes "400" ∷ codes "403" ∷ codes "421" ∷ codes "425" ∷ codes "500" ∷ []) ∷
    (codes "accept-language", [] ∷ []) ∷
    (codes "access-control-allow-credentials", codes "FALSE" ∷ codes "TRUE" ∷ []) ∷
    (codes "access-control-allow-headers", codes "*" ∷ []) ∷
    (codes "access-control-allow-methods", codes "get" ∷ codes "get, post, options" ∷ codes "options" ∷ []) ∷
    (codes "access-control-expose-headers", codes "content-length" ∷ []) ∷
    (codes "access-control-request-headers", codes "content-type" ∷ []) ∷
    (codes "access-control-request-method", codes "get" ∷ codes "post" ∷ []) ∷
    (codes "alt-svc", codes "clear" ∷ []) ∷
    (codes "authorization", [] ∷ []) ∷
    (codes "content-security-policy", codes "script-src 'none'; object-src 'none'; base-uri 'none'" ∷ []) ∷
    (codes "early-data", codes "1" ∷ []) ∷
    (codes "expect-ct", [] ∷ []) ∷
    (codes "forwarded", [] ∷ []) ∷
    (codes "if-range", [] ∷ []) ∷
    (codes "origin", [] ∷ []) ∷
    (codes "purpose", codes "prefetch" ∷ []) ∷
    (codes "server", [] ∷ []) ∷
    (codes "timing-allow-origin", codes "*" ∷ []) ∷
    (codes "upgrade-insecure-requests", codes "1" ∷ []) ∷
    (codes "user-agent", [] ∷ []) ∷
    (codes "x-forwarded-for", [] ∷ []) ∷
    (codes "x-frame-options", codes "deny" ∷ codes "sameorigin" ∷ []) ∷
    []

unfoldable pub static_table : List Field
static_table = flat_map entries static_rows

-- the index of the equal entry
unfoldable pub static_field : Field → Option ℕ
static_field f = position (λ entry. field_eq entry f) static_table

-- the least index of an entry of that name
unfoldable pub static_name : List ℕ → Option ℕ
static_name name = position (λ entry. bytes_eq entry.name name) static_table

-- The entry of that index has that name.
pub record NamesEntry (index : ℕ) (name : List ℕ) : Type 0 where
  pub entry : Field
  pub here : slice_get static_table index ≡ Some entry
  pub name_is : entry.name ≡ name
