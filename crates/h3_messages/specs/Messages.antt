-- Which field lists are well-formed messages (RFC 9114, sections 4.1.2 and 4.2 to 4.5; RFC 9220, section 3): the first rule that a list
-- breaks, as it came, with its order and repeats. Names and values have the grammar of `HeadRead.head_of`, which is asked before.
use Rattle.std.specs.Prelude.{ℕ, ◌+◌, ◌-◌, ◌*◌, ◌^◌, Bool, true, false, not, ◌&&◌, ◌||◌, List, [], ◌∷◌, map, fold, length, codes, bytes_eq, slice_index, nat_le, nat_lt, ◌==◌, if◌then◌else◌, Option, Some, None}
use Rattle.std.specs.Char.{to_ascii_lowercase, is_ascii_digit, is_ascii_alphabetic}
use Rattle.std.specs.List.{list_all, list_any, count_by}
use Rattle.h3_field.specs.Field.{Field}
use Rattle.h3_header.specs.Connect.{is_plain_host}
use Rattle.h3_header.specs.HeadTests.{is_authority}
use Rattle.h3_messages.specs.declared.violation.Violation.{Violation}
use Rattle.h3_messages.specs.declared.violation.Violation.TheVariants.{PseudoOrder, RepeatedPseudo, WrongPseudo, MissingPseudo, ConnectionField, Protocol, Connect, Scheme, Authority, Path, Status, ContentLength, TrailerField, Value}

-- What a list holds of a name.
abbrev pub has_name : List ℕ → Field → Bool
has_name name f = bytes_eq f.name name

abbrev pub holds : List ℕ → List Field → Bool
holds name fields = list_any (has_name name) fields

abbrev pub repeats : List ℕ → List Field → Bool
repeats name fields = nat_lt 1 (count_by (has_name name) fields)

-- the value that comes first, or no bytes
abbrev pub value_of : List ℕ → List Field → List ℕ
value_of name [] = []
value_of name (f ∷ fields) = if has_name name f then f.value else value_of name fields

-- each value of the name passes the test
abbrev pub values_pass : (List ℕ → Bool) → List ℕ → List Field → Bool
values_pass test name fields = list_all (λ f. not (has_name name f) || test f.value) fields

abbrev pub is_one_of : List (List ℕ) → List ℕ → Bool
is_one_of names name = list_any (bytes_eq name) names

-- alike but for upper case
abbrev pub is_word : List ℕ → List ℕ → Bool
is_word word text = bytes_eq (map to_ascii_lowercase text) (map to_ascii_lowercase word)

abbrev pub is_pseudo : Field → Bool
is_pseudo f = slice_index f.name 0 == 58

-- RFC 9114 4.3: pseudo-header fields come first
-- All pseudo-header fields MUST appear in the header section before regular header fields (RFC 9114, 4.3)
abbrev pub pseudo_first : List Field → Bool
pseudo_first [] = true
pseudo_first (f ∷ fields) = if is_pseudo f then pseudo_first fields else not (list_any is_pseudo fields)

-- Pseudo-header fields defined for requests MUST NOT appear in responses, and the reverse; none MUST be generated besides (4.3)
abbrev pub request_names : List (List ℕ)
request_names = codes ":method" ∷ codes ":scheme" ∷ codes ":authority" ∷ codes ":path" ∷ codes ":protocol" ∷ []

abbrev pub response_names : List (List ℕ)
response_names = codes ":status" ∷ []

abbrev pub only_pseudo_of : List (List ℕ) → List Field → Bool
only_pseudo_of names fields = list_all (λ f. not (is_pseudo f) || is_one_of names f.name) fields

-- An endpoint MUST NOT generate a field section containing connection-specific fields (4.2; their names in RFC 9110, 7.6.1)
abbrev pub connection_names : List (List ℕ)
connection_names = codes "connection" ∷ codes "keep-alive" ∷ codes "proxy-connection" ∷ codes "transfer-encoding" ∷ codes "upgrade" ∷ []

-- RFC 9114 4.2: connection-specific fields
abbrev pub has_connection_field : List Field → Bool
has_connection_field fields = list_any (λ f. is_one_of connection_names f.name) fields

-- The only exception is TE, which MAY be present in a request header; it MUST NOT contain any value other than "trailers" (4.2)
abbrev pub is_te_wrong : List Field → Bool
is_te_wrong fields = not (values_pass (is_word (codes "trailers")) (codes "te") fields)

-- Content-Length = 1*DIGIT (RFC 9110, 8.6). One field line alone, also where the values are alike: a recipient MAY reject (8.6)
abbrev pub number_of : List ℕ → ℕ
number_of digits = fold (λ n b. n * 10 + (b - 48)) 0 digits

-- RFC 9110 8.6: content-length of 2^62 and more
-- no stream carries 2 ^ 62 bytes (RFC 9000, 4.5)
abbrev pub is_length : List ℕ → Bool
is_length text = nat_lt 0 (length text) && (list_all is_ascii_digit text && nat_lt (number_of text) (2 ^ 62))

abbrev pub is_length_wrong : List Field → Bool
is_length_wrong fields = repeats (codes "content-length") fields || not (values_pass is_length (codes "content-length") fields)

-- field-content has no white space at its ends (RFC 9114, 10.3, by RFC 9110, 5.5; RFC 9113, 8.2.1)
abbrev pub is_space : ℕ → Bool
is_space b = (b == 32) || (b == 9)

abbrev pub has_space_around : Field → Bool
has_space_around f = is_space (slice_index f.value 0) || is_space (slice_index f.value (length f.value - 1))

-- the first rule that is broken
abbrev pub first_broken : List (Bool × Violation) → Option Violation
first_broken [] = None
first_broken (rule ∷ rules) = if rule.0 then Some rule.1 else first_broken rules

-- Requests (4.3.1 and 4.4).
abbrev pub is_connect : List Field → Bool
is_connect fields = bytes_eq (value_of (codes ":method") fields) (codes "CONNECT")

-- a CONNECT without :protocol
abbrev pub is_plain_connect : List Field → Bool
is_plain_connect fields = is_connect fields && not (holds (codes ":protocol") fields)

-- the schemes with a mandatory authority component
abbrev pub needs_authority : List Field → Bool
needs_authority fields =
    is_word (codes "http") (value_of (codes ":scheme") fields) || is_word (codes "https") (value_of (codes ":scheme") fields)

-- All requests MUST include exactly one value for :method, :scheme and :path, unless the request is a CONNECT request (4.3.1).
-- On requests that contain :protocol, :scheme and :path MUST also be included (RFC 8441, 4)
abbrev pub misses_pseudo : List Field → Bool
misses_pseudo fields =
    not (holds (codes ":method") fields)
    || (not (is_plain_connect fields) && not (holds (codes ":scheme") fields && holds (codes ":path") fields))

-- the same pseudo-header field name MUST NOT appear more than once (4.3)
abbrev pub repeats_pseudo : List Field → Bool
repeats_pseudo fields = list_any (λ name. repeats name fields) request_names

-- RFC 8441 4: :protocol with CONNECT alone
-- :protocol MAY be included in requests with method CONNECT (RFC 8441, 4), where the server announced it (RFC 9220, 3)
abbrev pub is_protocol_wrong : Bool → List Field → Bool
is_protocol_wrong extended_connect fields = holds (codes ":protocol") fields && not (extended_connect && is_connect fields)

-- port = *DIGIT (RFC 3986, 3.2.3), a number of 16 bits (RFC 9293, 3.1). A server MUST reject a CONNECT that targets an empty or invalid
-- port (RFC 9110, 9.3.6), as 0 is
abbrev pub is_port : List ℕ → Bool
is_port text = nat_le (length text) 5 && (list_all is_ascii_digit text && (nat_lt 0 (number_of text) && nat_lt (number_of text) 65536))

-- A port stands behind the last colon of an authority that is outside of "[ ]": no byte of a port is one of these three
abbrev pub names_port : List ℕ → Bool
names_port [] = false
names_port (b ∷ text) = ((b == 58) && is_port text) || names_port text

-- :scheme and :path are omitted, and :authority contains the host and port to connect to (4.4). With :protocol these are as in other
-- requests (RFC 8441, 4)
abbrev pub is_connect_wrong : List Field → Bool
is_connect_wrong fields =
    is_plain_connect fields
    && (holds (codes ":scheme") fields || (holds (codes ":path") fields || not (names_port (value_of (codes ":authority") fields))))

-- scheme = ALPHA *( ALPHA / DIGIT / "+" / "-" / "." ) (RFC 3986, 3.1)
abbrev pub is_scheme_byte : ℕ → Bool
is_scheme_byte b = is_ascii_alphabetic b || (is_ascii_digit b || ((b == 43) || ((b == 45) || (b == 46))))

abbrev pub is_scheme : List ℕ → Bool
is_scheme text = is_ascii_alphabetic (slice_index text 0) && list_all is_scheme_byte text

abbrev pub is_scheme_wrong : List Field → Bool
is_scheme_wrong fields = holds (codes ":scheme") fields && not (is_scheme (value_of (codes ":scheme") fields))

-- Host = uri-host [ ":" port ] (RFC 9110, 7.2), with no userinfo (4.3.1) and a host that is not empty (RFC 9110, 4.2.1)
abbrev pub is_host : List ℕ → Bool
is_host text = is_authority text && is_plain_host text

-- the values are alike, or one is not there
abbrev pub are_alike : List Field → Bool
are_alike fields =
    not (holds (codes ":authority") fields && holds (codes "host") fields)
    || bytes_eq (value_of (codes ":authority") fields) (value_of (codes "host") fields)

-- :authority or host MUST be there for http and https (4.3.1)
abbrev pub misses_authority : List Field → Bool
misses_authority fields = needs_authority fields && not (holds (codes ":authority") fields || holds (codes "host") fields)

-- one host (RFC 9110, 5.3 and 7.2), that is an authority, and has the same value as :authority where both are (RFC 9114, 4.3.1)
abbrev pub is_host_wrong : List Field → Bool
is_host_wrong fields =
    repeats (codes "host") fields || (not (values_pass is_host (codes "host") fields) || not (are_alike fields))

-- :authority MUST NOT be empty or have userinfo for http and https (4.3.1), and is host and port for CONNECT (4.4)
abbrev pub is_target_wrong : List Field → Bool
is_target_wrong fields = (needs_authority fields || is_connect fields) && not (is_plain_host (value_of (codes ":authority") fields))

-- RFC 9114 4.3.1: :authority and host
abbrev pub is_authority_wrong : List Field → Bool
is_authority_wrong fields = misses_authority fields || (is_host_wrong fields || is_target_wrong fields)

-- :path has a path-absolute and a query; MUST NOT be empty; and is * for an OPTIONS request without a path (4.3.1)
abbrev pub is_path_right : List ℕ → List ℕ → Bool
is_path_right method path =
    ((slice_index path 0 == 47) && not (list_any (λ b. b == 35) path))
    || (bytes_eq path (codes "*") && bytes_eq method (codes "OPTIONS"))

abbrev pub is_path_wrong : List Field → Bool
is_path_wrong fields = holds (codes ":path") fields && not (is_path_right (value_of (codes ":method") fields) (value_of (codes ":path") fields))

-- what a request breaks. The choice is whether its server announced extended CONNECT
unfoldable pub violation_of_request : (extended_connect : Bool) → List Field → Option Violation
violation_of_request extended_connect fields = first_broken (
    (not (pseudo_first fields), PseudoOrder) ∷
    (not (only_pseudo_of request_names fields), WrongPseudo) ∷
    (repeats_pseudo fields, RepeatedPseudo) ∷
    (has_connection_field fields || is_te_wrong fields, ConnectionField) ∷
    (is_length_wrong fields, ContentLength) ∷
    (is_protocol_wrong extended_connect fields, Protocol) ∷
    (is_connect_wrong fields, Connect) ∷
    (misses_pseudo fields, MissingPseudo) ∷
    (is_scheme_wrong fields, Scheme) ∷
    (is_authority_wrong fields, Authority) ∷
    (is_path_wrong fields, Path) ∷
    (list_any has_space_around fields, Value) ∷ [])

-- A server MUST NOT send content-length with a status of 1xx or 204 (RFC 9110, 8.6). With 204 a client takes the value 0
abbrev pub is_length_misplaced : List Field → Bool
is_length_misplaced fields =
    holds (codes "content-length") fields
    && ((slice_index (value_of (codes ":status") fields) 0 == 49)
    || (bytes_eq (value_of (codes ":status") fields) (codes "204") && nat_lt 0 (number_of (value_of (codes "content-length") fields))))

-- what a response breaks, interim or final. :status MUST be included in all responses (4.3.2); 101 is not supported (4.5)
unfoldable pub violation_of_response : List Field → Option Violation
violation_of_response fields = first_broken (
    (not (pseudo_first fields), PseudoOrder) ∷
    (not (only_pseudo_of response_names fields), WrongPseudo) ∷
    (repeats (codes ":status") fields, RepeatedPseudo) ∷
    (has_connection_field fields || holds (codes "te") fields, ConnectionField) ∷
    (is_length_wrong fields, ContentLength) ∷
    (not (holds (codes ":status") fields), MissingPseudo) ∷
    (bytes_eq (value_of (codes ":status") fields) (codes "101"), Status) ∷
    (is_length_misplaced fields, ContentLength) ∷
    (list_any has_space_around fields, Value) ∷ [])

-- what a trailer breaks: pseudo-header fields MUST NOT appear in trailer sections (4.3), nor fields for framing and routing
-- (RFC 9110, 6.5.1)
unfoldable pub violation_of_trailer : List Field → Option Violation
violation_of_trailer fields = first_broken (
    (list_any is_pseudo fields, WrongPseudo) ∷
    (has_connection_field fields || holds (codes "te") fields, ConnectionField) ∷
    (holds (codes "content-length") fields || holds (codes "host") fields, TrailerField) ∷
    (list_any has_space_around fields, Value) ∷ [])
