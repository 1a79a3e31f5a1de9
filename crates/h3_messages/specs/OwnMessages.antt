-- Which messages an endpoint may send: the rules by which its peer judges what comes (`Messages`), and those that bind a sender alone.
use Rattle.std.specs.Prelude.{◌≡◌, ℕ, Bool, true, false, ◌&&◌, ◌||◌, List, [], ◌∷◌, codes, bytes_eq, slice_index, nat_lt, ◌==◌, if◌then◌else◌, Option, Some, None}
use Rattle.std.specs.List.{list_any}
use Rattle.h3_field.specs.Field.{Field}
use Rattle.h3_messages.specs.Content.{asked_for, content_expected, content_of_request, is_interim_status}
use Rattle.h3_messages.specs.Messages.{holds, is_one_of, number_of, value_of, violation_of_request, violation_of_response, violation_of_trailer}
use Rattle.h3_messages.specs.declared.content.Content.{Content}
use Rattle.h3_messages.specs.declared.content.Content.TheVariants.{Unsaid, Exactly, Tunnel}
use Rattle.h3_messages.specs.declared.violation.Violation.{Violation}
use Rattle.h3_messages.specs.declared.violation.Violation.TheVariants.{ContentLength, TrailerField}

-- a rule of a sender is asked behind those of its peer
abbrev pub or_broken : Option Violation → Bool → Violation → Option Violation
or_broken (Some v) broken rule = Some v
or_broken None broken rule = if broken then Some rule else None

-- a length other than 0 is said
abbrev pub says_content : List Field → Bool
says_content fields = holds (codes "content-length") fields && nat_lt 0 (number_of (value_of (codes "content-length") fields))

-- A client MUST NOT send content in a TRACE request (RFC 9110, 9.3.8)
abbrev pub is_trace : List Field → Bool
is_trace fields = bytes_eq (value_of (codes ":method") fields) (codes "TRACE")

-- what a request breaks that is sent
abbrev pub violation_of_own_request : (extended_connect : Bool) → List Field → Option Violation
violation_of_own_request extended_connect fields = or_broken (violation_of_request extended_connect fields) (is_trace fields && says_content fields) ContentLength

-- A server MUST NOT generate content in a 205 response (15.3.6)
abbrev pub is_reset_content : List ℕ → Bool
is_reset_content status = bytes_eq status (codes "205")

-- A server MUST NOT send content-length with 204 (8.6), also not 0. With 205 it is 0 (15.3.6)
abbrev pub is_own_length_misplaced : List Field → Bool
is_own_length_misplaced fields =
    (bytes_eq (value_of (codes ":status") fields) (codes "204") && holds (codes "content-length") fields)
    || (is_reset_content (value_of (codes ":status") fields) && says_content fields)

-- what a response breaks that is sent, whatever its request asked
abbrev pub violation_of_own_response : List Field → Option Violation
violation_of_own_response fields = or_broken (violation_of_response fields) (is_own_length_misplaced fields) ContentLength

-- A server MUST NOT send content-length in a 2xx response to CONNECT (8.6), where a tunnel begins
abbrev pub says_tunnel_length : List Field → Bool
says_tunnel_length fields = (slice_index (value_of (codes ":status") fields) 0 == 50) && holds (codes "content-length") fields

abbrev pub awaits_tunnel : Option Content → Bool
awaits_tunnel (Some Tunnel) = true
awaits_tunnel _ = false

-- what one breaks behind a request, where its client awaits this, or it is not known what was asked
abbrev pub violation_of_own_answer : Option Content → List Field → Option Violation
violation_of_own_answer known fields =
    or_broken (violation_of_own_response fields) (says_tunnel_length fields && awaits_tunnel known) ContentLength

-- A sender MUST NOT generate a trailer field unless its definition permits that: no field for framing, routing, authentication, request
-- modifiers, response control or content format (6.5.1). Those of authentication (11) and of cookies (RFC 6265, 4)
abbrev pub authentication_names : List (List ℕ)
authentication_names =
    codes "authorization" ∷ codes "proxy-authorization" ∷ codes "www-authenticate" ∷ codes "proxy-authenticate" ∷ codes "cookie" ∷ codes "set-cookie" ∷ []

-- request modifiers (10.1, 13.1, 14.2; cache-control and pragma of RFC 9111, 5)
abbrev pub control_names : List (List ℕ)
control_names = codes "cache-control" ∷ codes "expect" ∷ codes "max-forwards" ∷ codes "pragma" ∷ codes "range" ∷ []

abbrev pub condition_names : List (List ℕ)
condition_names =
    codes "if-match" ∷ codes "if-none-match" ∷ codes "if-modified-since" ∷ codes "if-unmodified-since" ∷ codes "if-range" ∷ []

-- response control (6.6.1, 10.2, 12.5.5; age and expires of RFC 9111, 5)
abbrev pub answer_names : List (List ℕ)
answer_names = codes "age" ∷ codes "date" ∷ codes "expires" ∷ codes "location" ∷ codes "retry-after" ∷ codes "vary" ∷ []

-- content format (8.3, 8.4, 14.4), and the announcement of trailers (6.6.2)
abbrev pub format_names : List (List ℕ)
format_names = codes "content-encoding" ∷ codes "content-type" ∷ codes "content-range" ∷ codes "trailer" ∷ []

abbrev pub is_no_trailer_name : List ℕ → Bool
is_no_trailer_name name =
    is_one_of authentication_names name
    || (is_one_of control_names name || (is_one_of condition_names name || (is_one_of answer_names name || is_one_of format_names name)))

abbrev pub has_no_trailer_field : List Field → Bool
has_no_trailer_field fields = list_any (λ f. is_no_trailer_name f.name) fields

-- RFC 9110 6.5.1: fields that no trailer section has, sent
-- what a trailer breaks that is sent
abbrev pub violation_of_own_trailer : List Field → Option Violation
violation_of_own_trailer fields = or_broken (violation_of_trailer fields) (has_no_trailer_field fields) TrailerField

-- no content follows where none may and nothing says how much does
abbrev pub or_nothing : Content → Bool → Content
or_nothing Unsaid is_none = if is_none then Exactly 0 else Unsaid
or_nothing content is_none = content

abbrev pub content_of_own_request : List Field → Content
content_of_own_request fields = or_nothing (content_of_request fields) (is_trace fields)

-- behind the head of a response that is sent, where its client awaits this: an interim one leaves that
abbrev pub content_of_own_status : Content → List ℕ → List ℕ → Content
content_of_own_status awaited status size =
    if is_interim_status status then awaited else or_nothing (content_expected (asked_for awaited) status size) (is_reset_content status)

abbrev pub content_of_own_response : Content → List Field → Content
content_of_own_response awaited fields = content_of_own_status awaited (value_of (codes ":status") fields) (value_of (codes "content-length") fields)

-- A sender sends what its reader expects, or nothing where its reader takes any.
abbrev pub IsSentOf : Content → Content → Type 0
IsSentOf sent expected = (is_none : Bool) × (sent ≡ or_nothing expected is_none)
