-- How much content a message has (RFC 9114, section 4.1.2; RFC 9110, sections 6.4.1, 8.6 and 9.3.6), and what comes of it.
use Rattle.std.specs.Prelude.{ℕ, ◌-◌, Bool, true, false, ◌&&◌, ◌||◌, List, length, codes, bytes_eq, slice_index, nat_le, ◌==◌, if◌then◌else◌}
use Rattle.std.specs.List.{list_all}
use Rattle.h3_field.specs.Field.{Field}
use Rattle.h3_messages.specs.Messages.{value_of, number_of, is_length, is_connect}
use Rattle.h3_messages.specs.declared.content.Asked.{Asked}
use Rattle.h3_messages.specs.declared.content.Asked.TheVariants.{Head, Connect, Other}
use Rattle.h3_messages.specs.declared.content.Content.{Content}
use Rattle.h3_messages.specs.declared.content.Content.TheVariants.{Unsaid, Exactly, NoContent, Tunnel, Unanswered, Exceeded}

-- method names are case-sensitive (RFC 9110, 9.1)
abbrev pub asked_by : List ℕ → Asked
asked_by method = if bytes_eq method (codes "HEAD") then Head else (if bytes_eq method (codes "CONNECT") then Connect else Other)

-- what content-length says, where it is a length (8.6)
abbrev pub said : List ℕ → Content
said text = if is_length text then Exactly (number_of text) else Unsaid

-- A CONNECT request has no content; what follows is the tunnel's (RFC 9110, 9.3.6; RFC 9114, 4.4)
abbrev pub content_of_request : List Field → Content
content_of_request fields = if is_connect fields then Tunnel else said (value_of (codes "content-length") fields)

-- 204 and 304 have no content (RFC 9110, 6.4.1)
abbrev pub is_without_content : List ℕ → Bool
is_without_content status = bytes_eq status (codes "204") || bytes_eq status (codes "304")

-- a message with no content may have a content-length that is not 0 (RFC 9114, 4.1.2)
abbrev pub content_of_status : List ℕ → List ℕ → Content
content_of_status status size = if is_without_content status then NoContent else said size

-- RFC 9110 9.3.2: no content after HEAD
-- Responses to HEAD never include content. A 2xx response to CONNECT is a tunnel's beginning, and its content-length is ignored
-- (RFC 9110, 9.3.6)
abbrev pub content_expected : Asked → List ℕ → List ℕ → Content
content_expected Connect status size = if slice_index status 0 == 50 then Tunnel else content_of_status status size
content_expected Head status size = NoContent
content_expected Other status size = content_of_status status size

-- What a client awaits in front of a response's head, by what its request asked. It is all that the client remembers of that
abbrev pub awaited : Asked → Content
awaited Head = NoContent
awaited Connect = Tunnel
awaited Other = Unsaid

abbrev pub asked_for : Content → Asked
asked_for NoContent = Head
asked_for Tunnel = Connect
asked_for _ = Other

-- by the list of the request
abbrev pub awaited_by : List Field → Content
awaited_by fields = awaited (asked_by (value_of (codes ":method") fields))

-- the status of an interim response: three digits, of which the first is 1 (15.2)
abbrev pub is_digit : ℕ → Bool
is_digit b = nat_le 48 b && nat_le b 57

abbrev pub is_interim_status : List ℕ → Bool
is_interim_status text = (length text == 3) && list_all is_digit text && (slice_index text 0 == 49)

-- What is expected behind the head of a response, where this was awaited in front of it: an interim one leaves that
abbrev pub content_behind_status : Content → List ℕ → List ℕ → Content
content_behind_status content status size = if is_interim_status status then content else content_expected (asked_for content) status size

abbrev pub content_behind_response : Content → List Field → Content
content_behind_response content fields = content_behind_status content (value_of (codes ":status") fields) (value_of (codes "content-length") fields)

-- A server that read a CONNECT request has not answered it yet
abbrev pub until_answered : Content → Content
until_answered Tunnel = Unanswered
until_answered content = content

-- Its final response does: a 2xx one begins the tunnel, and behind another one the request is a message as others (RFC 9110, 9.3.6)
abbrev pub answered_by_status : Content → List ℕ → Content
answered_by_status Unanswered status = if is_interim_status status then Unanswered else (if slice_index status 0 == 50 then Tunnel else Unsaid)
answered_by_status content status = content

abbrev pub answered_by : Content → List Field → Content
answered_by content fields = answered_by_status content (value_of (codes ":status") fields)

-- RFC 9114 4.1.2: content-length and content
-- What is left of it behind DATA of so many bytes: the sum of their lengths does not pass content-length (4.1.2)
abbrev pub left_behind : Content → ℕ → Content
left_behind (Exactly left) size = if nat_le size left then Exactly (left - size) else Exceeded
left_behind NoContent size = if size == 0 then NoContent else Exceeded
left_behind Unsaid size = Unsaid
left_behind Tunnel size = Tunnel
left_behind Unanswered size = Unanswered
left_behind Exceeded size = Exceeded

-- more came than there may be
abbrev pub is_exceeded : Content → Bool
is_exceeded Exceeded = true
is_exceeded _ = false

-- RFC 9114 4.1.2: content-length and content
-- the content may end here, by the stream's end or a trailer: what came equals content-length (4.1.2)
abbrev pub may_end : Content → Bool
may_end (Exactly left) = left == 0
may_end Exceeded = false
may_end _ = true

-- once CONNECT has completed only DATA is permitted, and any other known frame is H3_FRAME_UNEXPECTED (4.4)
abbrev pub takes_trailer : Content → Bool
takes_trailer Tunnel = false
takes_trailer _ = true
