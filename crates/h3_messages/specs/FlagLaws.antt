-- The rules of messages judge a list by names and values alone: alike whichever flags its fields have.
use Rattle.std.proofs.Common.{◌≡◌, ℕ, ◌+◌, Bool, not, ◌&&◌, ◌||◌, List, [], ◌∷◌, Option, codes, cond, bytes_eq, slice_index, refl, sym, ap, ap₂, ◌∙◌, nat_lt, ◌==◌, if◌then◌else◌}
use Rattle.std.specs.List.{list_all, list_any, count_by}
use Rattle.std.proofs.lemmas.List.Sums.{sum_by-cons}
use Rattle.h3_field.specs.Field.{Field, flagged, with_flags}
use Rattle.h3_header.specs.Connect.{is_plain_host}
use Rattle.h3_messages.specs.Content.{asked_by, awaited, awaited_by, content_of_request, content_behind_status, content_behind_response, said, answered_by, answered_by_status}
use Rattle.h3_messages.specs.Messages.{has_name, holds, repeats, value_of, values_pass, is_one_of, is_word, is_pseudo, pseudo_first, request_names, response_names, only_pseudo_of, connection_names, has_connection_field, is_te_wrong, is_length, is_length_wrong, number_of, has_space_around, first_broken, is_connect, is_plain_connect, needs_authority, misses_pseudo, repeats_pseudo, is_protocol_wrong, names_port, is_connect_wrong, is_scheme, is_scheme_wrong, is_host, are_alike, misses_authority, is_host_wrong, is_target_wrong, is_authority_wrong, is_path_right, is_path_wrong, violation_of_request, is_length_misplaced, violation_of_response, violation_of_trailer}
use Rattle.h3_messages.specs.OwnMessages.{or_broken, says_content, is_trace, violation_of_own_request, is_reset_content, is_own_length_misplaced, violation_of_own_response, says_tunnel_length, awaits_tunnel, violation_of_own_answer, is_no_trailer_name, has_no_trailer_field, violation_of_own_trailer, or_nothing, content_of_own_request, content_of_own_status, content_of_own_response}
use Rattle.h3_messages.specs.declared.content.Content.{Content}
use Rattle.h3_messages.specs.declared.content.Content.TheVariants.{Tunnel}
use Rattle.h3_messages.specs.declared.violation.Violation.TheVariants.{PseudoOrder, RepeatedPseudo, WrongPseudo, MissingPseudo, ConnectionField, Protocol, Connect, Scheme, Authority, Path, Status, ContentLength, TrailerField, Value}

any_alike : (flag p : Field → Bool) → ((f : Field) (b : Bool) → p (flagged f b) ≡ p f) → (fields : List Field) → list_any p (with_flags flag fields) ≡ list_any p fields
any_alike flag p same [] = refl
any_alike flag p same (f ∷ fields) = ap₂ (λ a b. a || b) (same f (flag f)) (any_alike flag p same fields)

all_alike : (flag p : Field → Bool) → ((f : Field) (b : Bool) → p (flagged f b) ≡ p f) → (fields : List Field) → list_all p (with_flags flag fields) ≡ list_all p fields
all_alike flag p same [] = refl
all_alike flag p same (f ∷ fields) = ap₂ (λ a b. a && b) (same f (flag f)) (all_alike flag p same fields)

count_alike : (flag p : Field → Bool) → ((f : Field) (b : Bool) → p (flagged f b) ≡ p f) → (fields : List Field) → count_by p (with_flags flag fields) ≡ count_by p fields
count_alike flag p same [] = refl
count_alike flag p same (f ∷ fields) =
    sum_by-cons (λ g. cond (p g) 1 0) (flagged f (flag f)) (with_flags flag fields)
    ∙ ap₂ (λ b n. cond b 1 0 + n) (same f (flag f)) (count_alike flag p same fields)
    ∙ sym (sum_by-cons (λ g. cond (p g) 1 0) f fields)

value_alike : (flag : Field → Bool) (name : List ℕ) (fields : List Field) → value_of name (with_flags flag fields) ≡ value_of name fields
value_alike flag name [] = refl
value_alike flag name (f ∷ fields) = ap (λ value. if has_name name f then f.value else value) (value_alike flag name fields)

first_alike : (flag : Field → Bool) (fields : List Field) → pseudo_first (with_flags flag fields) ≡ pseudo_first fields
first_alike flag [] = refl
first_alike flag (f ∷ fields) = ap₂ (λ a b. if is_pseudo f then a else not b) (first_alike flag fields) (any_alike flag is_pseudo (λ g b. refl) fields)

module _ (flag : Field → Bool) (fields : List Field) where
  held : (name : List ℕ) → holds name (with_flags flag fields) ≡ holds name fields
  held name = any_alike flag (has_name name) (λ f b. refl) fields

  again : (name : List ℕ) → repeats name (with_flags flag fields) ≡ repeats name fields
  again name = ap (λ n. nat_lt 1 n) (count_alike flag (has_name name) (λ f b. refl) fields)

  value : (name : List ℕ) → value_of name (with_flags flag fields) ≡ value_of name fields
  value name = value_alike flag name fields

  pass : (test : List ℕ → Bool) (name : List ℕ) → values_pass test name (with_flags flag fields) ≡ values_pass test name fields
  pass test name = all_alike flag (λ f. not (has_name name f) || test f.value) (λ f b. refl) fields

  only : (names : List (List ℕ)) → only_pseudo_of names (with_flags flag fields) ≡ only_pseudo_of names fields
  only names = all_alike flag (λ f. not (is_pseudo f) || is_one_of names f.name) (λ f b. refl) fields

  connection : has_connection_field (with_flags flag fields) ≡ has_connection_field fields
  connection = any_alike flag (λ f. is_one_of connection_names f.name) (λ f b. refl) fields

  spaced : list_any has_space_around (with_flags flag fields) ≡ list_any has_space_around fields
  spaced = any_alike flag has_space_around (λ f b. refl) fields

  te : is_te_wrong (with_flags flag fields) ≡ is_te_wrong fields
  te = ap not (pass (is_word (codes "trailers")) (codes "te"))

  length_wrong : is_length_wrong (with_flags flag fields) ≡ is_length_wrong fields
  length_wrong = λ i. again (codes "content-length") i || not (pass is_length (codes "content-length") i)

  connect : is_connect (with_flags flag fields) ≡ is_connect fields
  connect = λ i. bytes_eq (value (codes ":method") i) (codes "CONNECT")

  plain_connect : is_plain_connect (with_flags flag fields) ≡ is_plain_connect fields
  plain_connect = λ i. connect i && not (held (codes ":protocol") i)

  needs : needs_authority (with_flags flag fields) ≡ needs_authority fields
  needs = λ i. is_word (codes "http") (value (codes ":scheme") i) || is_word (codes "https") (value (codes ":scheme") i)

  misses : misses_pseudo (with_flags flag fields) ≡ misses_pseudo fields
  misses = λ i. not (held (codes ":method") i) || (not (plain_connect i) && not (held (codes ":scheme") i && held (codes ":path") i))

  pseudo_again : repeats_pseudo (with_flags flag fields) ≡ repeats_pseudo fields
  pseudo_again = λ i. list_any (λ name. again name i) request_names

  protocol : (extended : Bool) → is_protocol_wrong extended (with_flags flag fields) ≡ is_protocol_wrong extended fields
  protocol extended = λ i. held (codes ":protocol") i && not (extended && connect i)

  connect_wrong : is_connect_wrong (with_flags flag fields) ≡ is_connect_wrong fields
  connect_wrong = λ i. plain_connect i && (held (codes ":scheme") i || (held (codes ":path") i || not (names_port (value (codes ":authority") i))))

  scheme_wrong : is_scheme_wrong (with_flags flag fields) ≡ is_scheme_wrong fields
  scheme_wrong = λ i. held (codes ":scheme") i && not (is_scheme (value (codes ":scheme") i))

  alike : are_alike (with_flags flag fields) ≡ are_alike fields
  alike = λ i. not (held (codes ":authority") i && held (codes "host") i) || bytes_eq (value (codes ":authority") i) (value (codes "host") i)

  no_authority : misses_authority (with_flags flag fields) ≡ misses_authority fields
  no_authority = λ i. needs i && not (held (codes ":authority") i || held (codes "host") i)

  host_wrong : is_host_wrong (with_flags flag fields) ≡ is_host_wrong fields
  host_wrong = λ i. again (codes "host") i || (not (pass is_host (codes "host") i) || not (alike i))

  target_wrong : is_target_wrong (with_flags flag fields) ≡ is_target_wrong fields
  target_wrong = λ i. (needs i || connect i) && not (is_plain_host (value (codes ":authority") i))

  authority_wrong : is_authority_wrong (with_flags flag fields) ≡ is_authority_wrong fields
  authority_wrong = λ i. no_authority i || (host_wrong i || target_wrong i)

  path_wrong : is_path_wrong (with_flags flag fields) ≡ is_path_wrong fields
  path_wrong = λ i. held (codes ":path") i && not (is_path_right (value (codes ":method") i) (value (codes ":path") i))

  request : (extended : Bool) → violation_of_request extended (with_flags flag fields) ≡ violation_of_request extended fields
  unfolding violation_of_request
  request extended = λ i. first_broken (
      (not (first_alike flag fields i), PseudoOrder) ∷
      (not (only request_names i), WrongPseudo) ∷
      (pseudo_again i, RepeatedPseudo) ∷
      (connection i || te i, ConnectionField) ∷
      (length_wrong i, ContentLength) ∷
      (protocol extended i, Protocol) ∷
      (connect_wrong i, Connect) ∷
      (misses i, MissingPseudo) ∷
      (scheme_wrong i, Scheme) ∷
      (authority_wrong i, Authority) ∷
      (path_wrong i, Path) ∷
      (spaced i, Value) ∷ [])

  misplaced : is_length_misplaced (with_flags flag fields) ≡ is_length_misplaced fields
  misplaced = λ i.
      held (codes "content-length") i
      && ((slice_index (value (codes ":status") i) 0 == 49)
      || (bytes_eq (value (codes ":status") i) (codes "204") && nat_lt 0 (number_of (value (codes "content-length") i))))

  response : violation_of_response (with_flags flag fields) ≡ violation_of_response fields
  unfolding violation_of_response
  response = λ i. first_broken (
      (not (first_alike flag fields i), PseudoOrder) ∷
      (not (only response_names i), WrongPseudo) ∷
      (again (codes ":status") i, RepeatedPseudo) ∷
      (connection i || held (codes "te") i, ConnectionField) ∷
      (length_wrong i, ContentLength) ∷
      (not (held (codes ":status") i), MissingPseudo) ∷
      (bytes_eq (value (codes ":status") i) (codes "101"), Status) ∷
      (misplaced i, ContentLength) ∷
      (spaced i, Value) ∷ [])

  trailer : violation_of_trailer (with_flags flag fields) ≡ violation_of_trailer fields
  unfolding violation_of_trailer
  trailer = λ i. first_broken (
      (any_alike flag is_pseudo (λ f b. refl) fields i, WrongPseudo) ∷
      (connection i || held (codes "te") i, ConnectionField) ∷
      (held (codes "content-length") i || held (codes "host") i, TrailerField) ∷
      (spaced i, Value) ∷ [])

  says : says_content (with_flags flag fields) ≡ says_content fields
  says = λ i. held (codes "content-length") i && nat_lt 0 (number_of (value (codes "content-length") i))

  trace : is_trace (with_flags flag fields) ≡ is_trace fields
  trace = λ i. bytes_eq (value (codes ":method") i) (codes "TRACE")

  own_misplaced : is_own_length_misplaced (with_flags flag fields) ≡ is_own_length_misplaced fields
  own_misplaced = λ i.
      (bytes_eq (value (codes ":status") i) (codes "204") && held (codes "content-length") i)
      || (is_reset_content (value (codes ":status") i) && says i)

  tunnel_length : says_tunnel_length (with_flags flag fields) ≡ says_tunnel_length fields
  tunnel_length = λ i. (slice_index (value (codes ":status") i) 0 == 50) && held (codes "content-length") i

  unfit : has_no_trailer_field (with_flags flag fields) ≡ has_no_trailer_field fields
  unfit = any_alike flag (λ f. is_no_trailer_name f.name) (λ f b. refl) fields

-- what a request, a response and a trailer break, as they come
pub requests_alike : (flag : Field → Bool) (extended : Bool) (fields : List Field) → violation_of_request extended (with_flags flag fields) ≡ violation_of_request extended fields
requests_alike flag extended fields = request flag fields extended

pub responses_alike : (flag : Field → Bool) (fields : List Field) → violation_of_response (with_flags flag fields) ≡ violation_of_response fields
responses_alike flag fields = response flag fields

pub trailers_alike : (flag : Field → Bool) (fields : List Field) → violation_of_trailer (with_flags flag fields) ≡ violation_of_trailer fields
trailers_alike flag fields = trailer flag fields

-- and as they are sent
pub own_requests_alike : (flag : Field → Bool) (extended : Bool) (fields : List Field) → violation_of_own_request extended (with_flags flag fields) ≡ violation_of_own_request extended fields
own_requests_alike flag extended fields = λ i. or_broken (request flag fields extended i) (trace flag fields i && says flag fields i) ContentLength

own_responses_alike : (flag : Field → Bool) (fields : List Field) → violation_of_own_response (with_flags flag fields) ≡ violation_of_own_response fields
own_responses_alike flag fields = λ i. or_broken (response flag fields i) (own_misplaced flag fields i) ContentLength

pub own_answers_alike : (flag : Field → Bool) (known : Option Content) (fields : List Field) → violation_of_own_answer known (with_flags flag fields) ≡ violation_of_own_answer known fields
own_answers_alike flag known fields = λ i. or_broken (own_responses_alike flag fields i) (tunnel_length flag fields i && awaits_tunnel known) ContentLength

pub own_trailers_alike : (flag : Field → Bool) (fields : List Field) → violation_of_own_trailer (with_flags flag fields) ≡ violation_of_own_trailer fields
own_trailers_alike flag fields = λ i. or_broken (trailer flag fields i) (unfit flag fields i) TrailerField

-- how much content follows what comes
pub request_content_alike : (flag : Field → Bool) (fields : List Field) → content_of_request (with_flags flag fields) ≡ content_of_request fields
request_content_alike flag fields = λ i. if connect flag fields i then Tunnel else said (value flag fields (codes "content-length") i)

pub response_content_alike : (flag : Field → Bool) (content : Content) (fields : List Field) → content_behind_response content (with_flags flag fields) ≡ content_behind_response content fields
response_content_alike flag content fields = λ i. content_behind_status content (value flag fields (codes ":status") i) (value flag fields (codes "content-length") i)

pub answered_alike : (flag : Field → Bool) (content : Content) (fields : List Field) → answered_by content (with_flags flag fields) ≡ answered_by content fields
answered_alike flag content fields = λ i. answered_by_status content (value flag fields (codes ":status") i)

-- and what is sent, and what a request asks for
pub awaited_alike : (flag : Field → Bool) (fields : List Field) → awaited_by (with_flags flag fields) ≡ awaited_by fields
awaited_alike flag fields = λ i. awaited (asked_by (value flag fields (codes ":method") i))

pub own_request_content_alike : (flag : Field → Bool) (fields : List Field) → content_of_own_request (with_flags flag fields) ≡ content_of_own_request fields
own_request_content_alike flag fields = λ i. or_nothing (if connect flag fields i then Tunnel else said (value flag fields (codes "content-length") i)) (trace flag fields i)

pub own_response_content_alike : (flag : Field → Bool) (content : Content) (fields : List Field) → content_of_own_response content (with_flags flag fields) ≡ content_of_own_response content fields
own_response_content_alike flag content fields = λ i. content_of_own_status content (value flag fields (codes ":status") i) (value flag fields (codes "content-length") i)
