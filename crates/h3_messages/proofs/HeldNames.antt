-- What the rules ask of a list, by what it holds of each name.
use Rattle.std.proofs.Common.{◌≡◌, ℕ, ◌+◌, Bool, true, false, not, ◌&&◌, ◌||◌, cond, eqb, nat_lt, slice_index, List, [], ◌∷◌, codes, bytes_eq, is_some, None, ap, sym, refl, ◌∙◌, arith}
use Rattle.std.specs.List.{count_by, list_any, list_all}
use Rattle.std.proofs.lemmas.Bool.Decides.{nat_tests}
use Rattle.std.proofs.lemmas.List.Sums.{sum_by-cons}
use Rattle.h3_field.specs.Field.{Field}
use Rattle.h3_messages.proofs.Names.{by_name, none_named}
use Rattle.h3_messages.proofs.Pushes.{any_is_count}
use Rattle.h3_messages.specs.Known.{text, candidate, known_of}
use Rattle.h3_messages.specs.Messages.{has_name, holds, repeats, value_of, values_pass, is_one_of, is_pseudo, request_names, response_names, only_pseudo_of, connection_names, has_connection_field, is_host, are_alike, is_host_wrong, is_length, is_length_wrong}
use Rattle.h3_messages.specs.Survey.{is_unknown_pseudo}
use Rattle.h3_messages.specs.declared.known.Known.{Known}
use Rattle.h3_messages.specs.declared.known.Known.TheVariants.{Method, Scheme, Authority, Path, Protocol, Status, Host, ContentLength, Te, Connection, KeepAlive, ProxyConnection, TransferEncoding, Upgrade}

-- a field of one of two kinds
or_apart : (a b any_a any_b : Bool) → ((a || b) || (any_a || any_b)) ≡ ((a || any_a) || (b || any_b))
or_apart true b any_a any_b = refl
or_apart false true true any_b = refl
or_apart false true false any_b = refl
or_apart false false any_a any_b = refl

any_or : (p q : Field → Bool) (fields : List Field) → list_any (λ f. p f || q f) fields ≡ (list_any p fields || list_any q fields)
any_or p q [] = refl
any_or p q (f ∷ fields) = ap (λ more. (p f || q f) || more) (any_or p q fields) ∙ or_apart (p f) (q f) (list_any p fields) (list_any q fields)

any_false : (fields : List Field) → list_any (λ f. false) fields ≡ false
any_false [] = refl
any_false (f ∷ fields) = any_false fields

any_same : (p q : Field → Bool) → ((f : Field) → p f ≡ q f) → (fields : List Field) → list_any p fields ≡ list_any q fields
any_same p q same [] = refl
any_same p q same (f ∷ fields) = ap (λ b. b || list_any p fields) (same f) ∙ ap (λ more. q f || more) (any_same p q same fields)

-- a field of one of these names
pub holds_one : (names : List (List ℕ)) (fields : List Field) → list_any (λ f. is_one_of names f.name) fields ≡ list_any (λ name. holds name fields) names
holds_one [] fields = any_false fields
holds_one (name ∷ names) fields =
    any_or (has_name name) (λ f. is_one_of names f.name) fields ∙ ap (λ more. holds name fields || more) (holds_one names fields)

-- each field passes where none fails
neither : (p q r all any_q any_r : Bool) → p ≡ not (q || r) → all ≡ not (any_q || any_r) → (p && all) ≡ not ((q || any_q) || (r || any_r))
neither p true r all any_q any_r e h = rw e refl
neither p false true all true any_r e h = rw e refl
neither p false true all false any_r e h = rw e refl
neither p false false all any_q any_r e h = rw e h

all_neither : (p q r : Field → Bool) → ((f : Field) → p f ≡ not (q f || r f)) → (fields : List Field) → list_all p fields ≡ not (list_any q fields || list_any r fields)
all_neither p q r one [] = refl
all_neither p q r one (f ∷ fields) = neither (p f) (q f) (r f) (list_all p fields) (list_any q fields) (list_any r fields) (one f) (all_neither p q r one fields)

abbrev starts : List ℕ → Bool
starts name = eqb (slice_index name 0) 58

abbrev unknown : List ℕ → Bool
unknown name = starts name && not (is_some (known_of name))

-- a name that begins with a colon is one of requests, one of responses, or unknown
abbrev Split : List ℕ → Type 0
Split name = starts name ≡ (unknown name || (bytes_eq name (codes ":status") || is_one_of request_names name))

split_known : (k : Known) → Split (text k)
unfolding candidate
split_known Method = refl
split_known Scheme = refl
split_known Authority = refl
split_known Path = refl
split_known Protocol = refl
split_known Status = refl
split_known Host = refl
split_known ContentLength = refl
split_known Te = refl
split_known Connection = refl
split_known KeepAlive = refl
split_known ProxyConnection = refl
split_known TransferEncoding = refl
split_known Upgrade = refl

no_name : (b : Bool) → b ≡ ((b && true) || (false || (false || (false || (false || (false || (false || false)))))))
no_name true = refl
no_name false = refl

split_none : (name : List ℕ) → known_of name ≡ None → Split name
split_none name e =
    rw (e, none_named name e Status, none_named name e Method, none_named name e Scheme, none_named name e Authority, none_named name e Path, none_named name e Protocol) (no_name (starts name))

split : (name : List ℕ) → Split name
split name = by_name Split split_known name (split_none name)

-- no more than those of requests, and no more than that of responses
abbrev OfRequests : List ℕ → Type 0
OfRequests name = (not (starts name) || is_one_of request_names name) ≡ not (unknown name || bytes_eq name (codes ":status"))

of_requests_known : (k : Known) → OfRequests (text k)
unfolding candidate
of_requests_known Method = refl
of_requests_known Scheme = refl
of_requests_known Authority = refl
of_requests_known Path = refl
of_requests_known Protocol = refl
of_requests_known Status = refl
of_requests_known Host = refl
of_requests_known ContentLength = refl
of_requests_known Te = refl
of_requests_known Connection = refl
of_requests_known KeepAlive = refl
of_requests_known ProxyConnection = refl
of_requests_known TransferEncoding = refl
of_requests_known Upgrade = refl

no_request : (b : Bool) → (not b || (false || (false || (false || (false || (false || false)))))) ≡ not ((b && true) || false)
no_request true = refl
no_request false = refl

of_requests_none : (name : List ℕ) → known_of name ≡ None → OfRequests name
of_requests_none name e =
    rw (e, none_named name e Status, none_named name e Method, none_named name e Scheme, none_named name e Authority, none_named name e Path, none_named name e Protocol) (no_request (starts name))

of_requests : (name : List ℕ) → OfRequests name
of_requests name = by_name OfRequests of_requests_known name (of_requests_none name)

abbrev OfResponses : List ℕ → Type 0
OfResponses name = (not (starts name) || is_one_of response_names name) ≡ not (unknown name || is_one_of request_names name)

of_responses_known : (k : Known) → OfResponses (text k)
unfolding candidate
of_responses_known Method = refl
of_responses_known Scheme = refl
of_responses_known Authority = refl
of_responses_known Path = refl
of_responses_known Protocol = refl
of_responses_known Status = refl
of_responses_known Host = refl
of_responses_known ContentLength = refl
of_responses_known Te = refl
of_responses_known Connection = refl
of_responses_known KeepAlive = refl
of_responses_known ProxyConnection = refl
of_responses_known TransferEncoding = refl
of_responses_known Upgrade = refl

no_response : (b : Bool) → (not b || (false || false)) ≡ not ((b && true) || (false || (false || (false || (false || (false || false))))))
no_response true = refl
no_response false = refl

of_responses_none : (name : List ℕ) → known_of name ≡ None → OfResponses name
of_responses_none name e =
    rw (e, none_named name e Status, none_named name e Method, none_named name e Scheme, none_named name e Authority, none_named name e Path, none_named name e Protocol) (no_response (starts name))

of_responses : (name : List ℕ) → OfResponses name
of_responses name = by_name OfResponses of_responses_known name (of_responses_none name)

-- the list of each
pub any_pseudo : (fields : List Field) → list_any is_pseudo fields ≡ (list_any is_unknown_pseudo fields || (holds (codes ":status") fields || list_any (λ name. holds name fields) request_names))
any_pseudo fields =
    any_same is_pseudo (λ f. is_unknown_pseudo f || (has_name (codes ":status") f || is_one_of request_names f.name)) (λ f. split f.name) fields
    ∙ (any_or is_unknown_pseudo (λ f. has_name (codes ":status") f || is_one_of request_names f.name) fields
    ∙ (ap (λ more. list_any is_unknown_pseudo fields || more) (any_or (has_name (codes ":status")) (λ f. is_one_of request_names f.name) fields)
    ∙ ap (λ more. list_any is_unknown_pseudo fields || (holds (codes ":status") fields || more)) (holds_one request_names fields)))

pub only_of_requests : (fields : List Field) → only_pseudo_of request_names fields ≡ not (list_any is_unknown_pseudo fields || holds (codes ":status") fields)
only_of_requests fields =
    all_neither (λ f. not (is_pseudo f) || is_one_of request_names f.name) is_unknown_pseudo (has_name (codes ":status")) (λ f. of_requests f.name) fields

pub only_of_responses : (fields : List Field) → only_pseudo_of response_names fields ≡ not (list_any is_unknown_pseudo fields || list_any (λ name. holds name fields) request_names)
only_of_responses fields =
    all_neither (λ f. not (is_pseudo f) || is_one_of response_names f.name) is_unknown_pseudo (λ f. is_one_of request_names f.name) (λ f. of_responses f.name) fields
    ∙ ap (λ more. not (list_any is_unknown_pseudo fields || more)) (holds_one request_names fields)

-- a name that no field has, and one that one field has
passes_by : (b : Bool) (there t pass : Bool) → (there ≡ false → pass ≡ true) → (b || there) ≡ false → ((not b || t) && pass) ≡ true
passes_by true there t pass none h = absurd cc
passes_by false there t pass none h = none h

pub none_passes : (test : List ℕ → Bool) (name : List ℕ) (fields : List Field) → holds name fields ≡ false → values_pass test name fields ≡ true
none_passes test name [] h = refl
none_passes test name (f ∷ fields) h = passes_by (has_name name f) (holds name fields) (test f.value) (values_pass test name fields) (none_passes test name fields) h

pub none_repeats : (name : List ℕ) (fields : List Field) → holds name fields ≡ false → repeats name fields ≡ false
none_repeats name fields h =
    let e = any_is_count (has_name name) fields in grind (arith, nat_tests)

alone : (n : ℕ) → nat_lt 1 (1 + n) ≡ false → nat_lt 0 n ≡ false
alone n h = grind (arith, nat_tests)

others : (n : ℕ) → nat_lt 1 (0 + n) ≡ false → nat_lt 1 n ≡ false
others n h = grind (arith, nat_tests)

lone_by : (b : Bool) (n : ℕ) (there t pass v_test : Bool) → nat_lt 1 (cond b 1 0 + n) ≡ false → there ≡ nat_lt 0 n → (there ≡ false → pass ≡ true) → (nat_lt 1 n ≡ false → pass ≡ (not there || v_test)) → ((not b || t) && pass) ≡ (not (b || there) || cond b t v_test)
lone_by true n there true pass v_test h c none more = none (c ∙ alone n h)
lone_by true n there false pass v_test h c none more = refl
lone_by false n there t pass v_test h c none more = more (others n h)

test_by : (test : List ℕ → Bool) (b : Bool) (v rest : List ℕ) → cond b (test v) (test rest) ≡ test (cond b v rest)
test_by test true v rest = refl
test_by test false v rest = refl

pub lone_passes : (test : List ℕ → Bool) (name : List ℕ) (fields : List Field) → repeats name fields ≡ false → values_pass test name fields ≡ (not (holds name fields) || test (value_of name fields))
lone_passes test name [] h = refl
lone_passes test name (f ∷ fields) h =
    lone_by (has_name name f) (count_by (has_name name) fields) (holds name fields) (test f.value) (values_pass test name fields) (test (value_of name fields))
    (ap (nat_lt 1) (sym (sum_by-cons (λ x. cond (has_name name x) 1 0) f fields)) ∙ h)
    (any_is_count (has_name name) fields)
    (none_passes test name fields)
    (lone_passes test name fields)
    ∙ ap (λ b. not (has_name name f || holds name fields) || b) (test_by test (has_name name f) f.value (value_of name fields))

pub any_connection : (fields : List Field) → has_connection_field fields ≡ list_any (λ name. holds name fields) connection_names
any_connection fields = holds_one connection_names fields

pub lone_length : (fields : List Field) → repeats (codes "content-length") fields ≡ false → is_length_wrong fields ≡ not (not (holds (codes "content-length") fields) || is_length (value_of (codes "content-length") fields))
lone_length fields h = ap (λ b. b || not (values_pass is_length (codes "content-length") fields)) h ∙ ap not (lone_passes is_length (codes "content-length") fields h)

gone : (twice passes there same : Bool) → twice ≡ false → passes ≡ true → (twice || (not passes || not (not (there && false) || same))) ≡ false
gone twice passes true same t p = rw (t, p) refl
gone twice passes false same t p = rw (t, p) refl

pub no_host : (fields : List Field) → holds (codes "host") fields ≡ false → is_host_wrong fields ≡ false
no_host fields h =
    ap (λ b. repeats (codes "host") fields || (not (values_pass is_host (codes "host") fields) || not (not (holds (codes ":authority") fields && b) || bytes_eq (value_of (codes ":authority") fields) (value_of (codes "host") fields)))) h
    ∙ gone _ _ (holds (codes ":authority") fields) _ (none_repeats (codes "host") fields h) (none_passes is_host (codes "host") fields h)

pub lone_host : (fields : List Field) → repeats (codes "host") fields ≡ false → is_host_wrong fields ≡ (not (not (holds (codes "host") fields) || is_host (value_of (codes "host") fields)) || not (are_alike fields))
lone_host fields h =
    ap (λ b. b || (not (values_pass is_host (codes "host") fields) || not (are_alike fields))) h
    ∙ ap (λ b. not b || not (are_alike fields)) (lone_passes is_host (codes "host") fields h)
