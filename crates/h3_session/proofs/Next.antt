-- The next stream on which bytes wait is the first of the request streams or of the own ones.
use Rattle.std.proofs.Common.{arith, ◌≡◌, ◌∙◌, ◌≤◌, ◌<◌, ◌+◌, ◌==◌, ℕ, Bool, true, false, length, sym, refl, ap, subst, inl, inr}
use Rattle.std.specs.Prelude.{◌≢◌, ◌||◌, ◌&&◌, not, nat_lt, Option, Some, None, is_some, option_map}
use Rattle.std.proofs.lemmas.Bool.{cases_eq}
use Rattle.std.proofs.lemmas.Grind.{common_steps}
use Rattle.h3_connection.specs.Endpoint.{EndpointHistory}
use Rattle.h3_connection.specs.NextWaiting.{IsLeast, has_waiting, ShowsNextWaiting}
use Rattle.h3_connection.specs.NextWaitingLaws.{least_same}
use Rattle.h3_connection.specs.OwnIds.{control_id}
use Rattle.h3_connection.specs.State.{EndpointState, RequestState, StandsFor, kept_at}
use Rattle.h3_proto.specs.declared.stream.Side.{Side}
use Rattle.h3_proto.specs.declared.stream.Side.TheVariants.{Client, Server}
use Rattle.h3_requests.specs.HasBytes.{has_bytes}
use Rattle.h3_requests.specs.Lesser.{lesser_of}
use Rattle.h3_requests.specs.LesserLaws.{least_either}
use Rattle.h3_unidirectional.specs.Owned.{own_stream_of, waiting_of, waiting_on}
use Rattle.h3_session.specs.Next.{has_own_bytes}
use Rattle.h3_session.specs.Refused.{sender_in}
use Rattle.h3_session.proofs.Taking.{own_waits, request_waits}

none_equal : (number q : ℕ) (t : Bool) → q ≢ number → (q == number && t) ≡ false
none_equal number q t differs = grind (arith, common_steps, differs)

-- a test that one number alone may pass
pub least_before : (t : ℕ → Bool) (number from : ℕ) → number < from → IsLeast (λ q. q == number && t q) from None
least_before t number from past = λ q there. none_equal number q (t q) (λ same. absurd (omega (arith, past, there, same)))

pub least_fails : (t : ℕ → Bool) (number from : ℕ) → t number ≡ false → IsLeast (λ q. q == number && t q) from None
least_fails t number from fails = λ q there. elim (cases_eq q number) [
  | inl same ↦ rw same (grind (arith, common_steps, fails))
  | inr differs ↦ none_equal number q (t q) differs
]

pub least_passes : (t : ℕ → Bool) (number from : ℕ) → from ≤ number → t number ≡ true → IsLeast (λ q. q == number && t q) from (Some number)
least_passes t number from there passes = (there, grind (arith, common_steps, passes), λ q from_there less. none_equal number q (t q) (λ same. absurd (omega (arith, less, same))))

-- one that three numbers alone may pass
abbrev one_alone : (ℕ → Bool) → ℕ → ℕ → Bool
one_alone t number q = q == number && t q

joined : (t : ℕ → Bool) (a b c q : ℕ) → ((q : ℕ) → q ≢ a → q ≢ b → q ≢ c → t q ≡ false) → t q ≡ ((one_alone t a q || one_alone t b q) || one_alone t c q)
joined t a b c q others = elim (cases_eq q a) [
  | inl same ↦ grind (arith, common_steps, same)
  | inr not_a ↦ elim (cases_eq q b) [
    | inl same ↦ grind (arith, common_steps, same, not_a)
    | inr not_b ↦ elim (cases_eq q c) [
      | inl same ↦ grind (arith, common_steps, same, not_a, not_b)
      | inr not_c ↦ grind (arith, common_steps, not_a, not_b, not_c, others q not_a not_b not_c)
    ]
  ]
]

pub least_of_three : (t : ℕ → Bool) (a b c from : ℕ) (first second third : Option ℕ) → ((q : ℕ) → q ≢ a → q ≢ b → q ≢ c → t q ≡ false) → IsLeast (λ q. q == a && t q) from first → IsLeast (λ q. q == b && t q) from second
    → IsLeast (λ q. q == c && t q) from third → IsLeast t from (lesser_of (lesser_of first second) third)
least_of_three t a b c from first second third others one two three =
    least_same (λ q. (one_alone t a q || one_alone t b q) || one_alone t c q) t from (lesser_of (lesser_of first second) third) (λ q. joined t a b c q others)
    (least_either (λ q. one_alone t a q || one_alone t b q) (one_alone t c) from (lesser_of first second) third (least_either (one_alone t a) (one_alone t b) from first second one two) three)

-- own streams are three
none_of : (side : Side) (id : ℕ) → id ≢ control_id side → id ≢ control_id side + 4 → id ≢ control_id side + 8 → own_stream_of side id ≡ None
none_of Client id control encoder decoder = grind (arith, common_steps, control, encoder, decoder)
none_of Server id control encoder decoder = grind (arith, common_steps, control, encoder, decoder)

nothing : (b : Bool) → (b && nat_lt 0 0) ≡ false
nothing true = refl
nothing false = refl

pub quiet : (s : EndpointState) (id : ℕ) → id ≢ control_id s.side → id ≢ control_id s.side + 4 → id ≢ control_id s.side + 8 → has_own_bytes s id ≡ false
quiet s id control encoder decoder =
    ap (λ o. not (is_some (sender_in s id)) && nat_lt 0 (length (waiting_of s.own o))) (none_of s.side id control encoder decoder) ∙ nothing (not (is_some (sender_in s id)))

-- the first of the own streams
pub least_own : (s : EndpointState) (from control : ℕ) (first second third both found : Option ℕ) → control ≡ control_id s.side → IsLeast (λ id. id == control && has_own_bytes s id) from first
    → IsLeast (λ id. id == control + 4 && has_own_bytes s id) from second → IsLeast (λ id. id == control + 8 && has_own_bytes s id) from third → both ≡ lesser_of first second
    → found ≡ lesser_of both third → IsLeast (has_own_bytes s) from found
least_own s from control first second third both found is one two three joined result =
    let others : (id : ℕ) → id ≢ control → id ≢ control + 4 → id ≢ control + 8 → has_own_bytes s id ≡ false
    = subst (λ n. (id : ℕ) → id ≢ n → id ≢ n + 4 → id ≢ n + 8 → has_own_bytes s id ≡ false) (sym is) (quiet s) in
    subst (IsLeast (has_own_bytes s) from) (sym (result ∙ ap (λ o. lesser_of o third) joined))
    (least_of_three (has_own_bytes s) control (control + 4) (control + 8) from first second third others one two three)

or_false : (b : Bool) → (b || false) ≡ b
or_false true = refl
or_false false = refl

-- whether bytes wait is known by what is stored of both
waits_by : (s : EndpointState) (e : EndpointHistory) (id : ℕ) (there : Option RequestState) → StandsFor s e → kept_at s.requests id ≡ there
    → has_waiting e id ≡ (has_bytes there || (not (is_some (option_map (λ r. r.outgoing) there)) && nat_lt 0 (length (waiting_on s.own s.side id))))
waits_by s e id None h was = sym (ap (λ bytes. nat_lt 0 (length bytes)) (own_waits s e id h (ap (option_map (λ r. r.outgoing)) was)))
waits_by s e id (Some r) h was = sym (or_false (has_bytes (Some r)) ∙ ap (λ bytes. nat_lt 0 (length bytes)) (request_waits s e id r.outgoing h (ap (option_map (λ r. r.outgoing)) was)))

pub next_of_both : (s : EndpointState) (from : ℕ) (request own : Option ℕ) → IsLeast (λ id. has_bytes (kept_at s.requests id)) from request → IsLeast (has_own_bytes s) from own
    → ShowsNextWaiting s from (lesser_of request own)
next_of_both s from request own h k e stands =
    least_same (λ id. has_bytes (kept_at s.requests id) || has_own_bytes s id) (has_waiting e) from (lesser_of request own) (λ id. waits_by s e id (kept_at s.requests id) stands refl)
    (least_either (λ id. has_bytes (kept_at s.requests id)) (has_own_bytes s) from request own h k)
