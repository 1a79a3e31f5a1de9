-- What `h3_outgoing` shows is the front of what waits, and what `h3_stream` tells of a stream is so.
use Rattle.std.proofs.Common.{arith, ◌≡◌, ◌≤◌, ◌<◌, ◌⊎◌, inl, inr, ℕ, zero, suc, Bool, true, false, if◌then◌else◌, List, [], ◌∷◌, length, take, refl, sym, ap, subst, ◌∙◌, Option, Some, None}
use Rattle.std.specs.Prelude.{◌||◌, ◌^◌, min, nat_lt, is_some, option_map, unwrap_or}
use Rattle.std.specs.List.{AllByRecursion}
use Rattle.std.proofs.lemmas.Bool.{cases_Bool}
use Rattle.std.proofs.lemmas.Grind.{common_steps}
use Rattle.h3_connection.specs.Endpoint.{EndpointHistory, bytes_waiting}
use Rattle.h3_connection.specs.Outgoing.{Outgoing as Out}
use Rattle.h3_connection.specs.OwnIds.{is_own}
use Rattle.h3_connection.specs.Shown.{has_outgoing, is_finished, is_reset, waiting}
use Rattle.h3_connection.specs.State.{StandsFor}
use Rattle.h3_connection.specs.StreamSets.{stream_at}
use Rattle.h3_coding.specs.Encodings.{IsByte}
use Rattle.h3_outgoing.specs.Copied.{put}
use Rattle.h3_outgoing.specs.Held.{front_of}
use Rattle.h3_outgoing.specs.HeldLaws.{front_in, front_out, front_within}
use Rattle.h3_c.specs.Bits.{bit}
use Rattle.h3_c.specs.Exported.{CopiesOut, OnStream}
use Rattle.h3_c.specs.Numbers.{argument, ok}
use Rattle.h3_c.specs.Programs.{Shows, Tells, GoesOn, HasEnded, IsEmpty, WasReset}
use Rattle.h3_c.specs.Seen.{Seen}
use Rattle.h3_c.specs.Showing.{IsStream}
use Rattle.h3_c.specs.declared.state.StreamState.{StreamState}
use Rattle.h3_c.specs.declared.numbers.Told.{Told}
use Rattle.h3_c.proofs.Writing.{Fronted}

pub below_or_not : (a b : ℕ) → (a < b) ⊎ (b ≤ a)
below_or_not a b = elim (cases_Bool (nat_lt a b)) [
  | inl is ↦ inl (grind (arith, common_steps, is))
  | inr is ↦ inr (grind (arith, common_steps, is))
]

-- H3_OK is not H3_ARGUMENT
pub not_argument : ok ≡ argument → ⊥
not_argument is = let same : 0 ≡ 32 = ap (λ (n : Told). n.number) is in omega (arith, same)

-- a call on a stream that is answered H3_OK
pub known_id : (id : ℕ) (v w : Seen) (goes : Type 0) → OnStream id ok v w goes → (id < 2 ^ 62) × goes
known_id id v w goes h = elim (below_or_not id (2 ^ 62)) [
  | inl below ↦ (below, h.known below)
  | inr above ↦ absurd (not_argument (h.unknown above).0)
]

take_put : (k : ℕ) (front before : List ℕ) → k ≤ length front → k ≤ length before → take k (put front before) ≡ take k front
take_put zero front before f b = refl
take_put (suc k) [] before f b = absurd (omega (arith, f))
take_put (suc k) (x ∷ front) [] f b = absurd (omega (arith, b))
take_put (suc k) (x ∷ front) (y ∷ before) f b = ap (λ l. x ∷ l) (take_put k front before (omega (arith, f)) (omega (arith, b)))

take_front : (k : ℕ) (wire : List ℕ) → k ≤ length (front_of wire) → take k (front_of wire) ≡ take k wire
take_front zero wire h = refl
take_front (suc k) [] h = refl
take_front (suc k) (b ∷ wire) h = elim (cases_Bool (nat_lt b 256)) [
  | inl is ↦ (let front = front_in b wire is in ap (λ l. take (suc k) l) front ∙ ap (λ l. b ∷ l) (take_front k wire (let n = ap (λ l. length l) front in omega (arith, h, n))))
  | inr is ↦ (let n = ap (λ l. length l) (front_out b wire is) in absurd (omega (arith, h, n)))
]

front_bytes : (wire : List ℕ) → AllByRecursion IsByte (front_of wire)
front_bytes [] = tt
front_bytes (b ∷ wire) = by (nat_lt b 256) refl (front_bytes wire)
  where
    by : (t : Bool) → nat_lt b 256 ≡ t → AllByRecursion IsByte (front_of wire) → AllByRecursion IsByte (if t then b ∷ front_of wire else [])
    by true is rest = (grind (arith, common_steps, is), rest)
    by false is rest = tt

taken_bytes : (n : ℕ) (xs : List ℕ) → AllByRecursion IsByte xs → AllByRecursion IsByte (take n xs)
taken_bytes zero xs h = tt
taken_bytes (suc n) [] h = tt
taken_bytes (suc n) (x ∷ xs) h = (h.0, taken_bytes n xs h.1)

copies : (v : Seen) (id : ℕ) (owed bytes : List ℕ) (s : Shows v id owed bytes) → CopiesOut v id ok s.before s.buffer s.count s.past s.fin
copies v id owed bytes s = (known_id id v v _ s.call.1).1

-- so many bytes are shown of what waits, and so many places behind them
pub shown_front : (v : Seen) (id : ℕ) (owed bytes : List ℕ) (s : Shows v id owed bytes) → (e : EndpointHistory) → StandsFor v.endpoint e → Fronted (bytes_waiting e id) s.buffer s.count s.past
shown_front v id owed bytes s e h =
    let c = copies v id owed bytes s in
    let f = (c.copied e h).copied in
    let wire = bytes_waiting e id in
    let place : s.count ≡ min (length (front_of wire)) (length s.before) = f.place in
    let fits : s.count ≤ length (front_of wire) = omega (arith, place) in
    let room : s.count ≤ length s.before = omega (arith, place) in
    let there = front_within wire in
    record {
      bytes = subst (λ l. AllByRecursion IsByte l) (take_front s.count wire fits) (taken_bytes s.count (front_of wire) (front_bytes wire));
      few = omega (arith, fits, there);
      copied = ap (λ l. take s.count l) f.filled ∙ take_put s.count (front_of wire) s.before fits room ∙ take_front s.count wire fits;
      past_is = (c.copied e h).past;
    }

-- what is finished is open to send
finished_there : (o : Option Out) → unwrap_or (option_map (λ (o : Out). o.is_finished) o) false ≡ true → is_some o ≡ true
finished_there None h = absurd (let never : false ≡ true = h in cc)
finished_there (Some o) h = refl

or_true : (b : Bool) → (b || true) ≡ true
or_true true = refl
or_true false = refl

pub ends_there : (e : EndpointHistory) (id : ℕ) → is_finished e id ≡ true → has_outgoing e id ≡ true
ends_there e id h = ap (λ b. is_own e.side id || b) (finished_there (stream_at e.outgoing id) h) ∙ or_true (is_own e.side id)

reset_there : (o : Option Out) → unwrap_or (option_map (λ (o : Out). o.is_reset) o) false ≡ true → is_some o ≡ true
reset_there None h = absurd (let never : false ≡ true = h in cc)
reset_there (Some o) h = refl

pub resets_there : (e : EndpointHistory) (id : ℕ) → is_reset e id ≡ true → has_outgoing e id ≡ true
resets_there e id h = ap (λ b. is_own e.side id || b) (reset_there (stream_at e.outgoing id) h) ∙ or_true (is_own e.side id)

-- what `h3_stream` tells
bit_true : (b : Bool) (n : ℕ) → n ≡ bit b → n ≡ 1 → b ≡ true
bit_true true n is one = refl
bit_true false n is one = absurd (omega (arith, is, one))

bit_false : (b : Bool) (n : ℕ) → n ≡ bit b → n ≡ 0 → b ≡ false
bit_false true n is none = absurd (omega (arith, is, none))
bit_false false n is none = refl

pub tells_stream : (v : Seen) (id : ℕ) (tells : StreamState → Type 0) (t : Tells v id tells) → (id < 2 ^ 62) × ((e : EndpointHistory) → StandsFor v.endpoint e → IsStream e id t.state)
tells_stream v id tells t = let k = known_id id v v _ t.call.1 in (k.0, k.1.1)

pub goes_told : (v : Seen) (id : ℕ) → Tells v id GoesOn → (e : EndpointHistory) → StandsFor v.endpoint e → (has_outgoing e id ≡ true) × (is_reset e id ≡ false)
goes_told v id t e h =
    let s = (tells_stream v id GoesOn t).1 e h in
    (bit_true (has_outgoing e id) t.state.has_outgoing s.has_outgoing t.told.0, bit_false (is_reset e id) t.state.is_reset s.is_reset t.told.1)

pub ended_told : (v : Seen) (id : ℕ) → Tells v id HasEnded → (e : EndpointHistory) → StandsFor v.endpoint e → (has_outgoing e id ≡ true) × (is_finished e id ≡ true) × (waiting e id ≡ 0)
ended_told v id t e h =
    let s = (tells_stream v id HasEnded t).1 e h in
    let finished = bit_true (is_finished e id) t.state.is_finished s.is_finished t.told.0 in
    (ends_there e id finished, finished, sym s.waiting ∙ t.told.1)

pub reset_told : (v : Seen) (id : ℕ) → Tells v id WasReset → (e : EndpointHistory) → StandsFor v.endpoint e → (has_outgoing e id ≡ true) × (is_reset e id ≡ true)
reset_told v id t e h =
    let s = (tells_stream v id WasReset t).1 e h in
    let was = bit_true (is_reset e id) t.state.is_reset s.is_reset t.told in
    (resets_there e id was, was)

pub empty_told : (v : Seen) (id : ℕ) → Tells v id IsEmpty → (e : EndpointHistory) → StandsFor v.endpoint e → (has_outgoing e id ≡ true) × (waiting e id ≡ 0)
empty_told v id t e h =
    let s = (tells_stream v id IsEmpty t).1 e h in
    (bit_true (has_outgoing e id) t.state.has_outgoing s.has_outgoing t.told.0, sym s.waiting ∙ t.told.1)
