-- Streams without what strict messages know of them: each is found, set and counted as before.
use Rattle.std.proofs.Common.{arith, ◌≡◌, ◌≤◌, ℕ, ◌+◌, Bool, true, false, if◌then◌else◌, [], ◌∷◌, refl, ap, sym, ◌∙◌, Option, Some, None, inl, inr}
use Rattle.std.specs.Prelude.{count_by, ◌==◌, nat_lt, option_map, unwrap_or}
use Rattle.std.proofs.lemmas.Bool.{cases_eq, cases_lt, lt-ltb, le-ltb}
use Rattle.std.proofs.lemmas.Grind.{common_steps}
use Rattle.std.proofs.lemmas.List.Sums.{sum_by-cons}
use Rattle.h3_connection.specs.Delivering.{incoming_at}
use Rattle.h3_connection.specs.Endpoint.{EndpointHistory}
use Rattle.h3_connection.specs.FirstAbove.{first_above, greater}
use Rattle.h3_connection.specs.Incoming.{Incoming, nothing_came}
use Rattle.h3_connection.specs.Outgoing.{Outgoing, nothing_sent}
use Rattle.h3_connection.specs.Sending.{outgoing_at}
use Rattle.h3_connection.specs.StreamSets.{Streams, stream_at, set_stream}
use Rattle.h3_connection.specs.StreamSetLaws.{set-same}
use Rattle.h3_strict.specs.Plainly.{each_stream, plain_incoming, plain_outgoing, plainly}

map_if : {X : Type 0} (f : X → X) (b : Bool) (x : X) (o : Option X) → (if b then Some (f x) else option_map f o) ≡ option_map f (if b then Some x else o)
map_if f true x o = refl
map_if f false x o = refl

pub at_each : {X : Type 0} (f : X → X) (streams : Streams X) (id : ℕ) → stream_at (each_stream f streams) id ≡ option_map f (stream_at streams id)
at_each f [] id = refl
at_each f ((q, x) ∷ streams) id = ap (λ o. if q == id then Some (f x) else o) (at_each f streams id) ∙ map_if f (q == id) x (stream_at streams id)

each_if : {X : Type 0} (f : X → X) (b : Bool) (s t : Streams X) → (if b then each_stream f s else each_stream f t) ≡ each_stream f (if b then s else t)
each_if f true s t = refl
each_if f false s t = refl

pub set_each : {X : Type 0} (f : X → X) (streams : Streams X) (id : ℕ) (x : X) → set_stream (each_stream f streams) id (f x) ≡ each_stream f (set_stream streams id x)
set_each f [] id x = refl
set_each f ((q, y) ∷ streams) id x =
    ap (λ l. if q == id then (id, f x) ∷ each_stream f streams else (q, f y) ∷ l) (set_each f streams id x)
    ∙ each_if f (q == id) ((id, x) ∷ streams) ((q, y) ∷ set_stream streams id x)

-- the same id is above all of them
pub above_each : {X : Type 0} (f : X → X) (streams : Streams X) → first_above (each_stream f streams) ≡ first_above streams
above_each f [] = refl
above_each f ((q, x) ∷ streams) = ap (greater (q + 4)) (above_each f streams)

-- a stream that is set to one that is the same but for that
pub set_alike : {X : Type 0} (f : X → X) (streams : Streams X) (id : ℕ) (x y : X) → stream_at streams id ≡ Some x → f y ≡ f x → each_stream f (set_stream streams id y) ≡ each_stream f streams
set_alike f streams id x y here same =
    sym (set_each f streams id y) ∙ ap (λ z. set_stream (each_stream f streams) id z) same
    ∙ set-same (each_stream f streams) id (f x) (at_each f streams id ∙ ap (option_map f) here)

-- as many streams wait
abbrev pub waiting_above : ℕ → Streams Incoming → ℕ
waiting_above n streams = count_by (λ s. nat_lt n s.1.waits_for) streams

count_more : (n q : ℕ) (i : Incoming) (streams : Streams Incoming) → waiting_above n ((q, i) ∷ streams) ≡ (if nat_lt n i.waits_for then 1 else 0) + waiting_above n streams
count_more n q i streams = sum_by-cons (λ s. if nat_lt n s.1.waits_for then 1 else 0) (q, i) streams

pub count_each : (n : ℕ) (streams : Streams Incoming) → waiting_above n (each_stream plain_incoming streams) ≡ waiting_above n streams
count_each n [] = refl
count_each n ((q, i) ∷ streams) =
    count_more n q (plain_incoming i) (each_stream plain_incoming streams) ∙ ap (λ m. (if nat_lt n i.waits_for then 1 else 0) + m) (count_each n streams) ∙ sym (count_more n q i streams)

abbrev one_if : Bool → ℕ
one_if b = if b then 1 else 0

one_less : (n a b : ℕ) → a ≤ b → one_if (nat_lt n a) ≤ one_if (nat_lt n b)
one_less n a b h = elim (cases_lt n a) [
  | inl less ↦ rw (lt-ltb n a less, lt-ltb n b (omega (arith, h, less))) (omega arith)
  | inr more ↦ rw (le-ltb n a more) (omega arith)
]

-- what a stream that is not there waits for is nothing
abbrev pub waits_at : Option Incoming → ℕ
waits_at None = 0
waits_at (Some i) = i.waits_for

-- no more wait where one of them waits for no more than before
pub count_set : (n : ℕ) (streams : Streams Incoming) (id : ℕ) (i : Incoming) → i.waits_for ≤ waits_at (stream_at streams id) → waiting_above n (set_stream streams id i) ≤ waiting_above n streams
count_set n [] id i h =
    let none : nat_lt n i.waits_for ≡ false = le-ltb n i.waits_for (omega (arith, h)) in
    omega (arith, count_more n id i [], ap one_if none)
count_set n ((q, y) ∷ streams) id i h = elim (cases_eq q id) [
  | inl same ↦
      let here : (q == id) ≡ true = grind (arith, common_steps) in
      let few : i.waits_for ≤ y.waits_for = rw here at h in
      rw here (omega (arith, count_more n id i streams, count_more n q y streams, one_less n i.waits_for y.waits_for few))
  | inr differs ↦
      let there : (q == id) ≡ false = grind (arith, common_steps) in
      let behind : i.waits_for ≤ waits_at (stream_at streams id) = rw there at h in
      rw there (omega (arith, count_more n q y (set_stream streams id i), count_more n q y streams, count_set n streams id i behind))
]

-- a stream of which nothing came is as it was
or_nothing : (o : Option Incoming) → unwrap_or (option_map plain_incoming o) nothing_came ≡ plain_incoming (unwrap_or o nothing_came)
or_nothing None = refl
or_nothing (Some i) = refl

or_unsent : (o : Option Outgoing) → unwrap_or (option_map plain_outgoing o) nothing_sent ≡ plain_outgoing (unwrap_or o nothing_sent)
or_unsent None = refl
or_unsent (Some o) = refl

pub in_at : (e : EndpointHistory) (id : ℕ) → incoming_at (plainly e) id ≡ plain_incoming (incoming_at e id)
in_at e id = ap (λ o. unwrap_or o nothing_came) (at_each plain_incoming e.incoming id) ∙ or_nothing (stream_at e.incoming id)

pub out_at : (e : EndpointHistory) (id : ℕ) → outgoing_at (plainly e) id ≡ plain_outgoing (outgoing_at e id)
out_at e id = ap (λ o. unwrap_or o nothing_sent) (at_each plain_outgoing e.outgoing id) ∙ or_unsent (stream_at e.outgoing id)
