-- What the flows, the parties and the open streams of a world are after a flow or a party was changed.
use Rattle.std.proofs.Common.{◌≡◌, ℕ, zero, suc, ◌<◌, List, [], ◌∷◌, length, refl, arith, Some, false, true, Bool, sym, ap, ◌∙◌, nat_lt}
use Rattle.std.specs.Prelude.{slice_get, slice_set, ◌==◌, ◌%◌, unwrap_or, if◌then◌else◌, ◌&&◌}
use Rattle.std.proofs.lemmas.Grind.{common_steps}
use Rattle.std.proofs.Math.Nat.{div-add-mod}
use Rattle.h3_proto.specs.StreamIds.{is_request_stream, index_of}
use Rattle.h3_world.specs.World.{World, Exchange, no_exchange, party, Party, with_party}
use Rattle.h3_world.specs.Streams.{exchange, with_exchange, flow, with_flow, is_open}
use Rattle.h3_proto.specs.declared.stream.Side.{Side}
use Rattle.h3_proto.specs.declared.stream.Side.TheVariants.{Client, Server}
use Rattle.h3_connection.specs.OwnIds.{other}
use Rattle.h3_world.specs.Flow.{Flow}
use Rattle.h3_headline.specs.Steps.{IsThere}

pub set_here : {X : Type 0} (xs : List X) (n : ℕ) (x : X) → n < length xs → slice_get (slice_set xs n x) n ≡ Some x
set_here [] n x h = absurd (omega (arith, h))
set_here (y ∷ ys) zero x h = refl
set_here (y ∷ ys) (suc n) x h = set_here ys n x (omega (arith, h))

pub set_elsewhere : {X : Type 0} (xs : List X) (n m : ℕ) (x : X) → (n == m) ≡ false → slice_get (slice_set xs n x) m ≡ slice_get xs m
set_elsewhere [] n m x e = refl
set_elsewhere (y ∷ ys) zero zero x e = absurd (grind (arith, common_steps, e))
set_elsewhere (y ∷ ys) zero (suc m) x e = refl
set_elsewhere (y ∷ ys) (suc n) zero x e = refl
set_elsewhere (y ∷ ys) (suc n) (suc m) x e = set_elsewhere ys n m x (grind (arith, common_steps, e))

pub set_length : {X : Type 0} (xs : List X) (n : ℕ) (x : X) → length (slice_set xs n x) ≡ length xs
set_length [] n x = refl
set_length (y ∷ ys) zero x = refl
set_length (y ∷ ys) (suc n) x = omega (arith, set_length ys n x)

pub same_number : (a b : ℕ) → (a == b) ≡ true → a ≡ b
same_number a b e = grind (arith, common_steps, e)

-- requests have the places of their ids
pub places_differ : (id i : ℕ) → is_request_stream id ≡ true → is_request_stream i ≡ true → (id == i) ≡ false → (index_of id == index_of i) ≡ false
places_differ id i r q e = by_test (index_of id == index_of i) refl
  where
    none_left : (n : ℕ) → is_request_stream n ≡ true → n % 4 ≡ 0
    none_left n h = same_number (n % 4) 0 h

    same : index_of id ≡ index_of i → id ≡ i
    same h = omega (arith, h, div-add-mod id 4, div-add-mod i 4, none_left id r, none_left i q)

    clash : id ≡ i → ⊥
    clash h = grind (arith, common_steps, e, h)

    by_test : (t : Bool) → (index_of id == index_of i) ≡ t → t ≡ false
    by_test true h = absurd (clash (same (same_number (index_of id) (index_of i) h)))
    by_test false h = refl

pub exchange-with_exchange : (w : World) (id i : ℕ) (e : Exchange) → IsThere w id → exchange (with_exchange w id e) i ≡ (if id == i then e else exchange w i)
exchange-with_exchange w id i e there = by_id (id == i) refl
  where
    here : exchange (with_exchange w id e) id ≡ e
    here =
        ap (λ b. if b then unwrap_or (slice_get (slice_set w.exchanges (index_of id) e) (index_of id)) no_exchange else no_exchange) there.request
        ∙ ap (λ o. unwrap_or o no_exchange) (set_here w.exchanges (index_of id) e there.place)

    elsewhere : (id == i) ≡ false → (r : Bool) → is_request_stream i ≡ r
        → (if r then unwrap_or (slice_get (slice_set w.exchanges (index_of id) e) (index_of i)) no_exchange else no_exchange)
        ≡ (if r then unwrap_or (slice_get w.exchanges (index_of i)) no_exchange else no_exchange)
    elsewhere not true q = ap (λ o. unwrap_or o no_exchange) (set_elsewhere w.exchanges (index_of id) (index_of i) e (places_differ id i there.request q not))
    elsewhere not false q = refl

    by_id : (t : Bool) → (id == i) ≡ t → exchange (with_exchange w id e) i ≡ (if t then e else exchange w i)
    by_id true h = ap (exchange (with_exchange w id e)) (sym (same_number id i h)) ∙ here
    by_id false h = elsewhere h (is_request_stream i) refl

request_of : (t : Bool) (a b : Exchange) → (if t then a else b).request ≡ (if t then a.request else b.request)
request_of true a b = refl
request_of false a b = refl

response_of : (t : Bool) (a b : Exchange) → (if t then a else b).response ≡ (if t then a.response else b.response)
response_of true a b = refl
response_of false a b = refl

pub same_both : {X : Type 0} (t : Bool) (a b : X) → (t ≡ true → a ≡ b) → (if t then a else b) ≡ b
same_both true a b h = h refl
same_both false a b h = refl

-- the side's own flow under that id, and no other
pub flow-with_flow : (w : World) (side : Side) (id i : ℕ) (f : Flow) → IsThere w id → flow (with_flow w side id f) side i ≡ (if id == i then f else flow w side i)
flow-with_flow w Client id i f there =
    ap (λ e. e.request) (exchange-with_exchange w id i (record (exchange w id) { request = f }) there) ∙ request_of (id == i) (record (exchange w id) { request = f }) (exchange w i)
flow-with_flow w Server id i f there =
    ap (λ e. e.response) (exchange-with_exchange w id i (record (exchange w id) { response = f }) there) ∙ response_of (id == i) (record (exchange w id) { response = f }) (exchange w i)

-- what the other side sends
pub flow-with_other : (w : World) (side : Side) (id i : ℕ) (f : Flow) → IsThere w id → flow (with_flow w side id f) (other side) i ≡ flow w (other side) i
flow-with_other w Client id i f there =
    ap (λ e. e.response) (exchange-with_exchange w id i (record (exchange w id) { request = f }) there)
    ∙ response_of (id == i) (record (exchange w id) { request = f }) (exchange w i)
    ∙ same_both (id == i) (exchange w id).response (exchange w i).response (λ e. ap (λ j. (exchange w j).response) (same_number id i e))
flow-with_other w Server id i f there =
    ap (λ e. e.request) (exchange-with_exchange w id i (record (exchange w id) { response = f }) there)
    ∙ request_of (id == i) (record (exchange w id) { response = f }) (exchange w i)
    ∙ same_both (id == i) (exchange w id).request (exchange w i).request (λ e. ap (λ j. (exchange w j).request) (same_number id i e))

-- what the side itself sends, where a flow to it changes
pub flow-with_peer : (w : World) (side : Side) (id i : ℕ) (f : Flow) → IsThere w id → flow (with_flow w (other side) id f) side i ≡ flow w side i
flow-with_peer w Client id i f there = flow-with_other w Server id i f there
flow-with_peer w Server id i f there = flow-with_other w Client id i f there

-- the parties stay
pub party-with_flow : (w : World) (side s : Side) (id : ℕ) (f : Flow) → party (with_flow w side id f) s ≡ party w s
party-with_flow w Client Client id f = refl
party-with_flow w Client Server id f = refl
party-with_flow w Server Client id f = refl
party-with_flow w Server Server id f = refl

pub party-with_party : (w : World) (side : Side) (p : Party) → party (with_party w side p) side ≡ p
party-with_party w Client p = refl
party-with_party w Server p = refl

pub party-with_other : (w : World) (side : Side) (p : Party) → party (with_party w side p) (other side) ≡ party w (other side)
party-with_other w Client p = refl
party-with_other w Server p = refl

pub party-with_peer : (w : World) (side : Side) (p : Party) → party (with_party w (other side) p) side ≡ party w side
party-with_peer w Client p = refl
party-with_peer w Server p = refl

pub flow-with_party : (w : World) (side s : Side) (p : Party) (i : ℕ) → flow (with_party w side p) s i ≡ flow w s i
flow-with_party w Client Client p i = refl
flow-with_party w Client Server p i = refl
flow-with_party w Server Client p i = refl
flow-with_party w Server Server p i = refl

pub is_open-with_party : (w : World) (side s : Side) (p : Party) (i : ℕ) → is_open (with_party w side p) s i ≡ is_open w s i
is_open-with_party w Client Client p i = refl
is_open-with_party w Client Server p i = refl
is_open-with_party w Server Client p i = refl
is_open-with_party w Server Server p i = refl

pub there-with_party : (w : World) (side : Side) (p : Party) (id : ℕ) → IsThere w id → IsThere (with_party w side p) id
there-with_party w Client p id h = record { request = h.request; place = h.place }
there-with_party w Server p id h = record { request = h.request; place = h.place }

pub other-other : (side : Side) → other (other side) ≡ side
other-other Client = refl
other-other Server = refl

-- an open stream is there
pub and_first : (a b : Bool) → (a && b) ≡ true → a ≡ true
and_first true b e = refl
and_first false b e = e

pub and_second : (a b : Bool) → (a && b) ≡ true → b ≡ true
and_second true b e = e
and_second false b e = absurd (grind (arith, common_steps, e))

below : (a b : ℕ) → nat_lt a b ≡ true → a < b
below a b e = grind (arith, common_steps, e)

below_is : (a b : ℕ) → a < b → nat_lt a b ≡ true
below_is a b e = grind (arith, common_steps, e)

pub open_there : (w : World) (side : Side) (id : ℕ) → is_open w side id ≡ true → IsThere w id
open_there w Client id e = record { request = and_first (is_request_stream id) _ e; place = below _ _ (and_second (is_request_stream id) _ e) }
open_there w Server id e =
    let both = and_first (is_request_stream id && nat_lt (index_of id) (length w.exchanges)) _ e in
    record { request = and_first (is_request_stream id) _ both; place = below _ _ (and_second (is_request_stream id) _ both) }

pub there_open : (w : World) (id : ℕ) → IsThere w id → is_open w Client id ≡ true
there_open w id h = rw (h.request, below_is (index_of id) (length w.exchanges) h.place) refl

-- the side's own flow changes, and the same streams are open to it
pub is_open-own : (w : World) (side : Side) (id i : ℕ) (f : Flow) → IsThere w id → is_open (with_flow w side id f) side i ≡ is_open w side i
is_open-own w Client id i f there = ap (λ n. is_request_stream i && nat_lt (index_of i) n) (set_length w.exchanges (index_of id) (record (exchange w id) { request = f }))
is_open-own w Server id i f there =
    ap (λ n. is_request_stream i && nat_lt (index_of i) n && (exchange (with_flow w Server id f) i).request.seen) (set_length w.exchanges (index_of id) (record (exchange w id) { response = f }))
    ∙ ap (λ g. is_request_stream i && nat_lt (index_of i) (length w.exchanges) && g.seen) (flow-with_other w Server id i f there)

-- a flow to the side changes: the stream is open to it once it has seen anything of it
pub is_open-peer : (w : World) (side : Side) (id i : ℕ) (f : Flow) → IsThere w id → f.seen ≡ true
    → is_open (with_flow w (other side) id f) side i ≡ (if id == i then true else is_open w side i)
is_open-peer w Client id i f there seen =
    ap (λ n. is_request_stream i && nat_lt (index_of i) n) (set_length w.exchanges (index_of id) (record (exchange w id) { response = f }))
    ∙ sym (same_both (id == i) true (is_open w Client i) (λ e. sym (ap (is_open w Client) (sym (same_number id i e)) ∙ there_open w id there)))
is_open-peer w Server id i f there seen =
    ap (λ n. is_request_stream i && nat_lt (index_of i) n && (exchange (with_flow w Client id f) i).request.seen) (set_length w.exchanges (index_of id) (record (exchange w id) { request = f }))
    ∙ ap (λ g. is_request_stream i && nat_lt (index_of i) (length w.exchanges) && g.seen) (flow-with_flow w Client id i f there)
    ∙ by_id (id == i) refl
  where
    by_id : (t : Bool) → (id == i) ≡ t
        → (is_request_stream i && nat_lt (index_of i) (length w.exchanges) && (if t then f else flow w Client i).seen) ≡ (if t then true else is_open w Server i)
    by_id true e =
        ap (λ j. is_request_stream j && nat_lt (index_of j) (length w.exchanges) && f.seen) (sym (same_number id i e))
        ∙ rw (there.request, below_is (index_of id) (length w.exchanges) there.place, seen) refl
    by_id false e = refl

-- or if it has seen as much of it as before
pub is_open-peer_kept : (w : World) (side : Side) (id i : ℕ) (f : Flow) → IsThere w id → f.seen ≡ (flow w (other side) id).seen
    → is_open (with_flow w (other side) id f) side i ≡ is_open w side i
is_open-peer_kept w Client id i f there seen =
    ap (λ n. is_request_stream i && nat_lt (index_of i) n) (set_length w.exchanges (index_of id) (record (exchange w id) { response = f }))
is_open-peer_kept w Server id i f there seen =
    ap (λ n. is_request_stream i && nat_lt (index_of i) n && (exchange (with_flow w Client id f) i).request.seen) (set_length w.exchanges (index_of id) (record (exchange w id) { request = f }))
    ∙ ap (λ b. is_request_stream i && nat_lt (index_of i) (length w.exchanges) && b) (ap (λ g. g.seen) (flow-with_flow w Client id i f there) ∙ by_id (id == i) refl)
  where
    by_id : (t : Bool) → (id == i) ≡ t → (if t then f else flow w Client i).seen ≡ (flow w Client i).seen
    by_id true e = seen ∙ ap (λ j. (flow w Client j).seen) (same_number id i e)
    by_id false e = refl
