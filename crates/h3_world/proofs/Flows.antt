-- What a flow is after a flow was changed.
use Rattle.std.proofs.Common.{◌≡◌, ℕ, zero, suc, ◌<◌, Bool, true, false, List, [], ◌∷◌, length, refl, sym, ap, ◌∙◌, arith, Some}
use Rattle.std.specs.Prelude.{◌%◌, slice_get, slice_set, unwrap_or, ◌==◌, if◌then◌else◌}
use Rattle.std.proofs.Math.Nat.{div-add-mod}
use Rattle.std.proofs.lemmas.Grind.{common_steps}
use Rattle.h3_proto.specs.StreamIds.{is_request_stream, index_of}
use Rattle.h3_proto.specs.declared.stream.Side.{Side}
use Rattle.h3_proto.specs.declared.stream.Side.TheVariants.{Client, Server}
use Rattle.h3_connection.specs.OwnIds.{other}
use Rattle.h3_world.specs.Flow.{Flow}
use Rattle.h3_world.specs.World.{World, Exchange, Party, no_exchange, party, with_party}
use Rattle.h3_world.specs.Streams.{exchange, with_exchange, flow, with_flow}

pub set_here : {X : Type 0} (xs : List X) (n : ℕ) (x : X) → n < length xs → slice_get (slice_set xs n x) n ≡ Some x
set_here [] n x h = absurd (omega (arith, h))
set_here (y ∷ ys) zero x h = refl
set_here (y ∷ ys) (suc n) x h = set_here ys n x (omega (arith, h))

pub set_elsewhere : {X : Type 0} (xs : List X) (n m : ℕ) (x : X) → (n == m) ≡ false → slice_get (slice_set xs n x) m ≡ slice_get xs m
set_elsewhere [] n m x e = refl
set_elsewhere (y ∷ ys) zero zero x e = absurd (grind (arith, common_steps, e))
set_elsewhere (y ∷ ys) zero (suc m) x e = refl
set_elsewhere (y ∷ ys) (suc n) zero x e = refl
set_elsewhere (y ∷ ys) (suc n) (suc m) x e = set_elsewhere ys n m x (grind (arith, common_steps, e))

pub same_id : (a b : ℕ) → (a == b) ≡ true → a ≡ b
same_id a b e = grind (arith, common_steps, e)

-- requests have the places of their ids
places_differ : (id i : ℕ) → is_request_stream id ≡ true → is_request_stream i ≡ true → (id == i) ≡ false → (index_of id == index_of i) ≡ false
places_differ id i r q e = by_test (index_of id == index_of i) refl
  where
    none_left : (n : ℕ) → is_request_stream n ≡ true → n % 4 ≡ 0
    none_left n h = same_id (n % 4) 0 h

    same : index_of id ≡ index_of i → id ≡ i
    same h = omega (arith, h, div-add-mod id 4, div-add-mod i 4, none_left id r, none_left i q)

    clash : id ≡ i → ⊥
    clash h = grind (arith, common_steps, e, h)

    by_test : (t : Bool) → (index_of id == index_of i) ≡ t → t ≡ false
    by_test true h = absurd (clash (same (same_id (index_of id) (index_of i) h)))
    by_test false h = refl

-- The id is a request stream that was opened.
pub record IsThere (w : World) (id : ℕ) : Type 0 where
  pub request : is_request_stream id ≡ true
  pub place : index_of id < length w.exchanges

pub exchange-with_exchange : (w : World) (id i : ℕ) (e : Exchange) → IsThere w id → exchange (with_exchange w id e) i ≡ (if id == i then e else exchange w i)
exchange-with_exchange w id i e there = by_id (id == i) refl
  where
    here : exchange (with_exchange w id e) id ≡ e
    here =
        ap (λ b. if b then unwrap_or (slice_get (slice_set w.exchanges (index_of id) e) (index_of id)) no_exchange else no_exchange) there.request
        ∙ ap (λ o. unwrap_or o no_exchange) (set_here w.exchanges (index_of id) e there.place)

    elsewhere : (id == i) ≡ false → (r : Bool) → is_request_stream i ≡ r
        → (if r then unwrap_or (slice_get (slice_set w.exchanges (index_of id) e) (index_of i)) no_exchange else no_exchange)
        ≡ (if r then unwrap_or (slice_get w.exchanges (index_of i)) no_exchange else no_exchange)
    elsewhere not true q = ap (λ o. unwrap_or o no_exchange) (set_elsewhere w.exchanges (index_of id) (index_of i) e (places_differ id i there.request q not))
    elsewhere not false q = refl

    by_id : (t : Bool) → (id == i) ≡ t → exchange (with_exchange w id e) i ≡ (if t then e else exchange w i)
    by_id true h = ap (exchange (with_exchange w id e)) (sym (same_id id i h)) ∙ here
    by_id false h = elsewhere h (is_request_stream i) refl

request_of : (t : Bool) (a b : Exchange) → (if t then a else b).request ≡ (if t then a.request else b.request)
request_of true a b = refl
request_of false a b = refl

response_of : (t : Bool) (a b : Exchange) → (if t then a else b).response ≡ (if t then a.response else b.response)
response_of true a b = refl
response_of false a b = refl

same_both : {X : Type 0} (t : Bool) (a b : X) → (t ≡ true → a ≡ b) → (if t then a else b) ≡ b
same_both true a b h = h refl
same_both false a b h = refl

-- the side's own flow under that id, and no other
pub flow-with_flow : (w : World) (side : Side) (id i : ℕ) (f : Flow) → IsThere w id → flow (with_flow w side id f) side i ≡ (if id == i then f else flow w side i)
flow-with_flow w Client id i f there =
    ap (λ e. e.request) (exchange-with_exchange w id i (record (exchange w id) { request = f }) there) ∙ request_of (id == i) (record (exchange w id) { request = f }) (exchange w i)
flow-with_flow w Server id i f there =
    ap (λ e. e.response) (exchange-with_exchange w id i (record (exchange w id) { response = f }) there) ∙ response_of (id == i) (record (exchange w id) { response = f }) (exchange w i)

pub flow-with_other : (w : World) (side : Side) (id i : ℕ) (f : Flow) → IsThere w id → flow (with_flow w side id f) (other side) i ≡ flow w (other side) i
flow-with_other w Client id i f there =
    ap (λ e. e.response) (exchange-with_exchange w id i (record (exchange w id) { request = f }) there)
    ∙ response_of (id == i) (record (exchange w id) { request = f }) (exchange w i)
    ∙ same_both (id == i) (exchange w id).response (exchange w i).response (λ e. ap (λ j. (exchange w j).response) (same_id id i e))
flow-with_other w Server id i f there =
    ap (λ e. e.request) (exchange-with_exchange w id i (record (exchange w id) { response = f }) there)
    ∙ request_of (id == i) (record (exchange w id) { response = f }) (exchange w i)
    ∙ same_both (id == i) (exchange w id).request (exchange w i).request (λ e. ap (λ j. (exchange w j).request) (same_id id i e))

-- the parties stay
pub party-with_flow : (w : World) (side s : Side) (id : ℕ) (f : Flow) → party (with_flow w side id f) s ≡ party w s
party-with_flow w Client Client id f = refl
party-with_flow w Client Server id f = refl
party-with_flow w Server Client id f = refl
party-with_flow w Server Server id f = refl

pub party-with_party : (w : World) (side : Side) (p : Party) → party (with_party w side p) side ≡ p
party-with_party w Client p = refl
party-with_party w Server p = refl

pub party-with_other : (w : World) (side : Side) (p : Party) → party (with_party w side p) (other side) ≡ party w (other side)
party-with_other w Client p = refl
party-with_other w Server p = refl

pub flow-with_party : (w : World) (side s : Side) (p : Party) (i : ℕ) → flow (with_party w side p) s i ≡ flow w s i
flow-with_party w Client Client p i = refl
flow-with_party w Client Server p i = refl
flow-with_party w Server Client p i = refl
flow-with_party w Server Server p i = refl

pub other-other : (side : Side) → other (other side) ≡ side
other-other Client = refl
other-other Server = refl
