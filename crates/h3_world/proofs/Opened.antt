-- A request that is opened, and a GOAWAY: the sessions of both directions are kept.
use Rattle.std.proofs.Common.{◌≡◌, ℕ, zero, suc, ◌<◌, Bool, true, false, ◌&&◌, List, [], ◌∷◌, ◌++◌, length, refl, ap, arith, nat_lt, if◌then◌else◌}
use Rattle.std.specs.Prelude.{slice_get, unwrap_or}
use Rattle.std.proofs.lemmas.Grind.{common_steps}
use Rattle.h3_proto.specs.StreamIds.{is_request_stream, index_of}
use Rattle.h3_proto.specs.declared.stream.Side.{Side}
use Rattle.h3_proto.specs.declared.stream.Side.TheVariants.{Client, Server}
use Rattle.h3_world.specs.Setup.{Setup}
use Rattle.h3_connection.specs.OwnIds.{other}
use Rattle.h3_world.specs.World.{World, no_exchange, party}
use Rattle.h3_world.specs.Streams.{exchange, flow, is_open}
use Rattle.h3_world.specs.Sending.{opened, with_goaway}
use Rattle.h3_world.specs.Following.{HasSession}
use Rattle.h3_world.proofs.Flows.{IsThere}
use Rattle.h3_world.proofs.SameSession.{same_kept, flows_kept}
use Rattle.h3_world.specs.Following.{sections_left}

get_more : {X : Type 0} (xs : List X) (n : ℕ) (d : X) → unwrap_or (slice_get (xs ++ d ∷ []) n) d ≡ unwrap_or (slice_get xs n) d
get_more [] zero d = refl
get_more [] (suc n) d = refl
get_more (x ∷ xs) zero d = refl
get_more (x ∷ xs) (suc n) d = get_more xs n d

exchange-opened : (w : World) (id : ℕ) → exchange (opened w) id ≡ exchange w id
exchange-opened w id = by_request (is_request_stream id)
  where
    by_request : (b : Bool) → (if b then unwrap_or (slice_get (w.exchanges ++ no_exchange ∷ []) (index_of id)) no_exchange else no_exchange)
        ≡ (if b then unwrap_or (slice_get w.exchanges (index_of id)) no_exchange else no_exchange)
    by_request true = get_more w.exchanges (index_of id) no_exchange
    by_request false = refl

pub flow-opened : (w : World) (side : Side) (id : ℕ) → flow (opened w) side id ≡ flow w side id
flow-opened w Client id = ap (λ e. e.request) (exchange-opened w id)
flow-opened w Server id = ap (λ e. e.response) (exchange-opened w id)

party-opened : (w : World) (side : Side) → party (opened w) side ≡ party w side
party-opened w Client = refl
party-opened w Server = refl

pub opened_kept : (setup : Setup) (w : World) (side : Side) → HasSession setup w side → HasSession setup (opened w) side
opened_kept setup w side h =
    flows_kept setup w (opened w) side (party-opened w side) (party-opened w (other side)) (λ i. ap (λ f. f.fault) (flow-opened w side i)) (λ i. ap sections_left (flow-opened w side i)) h

pub goaway_kept : (setup : Setup) (w : World) (side s : Side) (id : ℕ) → HasSession setup w side → HasSession setup (with_goaway w s id) side
goaway_kept setup w Client Client id h =
    same_kept setup w (with_goaway w Client id) Client h (record { encoder = refl; instructions = refl; knows = refl; received = refl; replies = refl; faults = λ i. refl; sections = λ i. refl })
goaway_kept setup w Client Server id h =
    same_kept setup w (with_goaway w Server id) Client h (record { encoder = refl; instructions = refl; knows = refl; received = refl; replies = refl; faults = λ i. refl; sections = λ i. refl })
goaway_kept setup w Server Client id h =
    same_kept setup w (with_goaway w Client id) Server h (record { encoder = refl; instructions = refl; knows = refl; received = refl; replies = refl; faults = λ i. refl; sections = λ i. refl })
goaway_kept setup w Server Server id h =
    same_kept setup w (with_goaway w Server id) Server h (record { encoder = refl; instructions = refl; knows = refl; received = refl; replies = refl; faults = λ i. refl; sections = λ i. refl })

-- what is open is there
both : (a b : Bool) → (a && b) ≡ true → (a ≡ true) × (b ≡ true)
both true b h = (refl, h)
both false b h = cc

below : (a b : ℕ) → nat_lt a b ≡ true → a < b
below a b h = grind (arith, common_steps, h)

pub open_is_there : (w : World) (side : Side) (id : ℕ) → is_open w side id ≡ true → IsThere w id
open_is_there w Client id h =
    let r = both (is_request_stream id) (nat_lt (index_of id) (length w.exchanges)) h in
    record { request = r.0; place = below (index_of id) (length w.exchanges) r.1 }
open_is_there w Server id h =
    let r = both (is_request_stream id && nat_lt (index_of id) (length w.exchanges)) (exchange w id).request.seen h in
    let q = both (is_request_stream id) (nat_lt (index_of id) (length w.exchanges)) r.0 in
    record { request = q.0; place = below (index_of id) (length w.exchanges) q.1 }
