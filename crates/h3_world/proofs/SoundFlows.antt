-- Each flow of a sound world is sound.
use Rattle.std.proofs.Common.{inl, ℕ, zero, suc, Bool, true, false, List, [], ◌∷◌, refl, arith, if◌then◌else◌, unwrap_or}
use Rattle.std.specs.List.{AllByRecursion}
use Rattle.std.specs.Prelude.{slice_get, slice_set}
use Rattle.std.proofs.lemmas.Grind.{common_steps}
use Rattle.h3_proto.specs.StreamIds.{is_request_stream, index_of}
use Rattle.h3_proto.specs.declared.stream.Side.{Side}
use Rattle.h3_proto.specs.declared.stream.Side.TheVariants.{Client, Server}
use Rattle.h3_world.specs.Flow.{unused}
use Rattle.h3_world.specs.World.{World, Party, no_exchange, party}
use Rattle.h3_world.specs.Streams.{exchange, flow}
use Rattle.h3_world.specs.Sound.{IsSoundFlow, IsSoundExchange}

pub unused_sound : (p : Party) → IsSoundFlow p unused
unused_sound p =
    record {
      sent = tt;
      delivered = omega arith;
      out = omega arith;
      out_delivered = omega arith;
      body_out = inl refl;
      waits = inl refl;
      ended = λ e. absurd (grind (arith, common_steps, e));
      reset_came = λ e. absurd (grind (arith, common_steps, e));
      unseen = λ e. (refl, refl, refl, refl);
    }

pub no_exchange_sound : (w : World) → IsSoundExchange w no_exchange
no_exchange_sound w =
    record { request = unused_sound w.client; response = unused_sound w.server; unsent = λ e. (refl, refl, refl); unread = λ e. refl }

-- one of some things that all pass
pub one_of : {X : Type 0} (P : X → Type 0) (xs : List X) (n : ℕ) (d : X) → AllByRecursion P xs → P d → P (unwrap_or (slice_get xs n) d)
one_of P [] n d all other = other
one_of P (x ∷ xs) zero d all other = all.0
one_of P (x ∷ xs) (suc n) d all other = one_of P xs n d all.1 other

-- and all with another one in its place
pub all_with : {X : Type 0} (P : X → Type 0) (xs : List X) (n : ℕ) (x : X) → AllByRecursion P xs → P x → AllByRecursion P (slice_set xs n x)
all_with P [] n x all new = tt
all_with P (y ∷ ys) zero x all new = (new, all.1)
all_with P (y ∷ ys) (suc n) x all new = (all.0, all_with P ys n x all.1 new)

pub all_weaker : {X : Type 0} (P Q : X → Type 0) → ((x : X) → P x → Q x) → (xs : List X) → AllByRecursion P xs → AllByRecursion Q xs
all_weaker P Q weaker [] all = tt
all_weaker P Q weaker (x ∷ xs) all = (weaker x all.0, all_weaker P Q weaker xs all.1)

pub exchange_sound : (w : World) (id : ℕ) → AllByRecursion (IsSoundExchange w) w.exchanges → IsSoundExchange w (exchange w id)
exchange_sound w id all = by_request (is_request_stream id)
  where
    by_request : (b : Bool) → IsSoundExchange w (if b then unwrap_or (slice_get w.exchanges (index_of id)) no_exchange else no_exchange)
    by_request true = one_of (IsSoundExchange w) w.exchanges (index_of id) no_exchange all (no_exchange_sound w)
    by_request false = no_exchange_sound w

pub flow_sound : (w : World) (side : Side) (id : ℕ) → AllByRecursion (IsSoundExchange w) w.exchanges → IsSoundFlow (party w side) (flow w side id)
flow_sound w Client id all = (exchange_sound w id all).request
flow_sound w Server id all = (exchange_sound w id all).response
