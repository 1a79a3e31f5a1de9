-- An endpoint that stands in a world has no more waiting streams than the world counts at its side.
use Rattle.std.proofs.Common.{arith, ◌≡◌, ℕ, zero, suc, ◌<◌, List, [], ◌∷◌, refl, Some, length, sym, ap, ◌∙◌, if◌then◌else◌, Bool, true, false, subst, nat_lt, Option, None, ◌≤◌}
use Rattle.std.specs.Prelude.{slice_get, unwrap_or, ◌&&◌, is_none, is_some, count_by}
use Rattle.h3_world.specs.World.{Exchange, no_exchange, World, party}
use Rattle.h3_proto.specs.StreamIds.{index_of}
use Rattle.h3_world.specs.Streams.{exchange, flow, is_open}
use Rattle.h3_proto.specs.declared.stream.Side.{Side}
use Rattle.h3_proto.specs.declared.stream.Side.TheVariants.{Client, Server}
use Rattle.h3_connection.specs.OwnIds.{other}
use Rattle.h3_world.specs.Shown.{incoming, streams_waiting}
use Rattle.std.proofs.lemmas.Bool.{le-ltb}
use Rattle.h3_connection.specs.Endpoint.{EndpointHistory, heads_waiting}
use Rattle.h3_connection.specs.Incoming.{Incoming}
use Rattle.h3_connection.specs.StreamSets.{stream_at}
use Rattle.h3_connection.specs.declared.event.StreamFault.{StreamFault}
use Rattle.h3_world.specs.Setup.{Setup}
use Rattle.h3_world.specs.Came.{insertions_came}
use Rattle.h3_headline.specs.FlowLaws.{open_there}
use Rattle.h3_headline.specs.Standing.{ReceivesAt, ReceivesFlow, StandsAt}
use Rattle.h3_headline.specs.Steps.{IsThere}
use Rattle.h3_headline.specs.Waiting.{WaitsAt, waits_in}
use Rattle.h3_headline.specs.WaitingLaws.{no_more_wait}

found_at : (es : List Exchange) (n : ℕ) → n < length es → slice_get es n ≡ Some (unwrap_or (slice_get es n) no_exchange)
found_at [] n h = absurd (omega (arith, h))
found_at (e ∷ es) zero h = refl
found_at (e ∷ es) (suc n) h = found_at es n (omega (arith, h))

exchange_there : (w : World) (id : ℕ) → IsThere w id → slice_get w.exchanges (index_of id) ≡ Some (exchange w id)
exchange_there w id there =
    found_at w.exchanges (index_of id) there.place
    ∙ sym (ap (λ b. Some (if b then unwrap_or (slice_get w.exchanges (index_of id)) no_exchange else no_exchange)) there.request)

received : (w : World) (side : Side) (id : ℕ) → incoming side (exchange w id) ≡ flow w (other side) id
received w Client id = refl
received w Server id = refl

stream_waits : (setup : Setup) (w : World) (side : Side) (e : EndpointHistory) (n id : ℕ) (i : Incoming) → StandsAt setup w side e → stream_at e.incoming id ≡ Some i → nat_lt n i.waits_for ≡ true → WaitsAt n side w.exchanges id
stream_waits setup w side e n id i h at waits = by_open (is_open w side id) refl (subst (ReceivesAt (is_open w side id) (flow w (other side) id)) at (h.incoming id))
  where
    by_open : (b : Bool) → is_open w side id ≡ b → ReceivesAt (is_open w side id) (flow w (other side) id) (Some i) → WaitsAt n side w.exchanges id
    by_open false closed k = absurd (subst (λ b. ReceivesAt b (flow w (other side) id) (Some i)) closed k)
    by_open true there k = waiting (subst (λ b. ReceivesAt b (flow w (other side) id) (Some i)) there k)
      where
        alive : ReceivesFlow (flow w (other side) id) i → (o : Option StreamFault) → (flow w (other side) id).fault ≡ o → is_none o ≡ true
        alive k None e = refl
        alive k (Some fault) e =
            let none : nat_lt n i.waits_for ≡ false = ap (nat_lt n) (k.given_up (ap is_some e)).waits ∙ le-ltb n 0 (omega arith) in
            absurd (cc)

        waiting : ReceivesFlow (flow w (other side) id) i → WaitsAt n side w.exchanges id
        waiting k =
            let is = open_there w side id there in
            record {
              request = is.request;
              e = exchange w id;
              at = exchange_there w id is;
              waits = ap (λ f. nat_lt n f.waits_for && is_none f.fault) (received w side id) ∙ ap (λ m. nat_lt n m && is_none (flow w (other side) id).fault) (sym k.waits_for)
                  ∙ ap (λ b. b && is_none (flow w (other side) id).fault) waits ∙ alive k (flow w (other side) id).fault refl;
            }

-- **No more streams wait at the endpoint than in the world.**
pub endpoint_waits : (setup : Setup) (w : World) (side : Side) (e : EndpointHistory) → StandsAt setup w side e → e.decoding.decoder.table.inserted ≡ insertions_came (party w (other side))
    → heads_waiting e.decoding.decoder e.incoming ≤ streams_waiting w side
endpoint_waits setup w side e h inserted =
    subst (λ n. heads_waiting e.decoding.decoder e.incoming ≤ count_by (waits_in n side) w.exchanges) inserted
    (no_more_wait e.decoding.decoder.table.inserted side e.incoming w.exchanges h.distinct (λ id i at waits. stream_waits setup w side e e.decoding.decoder.table.inserted id i h at waits))
