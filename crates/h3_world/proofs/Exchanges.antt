-- The exchanges of a world, and the counts that encoders keep, when one flow changes and a side writes more.
use Rattle.std.proofs.Common.{◌≡◌, ℕ, zero, suc, ◌+◌, ◌<◌, false, List, [], ◌∷◌, length, sym, ap, ◌∙◌, subst, arith, append-nil, if◌then◌else◌, unwrap_or, nat_lt, None}
use Rattle.std.specs.List.{AllByRecursion, count_by, sum_by}
use Rattle.std.specs.Prelude.{slice_get, slice_set}
use Rattle.std.proofs.lemmas.List.Sums.{sum_by-cons}
use Rattle.h3_proto.specs.StreamIds.{index_of}
use Rattle.h3_proto.specs.declared.stream.Side.{Side}
use Rattle.h3_proto.specs.declared.stream.Side.TheVariants.{Client, Server}
use Rattle.h3_connection.specs.OwnIds.{other}
use Rattle.h3_world.specs.Flow.{Flow}
use Rattle.h3_world.specs.World.{World, Exchange, Party, no_exchange, party}
use Rattle.h3_world.specs.Streams.{exchange, flow, with_flow}
use Rattle.h3_world.specs.Sound.{IsSoundFlow, IsSoundExchange, HasCounts, counts_in, sections_above}
use Rattle.h3_world.proofs.Flows.{IsThere}
use Rattle.h3_world.proofs.Sends.{HasWritten, sent_stays}
use Rattle.h3_world.proofs.SoundFlows.{all_with, all_weaker, exchange_sound}

pub flow_stays : (p q : Party) (f : Flow) → HasWritten p q → IsSoundFlow p f → IsSoundFlow q f
flow_stays p q f more h =
    record {
      sent = sent_stays p q None 0 f.sent more h.sent;
      delivered = h.delivered;
      out = h.out;
      out_delivered = h.out_delivered;
      body_out = h.body_out;
      waits = h.waits;
      ended = h.ended;
      reset_came = h.reset_came;
      unseen = h.unseen;
    }

-- both sides have written more, or nothing
pub record WriteOn (w v : World) : Type 0 where
  pub client : HasWritten w.client v.client
  pub server : HasWritten w.server v.server
  pub exchanges : v.exchanges ≡ w.exchanges

pub exchange_stays : (w v : World) (e : Exchange) → WriteOn w v → IsSoundExchange w e → IsSoundExchange v e
exchange_stays w v e on h =
    record {
      request = flow_stays w.client v.client e.request on.client h.request;
      response = flow_stays w.server v.server e.response on.server h.response;
      unsent = h.unsent;
      unread = h.unread;
    }

pub exchanges_stay : (w v : World) → WriteOn w v → AllByRecursion (IsSoundExchange w) w.exchanges → AllByRecursion (IsSoundExchange v) v.exchanges
exchanges_stay w v on all =
    subst (λ es. AllByRecursion (IsSoundExchange v) es) (sym on.exchanges) (all_weaker (IsSoundExchange w) (IsSoundExchange v) (λ e h. exchange_stays w v e on h) w.exchanges all)

pub nothing_more : (p : Party) → HasWritten p p
nothing_more p = record { more = []; is = sym (append-nil p.own.instructions) }

-- What a changed flow must keep of its exchange.
abbrev pub KeepsExchange : World → Side → ℕ → Flow → Type 0
KeepsExchange w Client id f = f.seen ≡ false → ((exchange w id).request.seen ≡ false) × (f.fault ≡ None)
KeepsExchange w Server id f = (exchange w id).request.seen ≡ false → (f.sent ≡ []) × (f.seen ≡ false) × (f.is_reset ≡ false)

pub exchanges_updated : (w : World) (side : Side) (id : ℕ) (f : Flow) → AllByRecursion (IsSoundExchange w) w.exchanges → IsSoundFlow (party w side) f → KeepsExchange w side id f
    → AllByRecursion (IsSoundExchange (with_flow w side id f)) (with_flow w side id f).exchanges
exchanges_updated w Client id f all sound keeps =
    let e = exchange_sound w id all in
    let new = with_flow w Client id f in
    all_with (IsSoundExchange new) w.exchanges (index_of id) (record (exchange w id) { request = f })
    (all_weaker (IsSoundExchange w) (IsSoundExchange new) (λ x h. record { request = h.request; response = h.response; unsent = h.unsent; unread = h.unread }) w.exchanges all)
    (record { request = sound; response = e.response; unsent = λ unseen. e.unsent (keeps unseen).0; unread = λ unseen. (keeps unseen).1 })
exchanges_updated w Server id f all sound keeps =
    let e = exchange_sound w id all in
    let new = with_flow w Server id f in
    all_with (IsSoundExchange new) w.exchanges (index_of id) (record (exchange w id) { response = f })
    (all_weaker (IsSoundExchange w) (IsSoundExchange new) (λ x h. record { request = h.request; response = h.response; unsent = h.unsent; unread = h.unread }) w.exchanges all)
    (record { request = e.request; response = sound; unsent = keeps; unread = e.unread })

-- a sum with one thing in the place of another
sum_with : {X : Type 0} (g : X → ℕ) (xs : List X) (n : ℕ) (x d : X) → n < length xs → sum_by g (slice_set xs n x) + g (unwrap_or (slice_get xs n) d) ≡ sum_by g xs + g x
sum_with g [] n x d h = absurd (omega (arith, h))
sum_with g (y ∷ ys) zero x d h = omega (arith, sum_by-cons g x ys, sum_by-cons g y ys)
sum_with g (y ∷ ys) (suc n) x d h = omega (arith, sum_with g ys n x d (omega (arith, h)), sum_by-cons g y (slice_set ys n x), sum_by-cons g y ys)

-- the sections of a flow that need more insertions
abbrev pub flow_above : ℕ → Flow → ℕ
flow_above most f = count_by (λ count. nat_lt most count) (counts_in f.sent)

there_exchange : (w : World) (id : ℕ) → IsThere w id → exchange w id ≡ unwrap_or (slice_get w.exchanges (index_of id)) no_exchange
there_exchange w id there = ap (λ b. if b then unwrap_or (slice_get w.exchanges (index_of id)) no_exchange else no_exchange) there.request

sum_at : (w : World) (id most : ℕ) (counting : Side) (e : Exchange) → IsThere w id
    → sum_by (sections_above counting most) (slice_set w.exchanges (index_of id) e) + sections_above counting most (exchange w id) ≡ sum_by (sections_above counting most) w.exchanges + sections_above counting most e
sum_at w id most counting e there =
    omega (arith, sum_with (sections_above counting most) w.exchanges (index_of id) e no_exchange there.place, ap (sections_above counting most) (there_exchange w id there))

-- the side's own sum changes as its flow does
pub sum_own : (w : World) (side : Side) (id most : ℕ) (f : Flow) → IsThere w id
    → sum_by (sections_above side most) (with_flow w side id f).exchanges + flow_above most (flow w side id) ≡ sum_by (sections_above side most) w.exchanges + flow_above most f
sum_own w Client id most f there = sum_at w id most Client (record (exchange w id) { request = f }) there
sum_own w Server id most f there = sum_at w id most Server (record (exchange w id) { response = f }) there

-- and the other side's stays
pub sum_other : (w : World) (side : Side) (id most : ℕ) (f : Flow) → IsThere w id
    → sum_by (sections_above (other side) most) (with_flow w side id f).exchanges ≡ sum_by (sections_above (other side) most) w.exchanges
sum_other w Client id most f there = omega (arith, sum_at w id most Server (record (exchange w id) { request = f }) there)
sum_other w Server id most f there = omega (arith, sum_at w id most Client (record (exchange w id) { response = f }) there)

-- the counts of a world in which a side keeps its own, and all sums stay
pub counts_stay : (w v : World) (side : Side) → (party v side).encoder.required_insert_counts ≡ (party w side).encoder.required_insert_counts
    → ((most : ℕ) → sum_by (sections_above side most) v.exchanges ≡ sum_by (sections_above side most) w.exchanges) → HasCounts w side → HasCounts v side
counts_stay w v side same sums h = λ most. ap (count_by (λ count. nat_lt most count)) same ∙ h most ∙ sym (sums most)
