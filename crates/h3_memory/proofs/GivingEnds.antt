-- The end and the reset of a stream are answered as in the world in which their reader has caught up.
use Rattle.std.proofs.Common.{◌≡◌, ℕ, ◌-◌, Bool, true, false, not, ◌&&◌, ◌||◌, List, [], ◌∷◌, ◌++◌, length, refl, sym, ap, ◌∙◌, subst, arith, nat_lt, if◌then◌else◌, Some, None}
use Rattle.std.specs.Prelude.{◌==◌, option_map, unwrap_or}
use Rattle.std.proofs.lemmas.Grind.{common_steps}
use Rattle.h3_proto.specs.declared.stream.Side.{Side}
use Rattle.h3_connection.specs.Arrivals.{stream_of}
use Rattle.h3_connection.specs.declared.arrival.Arrival.{Arrival}
use Rattle.h3_connection.specs.declared.arrival.Arrival.TheVariants.{EndCame, ResetCame}
use Rattle.h3_connection.specs.declared.event.Refusal.TheVariants as refusal
use Rattle.h3_connection.specs.Delivering.{closed_refusal, taken}
use Rattle.h3_connection.specs.Endpoint.{EndpointHistory}
use Rattle.h3_connection.specs.Keeping.{arrives, read_all, unkept}
use Rattle.h3_connection.specs.Outgoing.{Outgoing}
use Rattle.h3_connection.specs.OwnIds.{other, is_own}
use Rattle.h3_connection.specs.Shown as shown
use Rattle.h3_world.specs.declared.event.Answer.TheVariants as answer
use Rattle.h3_world.specs.Delivering.{delivered_end, delivered_reset, end_delivery, is_closed, may_end, reset_code, reset_delivery}
use Rattle.h3_world.specs.Flow.{Flow, flow_bytes}
use Rattle.h3_world.specs.Order.{is_end, is_finished, last_part, outgoing_of}
use Rattle.h3_world.specs.Setup.{IsMadeSetup, Setup}
use Rattle.h3_world.specs.Streams.{flow, is_open, has_outgoing, waiting}
use Rattle.h3_world.specs.World.{World}
use Rattle.h3_headline.specs.Cited.{Laws}
use Rattle.h3_headline.specs.DeliverLaws.{waiting_is}
use Rattle.h3_headline.specs.FlowLaws.{same_number}
use Rattle.h3_headline.specs.OwnEventLaws.{own_outgoing}
use Rattle.h3_headline.specs.Standing.{StandsAt}
use Rattle.h3_memory.specs.Kept.{Delivery, End, Reset, read_deliveries}
use Rattle.h3_memory.specs.Keeping.{came_of, text_of}
use Rattle.h3_memory.proofs.Giving.{Agrees, agrees_if, offered_to, outgoing_before, outgoing_then, read_so, still, taken_so, waits_then}
use Rattle.h3_memory.proofs.CatchesUp.{ReadsAll, reads_all}
use Rattle.h3_memory.proofs.HandsOver.{told_ahead}
use Rattle.h3_memory.proofs.Judged.{arrives_so, finished_ahead, reset_ahead}
use Rattle.h3_memory.proofs.KeptLaws.{KeptLaws}
use Rattle.h3_memory.proofs.KeptMore.{CaughtUp, caught_up_is}
use Rattle.h3_memory.proofs.Offered.{bytes_there}
use Rattle.h3_memory.proofs.ReadingEnds.{ends_of}
use Rattle.h3_memory.proofs.ReadingState.{Reading}
use Rattle.h3_memory.proofs.TextsOf.{by_truth, second_is, message_came_is, message_text_is}

-- What an endpoint that stands in a world has of a stream that it sends.
pub finished_at : (setup : Setup) (w : World) (side : Side) (e : EndpointHistory) (id : ℕ) → StandsAt setup w side e → has_outgoing w side id ≡ true → shown.is_finished e id ≡ (not (is_own side id) && is_finished (flow w side id))
finished_at setup w side e id h there = by_truth (is_own side id)
    (λ own. ap (λ o. unwrap_or (option_map (λ (x : Outgoing). x.is_finished) o) false) (own_outgoing setup w side id e h own) ∙ sym (ap (λ b. not b && is_finished (flow w side id)) own))
    (λ off. ap (λ o. unwrap_or (option_map (λ (x : Outgoing). x.is_finished) o) false) (h.outgoing id ∙ ap (λ b. if b then Some (outgoing_of (flow w side id)) else None) (second_is (is_own side id) (is_open w side id) off there))
    ∙ sym (ap (λ b. not b && is_finished (flow w side id)) off))

pub reset_at : (setup : Setup) (w : World) (side : Side) (e : EndpointHistory) (id : ℕ) → StandsAt setup w side e → has_outgoing w side id ≡ true → not (shown.is_reset e id) ≡ (is_own side id || not (flow w side id).is_reset)
reset_at setup w side e id h there = by_truth (is_own side id)
    (λ own. ap (λ o. not (unwrap_or (option_map (λ (x : Outgoing). x.is_reset) o) false)) (own_outgoing setup w side id e h own) ∙ sym (ap (λ b. b || not (flow w side id).is_reset) own))
    (λ off. ap (λ o. not (unwrap_or (option_map (λ (x : Outgoing). x.is_reset) o) false)) (h.outgoing id ∙ ap (λ b. if b then Some (outgoing_of (flow w side id)) else None) (second_is (is_own side id) (is_open w side id) off there))
    ∙ sym (ap (λ b. b || not (flow w side id).is_reset) off))

pub turned : (b : Bool) → not b ≡ false → b ≡ true
turned true e = refl
turned false e = absurd (cc)

pub both_are : (a b : Bool) → (a && b) ≡ true → (a ≡ true) × (b ≡ true)
both_are true b e = (refl, e)
both_are false b e = absurd (cc)

pub not_it_is : (b : Bool) → not b ≡ true → b ≡ false
not_it_is true e = absurd (cc)
not_it_is false e = refl

pub neither_of : (a b : Bool) → (a || b) ≡ false → (a ≡ false) × (b ≡ false)
neither_of true b e = absurd (cc)
neither_of false b e = (refl, e)

nothing_short : (n : ℕ) → nat_lt n 0 ≡ false
nothing_short n = grind (arith, common_steps)

unbroken : (f : Flow) → is_finished f ≡ true → f.is_reset ≡ false
unbroken f e = by_reset f.is_reset e
  where
    by_reset : (b : Bool) → (not b && is_end (last_part f.sent)) ≡ true → b ≡ false
    by_reset true e = absurd (cc)
    by_reset false e = refl

-- nothing waits of a stream that all came of
pub all_came : (setup : Setup) (w : World) (side : Side) (id : ℕ) → Rattle.h3_world.specs.Sound.IsSoundWorld setup w → has_outgoing w side id ≡ true → is_own side id ≡ false → is_finished (flow w side id) ≡ true → waiting setup w side id ≡ 0
    → came_of w side id ≡ length (text_of setup w side id)
all_came setup w side id sound there off finished none =
    let f = flow w side id in
    let left : length (flow_bytes f) - f.delivered ≡ 0 = sym (ap (λ b. if b then 0 else length (flow_bytes f) - f.delivered) (unbroken f finished)) ∙ sym (waiting_is setup w side id off) ∙ none in
    let came = message_came_is w side id off in
    let text = ap length (message_text_is setup w side id off) in
    let within = bytes_there setup w side id 0 sound there (nothing_short (waiting setup w side id)) in
    omega (arith, left, came, text, within)

module _ (qpack : KeptLaws) (laws : Laws) (setup : Setup) (w : World) (side : Side) (mine ds : List Delivery) (f g : EndpointHistory) (made : IsMadeSetup setup) (r : Reading setup w side mine ds (unkept f) g f.kept) where
  abbrev s : Side
  s = other side

  abbrev W : World
  W = read_deliveries setup w s ds

  caught : ReadsAll setup w side mine ds (unkept f) g f.kept
  caught = reads_all qpack laws setup w side mine ds (unkept f) g f.kept made r

  facts : CaughtUp setup w side ds
  facts = caught_up_is setup w side ds r.here.may

  standing : Rattle.h3_memory.specs.Keeping.StandsKeeping setup (Rattle.h3_memory.proofs.CatchesUp.keeping_so side w mine ds) (ends_of side f g)
  standing = still qpack laws setup w side mine ds f g made r

  pub before_of : (id : ℕ) → has_outgoing W s id ≡ true → has_outgoing w s id ≡ true
  before_of id there = sym (outgoing_before qpack laws setup w side mine ds f g made r id) ∙ outgoing_then qpack laws setup w side mine ds f g made r id ∙ there

  -- a refused one changes nothing
  late : (id : ℕ) (a : Arrival) (v : World) → stream_of a ≡ id → has_outgoing w s id ≡ true → is_closed W s id ≡ true
      → Agrees setup (offered_to side answer.Done g g (arrives f a)) (read_so side w mine ds (if is_closed W s id then (answer.Refused refusal.AfterEnd, W) else (answer.Done, v)))
  late id a v of before shut =
      let closed : is_closed W s (stream_of a) ≡ true = ap (is_closed W s) of ∙ shut in
      subst (λ x. Agrees setup (offered_to side answer.Done g g x) (read_so side w mine ds (if is_closed W s id then (answer.Refused refusal.AfterEnd, W) else (answer.Done, v))))
      (sym (arrives_so setup w side mine ds f g a r (ap (has_outgoing w s) of ∙ before) ∙ ap (λ b. taken None (closed_refusal b) f (read_all (f.kept ++ a ∷ []) (unkept f))) closed))
      (subst (λ b. Agrees setup (answer.Refused refusal.AfterEnd, ends_of side f g) (read_so side w mine ds (if b then (answer.Refused refusal.AfterEnd, W) else (answer.Done, v)))) (sym shut) (record { answer = refl; stands = standing }))

  -- **The end.**
  pub ends_then : (id : ℕ) → has_outgoing W s id ≡ true → (shown.is_finished g id && (shown.waiting g id == 0)) ≡ may_end setup W s id
  ends_then id there =
      let c = caught.then_reads in
      ap (λ x. shown.is_finished x id && (shown.waiting g id == 0)) c.there.is
      ∙ ap (λ b. b && (shown.waiting g id == 0)) (finished_ahead c.ew [] c.there.held c.there.incoming c.there.arrivals id ∙ finished_at setup W s c.ew id c.two.both.there there)
      ∙ ap (λ n. (not (is_own s id) && is_finished (flow W s id)) && (n == 0)) (waits_then qpack laws setup w side mine ds f g made r id there).waits

  pub still_finished : (id : ℕ) → has_outgoing w s id ≡ true → is_own s id ≡ false → has_outgoing W s id ≡ true → is_finished (flow W s id) ≡ true → is_finished (flow w s id) ≡ true
  still_finished id before off there finished =
      let c = caught.then_reads in
      let here : shown.is_finished g id ≡ true =
      ap (λ x. shown.is_finished x id) c.there.is ∙ finished_ahead c.ew [] c.there.held c.there.incoming c.there.arrivals id ∙ finished_at setup W s c.ew id c.two.both.there there
      ∙ ap (λ b. not b && is_finished (flow W s id)) off ∙ finished in
      sym (ap (λ b. not b && is_finished (flow w s id)) off) ∙ sym (finished_at setup w s r.ew id r.two.both.there before)
      ∙ sym (ap (λ x. shown.is_finished x id) r.there.is ∙ finished_ahead r.ew ds r.there.held r.there.incoming r.there.arrivals id) ∙ here

  pub end_given : (id : ℕ)
      → Agrees setup (if not (shown.has_outgoing g id) then (answer.NoStream, ends_of side f g) else (
      if not (shown.is_finished g id && (shown.waiting g id == 0)) then (answer.Early, ends_of side f g) else offered_to side answer.Done g g (arrives f (EndCame id))))
      (read_so side w mine ds (end_delivery setup W s id))
  end_given id =
      agrees_if setup (read_so side w mine ds) (not (shown.has_outgoing g id)) (not (has_outgoing W s id)) _ _ _ _ (ap not (outgoing_then qpack laws setup w side mine ds f g made r id)) (λ missing. record { answer = refl; stands = standing })
      (λ has.
      let there = turned (has_outgoing W s id) has in
      agrees_if setup (read_so side w mine ds) (not (shown.is_finished g id && (shown.waiting g id == 0))) (not (may_end setup W s id)) _ _ _ _ (ap not (ends_then id there)) (λ early. record { answer = refl; stands = standing })
      (λ over. ending there (turned (may_end setup W s id) over)))
    where
      ending : has_outgoing W s id ≡ true → may_end setup W s id ≡ true
          → Agrees setup (offered_to side answer.Done g g (arrives f (EndCame id))) (read_so side w mine ds (if is_closed W s id then (answer.Refused refusal.AfterEnd, W) else (answer.Done, delivered_end W s id)))
      ending there may =
          let parts = both_are (not (is_own s id) && is_finished (flow W s id)) (waiting setup W s id == 0) may in
          let two = both_are (not (is_own s id)) (is_finished (flow W s id)) parts.0 in
          let off = not_it_is (is_own s id) two.0 in
          let before = before_of id there in
          by_truth (is_closed W s id) (λ shut. late id (EndCame id) (delivered_end W s id) refl before shut)
          (λ goes. taken_so qpack laws setup w side mine ds f g made r (End id) (EndCame id) g answer.Done before (
            second_is (is_own s id) (is_open w s id) off before,
            sym (facts.closed id) ∙ goes,
            still_finished id before off there two.1,
            sym (facts.came id) ∙ all_came setup W s id caught.then_reads.two.sound there off two.1 (same_number (waiting setup W s id) 0 parts.1) ∙ ap length (facts.text id),
            tt,
          )
          refl (told_ahead r.ew g ds (End id) r.there.held r.there.incoming r.there.arrivals (λ q. refl) r.there.is) (λ v. refl))

  -- **The reset.**
  pub resets_then : (id : ℕ) → has_outgoing W s id ≡ true → not (shown.is_reset g id) ≡ (is_own s id || not (flow W s id).is_reset)
  resets_then id there =
      let c = caught.then_reads in
      ap (λ x. not (shown.is_reset x id)) c.there.is ∙ ap not (reset_ahead c.ew [] c.there.held c.there.incoming c.there.arrivals id) ∙ reset_at setup W s c.ew id c.two.both.there there

  pub still_reset : (id : ℕ) → has_outgoing w s id ≡ true → is_own s id ≡ false → not (shown.is_reset g id) ≡ false → (flow w s id).is_reset ≡ true
  still_reset id before off broken =
      turned (flow w s id).is_reset (sym (ap (λ b. b || not (flow w s id).is_reset) off) ∙ sym (reset_at setup w s r.ew id r.two.both.there before)
      ∙ sym (ap (λ x. not (shown.is_reset x id)) r.there.is ∙ ap not (reset_ahead r.ew ds r.there.held r.there.incoming r.there.arrivals id)) ∙ broken)

  pub reset_given : (id : ℕ)
      → Agrees setup (if not (shown.has_outgoing g id) then (answer.NoStream, ends_of side f g) else (
      if not (shown.is_reset g id) then (answer.Early, ends_of side f g) else offered_to side answer.Done g g (arrives f (ResetCame id reset_code))))
      (read_so side w mine ds (reset_delivery W s id))
  reset_given id =
      agrees_if setup (read_so side w mine ds) (not (shown.has_outgoing g id)) (not (has_outgoing W s id)) _ _ _ _ (ap not (outgoing_then qpack laws setup w side mine ds f g made r id)) (λ missing. record { answer = refl; stands = standing })
      (λ has.
      let there = turned (has_outgoing W s id) has in
      agrees_if setup (read_so side w mine ds) (not (shown.is_reset g id)) (is_own s id || not (flow W s id).is_reset) _ _ _ _ (resets_then id there) (λ early. record { answer = refl; stands = standing })
      (λ broken. resetting there broken))
    where
      resetting : has_outgoing W s id ≡ true → (is_own s id || not (flow W s id).is_reset) ≡ false
          → Agrees setup (offered_to side answer.Done g g (arrives f (ResetCame id reset_code))) (read_so side w mine ds (if is_closed W s id then (answer.Refused refusal.AfterEnd, W) else (answer.Done, delivered_reset W s id)))
      resetting there broken =
          let off = (neither_of (is_own s id) (not (flow W s id).is_reset) broken).0 in
          let before = before_of id there in
          by_truth (is_closed W s id) (λ shut. late id (ResetCame id reset_code) (delivered_reset W s id) refl before shut)
          (λ goes. taken_so qpack laws setup w side mine ds f g made r (Reset id) (ResetCame id reset_code) g answer.Done before
          (second_is (is_own s id) (is_open w s id) off before, sym (facts.closed id) ∙ goes, still_reset id before off (resets_then id there ∙ broken), tt)
          (refl, refl) (told_ahead r.ew g ds (Reset id) r.there.held r.there.incoming r.there.arrivals (λ q. refl) r.there.is) (λ v. refl))
