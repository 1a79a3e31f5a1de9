-- A reset happens with anything kept at either side: it is judged where the other side has read all that it keeps, and cuts the stream off.
use Rattle.std.proofs.Common.{◌≡◌, ℕ, true, refl, sym, ap, ◌∙◌, subst, if◌then◌else◌, Option, Some, None}
use Rattle.std.specs.Prelude.{is_some}
use Rattle.h3_proto.specs.declared.stream.Side.{Side}
use Rattle.h3_proto.specs.declared.stream.Side.TheVariants.{Client, Server}
use Rattle.h3_connection.specs.Outgoing.{with_reset}
use Rattle.h3_connection.specs.Endpoint.{EndpointHistory}
use Rattle.h3_connection.specs.OwnIds.{other}
use Rattle.h3_connection.specs.Sending.{does, with_outgoing, outgoing_at}
use Rattle.h3_connection.specs.Sending as sender
use Rattle.h3_connection.specs.StreamSets.{stream_at}
use Rattle.h3_connection.specs.StreamSetLaws.{set-distinct}
use Rattle.h3_connection.specs.declared.event.Refusal.{Refusal}
use Rattle.h3_world.specs.Setup.{Setup}
use Rattle.h3_world.specs.declared.event.Event.TheVariants as event
use Rattle.h3_world.specs.declared.event.Answer.{Answer}
use Rattle.h3_world.specs.declared.event.Answer.TheVariants as answer
use Rattle.h3_world.specs.Ends.{Ends, end_at, with_end, answered, done}
use Rattle.h3_world.specs.Headline.{is_out_of_memory}
use Rattle.h3_world.specs.Order.{outgoing_of}
use Rattle.h3_world.specs.Refusals.{reset_refusal}
use Rattle.h3_world.specs.Sendable.{IsSendable}
use Rattle.h3_world.specs.Sending.{cut_off}
use Rattle.h3_world.specs.Step.{Does}
use Rattle.h3_world.specs.Streams.{flow}
use Rattle.h3_headline.specs.Cited.{Laws}
use Rattle.h3_headline.specs.SendingLaws.{both_of}
use Rattle.h3_headline.specs.SentEventLaws.{reset_on}
use Rattle.h3_headline.specs.Standing.{Stands, StandsAt}
use Rattle.h3_headline.specs.Steps as headline
use Rattle.h3_memory.specs.Kept.{KeepingWorld, kept_at, with_world, caught_up}
use Rattle.h3_memory.specs.Keeping.{Keeps, StandsKeeping, ahead}
use Rattle.h3_memory.specs.Refused as refused
use Rattle.h3_memory.specs.Theorem.{StandsOn, StepsOn}
use Rattle.h3_memory.proofs.AheadSending.{cut_ahead}
use Rattle.h3_memory.proofs.CutLeaves.{cut_stays, cut_spares}
use Rattle.h3_memory.proofs.KeptLaws.{KeptLaws}
use Rattle.h3_memory.proofs.ResetEvent.{CanReset, may_reset, refused_not, resets_at}
use Rattle.h3_memory.proofs.ResetJudged.{reset_judged}
use Rattle.h3_memory.proofs.SendersStep.{refused_of, any_exact, steps, told}
use Rattle.h3_memory.proofs.SendingEvents.{TellsMemory, Lacks, IsKept, PullLacks, ListLacks, AnswersAlike, keeps_at, call_alike}
use Rattle.h3_memory.proofs.SendsHappen.{Answered}

-- the endpoint that cut the stream off
abbrev cut : EndpointHistory → ℕ → EndpointHistory
cut e id = with_outgoing e id (with_reset (outgoing_at e id))

same_ends : (ends : Ends) (side : Side) → with_end ends side (end_at ends side) ≡ ends
same_ends ends Client = refl
same_ends ends Server = refl

module _ (qpack : KeptLaws) (laws : Laws) (setup : Setup) (k : KeepingWorld) (ends : Ends) (h : StandsKeeping setup k ends) (side : Side) (id : ℕ) where
  abbrev b : EndpointHistory
  b = end_at h.behind side

  abbrev e : EndpointHistory
  e = end_at ends side

  abbrev c : Keeps setup k side (end_at h.behind side) (end_at ends side)
  c = keeps_at setup k ends side h

  here : StandsAt setup k.world side (end_at h.behind side)
  here = (both_of setup k.world side h.behind h.stands).here

  -- What the endpoints behind do.
  record CutBehind : Type 0 where
    call : sender.reset (end_at h.behind side) id ≡ (None, cut (end_at h.behind side) id)
    stands : Stands setup (cut_off k.world side id) (done h.behind side answer.Done (sender.reset (end_at h.behind side) id)).1

  cut_behind : (on : headline.StandsOn setup k.world h.behind (event.Reset side id)) → reset_refusal k.world side id ≡ None → CutBehind
  cut_behind on goes =
      let d : Does None k.world answer.Done (cut_off k.world side id) (answered h.behind (event.Reset side id)).0 on.new = subst (λ o. Does o k.world answer.Done (cut_off k.world side id) (answered h.behind (event.Reset side id)).0 on.new) goes on.happens.step in
      let x = sender.reset b id in
      let none : x.0 ≡ None = sym (told h.behind side answer.Done x refl) ∙ ap refused_of d.0 in
      record {
        call = accepts (sender.reset_refusal b id) none;
        stands = subst (λ w. Stands setup w (done h.behind side answer.Done (sender.reset b id)).1) d.1 on.stands;
      }
    where
      accepts : (o : Option Refusal) → (does o b (cut b id)).0 ≡ None → does o b (cut b id) ≡ (None, cut b id)
      accepts None q = refl
      accepts (Some r) q = cc

  cut_alike : (on : headline.StandsOn setup k.world h.behind (event.Reset side id)) → reset_refusal k.world side id ≡ None → CanReset k.world side id (kept_at k (other side))
      → AnswersAlike setup k (cut_off k.world side id) (done ends side answer.Done (None, cut (end_at ends side) id)) (done h.behind side answer.Done (None, cut (end_at h.behind side) id))
  cut_alike on goes r =
      let mine = kept_at k (other side) in
      let there = cut_behind on goes in
      let is_there : is_some (stream_at b.outgoing id) ≡ true = ap is_some (here.outgoing id) ∙ ap (λ t. is_some (if t then Some (outgoing_of (flow k.world side id)) else None)) r.opened in
      let is : cut e id ≡ ahead (cut b id) mine c.held c.incoming c.arrivals = ap (λ x. cut x id) c.is ∙ cut_ahead mine c.held c.incoming c.arrivals b id is_there in
      call_alike setup k (cut_off k.world side id) ends side h answer.Done (None, cut b id) (None, cut e id)
      (record { incoming = c.incoming; is = ap (λ y. (None, y)) is; peer = refl; resumes = c.resumes; distinct = set-distinct b.outgoing id _ })
      (subst (λ x. Stands setup (cut_off k.world side id) (done h.behind side answer.Done x).1) there.call there.stands)
      (record {
        mine = cut_stays setup k.world side id mine r.opened r.no_end;
        theirs = cut_spares setup k.world side id (kept_at k side) r.opened;
      })

  -- **A reset.**
  pub reset_answered : IsSendable setup (event.Reset side id) → Answered setup k ends (event.Reset side id)
  reset_answered sendable = by_refusal (reset_refusal (caught_up setup k (other side)) side id) refl
    where
      q : Option Refusal
      q = reset_refusal (caught_up setup k (other side)) side id

      answer_is : (o : Option Refusal) → q ≡ o → answered ends (event.Reset side id) ≡ done ends side answer.Done (does o e (cut e id))
      answer_is o same = ap (λ r. done ends side answer.Done (does r e (cut e id))) (reset_judged qpack setup k ends h side id ∙ same)

      by_refusal : (o : Option Refusal) → q ≡ o → Answered setup k ends (event.Reset side id)
      by_refusal (Some r) same =
          record {
            new = k.world;
            step = (subst (λ o. Does o k.world answer.Done (cut_off k.world side id) (answered ends (event.Reset side id)).0 k.world) (sym same) (ap (λ (x : Answer × Ends). x.0) (answer_is (Some r) same), refl), refl);
            stands = subst (StandsKeeping setup k) (sym (ap (λ (x : Answer × Ends). x.1) (answer_is (Some r) same) ∙ same_ends ends side)) h;
          }
      by_refusal None same =
          let r = resets_at qpack setup k side id (record { sound = h.stands.sound; client = h.client.may; server = h.server.may }) same in
          let goes = refused_not k.world side id (may_reset (caught_up setup k (other side)) side id same).plain r.opened r.goes in
          let both = cut_alike (reset_on laws setup k.world h.behind side id sendable h.stands) goes r in
          record {
            new = cut_off k.world side id;
            step = (subst (λ o. Does o k.world answer.Done (cut_off k.world side id) (answered ends (event.Reset side id)).0 (cut_off k.world side id)) (sym same) (ap (λ (x : Answer × Ends). x.0) (answer_is None same), refl), refl);
            stands = subst (StandsKeeping setup (with_world k (cut_off k.world side id))) (sym (ap (λ (x : Answer × Ends). x.1) (answer_is None same))) both.stands;
          }

-- It takes no memory.
pub reset_step : (qpack : KeptLaws) (laws : Laws) (setup : Setup) (side : Side) (id : ℕ) → StepsOn setup (event.Reset side id)
reset_step qpack laws setup side id = steps setup (event.Reset side id) (λ b w a. any_exact b) (λ k ends sendable h. reset_answered qpack laws setup k ends h side id sendable) lacks
  where
    lacks : (k : KeepingWorld) (ends new : Ends) (a : Answer) → IsSendable setup (event.Reset side id) → StandsKeeping setup k ends → TellsMemory a → is_out_of_memory a ≡ true → refused.LacksMemory ends (event.Reset side id) a new
        → StandsOn setup k (event.Reset side id) a new
    lacks k ends new a sendable h Lacks m l = absurd l
    lacks k ends new a sendable h IsKept m l = absurd l
    lacks k ends new a sendable h PullLacks m l = absurd l
    lacks k ends new a sendable h ListLacks m l = absurd l
