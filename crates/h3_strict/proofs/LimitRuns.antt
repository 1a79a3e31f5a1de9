-- Two ends whose limits take what is sent answer a schedule as the same ends without limits, where these run in worlds.
use Rattle.std.proofs.Common.{◌≡◌, ℕ, ◌-◌, ◌^◌, Bool, true, false, List, [], ◌∷◌, ◌++◌, Some, None, refl, sym, ap, ◌∙◌, subst, append_assoc}
use Rattle.std.specs.Prelude.{unwrap_or}
use Rattle.std.specs.List.{concat}
use Rattle.h3_proto.specs.declared.stream.Side.{Side}
use Rattle.h3_proto.specs.declared.stream.Side.TheVariants.{Client, Server}
use Rattle.h3_frames.specs.ExcessiveFrames.{is_excessive_by}
use Rattle.h3_frames.specs.ExcessiveLaws.{none_excessive_by}
use Rattle.h3_connection.specs.Endpoint.{EndpointHistory}
use Rattle.h3_connection.specs.Incoming.{Incoming, is_body, nothing_came}
use Rattle.h3_connection.specs.OwnIds.{other}
use Rattle.h3_connection.specs.Skipping.{skipped}
use Rattle.h3_connection.specs.StreamSets.{stream_at}
use Rattle.h3_connection.specs.StrictConnection.{is_strict, kinds_of}
use Rattle.h3_connection.specs.declared.setup.Announced.{Announced}
use Rattle.h3_world.specs.Ends.{Ends, answered, answers_of_ends, delivery, end_at, end_delivery, ends_after, new_ends, reset_delivery}
use Rattle.h3_world.specs.Setup.{Setup, announced_at}
use Rattle.h3_world.specs.Sound.{IsSoundWorld}
use Rattle.h3_world.specs.Streams.{flow, is_open}
use Rattle.h3_world.specs.World.{World, party}
use Rattle.h3_world.specs.declared.event.Answer.{Answer}
use Rattle.h3_world.specs.declared.event.Event.{Event}
use Rattle.h3_world.specs.declared.event.Event.TheVariants as event
use Rattle.h3_headline.specs.ComingLaws.{incoming_none, incoming_there, sound_flow}
use Rattle.h3_headline.specs.FlowLaws.{open_there, other-other}
use Rattle.h3_headline.specs.Standing.{ReceivesFlow, StandsAt}
use Rattle.h3_strict.proofs.LimitPulls.{LooksAlike, LooksWithin}
use Rattle.h3_strict.proofs.AnnouncedEnds.{announced_behind}
use Rattle.h3_strict.proofs.LimitReading.{arrives_within}
use Rattle.h3_strict.proofs.LimitSteps.{ArriveWithin, IsWithin, PullsAlike, StepsAlike, asks_there, judged_alike, limited_answer, step_same}
use Rattle.h3_strict.proofs.SameWorlds.{answers_more, ends_more}
use Rattle.h3_strict.proofs.TakenFronts.{PartsTaken, flow_within}
use Rattle.h3_strict.proofs.TakenWorlds.{IsTakenWorld}
use Rattle.h3_strict.specs.PlainEnds.{NoneJudges}
use Rattle.h3_strict.specs.Limits.{AreTaken, IsNotExcess, IsTaken, RunsUnlimited, limit_at, unlimited_ends}
use Rattle.h3_frames.specs.declared.frame.kinds.FrameKinds.{FrameKinds}

-- An end that stands in a world whose sections its limit takes: its receivers find no frame too long.
pub looks_within : (setup X : Setup) (w : World) (side : Side) (e : EndpointHistory) (id : ℕ) (i : Incoming) → StandsAt X w side e → IsSoundWorld X w → IsTakenWorld setup w → stream_at e.incoming id ≡ Some i → LooksWithin (limit_at setup side) i
looks_within setup X w side e id i h sound taken is = by_open (is_open w side id) refl
  where
    by_open : (b : Bool) → is_open w side id ≡ b → LooksWithin (limit_at setup side) i
    by_open false k = absurd (let never : None ≡ Some i = sym (incoming_none X w side id e h k) ∙ is in cc)
    by_open true k =
        let there = incoming_there X w side id e h k in
        let receives : ReceivesFlow (flow w (other side) id) i = subst (ReceivesFlow (flow w (other side) id)) (ap (λ o. unwrap_or o nothing_came) (sym there.1 ∙ is)) there.2 in
        flow_within (limit_at setup side) (party w (other side)) (flow w (other side) id) i (sound_flow X w (other side) id sound (open_there w side id k))
        (subst (λ s. PartsTaken (limit_at setup s) (flow w (other side) id).sent) (other-other side) (taken (other side) id)) receives

-- An end that keeps nothing, whose receivers find no frame longer than that.
pub record EndWithin (most : ℕ) (e : EndpointHistory) : Type 0 where
  pub nothing_kept : e.kept ≡ []
  pub looks : (id : ℕ) (i : Incoming) → stream_at e.incoming id ≡ Some i → LooksWithin most i

abbrev pub EndsWithin : Setup → Ends → Type 0
EndsWithin setup ends = (side : Side) → EndWithin (limit_at setup side) (end_at ends side)

-- the limits of both ends
abbrev pub limits_of : Ends → Side → ℕ
limits_of ends side = (end_at ends side).announced.choices.unfinished_limit

-- what both announced
abbrev pub AnnounceAs : Setup → Ends → Type 0
AnnounceAs setup ends = (side : Side) → (end_at ends side).announced ≡ announced_at setup side

pub limits_kept : (setup : Setup) (events : List Event) (side : Side) → limits_of (ends_after (new_ends setup) events) side ≡ limit_at setup side
limits_kept setup events side = ap (λ (a : Announced). a.choices.unfinished_limit) (announced_behind setup events side)

module _ (setup : Setup) where
  none_kept : (ends : Ends) → EndsWithin setup (unlimited_ends ends) → (side : Side) → (end_at ends side).kept ≡ []
  none_kept ends within Client = (within Client).nothing_kept
  none_kept ends within Server = (within Server).nothing_kept

  -- a delivery that is taken is not too long
  delivered_within : (ends : Ends) (reader : Side) (a : Answer) → AnnounceAs setup ends → IsNotExcess setup reader a → IsWithin (asks_there ends reader) a
  delivered_within ends reader a own taken = subst (λ b. IsWithin b a) (sym (ap is_strict (own reader))) taken

  -- without limits it is answered alike
  arrive_endless : (ends : Ends) → EndsWithin setup (unlimited_ends ends) → ArriveWithin (λ side. 2 ^ 62 - 1) ends
  arrive_endless ends within side a = arrives_within (end_at ends side) a (none_kept ends within side)

  looks_alike : (kinds : FrameKinds) (most other : ℕ) (i : Incoming) → other ≡ most → LooksWithin most i → LooksAlike kinds (2 ^ 62 - 1) other i
  looks_alike kinds most other i same within alive over none whole =
      let bytes = skipped kinds (is_body i.place) (concat i.unread) in
      none_excessive_by kinds (2 ^ 62 - 1) bytes refl ∙ sym (ap (λ n. is_excessive_by kinds n bytes) same ∙ within alive over none whole kinds)

  pulls_alike : (ends : Ends) (side : Side) (id : ℕ) → AnnounceAs setup ends → EndsWithin setup (unlimited_ends ends) → PullsAlike (2 ^ 62 - 1) (end_at ends side) id
  pulls_alike ends Client id own within = record { nothing_kept = (within Client).nothing_kept; looks = λ i is. looks_alike (kinds_of (end_at ends Client).announced) (limit_at setup Client) (limits_of ends Client) i (ap (λ (a : Announced). a.choices.unfinished_limit) (own Client)) ((within Client).looks id i is) }
  pulls_alike ends Server id own within = record { nothing_kept = (within Server).nothing_kept; looks = λ i is. looks_alike (kinds_of (end_at ends Server).announced) (limit_at setup Server) (limits_of ends Server) i (ap (λ (a : Announced). a.choices.unfinished_limit) (own Server)) ((within Server).looks id i is) }

  steps_alike : (ends : Ends) (e : Event) → AnnounceAs setup ends → EndsWithin setup (unlimited_ends ends) → IsTaken setup e (answered ends e).0 → StepsAlike (λ side. 2 ^ 62 - 1) ends e
  steps_alike ends (event.Pull side id) own within taken = pulls_alike ends side id own within
  steps_alike ends (event.PullFields side id) own within taken = pulls_alike ends side id own within
  steps_alike ends (event.Fields side id fields) own within taken = tt
  steps_alike ends (event.TrailerFields side id fields) own within taken = tt
  steps_alike ends (event.OpenRequest side) own within taken = tt
  steps_alike ends (event.Head side id head) own within taken = tt
  steps_alike ends (event.Body side id bytes) own within taken = tt
  steps_alike ends (event.Trailer side id trailer) own within taken = tt
  steps_alike ends (event.Finish side id) own within taken = tt
  steps_alike ends (event.Reset side id) own within taken = tt
  steps_alike ends (event.Cancel side id) own within taken = tt
  steps_alike ends (event.Goaway side id) own within taken = tt
  steps_alike ends (event.Deliver side id count) own within taken = delivered_within ends (other side) (delivery ends side id count).0 own taken
  steps_alike ends (event.DeliverEnd side id) own within taken = delivered_within ends (other side) (end_delivery ends side id).0 own taken
  steps_alike ends (event.DeliverReset side id) own within taken = delivered_within ends (other side) (reset_delivery ends side id).0 own taken
  steps_alike ends (event.Show side) own within taken = tt

  -- Behind some events both lead to the same but for the limits.
  record Behind (past : List Event) (ends : Ends) : Type 0 where
    here : ends_after (new_ends setup) past ≡ ends
    leads : unlimited_ends ends ≡ ends_after (unlimited_ends (new_ends setup)) past
    answers : answers_of_ends (new_ends setup) past ≡ answers_of_ends (unlimited_ends (new_ends setup)) past

  -- Behind each front of the schedule that is answered alike, the ends without limits find no frame too long.
  abbrev pub FindNone : List Event → Type 0
  FindNone events = (past rest : List Event) → events ≡ past ++ rest → answers_of_ends (new_ends setup) past ≡ answers_of_ends (unlimited_ends (new_ends setup)) past → EndsWithin setup (ends_after (unlimited_ends (new_ends setup)) past)

  goes_on : (past : List Event) (ends : Ends) (e : Event) → Behind past ends → answered (unlimited_ends ends) e ≡ limited_answer (λ side. 2 ^ 62 - 1) (answered ends e) → Behind (past ++ e ∷ []) (answered ends e).1
  goes_on past ends e b same = record {
    here = ends_more (new_ends setup) past e ∙ ap (λ x. (answered x e).1) b.here;
    leads = sym (ends_more (unlimited_ends (new_ends setup)) past e ∙ ap (λ x. (answered x e).1) (sym b.leads) ∙ ap (λ (x : Answer × Ends). x.1) same);
    answers = answers_more (new_ends setup) past e ∙ ap (λ x. answers_of_ends (new_ends setup) past ++ (answered x e).0 ∷ []) b.here
        ∙ ap (λ l. l ++ (answered ends e).0 ∷ []) b.answers
        ∙ sym (answers_more (unlimited_ends (new_ends setup)) past e ∙ ap (λ x. answers_of_ends (unlimited_ends (new_ends setup)) past ++ (answered x e).0 ∷ []) (sym b.leads)
        ∙ ap (λ (x : Answer × Ends). answers_of_ends (unlimited_ends (new_ends setup)) past ++ x.0 ∷ []) same);
  }

  runs_from : (all past rest : List Event) (ends : Ends) → FindNone all → all ≡ past ++ rest → Behind past ends → AreTaken setup rest (answers_of_ends ends rest) → RunsUnlimited ends rest
  runs_from all past [] ends find is b taken = record { answers = refl; leads = refl; judges = λ h. tt }
  runs_from all past (e ∷ rest) ends find is b taken =
      let within : EndsWithin setup (unlimited_ends ends) = subst (EndsWithin setup) (sym b.leads) (find past (e ∷ rest) is b.answers) in
      let alike = steps_alike ends e (subst (AnnounceAs setup) b.here (announced_behind setup past)) within taken.0 in
      let same : answered (unlimited_ends ends) e ≡ limited_answer (λ side. 2 ^ 62 - 1) (answered ends e) = step_same (λ side. 2 ^ 62 - 1) ends e (arrive_endless ends within) alike in
      let more = runs_from all (past ++ e ∷ []) rest (answered ends e).1 find (is ∙ sym (append_assoc past (e ∷ []) rest)) (goes_on past ends e b same) taken.1 in
      record {
        answers = ap (λ l. (answered ends e).0 ∷ l) more.answers ∙ sym (ap (λ (x : Answer × Ends). x.0 ∷ answers_of_ends x.1 rest) same);
        leads = more.leads ∙ sym (ap (λ (x : Answer × Ends). ends_after x.1 rest) same);
        judges = λ h. (sym (judged_alike (λ side. 2 ^ 62 - 1) ends e (arrive_endless ends within) alike) ∙ h.0, more.judges (subst (λ (x : Answer × Ends). NoneJudges x.1 rest) same h.1));
      }

  -- **Over a whole schedule.**
  pub runs_unlimited : (events : List Event) → FindNone events → AreTaken setup events (answers_of_ends (new_ends setup) events) → RunsUnlimited (new_ends setup) events
  runs_unlimited events find taken = runs_from events [] events (new_ends setup) find refl (record { here = refl; leads = refl; answers = refl }) taken
