-- The calls whose events are told by what the endpoint stands for: those that shut a connection down, the one that closes a stream both ways, and
-- the one that opens requests up to an id.
use Rattle.std.proofs.Common.{arith, ◌≡◌, ◌≤◌, ◌<◌, ◌⊎◌, inl, inr, ℕ, ◌+◌, Bool, true, false, List, [], ◌∷◌, ◌++◌, refl, sym, ap, subst, ◌∙◌, Option, Some, None, Result, Ok, Err}
use Rattle.std.specs.Prelude.{◌≢◌, ◌*◌, ◌^◌, ◌||◌, ◌==◌, if◌then◌else◌, is_none, nat_lt, suc, zero}
use Rattle.std.proofs.lemmas.Grind.{common_steps}
use Rattle.h3_proto.specs.declared.stream.Side.{Side}
use Rattle.h3_proto.specs.declared.stream.Side.TheVariants.{Client, Server}
use Rattle.h3_connection.specs.Answers.{call_refused}
use Rattle.h3_connection.specs.Calls.{IsSame}
use Rattle.h3_connection.specs.Endpoint.{EndpointHistory}
use Rattle.h3_connection.specs.LastLaws.{last_appended}
use Rattle.h3_connection.specs.Lasts.{last_id}
use Rattle.h3_connection.specs.OwnIds.{other}
use Rattle.h3_connection.specs.Sending.{cancel, closed_or, does, goaway, goaway_refusal, open_refusal, reset, reset_refusal, unless_closed}
use Rattle.h3_connection.specs.SendingContracts.{DoesOrRefuses}
use Rattle.h3_connection.specs.Shutdown.{goaway_once, is_named, last_taken, notice_id}
use Rattle.h3_connection.specs.State.{StandsFor}
use Rattle.h3_connection.specs.declared.event.Refusal.{Refusal}
use Rattle.h3_connection.specs.declared.event.Refusal.TheVariants as refusal
use Rattle.h3_world.specs.Ends.{Ends, answered, done, end_at, with_end}
use Rattle.h3_world.specs.Headline.{is_out_of_memory}
use Rattle.h3_world.specs.declared.event.Answer.{Answer}
use Rattle.h3_world.specs.declared.event.Answer.TheVariants as answer
use Rattle.h3_world.specs.declared.event.Event.{Event}
use Rattle.h3_world.specs.declared.event.Event.TheVariants as event
use Rattle.h3_memory.specs.Refused.{AnswerOf, EndsRun, EndsStep}
use Rattle.h3_session.specs.Closing.{ClosesStream, unless_ended}
use Rattle.h3_session.specs.OpeningAt.{OpensAt, OpensRequestAt, open_request_at, opened_more, opening_refusal, to_open}
use Rattle.h3_session.specs.Running.{answer_of}
use Rattle.h3_session.specs.declared.endpoint.closing.ClosedStream.{ClosedStream}
use Rattle.h3_c.specs.Bits.{bit}
use Rattle.h3_c.specs.Closing.{GivesFrames}
use Rattle.h3_c.specs.Does.{Does}
use Rattle.h3_c.specs.Does.{CallOfC as call}
use Rattle.h3_c.specs.Exported.{Calls}
use Rattle.h3_c.specs.Numbers.{call_told, ok, refusal_told}
use Rattle.h3_c.specs.Programs.{Act, Call, Closes, Comes, GoesAway, Handles, HasNone, OpensSoMany, OpensUpTo, WritesNone, are_events, event_of, goaway_at, handle_at, opened_answers, opened_events}
use Rattle.h3_c.specs.Seen.{Seen}
use Rattle.h3_c.specs.declared.numbers.Told.{Told}
use Rattle.h3_c.proofs.FrontsShown.{below_or_not}
use Rattle.h3_c.proofs.Comings.{done_is}
use Rattle.h3_c.proofs.Flights.{Carries, carries_grown}
use Rattle.h3_c.proofs.OpenedUpTo.{all_known, are_opened, opening_opens, opens_run}
use Rattle.h3_c.proofs.ProgramCalls.{ByHistory, ClosesBoth, GivesNoticeOf, Made, OpensUpToOf, ShutsDownOf}
use Rattle.h3_c.proofs.ProgramMoves.{CallsAreSteps, KeepsFlow, Left, Stand, keep_lagging, leaves, resets_alike, run_left, stays_left, step_left, stood, views_of}
use Rattle.h3_c.proofs.QuietCalls.{stands_unchanged}
use Rattle.h3_c.proofs.Unordered.{unordered}
use Rattle.h3_c.proofs.SendsGrow.{BothGrow, grows_none, opens_grow, reset_grows, step_grows}
use Rattle.h3_c.proofs.ViewsMemory.{step_seen}
use Rattle.h3_c.proofs.ViewsSteps.{KeepBoth, Views, both_seen}

-- what an act comes to, by the ends that both handles stand for
pub record MadeAt (act : Act) (h g : Handles) (ends : Ends) (said : Side → ℕ → List ℕ) : Type 0 where
  pub events : List Event
  pub answers : List Answer
  pub comes : Comes act h g events answers
  pub left : Left ends h g said events answers

pub at_ends : CallsAreSteps → {act : Act} {h g : Handles} (ends : Ends) (stand : Stand h ends) → Made act h g → MadeAt act h g ends stand.said
at_ends law ends stand made = record { events = made.events; answers = made.answers; comes = made.comes; left = leaves law ends stand made.moves }

closed_some : (closed : Option ℕ) (r : Refusal) → closed_or closed (Some r) ≡ None → ⊥
closed_some (Some code) r is = let never : Some (refusal.Closed code) ≡ None = is in absurd (cc)
closed_some None r is = let never : Some r ≡ None = is in absurd (cc)

does_none : (r : Option Refusal) (e new : EndpointHistory) → (does r e new).0 ≡ None → (r ≡ None) × ((does r e new).1 ≡ new)
does_none None e new is = (refl, refl)
does_none (Some r) e new is = absurd (let never : Some r ≡ None = is in cc)

step_of : (ends new : Ends) (e : Event) (a : Answer) → is_out_of_memory a ≡ false → a ≡ (answered ends e).0 → new ≡ (answered ends e).1 → EndsStep ends e a new
step_of ends new e a memory is next = subst (λ b. AnswerOf b ends e a new) (sym memory) (is, next)

is_known : (id : ℕ) → nat_lt id (2 ^ 62) ≡ true → id < 2 ^ 62
is_known id h = grind (arith, common_steps, h)

does_some : (r : Option Refusal) (e new : EndpointHistory) (why : Refusal) → (does r e new).0 ≡ Some why → (does r e new).1 ≡ e
does_some None e new why is = absurd (let never : None ≡ Some why = is in cc)
does_some (Some r) e new why is = refl

module _ (side : Side) (h g : Handles) (there : handle_at g (other side) ≡ handle_at h (other side)) (same : KeepsFlow h g) (ends : Ends) (stand : Stand h ends) where
  stands : StandsFor (handle_at h side).endpoint (end_at ends side)
  stands = by side stand.client stand.server
    where
      by : (s : Side) → StandsFor h.client.endpoint ends.client → StandsFor h.server.endpoint ends.server → StandsFor (handle_at h s).endpoint (end_at ends s)
      by Client client server = client
      by Server client server = server

  -- one end is another one
  with_stands : (s : Side) → handle_at g (other s) ≡ handle_at h (other s) → (after : EndpointHistory) → StandsFor (handle_at g s).endpoint after
      → StandsFor g.client.endpoint (with_end ends s after).client × StandsFor g.server.endpoint (with_end ends s after).server
  with_stands Client is after stands = (stands, subst (λ (v : Seen). StandsFor v.endpoint ends.server) (sym is) stand.server)
  with_stands Server is after stands = (subst (λ (v : Seen). StandsFor v.endpoint ends.client) (sym is) stand.client, stands)

  -- no event
  none_left : (after : EndpointHistory) → StandsFor (handle_at g side).endpoint after → unordered after ≡ unordered (end_at ends side) → Left ends h g stand.said [] []
  none_left after after_stands is = by side there after_stands is
    where
      by : (s : Side) → handle_at g (other s) ≡ handle_at h (other s) → StandsFor (handle_at g s).endpoint after → unordered after ≡ unordered (end_at ends s) → Left ends h g stand.said [] []
      by Client still on equal = stays_left ends h g after ends.server same stand equal refl on (subst (λ (v : Seen). StandsFor v.endpoint ends.server) (sym still) stand.server)
      by Server still on equal = stays_left ends h g ends.client after same stand refl equal (subst (λ (v : Seen). StandsFor v.endpoint ends.client) (sym still) stand.client) on

  unchanged : (refused : Option Refusal) → (refused ≢ None → IsSame (handle_at h side).endpoint (handle_at g side).endpoint) → (r : Refusal) → refused ≡ Some r → Left ends h g stand.said [] []
  unchanged refused still r is =
      none_left (end_at ends side) (stands_unchanged (handle_at h side).endpoint (handle_at g side).endpoint (end_at ends side) (still (λ none. let never : Some r ≡ None = sym is ∙ none in absurd (cc))) stands) refl

  -- a GOAWAY that is written
  goes_away : (id : ℕ) → id < 2 ^ 62 → (goaway (end_at ends side) id).0 ≡ None → StandsFor (handle_at g side).endpoint (goaway (end_at ends side) id).1 → Left ends h g stand.said (event.Goaway side id ∷ []) (answer.Done ∷ [])
  goes_away id known none after_stands =
      let new = with_end ends side (goaway (end_at ends side) id).1 in
      let is = done_is ends side answer.Done (goaway (end_at ends side) id) in
      let s = with_stands side there (goaway (end_at ends side) id).1 after_stands in
      let step = step_of ends new (event.Goaway side id) answer.Done refl (sym (ap (λ x. x.0) is ∙ ap (λ r. answer_of answer.Done r) none)) (sym (ap (λ x. x.1) is)) in
      step_left ends new h g (event.Goaway side id) answer.Done known tt tt same stand step s.0 s.1

  -- which GOAWAY is the last one then
  writes_none : (c : call) (n : Told) → (c ≡ call.ShutdownNotice n) ⊎ (c ≡ call.Shutdown n) → goaway_at g side ≡ goaway_at h side → WritesNone (Call side c) h g
  writes_none c n (inl is) same = subst (λ x. WritesNone (Call side x) h g) (sym is) same
  writes_none c n (inr is) same = subst (λ x. WritesNone (Call side x) h g) (sym is) same

  still_last : StandsFor (handle_at g side).endpoint (end_at ends side) → goaway_at g side ≡ goaway_at h side
  still_last after = after.last_goaway ∙ sym stands.last_goaway

  wrote : (id : ℕ) → (goaway (end_at ends side) id).0 ≡ None → StandsFor (handle_at g side).endpoint (goaway (end_at ends side) id).1 → goaway_at g side ≡ Some id
  wrote id none after =
      let e = end_at ends side in
      let new : EndpointHistory = record e { own = record e.own { goaways = e.own.goaways ++ id ∷ [] } } in
      after.last_goaway ∙ ap (λ (x : EndpointHistory). last_id x.own.goaways) (does_none (goaway_refusal e id) e new none).1 ∙ last_appended e.own.goaways id

  -- what shuts down
  shuts : (c : call) (n : Told) (id : ℕ) → (event_of (Call side c) ≡ None) × (are_events (Call side c) ≡ false) → (c ≡ call.ShutdownNotice n) ⊎ (c ≡ call.Shutdown n) → n ≡ ok
      → (goaway_once (end_at ends side) id).0 ≡ None → StandsFor (handle_at g side).endpoint (goaway_once (end_at ends side) id).1 → MadeAt (Call side c) h g ends stand.said
  shuts c n id none is done nothing stands = by (is_named (last_id (end_at ends side).own.goaways) id) refl
    where
      e : EndpointHistory
      e = end_at ends side

      act_is : (c ≡ call.ShutdownNotice n) ⊎ (c ≡ call.Shutdown n) → (Call side c ≡ Call side (call.ShutdownNotice n)) ⊎ (Call side c ≡ Call side (call.Shutdown n))
      act_is (inl x) = inl (ap (λ c. Call side c) x)
      act_is (inr x) = inr (ap (λ c. Call side c) x)

      below : (b : Bool) → nat_lt id (2 ^ 62) ≡ b → is_named (last_id (end_at ends side).own.goaways) id ≡ false → MadeAt (Call side c) h g ends stand.said
      below true fits new =
          let goes : goaway_once (end_at ends side) id ≡ goaway (end_at ends side) id = rw (new, fits) refl in
          record {
            events = event.Goaway side id ∷ [];
            answers = answer.Done ∷ [];
            comes = GoesAway id (act_is is) done (wrote id (sym (ap (λ x. x.0) goes) ∙ nothing) (subst (λ x. StandsFor (handle_at g side).endpoint x.1) goes stands));
            left = goes_away id (is_known id fits) (sym (ap (λ x. x.0) goes) ∙ nothing) (subst (λ x. StandsFor (handle_at g side).endpoint x.1) goes stands);
          }
      below false fits new =
          let goes : goaway_once (end_at ends side) id ≡ (unless_closed (end_at ends side) (Some refusal.IdsUsedUp), end_at ends side) = rw (new, fits) refl in
          absurd (closed_some (end_at ends side).closed refusal.IdsUsedUp (sym (ap (λ x. x.0) goes) ∙ nothing))

      by : (b : Bool) → is_named (last_id (end_at ends side).own.goaways) id ≡ b → MadeAt (Call side c) h g ends stand.said
      by true named =
          let goes : goaway_once (end_at ends side) id ≡ (unless_closed (end_at ends side) None, end_at ends side) = rw (named) refl in
          record { events = []; answers = []; comes = HasNone none.1 none.0 (writes_none c n is (still_last (subst (λ x. StandsFor (handle_at g side).endpoint x.1) goes stands))); left = none_left (end_at ends side) (subst (λ x. StandsFor (handle_at g side).endpoint x.1) goes stands) refl }
      by false new = below (nat_lt id (2 ^ 62)) refl new

  pub shuts_down : (c : call) (n : Told) (id : EndpointHistory → ℕ) → (event_of (Call side c) ≡ None) × (are_events (Call side c) ≡ false) → (c ≡ call.ShutdownNotice n) ⊎ (c ≡ call.Shutdown n)
      → Calls call_told n (handle_at h side) (handle_at g side) (λ (r : Result Unit Refusal). DoesOrRefuses (λ e. goaway_once e (id e)) (handle_at h side).endpoint (handle_at g side).endpoint (call_refused r))
      → MadeAt (Call side c) h g ends stand.said
  shuts_down c n id none is k = by k.answer k.is k.done
    where
      by : (r : Result Unit Refusal) → n ≡ call_told r → DoesOrRefuses (λ e. goaway_once e (id e)) (handle_at h side).endpoint (handle_at g side).endpoint (call_refused r) → MadeAt (Call side c) h g ends stand.said
      by (Ok done) told d =
          let x = d.done (end_at ends side) stands (λ memory. let never : None ≡ Some refusal.OutOfMemory = memory in absurd (cc)) in
          shuts c n (id (end_at ends side)) none is told (sym x.0) x.1
      by (Err r) told d =
          let same = d.same (λ is. let never : Some r ≡ None = is in absurd (cc)) in
          record { events = []; answers = []; comes = HasNone none.1 none.0 (writes_none c n is same.rest.last_goaway); left = unchanged (Some r) d.same r refl }

  -- what closes a stream: canceled, and then reset, or not
  canceled_step : (id : ℕ) → (canceled : Option Refusal) → (canceled ≡ None) ⊎ (canceled ≡ Some refusal.Ended) → (cancel (end_at ends side) id).0 ≡ canceled
      → EndsStep ends (event.Cancel side id) (answer_of answer.Done canceled) (with_end ends side (cancel (end_at ends side) id).1)
  canceled_step id canceled may is =
      let one = cancel (end_at ends side) id in
      let first = done_is ends side answer.Done one in
      step_of ends (with_end ends side one.1) (event.Cancel side id) (answer_of answer.Done canceled) (clear canceled may) (sym (ap (λ x. x.0) first ∙ ap (λ r. answer_of answer.Done r) is)) (sym (ap (λ x. x.1) first))
    where
      clear : (r : Option Refusal) → (r ≡ None) ⊎ (r ≡ Some refusal.Ended) → is_out_of_memory (answer_of answer.Done r) ≡ false
      clear r (inl none) = ap (λ x. is_out_of_memory (answer_of answer.Done x)) none
      clear r (inr ended) = ap (λ x. is_out_of_memory (answer_of answer.Done x)) ended

  cancels : (id : ℕ) → (canceled : Option Refusal) → (canceled ≡ None) ⊎ (canceled ≡ Some refusal.Ended) → (cancel (end_at ends side) id).0 ≡ canceled
      → StandsFor (handle_at g side).endpoint (cancel (end_at ends side) id).1 → Left ends h g stand.said (event.Cancel side id ∷ []) (answer_of answer.Done canceled ∷ [])
  cancels id canceled may is after_stands =
      let s = with_stands side there (cancel (end_at ends side) id).1 after_stands in
      step_left ends (with_end ends side (cancel (end_at ends side) id).1) h g (event.Cancel side id) (answer_of answer.Done canceled) tt tt tt same stand (canceled_step id canceled may is) s.0 s.1

  ends_both : (id : ℕ) → (canceled : Option Refusal) → (canceled ≡ None) ⊎ (canceled ≡ Some refusal.Ended) → (cancel (end_at ends side) id).0 ≡ canceled → (reset (cancel (end_at ends side) id).1 id).0 ≡ None
      → StandsFor (handle_at g side).endpoint (reset (cancel (end_at ends side) id).1 id).1
      → Left ends h g stand.said (event.Cancel side id ∷ event.Reset side id ∷ []) (answer_of answer.Done canceled ∷ answer.Done ∷ [])
  ends_both id canceled may is none after_stands =
      let one = cancel (end_at ends side) id in
      let mid = with_end ends side one.1 in
      let last = with_end ends side (reset one.1 id).1 in
      let s = with_stands side there (reset one.1 id).1 after_stands in
      let step = canceled_step id canceled may is in
      let two = step_of mid last (event.Reset side id) answer.Done refl (sym (ap (λ x. x.0) (second side one.1) ∙ ap (λ r. answer_of answer.Done r) none)) (sym (ap (λ x. x.1) (second side one.1))) in
      let views = views_of h.carried stand.said in
      let first = step_seen views (keep_lagging h.carried stand.said) ends mid (event.Cancel side id) (answer_of answer.Done canceled) tt tt tt step in
      let last_step = step_seen views (keep_lagging h.carried stand.said) mid last (event.Reset side id) answer.Done tt tt (resets_alike h.carried stand.said mid last (event.Reset side id) answer.Done (λ is. absurd (cc)) two) two in
      let grow = step_grows ends (stood stand) mid (event.Cancel side id) (answer_of answer.Done canceled) tt tt step in
      let more = grown side one.1 in
      run_left ends last h g stand.said (event.Cancel side id ∷ event.Reset side id ∷ []) (answer_of answer.Done canceled ∷ answer.Done ∷ []) (tt, (tt, tt)) (both_seen views mid, first, (both_seen views last, last_step, refl))
      (carries_grown Client (h.carried Client) (stand.said Client) (h.owed Client) mid.client last.client (carries_grown Client (h.carried Client) (stand.said Client) (h.owed Client) ends.client mid.client stand.client_carries grow.client) more.client)
      (carries_grown Server (h.carried Server) (stand.said Server) (h.owed Server) mid.server last.server (carries_grown Server (h.carried Server) (stand.said Server) (h.owed Server) ends.server mid.server stand.server_carries grow.server) more.server)
      same s.0 s.1
    where
      second : (s : Side) (e : EndpointHistory) → answered (with_end ends s e) (event.Reset s id) ≡ (answer_of answer.Done (reset e id).0, with_end ends s (reset e id).1)
      second Client e = done_is (with_end ends Client e) Client answer.Done (reset e id)
      second Server e = done_is (with_end ends Server e) Server answer.Done (reset e id)

      grown : (s : Side) (e : EndpointHistory) → BothGrow (with_end ends s e) (with_end ends s (reset e id).1)
      grown Client e = record { client = reset_grows e id; server = grows_none ends.server }
      grown Server e = record { client = grows_none ends.client; server = reset_grows e id }

-- why a direction that is over refuses nothing
ended_or_none : (o : Option Refusal) → unless_ended o ≡ None → (o ≡ None) ⊎ (o ≡ Some refusal.Ended)
ended_or_none None is = inl refl
ended_or_none (Some refusal.Ended) is = inr refl
ended_or_none (Some (refusal.Closed code)) is = absurd (cc)
ended_or_none (Some (refusal.Connection code)) is = absurd (cc)
ended_or_none (Some refusal.NotReceiving) is = absurd (cc)
ended_or_none (Some refusal.AfterEnd) is = absurd (cc)
ended_or_none (Some refusal.Kept) is = absurd (cc)
ended_or_none (Some refusal.NotClient) is = absurd (cc)
ended_or_none (Some (refusal.GoingAway id)) is = absurd (cc)
ended_or_none (Some refusal.IdsUsedUp) is = absurd (cc)
ended_or_none (Some refusal.NotOpen) is = absurd (cc)
ended_or_none (Some refusal.OutOfOrder) is = absurd (cc)
ended_or_none (Some refusal.WrongSide) is = absurd (cc)
ended_or_none (Some refusal.PseudoInTrailer) is = absurd (cc)
ended_or_none (Some (refusal.Malformed why)) is = absurd (cc)
ended_or_none (Some (refusal.TooLarge size)) is = absurd (cc)
ended_or_none (Some refusal.Critical) is = absurd (cc)
ended_or_none (Some refusal.NotRequestId) is = absurd (cc)
ended_or_none (Some (refusal.Raised id)) is = absurd (cc)
ended_or_none (Some refusal.OutOfMemory) is = absurd (cc)

-- what refusals tell: H3_MEMORY is one of them
pub memory_or_not : (r : Refusal) → (r ≡ refusal.OutOfMemory) ⊎ ((((refusal_told r).number == 0) || ((refusal_told r).number == 18)) ≡ false)
memory_or_not (refusal.Closed code) = inr refl
memory_or_not (refusal.Connection code) = inr refl
memory_or_not refusal.NotReceiving = inr refl
memory_or_not refusal.AfterEnd = inr refl
memory_or_not refusal.Kept = inr refl
memory_or_not refusal.NotClient = inr refl
memory_or_not (refusal.GoingAway id) = inr refl
memory_or_not refusal.IdsUsedUp = inr refl
memory_or_not refusal.NotOpen = inr refl
memory_or_not refusal.OutOfOrder = inr refl
memory_or_not refusal.WrongSide = inr refl
memory_or_not refusal.PseudoInTrailer = inr refl
memory_or_not (refusal.Malformed why) = inr refl
memory_or_not (refusal.TooLarge size) = inr refl
memory_or_not refusal.Critical = inr refl
memory_or_not refusal.Ended = inr refl
memory_or_not refusal.NotRequestId = inr refl
memory_or_not (refusal.Raised id) = inr refl
memory_or_not refusal.OutOfMemory = inl refl

or_first : (a b : Bool) → (a || b) ≡ false → a ≡ false
or_first true b h = h
or_first false b h = refl

pub not_done : (r : Refusal) → ((refusal_told r).number == 0) ≡ false
not_done r = elim (memory_or_not r) [
  | inl is ↦ ap (λ x. (refusal_told x).number == 0) is
  | inr another ↦ or_first _ _ another
]

pub is_other : (r : Refusal) → (((refusal_told r).number == 0) || ((refusal_told r).number == 18)) ≡ false → Some r ≡ Some refusal.OutOfMemory → ⊥
is_other r another is =
    let same = same_refusal r refusal.OutOfMemory is in
    absurd (let never : true ≡ false = sym (ap (λ x. ((refusal_told x).number == 0) || ((refusal_told x).number == 18)) same) ∙ another in cc)
  where
    same_refusal : (r s : Refusal) → Some r ≡ Some s → r ≡ s
    same_refusal r s is = cc

same_ends : (ends : Ends) (side : Side) → with_end ends side (end_at ends side) ≡ ends
same_ends ends Client = refl
same_ends ends Server = refl

-- what opens requests is a run to a schedule
opened_seen : (views : Views) (K : KeepBoth views) (side : Side) (count next : ℕ) (ends new : Ends) → EndsRun ends (opened_events side count) (opened_answers next count) new → EndsRun (both_seen views ends) (opened_events side count) (opened_answers next count) (both_seen views new)
opened_seen views K side zero next ends new run = ap (both_seen views) run
opened_seen views K side (suc count) next ends new (mid, step, rest) = (both_seen views mid, step_seen views K ends mid (event.OpenRequest side) (answer.Opened next) tt tt tt step, opened_seen views K side count (next + 4) mid new rest)

carries_opened : (side : Side) (carried said owed : ℕ → List ℕ) (count : ℕ) (e : EndpointHistory) → Carries side carried said owed e → Carries side carried said owed (opened_more count e)
carries_opened side carried said owed zero e k = k
carries_opened side carried said owed (suc count) e k =
    let rest = carries_opened side carried said owed count e k in
    carries_grown side carried said owed (opened_more count e) _ rest (opens_grow (opened_more count e) side carried said owed rest)

module _ (side : Side) (h g : Handles) (there : handle_at g (other side) ≡ handle_at h (other side)) (same : KeepsFlow h g) (ends : Ends) (stand : Stand h ends) where
  here : StandsFor (handle_at h side).endpoint (end_at ends side)
  here = stands side h g there same ends stand

  still : (handle_at g side) ≡ (handle_at h side) → StandsFor (handle_at g side).endpoint (end_at ends side)
  still is = subst (λ (v : Seen). StandsFor v.endpoint (end_at ends side)) (sym is) here

  pub closes_both : (id stop_before stop reset_before reset_stream : ℕ) (n : Told) → Does (call.CloseStream id stop_before stop reset_before reset_stream n) (handle_at h side) (handle_at g side)
      → MadeAt (Call side (call.CloseStream id stop_before stop reset_before reset_stream n)) h g ends stand.said
  closes_both id stop_before stop reset_before reset_stream n d = elim (below_or_not id (2 ^ 62)) [
    | inl below ↦ (let k = d.0.known below in by k.answer k.is k.done.0 k.done.1)
    | inr above ↦ record {
      events = [];
      answers = [];
      comes = HasNone (ap (λ (t : Told). t.number == 0) (d.0.unknown above).0) refl tt;
      left = none_left side h g there same ends stand (end_at ends side) (still (d.0.unknown above).1) refl;
    }
  ]
    where
      ends_so : (o : Option Refusal) → (reset (cancel (end_at ends side) id).1 id).0 ≡ o → n ≡ ok → ((cancel (end_at ends side) id).0 ≡ None) ⊎ ((cancel (end_at ends side) id).0 ≡ Some refusal.Ended) → reset_stream ≡ bit (is_none o)
          → StandsFor (handle_at g side).endpoint (reset (cancel (end_at ends side) id).1 id).1 → MadeAt (Call side (call.CloseStream id stop_before stop reset_before reset_stream n)) h g ends stand.said
      ends_so None none told may is on =
          let canceled = (cancel (end_at ends side) id).0 in
          record {
            events = event.Cancel side id ∷ event.Reset side id ∷ [];
            answers = answer_of answer.Done canceled ∷ answer.Done ∷ [];
            comes = subst (λ m. Comes (Call side (call.CloseStream id stop_before stop reset_before reset_stream n)) h g (event.Cancel side id ∷ (if m == 0 then [] else event.Reset side id ∷ [])) (answer_of answer.Done canceled ∷ (if m == 0 then [] else answer.Done ∷ []))) is
                (Closes canceled refl told may);
            left = ends_both side h g there same ends stand id canceled may refl none on;
          }
      ends_so (Some why) some told may is on =
          let canceled = (cancel (end_at ends side) id).0 in
          let one = (cancel (end_at ends side) id).1 in
          record {
            events = event.Cancel side id ∷ [];
            answers = answer_of answer.Done canceled ∷ [];
            comes = subst (λ m. Comes (Call side (call.CloseStream id stop_before stop reset_before reset_stream n)) h g (event.Cancel side id ∷ (if m == 0 then [] else event.Reset side id ∷ [])) (answer_of answer.Done canceled ∷ (if m == 0 then [] else answer.Done ∷ []))) is
                (Closes canceled refl told may);
            left = cancels side h g there same ends stand id canceled may refl (subst (λ e. StandsFor (handle_at g side).endpoint e) (does_some (reset_refusal one id) one _ why some) on);
          }

      by : (r : Result ClosedStream Refusal) → n ≡ call_told r → ClosesStream (handle_at h side).endpoint (handle_at g side).endpoint id r → GivesFrames r stop_before stop reset_before reset_stream
          → MadeAt (Call side (call.CloseStream id stop_before stop reset_before reset_stream n)) h g ends stand.said
      by (Ok frames) told closed given =
          let e = end_at ends side in
          let x = closed.closes.done e here (λ memory. let never : None ≡ Some refusal.OutOfMemory = memory in absurd (cc)) in
          let y = does_none (unless_ended (cancel e id).0) e (reset (cancel e id).1 id).1 (sym x.0) in
          let may = ended_or_none (cancel e id).0 y.0 in
          let is = given.1 ∙ ap (λ (f : ClosedStream). bit f.reset_stream) (closed.sends e here) in
          ends_so (reset (cancel e id).1 id).0 refl told may is (subst (λ z. StandsFor (handle_at g side).endpoint z) y.1 x.1)
      by (Err r) told closed given =
          record { events = []; answers = []; comes = HasNone (ap (λ (t : Told). t.number == 0) told ∙ not_done r) refl tt; left = unchanged side h g there same ends stand (Some r) closed.closes.same r refl }

  -- what opens requests, up to an id
  opened_left : (count : ℕ) → (0 < count → open_refusal (end_at ends side) ≡ None) → (end_at ends side).next_id + 4 * count < 2 ^ 62 + 4
      → StandsFor (handle_at g side).endpoint (opened_more count (end_at ends side)) → Left ends h g stand.said (opened_events side count) (opened_answers (end_at ends side).next_id count)
  opened_left count may few after_stands =
      let e = end_at ends side in
      let new = with_end ends side (opened_more count e) in
      let s = with_stands side h g there same ends stand side there (opened_more count e) after_stands in
      let run = subst (λ x. EndsRun x (opened_events side count) (opened_answers e.next_id count) new) (same_ends ends side) (opens_run side count ends e may few) in
      let both = opened_both side in
      run_left ends new h g stand.said (opened_events side count) (opened_answers e.next_id count) (are_opened side count) (opened_seen (views_of h.carried stand.said) (keep_lagging h.carried stand.said) side count e.next_id ends new run) both.0 both.1 same s.0 s.1
    where
      opened_both : (s : Side) → Carries Client (h.carried Client) (stand.said Client) (h.owed Client) (with_end ends s (opened_more count (end_at ends s))).client × Carries Server (h.carried Server) (stand.said Server) (h.owed Server) (with_end ends s (opened_more count (end_at ends s))).server
      opened_both Client = (carries_opened Client (h.carried Client) (stand.said Client) (h.owed Client) count ends.client stand.client_carries, stand.server_carries)
      opened_both Server = (stand.client_carries, carries_opened Server (h.carried Server) (stand.said Server) (h.owed Server) count ends.server stand.server_carries)

  opens_so : (id : ℕ) (n : Told) (count : ℕ) → id < 2 ^ 62 → (open_request_at (end_at ends side) id).0 ≡ None → count ≤ to_open (end_at ends side).next_id id
      → OpensSoMany n (to_open (end_at ends side).next_id id) count → StandsFor (handle_at g side).endpoint (opened_more count (end_at ends side)) → MadeAt (Call side (call.OpenRequestAt id n)) h g ends stand.said
  opens_so id n count known none few many after_stands =
      let e = end_at ends side in
      let next = here.next_id in
      let may = opening_opens e id (does_none (opening_refusal e id) e (opened_more (to_open e.next_id id) e) none).0 in
      record {
        events = opened_events side count;
        answers = opened_answers e.next_id count;
        comes = subst (λ k. Comes (Call side (call.OpenRequestAt id n)) h g (opened_events side count) (opened_answers k count)) next
            (OpensUpTo count refl (subst (λ k. OpensSoMany n (to_open k id) count) (sym next) many));
        left = opened_left count (λ some. may.0) (all_known e.next_id id count may.1 known few) after_stands;
      }

  pub opens_up_to : (id : ℕ) (n : Told) → Does (call.OpenRequestAt id n) (handle_at h side) (handle_at g side) → MadeAt (Call side (call.OpenRequestAt id n)) h g ends stand.said
  opens_up_to id n d = elim (below_or_not id (2 ^ 62)) [
    | inl below ↦ (let k = d.known below in by below k.answer k.is k.done)
    | inr above ↦ record {
      events = [];
      answers = [];
      comes = HasNone (ap (λ (t : Told). (t.number == 0) || (t.number == 18)) (d.unknown above).0) refl tt;
      left = none_left side h g there same ends stand (end_at ends side) (still (d.unknown above).1) refl;
    }
  ]
    where
      refused : (r : Refusal) → n ≡ refusal_told r → OpensAt (handle_at h side).endpoint (handle_at g side).endpoint id (Some r) → id < 2 ^ 62
          → (r ≡ refusal.OutOfMemory) ⊎ ((((refusal_told r).number == 0) || ((refusal_told r).number == 18)) ≡ false) → MadeAt (Call side (call.OpenRequestAt id n)) h g ends stand.said
      refused r told o below (inl is) =
          let e = end_at ends side in
          let memory_is = ap (λ x. Some x) is in
          let fewer = o.fewer memory_is in
          let few : fewer.opened < to_open e.next_id id = subst (λ k. fewer.opened < to_open k id) here.next_id fewer.fewer in
          opens_so id n fewer.opened below (o.memory e here memory_is) (omega (arith, few)) (inr (told ∙ ap refusal_told is, few)) (fewer.stands e here)
      refused r told o below (inr another) =
          record {
            events = [];
            answers = [];
            comes = HasNone (ap (λ (t : Told). (t.number == 0) || (t.number == 18)) told ∙ another) refl tt;
            left = unchanged side h g there same ends stand (Some r) (λ some. o.same some (λ is. is_other r another is)) r refl;
          }

      by : id < 2 ^ 62 → (r : Result Unit Refusal) → n ≡ call_told r → OpensRequestAt (handle_at h side).endpoint (handle_at g side).endpoint id r → MadeAt (Call side (call.OpenRequestAt id n)) h g ends stand.said
      by below (Ok done) told o =
          let e = end_at ends side in
          let x = o.done e here (λ memory. let never : None ≡ Some refusal.OutOfMemory = memory in absurd (cc)) in
          let y = does_none (opening_refusal e id) e (opened_more (to_open e.next_id id) e) (sym x.0) in
          opens_so id n (to_open e.next_id id) below (sym x.0) (omega arith) (inl (told, refl)) (subst (λ z. StandsFor (handle_at g side).endpoint z) y.1 x.1)
      by below (Err r) told o = refused r told o below (memory_or_not r)

  pub by_history : (c : call) → ByHistory c → Does c (handle_at h side) (handle_at g side) → MadeAt (Call side c) h g ends stand.said
  by_history _ (OpensUpToOf id n) d = opens_up_to id n d
  by_history _ (ClosesBoth id stop_before stop reset_before reset_stream n) d = closes_both id stop_before stop reset_before reset_stream n d
  by_history _ (GivesNoticeOf n) d = shuts_down side h g there same ends stand (call.ShutdownNotice n) n (λ e. notice_id e.side) (refl, refl) (inl refl) d
  by_history _ (ShutsDownOf n) d = shuts_down side h g there same ends stand (call.Shutdown n) n (λ e. last_taken e.side e) (refl, refl) (inr refl) d
