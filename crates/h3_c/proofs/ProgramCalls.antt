-- What each call of a program is to a schedule: the call of an endpoint that its event names, or nothing.
use Rattle.std.proofs.Common.{◌≡◌, ◌⊎◌, inl, inr, ℕ, Bool, true, false, List, [], ◌∷◌, refl, sym, ap, subst, ◌∙◌, Option, Some, None, Result, Ok, Err}
use Rattle.std.specs.Prelude.{◌<◌, ◌≢◌, ◌^◌, ◌&&◌, ◌==◌, is_none, option_map}
use Rattle.h3_field.specs.Field.{Field}
use Rattle.h3_field.specs.ReadBack.{AreBytes}
use Rattle.h3_proto.specs.declared.stream.Side.{Side}
use Rattle.h3_proto.specs.declared.stream.Side.TheVariants.{Client, Server}
use Rattle.h3_priority.specs.Priority.{PriorityParameters}
use Rattle.h3_connection.specs.Answers.{call_refused}
use Rattle.h3_connection.specs.ByPriority.{Holds, hold, set_priority}
use Rattle.h3_connection.specs.Endpoint.{EndpointHistory}
use Rattle.h3_connection.specs.EndsWaiting.{end_taken}
use Rattle.h3_connection.specs.OwnIds.{other}
use Rattle.h3_connection.specs.Prioritizing.{UsesUpdates, set_initial_priority, use_updates}
use Rattle.h3_connection.specs.SendingContracts.{Cancels, DoesOrRefuses, Finishes, GoesAway, Opens, Resets}
use Rattle.h3_connection.specs.State.{EndpointState, StandsFor}
use Rattle.h3_connection.specs.declared.event.Refusal.{Refusal}
use Rattle.h3_connection.specs.declared.event.Refusal.TheVariants as refusal
use Rattle.h3_world.specs.declared.event.Answer.{Answer}
use Rattle.h3_world.specs.declared.event.Answer.TheVariants as answer
use Rattle.h3_world.specs.declared.event.Event.{Event}
use Rattle.h3_world.specs.declared.event.Event.TheVariants as event
use Rattle.h3_session.specs.Acting.{Acts, ByOne, PullsList, SendsShared}
use Rattle.h3_session.specs.Acting.{Tells as TellsCall}
use Rattle.h3_session.specs.Datagrams.{read_datagram}
use Rattle.h3_session.specs.Running.{body_answer, done_answer, opened_answer}
use Rattle.h3_session.specs.SendingLists.{SendsFieldList, SendsTrailerList, order_refusal, place_refusal}
use Rattle.h3_c.specs.Asked.{GivesBytes, Tells, TellsSent, is_left_out}
use Rattle.h3_c.specs.Does.{CallOfC, Does}
use Rattle.h3_c.specs.Does.{CallOfC as call}
use Rattle.h3_c.specs.Exported.{Calls, CallsList, CallsOn, LacksList, OnStream, OpensRequest, Pulls, SendsCut}
use Rattle.h3_c.specs.Given.{fields_given}
use Rattle.h3_c.specs.Numbers.{TellsList, argument, body_told, call_told, refusal_told}
use Rattle.h3_c.specs.Ordering.{IfGiven, flag_given, priority_given}
use Rattle.h3_c.specs.Programs.{Act, Call, Comes, HasNone, Handles, IsEvent, IsOver, IsRefused, LacksList as NoList, LearnsOf, WritesNone, are_events, event_of, handle_at, is_list}
use Rattle.h3_c.specs.Seen.{Seen}
use Rattle.h3_c.specs.declared.items.PulledItem.{PulledItem}
use Rattle.h3_c.specs.declared.numbers.Told.{Told}
use Rattle.h3_c.proofs.FrontsShown.{below_or_not}
use Rattle.h3_c.proofs.GivenBytes.{given_bytes}
use Rattle.h3_c.proofs.ProgramMoves.{ActsSo, KeepsFlow, Moves, NotEnded, StaysAt, StaysSo, stays_same}
use Rattle.h3_c.proofs.QuietCalls.{datagram_same, does_same, end_taken_same, fault_told, hold_same, is_fault, set_initial_same, set_priority_same, stands_unchanged, updates_same}
use Rattle.h3_c.proofs.Unordered.{unordered}
use Rattle.h3_c.proofs.ViewsSteps.{IsCall, IsOfC}

-- what an act comes to
pub record Made (act : Act) (h g : Handles) : Type 0 where
  pub events : List Event
  pub answers : List Answer
  pub comes : Comes act h g events answers
  pub moves : Moves h g events answers

-- an event
made_event : (act : Act) (h g : Handles) (e : Event) (n : Told) (a : Answer) → event_of act ≡ Some (e, n) → LearnsOf act g a → IsOfC e → IsCall e → NotEnded e a → KeepsFlow h g
    → Acts e h.client.endpoint h.server.endpoint a g.client.endpoint g.server.endpoint → Made act h g
made_event act h g e n a is learns of call not same acts = record { events = e ∷ []; answers = a ∷ []; comes = IsEvent is learns; moves = ActsSo of call not same acts }

-- no event
made_none : (act : Act) (h g : Handles) → StaysAt h.client g.client → StaysAt h.server g.server → KeepsFlow h g → Comes act h g [] [] → Made act h g
made_none act h g client server same comes = record { events = []; answers = []; comes = comes; moves = StaysSo client server same }

made_at : (act : Act) (side : Side) (h g : Handles) → StaysAt (handle_at h side) (handle_at g side) → handle_at g (other side) ≡ handle_at h (other side) → KeepsFlow h g → Comes act h g [] [] → Made act h g
made_at act Client h g here there same comes = made_none act h g here (stays_same h.server g.server there) same comes
made_at act Server h g here there same comes = made_none act h g (stays_same h.client g.client there) here same comes

handles_are : (h g : Handles) → g.client ≡ h.client → g.server ≡ h.server → KeepsFlow h g → g ≡ h
handles_are h g client server same =
    ap (λ v. let x : Handles = record { client = v; server = g.server; carried = g.carried; owed = g.owed } in x) client
    ∙ ap (λ v. let x : Handles = record { client = h.client; server = v; carried = g.carried; owed = g.owed } in x) server
    ∙ ap (λ c. let x : Handles = record { client = h.client; server = h.server; carried = c; owed = g.owed } in x) same.0
    ∙ ap (λ c. let x : Handles = record { client = h.client; server = h.server; carried = h.carried; owed = c } in x) same.1

same_handles : (side : Side) (h g : Handles) → handle_at g side ≡ handle_at h side → handle_at g (other side) ≡ handle_at h (other side) → KeepsFlow h g → g ≡ h
same_handles Client h g here there same = handles_are h g here there same
same_handles Server h g here there same = handles_are h g there here same

by_side : (side : Side) (calls : EndpointState → EndpointState → Answer → Type 0) (h g : Handles) (a : Answer) → calls (handle_at h side).endpoint (handle_at g side).endpoint a → handle_at g (other side) ≡ handle_at h (other side)
    → ByOne side calls h.client.endpoint h.server.endpoint a g.client.endpoint g.server.endpoint
by_side Client calls h g a called there = (called, ap (λ (v : Seen). v.endpoint) there)
by_side Server calls h g a called there = (called, ap (λ (v : Seen). v.endpoint) there)

-- what numbers tell
call_tells : (n : Told) (r : Result Unit Refusal) → n ≡ call_told r → Tells answer.Done n (done_answer r)
call_tells n (Ok done) is = (is, refl)
call_tells n (Err r) is = is

body_tells : (n : Told) (r : Result Unit (Refusal × List ℕ)) → n ≡ body_told r → Tells answer.Done n (body_answer r)
body_tells n (Ok done) is = (is, refl)
body_tells n (Err (r, bytes)) is = is

opened_tells : (v w : Seen) (before id : ℕ) (n : Told) (o : OpensRequest n v w before id) → Tells (answer.Opened id) n (opened_answer o.calls.answer)
opened_tells v w before id n o = by o.calls.answer o.calls.is (λ opened is. o.calls.done.id opened is)
  where
    by : (r : Result ℕ Refusal) → n ≡ call_told r → ((opened : ℕ) → r ≡ Ok opened → opened ≡ v.endpoint.next_id) → Tells (answer.Opened id) n (opened_answer r)
    by (Ok opened) is next = (is, ap answer.Opened (next opened refl ∙ sym (o.id_is is)))
    by (Err r) is next = is

sent_tells : (w : Seen) (cut : Option (List Field)) (fields : List Field) (n : Told) (does : Result Unit Refusal → Type 0) (v : Seen) → cut ≡ Some fields → (c : CallsList fields n v w does)
    → TellsSent w.endpoint.announced.choices cut n (done_answer c.answer)
sent_tells w cut fields n does v is c = subst (λ o. TellsSent w.endpoint.announced.choices o n (done_answer c.answer)) (sym is) (by c.answer c.is)
  where
    by : (r : Result Unit Refusal) → TellsList r w.endpoint.announced.choices fields n → TellsSent w.endpoint.announced.choices (Some fields) n (done_answer r)
    by (Ok done) tells = (tells, refl)
    by (Err r) tells = tells

-- a pull
pub listed_pulls : (id : ℕ) (n : Told) (v w : Seen) (item : PulledItem) → Pulls id n v w item → PullsList v.endpoint w.endpoint id w.last
listed_pulls id n v w item k =
    record { pulls = k.pulled; list = k.list }

-- The calls whose events are told by what the endpoint stands for.
pub data ByHistory : CallOfC → Type 0 where
  OpensUpToOf : (id : ℕ) (n : Told) → ByHistory (call.OpenRequestAt id n)
  ClosesBoth : (id stop_before stop reset_before reset : ℕ) (n : Told) → ByHistory (call.CloseStream id stop_before stop reset_before reset n)
  GivesNoticeOf : (n : Told) → ByHistory (call.ShutdownNotice n)
  ShutsDownOf : (n : Told) → ByHistory (call.Shutdown n)

-- a reset of a stream that was sent to its end
abbrev is_over : Answer → Bool
is_over (answer.Refused refusal.Ended) = true
is_over _ = false

ended_or_not : (r : Refusal) → (r ≡ refusal.Ended) ⊎ (is_over (answer.Refused r) ≡ false)
ended_or_not (refusal.Closed code) = inr refl
ended_or_not (refusal.Connection code) = inr refl
ended_or_not refusal.NotReceiving = inr refl
ended_or_not refusal.AfterEnd = inr refl
ended_or_not refusal.Kept = inr refl
ended_or_not refusal.NotClient = inr refl
ended_or_not (refusal.GoingAway id) = inr refl
ended_or_not refusal.IdsUsedUp = inr refl
ended_or_not refusal.NotOpen = inr refl
ended_or_not refusal.OutOfOrder = inr refl
ended_or_not refusal.WrongSide = inr refl
ended_or_not refusal.PseudoInTrailer = inr refl
ended_or_not (refusal.Malformed why) = inr refl
ended_or_not (refusal.TooLarge size) = inr refl
ended_or_not refusal.Critical = inr refl
ended_or_not refusal.Ended = inl refl
ended_or_not refusal.NotRequestId = inr refl
ended_or_not (refusal.Raised id) = inr refl
ended_or_not refusal.OutOfMemory = inr refl

not_over : (a : Answer) → is_over a ≡ false → a ≢ answer.Refused refusal.Ended
not_over a differs is = absurd (let never : true ≡ false = sym (ap is_over is) ∙ differs in cc)

module _ (side : Side) (h g : Handles) (there : handle_at g (other side) ≡ handle_at h (other side)) (same : KeepsFlow h g) where
  abbrev HasNoEvent : CallOfC → Type 0
  HasNoEvent c = (event_of (Call side c) ≡ None) × (are_events (Call side c) ≡ false) × WritesNone (Call side c) h g

  quiet : (c : CallOfC) → HasNoEvent c → StaysAt (handle_at h side) (handle_at g side) → Made (Call side c) h g
  quiet c none stays = made_at (Call side c) side h g stays there same (HasNone none.1 none.0 none.2)

  looks_at : (c : CallOfC) → HasNoEvent c → handle_at g side ≡ handle_at h side → Made (Call side c) h g
  looks_at c none is = quiet c none (stays_same (handle_at h side) (handle_at g side) is)

  -- of what it owns another part alone is another one
  looks : (c : CallOfC) → HasNoEvent c → (handle_at g side).endpoint ≡ (handle_at h side).endpoint → Made (Call side c) h g
  looks c none is = quiet c none (λ e stands. record { after = e; stands = subst (λ s. StandsFor s e) (sym is) stands; same = refl })

  refused : (c : CallOfC) (e : Event) (n : Told) → event_of (Call side c) ≡ Some (e, n) → (n ≡ argument) × (handle_at g side ≡ handle_at h side) → Made (Call side c) h g
  refused c e n is r = made_at (Call side c) side h g (stays_same (handle_at h side) (handle_at g side) r.1) there same (IsRefused is (inl r.0))

  -- a call that answers whether it was done
  calls : (c : CallOfC) (e : Event) (n : Told) (id : ℕ) (does : EndpointState → EndpointState → Result Unit Refusal → Type 0) → event_of (Call side c) ≡ Some (e, n) → (id < 2 ^ 62 → IsOfC e) → IsCall e → ((a : Answer) → NotEnded e a)
      → ((a : Answer) → Tells answer.Done n a → LearnsOf (Call side c) g a)
      → ((a : Answer) → ByOne side (TellsCall done_answer does) h.client.endpoint h.server.endpoint a g.client.endpoint g.server.endpoint → Acts e h.client.endpoint h.server.endpoint a g.client.endpoint g.server.endpoint)
      → CallsOn call_told id n (handle_at h side) (handle_at g side) (λ r. does (handle_at h side).endpoint (handle_at g side).endpoint r) → Made (Call side c) h g
  calls c e n id does is of call not learns acts on = elim (below_or_not id (2 ^ 62)) [
    | inl below ↦ (let k = on.known below in
        let one = by_side side (TellsCall done_answer does) h g (done_answer k.answer) (record { result = k.answer; given_is = refl; called = k.done }) there in
        made_event (Call side c) h g e n (done_answer k.answer) is (learns (done_answer k.answer) (call_tells n k.answer k.is)) (of below) call (not (done_answer k.answer)) same (acts (done_answer k.answer) one))
    | inr above ↦ refused c e n is (on.unknown above)
  ]

  -- a list
  sends : (c : CallOfC) (e : List Field → Event) (n : Told) (id : ℕ) (cut : Option (List Field)) (place : EndpointHistory → Option Refusal) (does : List Field → EndpointState → EndpointState → Result Unit Refusal → Type 0)
      → event_of (Call side c) ≡ option_map (λ fields. (e fields, n)) cut → (are_events (Call side c) ≡ false) × WritesNone (Call side c) h g
      → ((fields : List Field) → (is_list (e fields) ≡ true) × (cut ≡ Some fields → IsOfC (e fields)) × IsCall (e fields) × ((a : Answer) → NotEnded (e fields) a))
      → ((a : Answer) → TellsSent (handle_at g side).endpoint.announced.choices cut n a → LearnsOf (Call side c) g a)
      → ((fields : List Field) (a : Answer) → ByOne side (TellsCall done_answer (does fields)) h.client.endpoint h.server.endpoint a g.client.endpoint g.server.endpoint → Acts (e fields) h.client.endpoint h.server.endpoint a g.client.endpoint g.server.endpoint)
      → OnStream id n (handle_at h side) (handle_at g side) (SendsCut cut place n (handle_at h side) (handle_at g side) (λ fields r. does fields (handle_at h side).endpoint (handle_at g side).endpoint r)) → Made (Call side c) h g
  sends c e n id None place does is none list learns acts on = elim (below_or_not id (2 ^ 62)) [
    | inl below ↦ looks_at c (is, none.0, none.1) (on.known below).1
    | inr above ↦ looks_at c (is, none.0, none.1) (on.unknown above).1
  ]
  sends c e n id (Some fields) place does is none list learns acts on = elim (below_or_not id (2 ^ 62)) [
    | inl below ↦ by (on.known below)
    | inr above ↦ refused c (e fields) n is (on.unknown above)
  ]
    where
      by : LacksList place fields n (handle_at h side) (handle_at g side) ⊎ CallsList fields n (handle_at h side) (handle_at g side) (λ r. does fields (handle_at h side).endpoint (handle_at g side).endpoint r) → Made (Call side c) h g
      by (inl lacks) = made_at (Call side c) side h g (stays_same (handle_at h side) (handle_at g side) lacks.same) there same (NoList is (list fields).0 lacks.told (same_handles side h g lacks.same there same))
      by (inr k) =
          let one = by_side side (TellsCall done_answer (does fields)) h g (done_answer k.answer) (record { result = k.answer; given_is = refl; called = k.done }) there in
          made_event (Call side c) h g (e fields) n (done_answer k.answer) is
          (learns (done_answer k.answer) (sent_tells (handle_at g side) (Some fields) fields n _ (handle_at h side) refl k)) ((list fields).1 refl) (list fields).2 ((list fields).3 (done_answer k.answer)) same (acts fields (done_answer k.answer) one)

  opens : (before id : ℕ) (n : Told) → Does (call.OpenRequest before id n) (handle_at h side) (handle_at g side) → Made (Call side (call.OpenRequest before id n)) h g
  opens before id n o =
      let a = opened_answer o.calls.answer in
      made_event (Call side (call.OpenRequest before id n)) h g (event.OpenRequest side) n a refl (opened_tells (handle_at h side) (handle_at g side) before id n o) tt tt tt same
      (by_side side (TellsCall opened_answer Opens) h g a (record { result = o.calls.answer; given_is = refl; called = o.calls.done }) there)

  sends_body : (id : ℕ) (bytes : List ℕ) (n : Told) → AreBytes bytes → Does (call.SendBody id bytes n) (handle_at h side) (handle_at g side) → Made (Call side (call.SendBody id bytes n)) h g
  sends_body id bytes n all on = elim (below_or_not id (2 ^ 62)) [
    | inl below ↦ (let k = on.known below in
        let a = body_answer k.answer in
        made_event (Call side (call.SendBody id bytes n)) h g (event.Body side id bytes) n a refl (body_tells n k.answer k.is) all tt tt same
        (by_side side (SendsShared id bytes) h g a (inl (record { result = k.answer; given_is = refl; called = k.done })) there))
    | inr above ↦ refused (call.SendBody id bytes n) (event.Body side id bytes) n refl (on.unknown above)
  ]

  resets : (id : ℕ) (n : Told) → Does (call.Reset id n) (handle_at h side) (handle_at g side) → Made (Call side (call.Reset id n)) h g
  resets id n on = elim (below_or_not id (2 ^ 62)) [
    | inl below ↦ (let k = on.known below in by k.answer k.is k.done)
    | inr above ↦ refused (call.Reset id n) (event.Reset side id) n refl (on.unknown above)
  ]
    where
      done : (r : Result Unit Refusal) → n ≡ call_told r → is_over (done_answer r) ≡ false → Resets (handle_at h side).endpoint (handle_at g side).endpoint id r → Made (Call side (call.Reset id n)) h g
      done r told differs resets =
          made_event (Call side (call.Reset id n)) h g (event.Reset side id) n (done_answer r) refl (call_tells n r told) tt tt (not_over (done_answer r) differs) same
          (by_side side (TellsCall done_answer (λ s t r. Resets s t id r)) h g (done_answer r) (record { result = r; given_is = refl; called = resets }) there)

      refuses : (r : Refusal) → n ≡ refusal_told r → Resets (handle_at h side).endpoint (handle_at g side).endpoint id (Err r) → (r ≡ refusal.Ended) ⊎ (is_over (answer.Refused r) ≡ false) → Made (Call side (call.Reset id n)) h g
      refuses r told resets (inl ended) =
          made_at (Call side (call.Reset id n)) side h g
          (λ e stands. record { after = e; stands = stands_unchanged (handle_at h side).endpoint (handle_at g side).endpoint e (resets.same (λ is. absurd (let never : Some r ≡ None = is in cc))) stands; same = refl })
          there same (IsOver refl (told ∙ ap refusal_told ended))
      refuses r told resets (inr differs) = done (Err r) told differs resets

      by : (r : Result Unit Refusal) → n ≡ call_told r → Resets (handle_at h side).endpoint (handle_at g side).endpoint id r → Made (Call side (call.Reset id n)) h g
      by (Ok success) told resets = done (Ok success) told refl resets
      by (Err r) told resets = refuses r told resets (ended_or_not r)

  pulls : (id : ℕ) (before item : PulledItem) (n : Told) → Does (call.Pull id before item n) (handle_at h side) (handle_at g side) → Made (Call side (call.Pull id before item n)) h g
  pulls id before item n on = elim (below_or_not id (2 ^ 62)) [
    | inl below ↦ (let k = on.0.known below in
        let last = (handle_at g side).last in
        let a = answer.Listed last in
        let one = listed_pulls id n (handle_at h side) (handle_at g side) item k in
        made_event (Call side (call.Pull id before item n)) h g (event.PullFields side id) n a refl (k.done, k.given_so, refl) tt tt tt same
        (by_side side (TellsCall answer.Listed (λ s t l. PullsList s t id l)) h g a (record { result = last; given_is = refl; called = one }) there))
    | inr above ↦ refused (call.Pull id before item n) (event.PullFields side id) n refl (on.0.unknown above)
  ]

  -- what goes first
  done_so : (c : CallOfC) (n : Told) (act : EndpointHistory → Option Refusal × EndpointHistory) → HasNoEvent c → ((e : EndpointHistory) → (act e).0 ≡ None → unordered (act e).1 ≡ unordered e)
      → Calls call_told n (handle_at h side) (handle_at g side) (λ (r : Result Unit Refusal). DoesOrRefuses act (handle_at h side).endpoint (handle_at g side).endpoint (call_refused r)) → Made (Call side c) h g
  done_so c n act none alike k = quiet c none (does_same act (handle_at h side).endpoint (handle_at g side).endpoint (call_refused k.answer) k.done alike)

  prioritizes : (c : CallOfC) → HasNoEvent c → (id urgency incremental : ℕ) (n : Told) (act : PriorityParameters → EndpointHistory → Option Refusal × EndpointHistory)
      → ((p : PriorityParameters) (e : EndpointHistory) → (act p e).0 ≡ None → unordered (act p e).1 ≡ unordered e)
      → OnStream id n (handle_at h side) (handle_at g side) (IfGiven (priority_given urgency incremental) n (handle_at h side) (handle_at g side)
      (λ p. Calls call_told n (handle_at h side) (handle_at g side) (λ (r : Result Unit Refusal). DoesOrRefuses (act p) (handle_at h side).endpoint (handle_at g side).endpoint (call_refused r)))) → Made (Call side c) h g
  prioritizes c none id urgency incremental n act alike on = elim (below_or_not id (2 ^ 62)) [
    | inl below ↦ by (priority_given urgency incremental) (on.known below)
    | inr above ↦ looks_at c none (on.unknown above).1
  ]
    where
      by : (o : Option PriorityParameters) → IfGiven o n (handle_at h side) (handle_at g side) (λ p. Calls call_told n (handle_at h side) (handle_at g side) (λ (r : Result Unit Refusal). DoesOrRefuses (act p) (handle_at h side).endpoint (handle_at g side).endpoint (call_refused r))) → Made (Call side c) h g
      by None given = looks_at c none given.1
      by (Some p) k = done_so c n (act p) none (alike p) k

  holds : (id held : ℕ) (n : Told) → Does (call.Hold id held n) (handle_at h side) (handle_at g side) → Made (Call side (call.Hold id held n)) h g
  holds id held n on = elim (below_or_not id (2 ^ 62)) [
    | inl below ↦ by (flag_given held) (on.known below)
    | inr above ↦ looks_at (call.Hold id held n) (refl, refl, tt) (on.unknown above).1
  ]
    where
      by : (o : Option Bool) → IfGiven o n (handle_at h side) (handle_at g side) (λ is. Calls call_told n (handle_at h side) (handle_at g side) (λ r. Holds (handle_at h side).endpoint (handle_at g side).endpoint id is r)) → Made (Call side (call.Hold id held n)) h g
      by None given = looks_at (call.Hold id held n) (refl, refl, tt) given.1
      by (Some is) k = done_so (call.Hold id held n) n (λ e. hold e id is) (refl, refl, tt) (hold_same id is) k

  -- QUIC took a FIN
  ends : (id : ℕ) (n : Told) → Does (call.EndTaken id n) (handle_at h side) (handle_at g side) → Made (Call side (call.EndTaken id n)) h g
  ends id n on = elim (below_or_not id (2 ^ 62)) [
    | inl below ↦ (let k = on.known below in quiet (call.EndTaken id n) (refl, refl, tt) (λ e stands. record { after = (end_taken e id).1; stands = (k.taken e stands).1; same = end_taken_same e id }))
    | inr above ↦ looks_at (call.EndTaken id n) (refl, refl, tt) (on.unknown above).1
  ]

  -- which stream sends next, by what the peer's frames said up to then
  sends_next : (before id : ℕ) (n : Told) → Does (call.NextByPriority before id n) (handle_at h side) (handle_at g side) → Made (Call side (call.NextByPriority before id n)) h g
  sends_next before id n d =
      let uses : UsesUpdates (handle_at h side).endpoint (handle_at g side).endpoint = elim (d.1) [ inl x ↦ x.1.uses | inr x ↦ x.1.uses ] in
      quiet (call.NextByPriority before id n) (refl, refl, tt) (λ e stands. record { after = use_updates e uses.count; stands = uses.stands e stands; same = updates_same e uses.count })

  -- a datagram that came, and closes nothing
  reads_datagram : (bytes : List ℕ) (id_before id from_before from : ℕ) (n : Told) → is_left_out (call.ReadDatagram bytes id_before id from_before from n) (handle_at h side) ≡ false
      → Does (call.ReadDatagram bytes id_before id from_before from n) (handle_at h side) (handle_at g side) → Made (Call side (call.ReadDatagram bytes id_before id from_before from n)) h g
  reads_datagram bytes id_before id from_before from n out d =
      quiet (call.ReadDatagram bytes id_before id from_before from n) (refl, refl, tt) (λ e stands.
      let x = d.done e stands in
      let number = ap (λ (t : Told × ℕ × ℕ). t.0.number == 2) d.is ∙ fault_told d.answer id_before from_before ∙ ap is_fault x.0 in
      let stays = sym (ap (λ b. is_none e.closed && b) number) ∙ sym (ap (λ c. is_none c && (n.number == 2)) stands.closed) ∙ out in
      record { after = (read_datagram e bytes).1; stands = x.1; same = ap unordered (datagram_same e bytes stays) })

  never : {P : Type 0} → true ≡ false → P
  never h = absurd (cc)

  pub call_made : (c : CallOfC) → is_left_out c (handle_at h side) ≡ false → GivesBytes c → Does c (handle_at h side) (handle_at g side) → Made (Call side c) h g ⊎ ByHistory c
  call_made (call.OpenRequest before id n) out given d = inl (opens before id n d)
  call_made (call.NextRequestId before id n) out given d = inl (looks_at _ (refl, refl, tt) d.0)
  call_made (call.OpenRequestAt id n) out given d = inr (OpensUpToOf id n)
  call_made (call.SendHead id sizes flags bytes n) out given d = inl (sends (call.SendHead id sizes flags bytes n) (λ fields. event.Fields side id fields) n id (fields_given sizes flags bytes) (λ e. place_refusal e id) (λ fields s t r. SendsFieldList s t id fields r) refl (refl, tt) (λ fields. (refl, λ is. given_bytes sizes flags bytes fields given is, tt, λ a. tt)) (λ a tells. tells) (λ fields a acts. acts) d)
  call_made (call.SendTrailer id sizes flags bytes n) out given d = inl (sends (call.SendTrailer id sizes flags bytes n) (λ fields. event.TrailerFields side id fields) n id (fields_given sizes flags bytes) (λ e. order_refusal e id) (λ fields s t r. SendsTrailerList s t id fields r) refl (refl, tt) (λ fields. (refl, λ is. given_bytes sizes flags bytes fields given is, tt, λ a. tt)) (λ a tells. tells) (λ fields a acts. acts) d)
  call_made (call.SendBody id bytes n) out given d = inl (sends_body id bytes n given d)
  call_made (call.SendBodyOf id len n) out given d = inl (never out)
  call_made (call.Finish id n) out given d = inl (calls (call.Finish id n) (event.Finish side id) n id (λ s t r. Finishes s t id r) refl (λ below. tt) tt (λ a. tt) (λ a tells. tells) (λ a acts. acts) d)
  call_made (call.Reset id n) out given d = inl (resets id n d)
  call_made (call.Cancel id n) out given d = inl (calls (call.Cancel id n) (event.Cancel side id) n id (λ s t r. Cancels s t id r) refl (λ below. tt) tt (λ a. tt) (λ a tells. tells) (λ a acts. acts) d)
  call_made (call.CloseStream id stop_before stop reset_before reset n) out given d = inr (ClosesBoth id stop_before stop reset_before reset n)
  call_made (call.Goaway id n) out given d = inl (calls (call.Goaway id n) (event.Goaway side id) n id (λ s t r. GoesAway s t id r) refl (λ below. below) tt (λ a. tt) (λ a tells. tells) (λ a acts. acts) d)
  call_made (call.ShutdownNotice n) out given d = inr (GivesNoticeOf n)
  call_made (call.Shutdown n) out given d = inr (ShutsDownOf n)
  call_made (call.FirstUnseen id n) out given d = inl (looks_at _ (refl, refl, tt) d.0)
  call_made (call.IsDrained drained n) out given d = inl (looks_at _ (refl, refl, tt) d.0)
  call_made (call.NextToSend from before id n) out given d = inl (looks_at _ (refl, refl, tt) d.0)
  call_made (call.NextByPriority before id n) out given d = inl (sends_next before id n d)
  call_made (call.SetPriority id urgency incremental n) out given d = inl (prioritizes (call.SetPriority id urgency incremental n) (refl, refl, tt) id urgency incremental n (λ p e. set_priority e id p) (λ p. set_priority_same id p) d)
  call_made (call.SetInitialPriority id urgency incremental n) out given d = inl (prioritizes (call.SetInitialPriority id urgency incremental n) (refl, refl, tt) id urgency incremental n (λ p e. set_initial_priority e id p) (λ p. set_initial_same id p) d)
  call_made (call.SendPriority id urgency incremental n) out given d = inl (never out)
  call_made (call.PriorityOf id urgency_before urgency incremental_before incremental n) out given d = inl (looks_at _ (refl, refl, tt) d.0)
  call_made (call.Hold id held n) out given d = inl (holds id held n d)
  call_made (call.Outgoing id before buffer count_before count past_before past fin_before fin n) out given d = inl (looks_at _ (refl, refl, tt) d.0)
  call_made (call.Advance id count n) out given d = inl (never out)
  call_made (call.EndTaken id n) out given d = inl (ends id n d)
  call_made (call.Read id bytes fin used before item n) out given d = inl (never out)
  call_made (call.Deliver id bytes n) out given d = inl (never out)
  call_made (call.DeliverEnd id n) out given d = inl (never out)
  call_made (call.DeliverReset id code n) out given d = inl (never out)
  call_made (call.Pull id before item n) out given d = inl (pulls id before item n d)
  call_made (call.NextUnblocked from before id n) out given d = inl (looks_at _ (refl, refl, tt) d.0)
  call_made (call.ItemFields sizes_before sizes flags_before flags before bytes n) out given d = inl (looks_at _ (refl, refl, tt) d.0)
  call_made (call.ItemBytes from before buffer count_before count n) out given d = inl (looks_at _ (refl, refl, tt) d.0)
  call_made (call.DatagramHead id before buffer count_before count n) out given d = inl (looks_at _ (refl, refl, tt) d.0)
  call_made (call.ReadDatagram bytes id_before id from_before from n) out given d = inl (reads_datagram bytes id_before id from_before from n out d)
  call_made (call.Stream id before state n) out given d = inl (looks_at _ (refl, refl, tt) d.0)
  call_made (call.FrameLeft id before left n) out given d = inl (looks_at _ (refl, refl, tt) d.0)
  call_made (call.StreamKind id before kind n) out given d = inl (looks_at _ (refl, refl, tt) d.0)
  call_made (call.OtherType id before number n) out given d = inl (looks_at _ (refl, refl, tt) d.0)
  call_made (call.Connection state n) out given d = inl (looks_at _ (refl, refl, tt) d.0)
  call_made (call.NextEvent kind_before kind number_before number n) out given d = inl (looks _ (refl, refl, tt) (ap (λ (v : Seen). v.endpoint) d.rest))
  call_made (call.PeerSetting setting before value n) out given d = inl (looks_at _ (refl, refl, tt) d.0)
  call_made (call.RememberSettings before buffer count_before count n) out given d = inl (looks_at _ (refl, refl, tt) d.0)
  call_made (call.SettingsKept bytes before kept n) out given d = inl (looks_at _ (refl, refl, tt) d.0)
