-- What two handles are after something happened, and what that is to a schedule.
use Rattle.std.proofs.Common.{arith, ◌≡◌, ◌≢◌, ◌≤◌, ℕ, ◌-◌, Bool, true, false, if◌then◌else◌, List, [], ◌∷◌, ◌++◌, length, drop, refl, sym, ap, subst, ◌∙◌, Option, Some, None, length-drop}
use Rattle.std.specs.Prelude.{◌==◌, ◌&&◌, ◌||◌}
use Rattle.std.proofs.lemmas.Grind.{common_steps}
use Rattle.h3_proto.specs.declared.stream.Side.{Side}
use Rattle.h3_proto.specs.declared.stream.Side.TheVariants.{Client, Server}
use Rattle.h3_connection.specs.Endpoint.{EndpointHistory, is_critical_id}
use Rattle.h3_connection.specs.Outgoing.{is_sent_off}
use Rattle.h3_connection.specs.Refusals.{refusal_to_stop}
use Rattle.h3_connection.specs.Sending.{closed_or, does, is_open, outgoing_at, reset, reset_refusal}
use Rattle.h3_connection.specs.State.{EndpointState, StandsFor}
use Rattle.h3_connection.specs.declared.event.Refusal.{Refusal}
use Rattle.h3_connection.specs.declared.event.Refusal.TheVariants as refusal
use Rattle.h3_world.specs.Ends.{Ends, end_at}
use Rattle.h3_world.specs.Headline.{is_out_of_memory}
use Rattle.h3_world.specs.declared.event.Answer.{Answer}
use Rattle.h3_world.specs.declared.event.Answer.TheVariants as answer
use Rattle.h3_world.specs.declared.event.Event.{Event}
use Rattle.h3_world.specs.declared.event.Event.TheVariants as event
use Rattle.h3_memory.specs.Refused.{AnswerOf, EndsRun, EndsStep}
use Rattle.h3_session.specs.Acting.{Acts, RunsByCalls}
use Rattle.h3_session.specs.Running.{answer_of}
use Rattle.h3_c.specs.Programs.{Handles}
use Rattle.h3_c.specs.Seen.{Seen}
use Rattle.h3_c.proofs.Comings.{done_is}
use Rattle.h3_c.proofs.Filling.{parts_as_long}
use Rattle.h3_c.proofs.Flights.{Carries, carries_grown, filled_text, keeps_lagging, lagging, stays_grows, stays_seen}
use Rattle.h3_c.proofs.Grows.{part_bytes}
use Rattle.h3_c.proofs.QuietCalls.{Stays}
use Rattle.h3_c.proofs.SendsGrow.{Stood, step_grows}
use Rattle.h3_c.proofs.Unordered.{unordered}
use Rattle.h3_c.proofs.ViewsMemory.{step_seen}
use Rattle.h3_c.proofs.ViewsSending.{sent_off_seen, stop_seen}
use Rattle.h3_c.proofs.ViewsSteps.{AreOfC, IsCall, IsOfC, KeepBoth, ResetsAlike, Views, both_seen}
use Rattle.h3_c.proofs.Views.{seen}

abbrev pub StaysAt : Seen → Seen → Type 0
StaysAt v w = (e : EndpointHistory) → StandsFor v.endpoint e → Stays w.endpoint e

pub stays_same : (v w : Seen) → w ≡ v → StaysAt v w
stays_same v w same e h = record { after = e; stands = subst (λ (x : Seen). StandsFor x.endpoint e) (sym same) h; same = refl }

-- Both handles stand for ends, of whose streams this is carried.
pub record Stand (h : Handles) (ends : Ends) : Type 0 where
  pub client : StandsFor h.client.endpoint ends.client
  pub server : StandsFor h.server.endpoint ends.server
  -- all that was announced of each stream
  pub said : Side → ℕ → List ℕ
  pub client_carries : Carries Client (h.carried Client) (said Client) (h.owed Client) ends.client
  pub server_carries : Carries Server (h.carried Server) (said Server) (h.owed Server) ends.server

-- as a schedule sees both ends
abbrev pub views_of : (carried said : Side → ℕ → List ℕ) → Views
views_of carried said = record { client = lagging Client (carried Client) (said Client); server = lagging Server (carried Server) (said Server) }

pub keep_lagging : (carried said : Side → ℕ → List ℕ) → KeepBoth (views_of carried said)
keep_lagging carried said = record { client = keeps_lagging Client (carried Client) (said Client); server = keeps_lagging Server (carried Server) (said Server) }

pub stood : {h : Handles} {ends : Ends} → Stand h ends → (side : Side) → Stood (end_at ends side)
stood {h = h} stand Client =
    record { state = h.client.endpoint; stands = stand.client; side = Client; carried = h.carried Client; said = stand.said Client; owed = h.owed Client; carries = stand.client_carries }
stood {h = h} stand Server =
    record { state = h.server.endpoint; stands = stand.server; side = Server; carried = h.carried Server; said = stand.said Server; owed = h.owed Server; carries = stand.server_carries }

-- What was answered is a run to a schedule, and the handles stand for ends then.
pub record Left (ends : Ends) (h g : Handles) (said : Side → ℕ → List ℕ) (events : List Event) (answers : List Answer) : Type 0 where
  pub new : Ends
  pub of : AreOfC events
  pub stand : Stand g new
  pub run : EndsRun (both_seen (views_of h.carried said) ends) events answers (both_seen (views_of g.carried stand.said) new)

-- nothing is taken, given or announced
abbrev pub KeepsFlow : Handles → Handles → Type 0
KeepsFlow h g = (g.carried ≡ h.carried) × (g.owed ≡ h.owed)

-- not a reset of a stream that was sent to its end
abbrev pub NotEnded : Event → Answer → Type 0
NotEnded (event.Reset side id) a = a ≢ answer.Refused refusal.Ended
NotEnded _ a = Unit {0}

-- One side answered this event by the call that it names; or nothing of which a schedule speaks has changed; or some, whatever they stood for; or one
-- behind the other.
pub data Moves : Handles → Handles → List Event → List Answer → Type 0 where
  ActsSo : {h g : Handles} {e : Event} {a : Answer} → IsOfC e → IsCall e → NotEnded e a → KeepsFlow h g → Acts e h.client.endpoint h.server.endpoint a g.client.endpoint g.server.endpoint → Moves h g (e ∷ []) (a ∷ [])
  LeavesSo : {h g : Handles} {events : List Event} {answers : List Answer} → ((ends : Ends) (stand : Stand h ends) → Left ends h g stand.said events answers) → Moves h g events answers
  StaysSo : {h g : Handles} → StaysAt h.client g.client → StaysAt h.server g.server → KeepsFlow h g → Moves h g [] []
  ThenSo : {h mid g : Handles} {first events : List Event} {given answers : List Answer} → Moves h mid first given → Moves mid g events answers → Moves h g (first ++ events) (given ++ answers)

-- runs one after another
pub run_on : (first events : List Event) (given answers : List Answer) (old mid new : Ends) → EndsRun old first given mid → EndsRun mid events answers new → EndsRun old (first ++ events) (given ++ answers) new
run_on [] events [] answers old mid new a b = subst (λ x. EndsRun x events answers new) a b
run_on (e ∷ first) events (a ∷ given) answers old mid new (next, step, rest) b = (next, step, run_on first events given answers next mid new rest b)
run_on [] events (a ∷ given) answers old mid new x b = absurd x
run_on (e ∷ first) events [] answers old mid new x b = absurd x

pub of_both : (first events : List Event) → AreOfC first → AreOfC events → AreOfC (first ++ events)
of_both [] events one two = two
of_both (e ∷ first) events one two = (one.0, of_both first events one.1 two)

pub left_then : (ends : Ends) (h mid g : Handles) (said : Side → ℕ → List ℕ) (first events : List Event) (given answers : List Answer) (one : Left ends h mid said first given) → Left one.new mid g one.stand.said events answers
    → Left ends h g said (first ++ events) (given ++ answers)
left_then ends h mid g said first events given answers one two = record {
  new = two.new;
  of = of_both first events one.of two.of;
  stand = two.stand;
  run = run_on first events given answers (both_seen (views_of h.carried said) ends) (both_seen (views_of mid.carried one.stand.said) one.new) (both_seen (views_of g.carried two.stand.said) two.new) one.run two.run;
}

-- A reset is answered alike, unless the stream was sent to its end.
alike_if : (closed : Option ℕ) (critical there over : Bool) → closed_or closed (refusal_to_stop critical there true) ≢ Some refusal.Ended → closed_or closed (refusal_to_stop critical there over) ≡ closed_or closed (refusal_to_stop critical there true)
alike_if (Some code) critical there over not = refl
alike_if None true there over not = refl
alike_if None false false over not = refl
alike_if None false true over not = absurd (not refl)

longer_waits : (finished : Bool) (m n : ℕ) → m ≤ n → (finished && (m == 0)) ≡ false → (finished && (n == 0)) ≡ false
longer_waits false m n few h = refl
longer_waits true m n few h = grind (arith, common_steps, few, h)

still_waits : (is_reset finished : Bool) (xs ys : List ℕ) → length xs ≤ length ys → (is_reset || (finished && (length (if is_reset then [] else xs) == 0))) ≡ false → (is_reset || (finished && (length (if is_reset then [] else ys) == 0))) ≡ false
still_waits true finished xs ys few h = h
still_waits false finished xs ys few h = longer_waits finished (length xs) (length ys) few h

fewer_dropped : (n k : ℕ) (xs ys : List ℕ) → length ys ≡ length xs → length (drop n xs) ≤ length (drop (n - k) ys)
fewer_dropped n k xs ys as_long = let one = length-drop n xs in let two = length-drop (n - k) ys in omega (arith, one, two, as_long)

lags_alike : (side : Side) (carried said : ℕ → List ℕ) (e : EndpointHistory) (id : ℕ) → reset_refusal e id ≢ Some refusal.Ended → reset_refusal (seen (lagging side carried said) e) id ≡ reset_refusal e id
lags_alike side carried said e id not = by (is_sent_off (outgoing_at e id)) refl
  where
    by : (b : Bool) → is_sent_off (outgoing_at e id) ≡ b → reset_refusal (seen (lagging side carried said) e) id ≡ reset_refusal e id
    by true over =
        let whole = ap (λ b. closed_or e.closed (refusal_to_stop (is_critical_id e id) (is_open e id) b)) over in
        let other = λ (b : Bool). alike_if e.closed (is_critical_id e id) (is_open e id) b (λ is. not (whole ∙ is)) in
        stop_seen (lagging side carried said) (keeps_lagging side carried said) e id ∙ other (is_sent_off ((lagging side carried said).out id (outgoing_at e id))) ∙ sym whole
    by false waits =
        sent_off_seen (lagging side carried said) (keeps_lagging side carried said) e id (still_waits (outgoing_at e id).is_reset (outgoing_at e id).is_finished _ _ (fewer_dropped (outgoing_at e id).taken (length (carried id)) (part_bytes (outgoing_at e id)) (filled_text (said id) (outgoing_at e id)) (parts_as_long (outgoing_at e id).parts (said id))) waits ∙ sym waits)

does_refusal : (r : Option Refusal) (e new : EndpointHistory) → (does r e new).0 ≡ r
does_refusal None e new = refl
does_refusal (Some r) e new = refl

reset_answer : (ends : Ends) (side : Side) (id : ℕ) (a : Answer) (new : Ends) → EndsStep ends (event.Reset side id) a new → a ≡ answer_of answer.Done (reset_refusal (end_at ends side) id)
reset_answer ends side id a new step = by (is_out_of_memory a) refl
  where
    by : (b : Bool) → is_out_of_memory a ≡ b → a ≡ answer_of answer.Done (reset_refusal (end_at ends side) id)
    by true is = absurd (subst (λ c. AnswerOf c ends (event.Reset side id) a new) is step)
    by false is =
        (subst (λ c. AnswerOf c ends (event.Reset side id) a new) is step).0 ∙ ap (λ x. x.0) (done_is ends side answer.Done (reset (end_at ends side) id))
        ∙ ap (λ r. answer_of answer.Done r) (does_refusal (reset_refusal (end_at ends side) id) (end_at ends side) _)

not_over : (a : Answer) (r : Option Refusal) → a ≡ answer_of answer.Done r → a ≢ answer.Refused refusal.Ended → r ≢ Some refusal.Ended
not_over a r is not over = not (is ∙ ap (λ x. answer_of answer.Done x) over)

pub resets_alike : (carried said : Side → ℕ → List ℕ) (ends new : Ends) (e : Event) (a : Answer) → NotEnded e a → EndsStep ends e a new → ResetsAlike e (views_of carried said) ends
resets_alike carried said ends new (event.Reset Client id) a not step = lags_alike Client (carried Client) (said Client) ends.client id (not_over a _ (reset_answer ends Client id a new step) not)
resets_alike carried said ends new (event.Reset Server id) a not step = lags_alike Server (carried Server) (said Server) ends.server id (not_over a _ (reset_answer ends Server id a new step) not)
resets_alike carried said ends new (event.OpenRequest side) a not step = tt
resets_alike carried said ends new (event.Head side id head) a not step = tt
resets_alike carried said ends new (event.Fields side id fields) a not step = tt
resets_alike carried said ends new (event.Body side id bytes) a not step = tt
resets_alike carried said ends new (event.Trailer side id trailer) a not step = tt
resets_alike carried said ends new (event.TrailerFields side id fields) a not step = tt
resets_alike carried said ends new (event.Finish side id) a not step = tt
resets_alike carried said ends new (event.Cancel side id) a not step = tt
resets_alike carried said ends new (event.Goaway side id) a not step = tt
resets_alike carried said ends new (event.Deliver side id count) a not step = tt
resets_alike carried said ends new (event.DeliverEnd side id) a not step = tt
resets_alike carried said ends new (event.DeliverReset side id) a not step = tt
resets_alike carried said ends new (event.Pull side id) a not step = tt
resets_alike carried said ends new (event.PullFields side id) a not step = tt
resets_alike carried said ends new (event.Show side) a not step = tt

-- A run to a schedule of which both sides carry on
pub run_left : (ends new : Ends) (h g : Handles) (said : Side → ℕ → List ℕ) (events : List Event) (answers : List Answer) → AreOfC events → EndsRun (both_seen (views_of h.carried said) ends) events answers (both_seen (views_of h.carried said) new)
    → Carries Client (h.carried Client) (said Client) (h.owed Client) new.client → Carries Server (h.carried Server) (said Server) (h.owed Server) new.server → KeepsFlow h g → StandsFor g.client.endpoint new.client
    → StandsFor g.server.endpoint new.server → Left ends h g said events answers
run_left ends new h g said events answers of run client_carries server_carries same client server =
    record {
      new = new;
      of = of;
      stand = record {
        client = client;
        server = server;
        said = said;
        client_carries = on_carries Client new.client client_carries;
        server_carries = on_carries Server new.server server_carries;
      };
      run = subst (λ c. EndsRun (both_seen (views_of h.carried said) ends) events answers (both_seen (views_of c said) new)) (sym same.0) run;
    }
  where
    on_carries : (side : Side) (e : EndpointHistory) → Carries side (h.carried side) (said side) (h.owed side) e → Carries side (g.carried side) (said side) (g.owed side) e
    on_carries side e k =
        subst (λ (o : Side → ℕ → List ℕ). Carries side (g.carried side) (said side) (o side) e) (sym same.1) (subst (λ (c : Side → ℕ → List ℕ). Carries side (c side) (said side) (h.owed side) e) (sym same.0) k)

-- **A step that one side makes is one to a schedule.**
pub step_left : (ends new : Ends) (h g : Handles) (e : Event) (a : Answer) → IsOfC e → IsCall e → NotEnded e a → KeepsFlow h g → (stand : Stand h ends) → EndsStep ends e a new
    → StandsFor g.client.endpoint new.client → StandsFor g.server.endpoint new.server → Left ends h g stand.said (e ∷ []) (a ∷ [])
step_left ends new h g e a of call not same stand step client server =
    let V = views_of h.carried stand.said in
    let seen_step = step_seen V (keep_lagging h.carried stand.said) ends new e a of call (resets_alike h.carried stand.said ends new e a not step) step in
    let grow = step_grows ends (stood stand) new e a of call step in
    run_left ends new h g stand.said (e ∷ []) (a ∷ []) (of, tt) (both_seen V new, seen_step, refl)
    (carries_grown Client (h.carried Client) (stand.said Client) (h.owed Client) ends.client new.client stand.client_carries grow.client)
    (carries_grown Server (h.carried Server) (stand.said Server) (h.owed Server) ends.server new.server stand.server_carries grow.server) same client server

pub ends_are : (a b : Ends) → a.client ≡ b.client → a.server ≡ b.server → a ≡ b
ends_are a b client server = ap (λ e. let x : Ends = record { client = e; server = a.server } in x) client ∙ ap (λ e. let x : Ends = record { client = b.client; server = e } in x) server

-- what changes nothing of which a schedule speaks
pub stays_left : (ends : Ends) (h g : Handles) (client server : EndpointHistory) → KeepsFlow h g → (stand : Stand h ends) → unordered client ≡ unordered ends.client → unordered server ≡ unordered ends.server
    → StandsFor g.client.endpoint client → StandsFor g.server.endpoint server → Left ends h g stand.said [] []
stays_left ends h g client server same stand client_same server_same client_stands server_stands =
    let new : Ends = record { client = client; server = server } in
    run_left ends new h g stand.said [] [] tt
    (ends_are (both_seen (views_of h.carried stand.said) new) (both_seen (views_of h.carried stand.said) ends) (stays_seen Client (h.carried Client) (stand.said Client) ends.client client client_same)
    (stays_seen Server (h.carried Server) (stand.said Server) ends.server server server_same))
    (carries_grown Client (h.carried Client) (stand.said Client) (h.owed Client) ends.client client stand.client_carries (stays_grows ends.client client client_same))
    (carries_grown Server (h.carried Server) (stand.said Server) (h.owed Server) ends.server server stand.server_carries (stays_grows ends.server server server_same)) same client_stands server_stands

-- what is cited: events that were answered by their calls are steps of the ends that were stood for
abbrev pub CallsAreSteps : Type 0
CallsAreSteps = (ends : Ends) (events : List Event) (answers : List Answer) (client server : EndpointState) → RunsByCalls ends events answers client server
    → (new : Ends) × EndsRun ends events answers new × StandsFor client new.client × StandsFor server new.server

pub leaves : CallsAreSteps → {h g : Handles} (ends : Ends) {events : List Event} {answers : List Answer} (stand : Stand h ends) → Moves h g events answers → Left ends h g stand.said events answers
leaves law ends stand (ActsSo {h = h} {g = g} {e = e} {a = a} of call not same acts) =
    let on = law ends (e ∷ []) (a ∷ []) g.client.endpoint g.server.endpoint (record {
      client = h.client.endpoint;
      server = h.server.endpoint;
      client_stands = stand.client;
      server_stands = stand.server;
      acts = (g.client.endpoint, g.server.endpoint, acts, (refl, refl));
    }) in
    one_step on.0 on.1 on.2 on.3
  where
    one_step : (new : Ends) → EndsRun ends (e ∷ []) (a ∷ []) new → StandsFor g.client.endpoint new.client → StandsFor g.server.endpoint new.server → Left ends h g stand.said (e ∷ []) (a ∷ [])
    one_step new (mid, step, is) client server = step_left ends new h g e a of call not same stand (subst (λ x. EndsStep ends e a x) (sym is) step) client server
leaves law ends stand (LeavesSo left) = left ends stand
leaves law ends stand (StaysSo {h = h} {g = g} client_stays server_stays same) =
    let c = client_stays ends.client stand.client in
    let s = server_stays ends.server stand.server in
    stays_left ends h g c.after s.after same stand c.same s.same c.stands s.stands
leaves law ends stand (ThenSo {h = h} {mid = mid} {g = g} {first = first} {events = events} {given = given} {answers = answers} before behind) =
    let one = leaves law ends stand before in left_then ends h mid g stand.said first events given answers one (leaves law one.new one.stand behind)
