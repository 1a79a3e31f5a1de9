-- What two programs do is a run of two endpoints.
use Rattle.std.proofs.Common.{arith, ◌≡◌, ◌<◌, ◌⊎◌, inl, inr, ℕ, ◌-◌, Bool, true, false, if◌then◌else◌, List, [], ◌∷◌, ◌++◌, length, drop, refl, sym, ap, subst, ◌∙◌, Some, None, Result, Ok, Err}
use Rattle.std.specs.Prelude.{◌==◌, ◌^◌, ◌||◌, min}
use Rattle.h3_proto.specs.declared.stream.Side.{Side}
use Rattle.h3_proto.specs.declared.stream.Side.TheVariants.{Client, Server}
use Rattle.h3_connection.specs.Answers.{delivery_refused}
use Rattle.h3_connection.specs.Endpoint.{EndpointHistory, bytes_waiting, new_endpoint}
use Rattle.h3_connection.specs.OwnIds.{control_id, decoder_id, encoder_id, other}
use Rattle.h3_connection.specs.Sending.{advance}
use Rattle.h3_connection.specs.Shutdown.{is_rejected_in}
use Rattle.h3_connection.specs.State.{StandsFor}
use Rattle.h3_connection.specs.declared.setup.Announced.{Announced}
use Rattle.h3_world.specs.Ends.{Ends, end_at, new_ends}
use Rattle.h3_world.specs.Setup.{Setup}
use Rattle.h3_world.specs.declared.event.Answer.{Answer}
use Rattle.h3_world.specs.declared.event.Answer.TheVariants as answer
use Rattle.h3_world.specs.declared.event.Event.{Event}
use Rattle.h3_world.specs.declared.event.Event.TheVariants as event
use Rattle.h3_memory.specs.Refused.{EndsRun}
use Rattle.h3_session.specs.Running.{answer_of, is_stored}
use Rattle.h3_c.specs.Exported.{Calls, DeliversOn}
use Rattle.h3_c.specs.Numbers.{rejected, argument, call_told, refusal_told}
use Rattle.h3_c.specs.Programs.{Act, AreMade, Bytes, Call, Comes, Empty, End, Handles, Happen, Happens, HasNone, IsEvent, IsRead, IsRefused, Nothing, Read, Reset, StandFor, Take, Takes, Tells, Then, carrying, handle_at, HasEnded, is_taken, Announce}
use Rattle.h3_c.specs.Reads.{taken_of}
use Rattle.h3_c.specs.Seen.{Seen}
use Rattle.h3_c.specs.declared.numbers.Told.{Told}
use Rattle.h3_c.proofs.CarriedOver.{delivery_tells, taken_so as told_taken}
use Rattle.h3_c.proofs.Flights.{Carries, Flies, lagging, none_less, own_lags}
use Rattle.h3_c.proofs.FrontsShown.{empty_told, ended_told, goes_told, known_id, reset_told, shown_front, tells_stream, below_or_not}
use Rattle.h3_c.proofs.Grows.{own_taken, own_text}
use Rattle.h3_c.proofs.MadeHandles.{handle_stands}
use Rattle.h3_c.proofs.ProgramCalls.{ByHistory, Made, call_made}
use Rattle.h3_c.proofs.ProgramGives.{bytes_given, empty_given, end_given, given_to, read_by, reset_given, rest_given, taken_from, taken_so}
use Rattle.h3_c.proofs.ProgramHistories.{MadeAt, at_ends, by_history, is_other, memory_or_not, not_done}
use Rattle.h3_c.proofs.ProgramMoves.{CallsAreSteps, Moves, Stand, StaysSo, ThenSo, of_both, run_on, stays_same, views_of}
use Rattle.h3_c.proofs.ProgramReads.{carrying_here, pair, read_made}
use Rattle.h3_c.proofs.UnorderedSteps.{both_unordered}
use Rattle.h3_c.proofs.Views.{plain, seen}
use Rattle.h3_c.proofs.Writing.{waits_enough}
use Rattle.h3_c.proofs.ViewsSteps.{AreOfC, both_seen}
use Rattle.h3_c.proofs.ProgramAnnounces.{announce_accepted, announce_lacks, announce_refused, announced_by, refused_by}
use Rattle.h3_c.proofs.QuietCalls.{stands_unchanged}
use Rattle.h3_field.specs.ReadBack.{AreBytes}
use Rattle.h3_connection.specs.declared.event.Refusal.{Refusal}
use Rattle.h3_connection.specs.declared.event.Refusal.TheVariants as refusal
use Rattle.h3_session.specs.Held.{SendsBodyOf}

-- a delivery is rejected, or is a call
delivered : {P : Type 0} {X : Type 0} (id : ℕ) (n : Told) (r s : Seen) (does : X → Type 0) (told : X → Told) → id < 2 ^ 62 → DeliversOn told id n r s does
    → ((n ≡ rejected) × (s ≡ r) → P) → (Calls told n r s does → P) → P
delivered {P} id n r s does told below on rejects takes = by (is_rejected_in r.endpoint id) refl
  where
    by : (b : Bool) → is_rejected_in r.endpoint id ≡ b → P
    by true is = rejects ((on.known below).refused is)
    by false is = takes ((on.known below).taken is)

-- What the handles are then.
handles_are : (g : Handles) (client server : Seen) (carried owed : Side → ℕ → List ℕ) → g.client ≡ client → g.server ≡ server → g.carried ≡ carried → g.owed ≡ owed
    → g ≡ record { client = client; server = server; carried = carried; owed = owed }
handles_are g client server carried owed a b c d =
    ap (λ v. let x : Handles = record { client = v; server = g.server; carried = g.carried; owed = g.owed } in x) a
    ∙ ap (λ v. let x : Handles = record { client = client; server = v; carried = g.carried; owed = g.owed } in x) b
    ∙ ap (λ v. let x : Handles = record { client = client; server = server; carried = v; owed = g.owed } in x) c
    ∙ ap (λ v. let x : Handles = record { client = client; server = server; carried = carried; owed = v } in x) d

given_is : (from : Side) (h g : Handles) (id : ℕ) (bytes : List ℕ) → handle_at g from ≡ handle_at h from → g.carried ≡ carrying h.carried from id bytes → g.owed ≡ h.owed → g ≡ given_to from h (handle_at g (other from)) id bytes
given_is Client h g id bytes there carried owed = handles_are g h.client g.server (carrying h.carried Client id bytes) h.owed there refl carried owed
given_is Server h g id bytes there carried owed = handles_are g g.client h.server (carrying h.carried Server id bytes) h.owed refl there carried owed

taken_is : (from : Side) (h g : Handles) (id : ℕ) (bytes : List ℕ) (shown : ℕ) → handle_at g (other from) ≡ handle_at h (other from) → g.carried ≡ carrying h.carried from id (h.carried from id ++ bytes)
    → g.owed ≡ carrying h.owed from id (drop (length bytes - shown) (h.owed from id)) → g ≡ taken_from from h (handle_at g from) id bytes shown
taken_is Client h g id bytes shown there carried owed =
    handles_are g g.client h.server (carrying h.carried Client id (h.carried Client id ++ bytes)) (carrying h.owed Client id (drop (length bytes - shown) (h.owed Client id))) refl there carried owed
taken_is Server h g id bytes shown there carried owed =
    handles_are g h.client g.server (carrying h.carried Server id (h.carried Server id ++ bytes)) (carrying h.owed Server id (drop (length bytes - shown) (h.owed Server id))) there refl carried owed

pair_is : (from : Side) (h : Handles) → pair from (handle_at h from) (handle_at h (other from)) h.carried h.owed ≡ h
pair_is Client h = refl
pair_is Server h = refl

pair_given : (from : Side) (h : Handles) (s : Seen) (id : ℕ) (bytes : List ℕ) → pair from (handle_at h from) s (carrying h.carried from id bytes) h.owed ≡ given_to from h s id bytes
pair_given Client h s id bytes = refl
pair_given Server h s id bytes = refl

-- an end or a reset came, and as much is carried
then_rest : (from : Side) (h : Handles) (s : Seen) (id : ℕ) (rest : List ℕ) (e : Event) (a : Answer) → Moves h (read_by from h s) (e ∷ []) (a ∷ []) → h.carried from id ≡ rest → Moves h (given_to from h s id rest) (e ∷ []) (a ∷ [])
then_rest Client h s id rest e a moves is = ThenSo moves (rest_given (read_by Client h s) Client id rest is)
then_rest Server h s id rest e a moves is = ThenSo moves (rest_given (read_by Server h s) Server id rest is)

-- it was rejected
rejected_moves : (from : Side) (h : Handles) (s : Seen) (id : ℕ) (rest : List ℕ) → s ≡ handle_at h (other from) → h.carried from id ≡ rest → Moves h (given_to from h s id rest) [] []
rejected_moves Client h s id rest same is = ThenSo (StaysSo {h = h} {g = read_by Client h s} (stays_same h.client h.client refl) (stays_same h.server s same) (refl, refl)) (rest_given (read_by Client h s) Client id rest is)
rejected_moves Server h s id rest same is = ThenSo (StaysSo {h = h} {g = read_by Server h s} (stays_same h.client s same) (stays_same h.server h.server refl) (refl, refl)) (rest_given (read_by Server h s) Server id rest is)

-- so an act comes to this
made_moves : (act : Act) (h g x : Handles) (events : List Event) (answers : List Answer) → g ≡ x → Comes act h g events answers → Moves h x events answers → Made act h g
made_moves act h g x events answers is comes moves = record { events = events; answers = answers; comes = comes; moves = subst (λ y. Moves h y events answers) (sym is) moves }

-- what is left of bytes that were taken, or not
all_dropped : (bytes : List ℕ) → drop (length bytes) bytes ≡ []
all_dropped [] = refl
all_dropped (x ∷ bytes) = all_dropped bytes

left_of : (taken : Bool) (bytes : List ℕ) → (if taken then [] else bytes) ≡ drop (taken_of taken (length bytes)) bytes
left_of true bytes = sym (all_dropped bytes)
left_of false bytes = refl

-- bytes that were rejected were not taken
untaken : (n : Told) → n ≡ rejected → is_taken n ≡ false
untaken n is = ap is_taken is

stands_at : {h : Handles} {ends : Ends} → Stand h ends → (side : Side) → StandsFor (handle_at h side).endpoint (end_at ends side)
stands_at stand Client = stand.client
stands_at stand Server = stand.server

bytes_made : (from : Side) (id : ℕ) (bytes : List ℕ) (n : Told) (h g : Handles) (ends : Ends) → Stand h ends → Happens (Bytes from id bytes n) h g → Made (Bytes from id bytes n) h g
bytes_made from id bytes n h g ends stand (gives, tells) =
    let below = (tells_stream (handle_at h from) id _ tells).0 in
    let s = handle_at g (other from) in
    delivered id n (handle_at h (other from)) s _ _ below gives.given
    (λ x.
    let same : drop (taken_of (is_taken n) (length bytes)) bytes ≡ bytes = ap (λ b. drop (taken_of b (length bytes)) bytes) (untaken n x.0) in
    made_moves (Bytes from id bytes n) h g _ [] [] (given_is from h g id _ gives.there gives.carried gives.owed) (IsRefused refl (inr x.0))
    (rejected_moves from h s id _ x.1 (gives.first ∙ ap (λ l. l ++ gives.rest) (sym same))))
    (λ k.
    let result = k.answer in
    let stored = ap is_taken k.is ∙ told_taken (handle_at h (other from)).endpoint s.endpoint _ result (end_at ends (other from)) (stands_at stand (other from)) k.done.receives in
    let left : (if is_stored result then [] else bytes) ++ gives.rest ≡ drop (taken_of (is_taken n) (length bytes)) bytes ++ gives.rest =
    ap (λ b. (if b then [] else bytes) ++ gives.rest) (sym stored) ∙ ap (λ l. l ++ gives.rest) (left_of (is_taken n) bytes) in
    made_moves (Bytes from id bytes n) h g _ (event.Deliver from id (length bytes) ∷ []) (answer_of (answer.Delivered (length bytes)) (delivery_refused result) ∷ [])
    (given_is from h g id _ gives.there gives.carried gives.owed ∙ ap (λ l. given_to from h s id l) (sym left))
    (IsEvent refl (delivery_tells (answer.Delivered (length bytes)) n result (refl, refl) k.is))
    (bytes_given h s id from bytes gives.rest result gives.first (goes_told (handle_at h from) id tells) k.done))

end_made : (from : Side) (id : ℕ) (n : Told) (h g : Handles) → Happens (End from id n) h g → Made (End from id n) h g
end_made from id n h g (gives, (none, tells)) =
    let below = (tells_stream (handle_at h from) id _ tells).0 in
    let s = handle_at g (other from) in
    delivered id n (handle_at h (other from)) s _ _ below gives.given
    (λ x. made_moves (End from id n) h g _ [] [] (given_is from h g id gives.rest gives.there gives.carried gives.owed) (IsRefused refl (inr x.0)) (rejected_moves from h s id gives.rest x.1 gives.first))
    (λ k. made_moves (End from id n) h g _ (event.DeliverEnd from id ∷ []) (answer_of answer.Done (delivery_refused k.answer) ∷ []) (given_is from h g id gives.rest gives.there gives.carried gives.owed)
    (IsEvent refl (delivery_tells answer.Done n k.answer (refl, refl) k.is))
    (then_rest from h s id gives.rest _ _ (end_given h s id from k.answer none (ended_told (handle_at h from) id tells) k.done) gives.first))

reset_made : (from : Side) (id : ℕ) (n : Told) (h g : Handles) → Happens (Reset from id n) h g → Made (Reset from id n) h g
reset_made from id n h g (gives, tells) =
    let below = (tells_stream (handle_at h from) id _ tells).0 in
    let s = handle_at g (other from) in
    delivered id n (handle_at h (other from)) s _ _ below gives.given
    (λ x. made_moves (Reset from id n) h g _ [] [] (given_is from h g id gives.rest gives.there gives.carried gives.owed) (IsRefused refl (inr x.0)) (rejected_moves from h s id gives.rest x.1 gives.first))
    (λ k. made_moves (Reset from id n) h g _ (event.DeliverReset from id ∷ []) (answer_of answer.Done (delivery_refused k.answer) ∷ []) (given_is from h g id gives.rest gives.there gives.carried gives.owed)
    (IsEvent refl (delivery_tells answer.Done n k.answer (refl, refl) k.is))
    (then_rest from h s id gives.rest _ _ (reset_given h s id from k.answer (reset_told (handle_at h from) id tells) k.done) gives.first))

take_made : (from : Side) (id : ℕ) (bytes : List ℕ) (h g : Handles) → Takes from id bytes h g → Made (Take from id bytes) h g
take_made from id bytes h g t =
    let s = t.shown in
    made_moves (Take from id bytes) h g _ [] [] (taken_is from h g id bytes s.count t.there t.carried t.owed) (HasNone refl refl tt)
    (taken_so h from (handle_at g from) id bytes s.count (λ e stands.
    let front = shown_front (handle_at h from) id (h.owed from id) bytes s e stands in
    let few = waits_enough (bytes_waiting e id) s.buffer s.count s.past front (length bytes) s.within in
    let all : min (length bytes) (length (bytes_waiting e id)) ≡ length bytes = omega (arith, few) in (
      record { buffer = s.buffer; count = s.count; past = s.past; fronted = front; within = s.within; front = s.front },
      refl,
      subst (λ n. StandsFor (handle_at g from).endpoint (advance e id n)) all (((known_id id _ _ _ t.taken).1.few e stands few).1 e stands),
    )))

-- **A body is announced by its length.**
announced_is : (side : Side) (h g : Handles) (id : ℕ) (payload : List ℕ) → handle_at g (other side) ≡ handle_at h (other side) → g.carried ≡ h.carried → g.owed ≡ carrying h.owed side id (h.owed side id ++ payload)
    → g ≡ announced_by side h (handle_at g side) id payload
announced_is Client h g id payload there carried owed = handles_are g g.client h.server h.carried (carrying h.owed Client id (h.owed Client id ++ payload)) refl there carried owed
announced_is Server h g id payload there carried owed = handles_are g h.client g.server h.carried (carrying h.owed Server id (h.owed Server id ++ payload)) there refl carried owed

refused_is : (side : Side) (h g : Handles) → handle_at g (other side) ≡ handle_at h (other side) → g.carried ≡ h.carried → g.owed ≡ h.owed → g ≡ refused_by side h (handle_at g side)
refused_is Client h g there carried owed = handles_are g g.client h.server h.carried h.owed refl there carried owed
refused_is Server h g there carried owed = handles_are g h.client g.server h.carried h.owed there refl carried owed

refused_moves : (side : Side) (h : Handles) (v : Seen) → v ≡ handle_at h side → Moves h (refused_by side h v) [] []
refused_moves Client h v same = StaysSo {h = h} {g = refused_by Client h v} (stays_same h.client v same) (stays_same h.server h.server refl) (refl, refl)
refused_moves Server h v same = StaysSo {h = h} {g = refused_by Server h v} (stays_same h.client h.client refl) (stays_same h.server v same) (refl, refl)

module _ (side : Side) (id : ℕ) (payload : List ℕ) (n : Told) (h g : Handles) (all : AreBytes payload) (there : handle_at g (other side) ≡ handle_at h (other side)) (carried : g.carried ≡ h.carried)
    (owed : g.owed ≡ (if n.number == 0 then carrying h.owed side id (h.owed side id ++ payload) else h.owed)) where
  abbrev now_owed : Bool → Side → ℕ → List ℕ
  now_owed b = if b then carrying h.owed side id (h.owed side id ++ payload) else h.owed

  announce_refuses : (r : Refusal) → n ≡ refusal_told r → SendsBodyOf (handle_at h side).endpoint (handle_at g side).endpoint id (length payload) (Err r)
      → (r ≡ refusal.OutOfMemory) ⊎ ((((refusal_told r).number == 0) || ((refusal_told r).number == 18)) ≡ false) → Made (Announce side id payload n) h g
  announce_refuses r told does which = made_moves (Announce side id payload n) h g (refused_by side h (handle_at g side)) (event.Body side id payload ∷ []) (answer.Refused r ∷ []) as_it_was (IsEvent refl told) (by which)
    where
      as_it_was : g ≡ refused_by side h (handle_at g side)
      as_it_was = refused_is side h g there carried (owed ∙ ap (λ (t : Told). now_owed (t.number == 0)) told ∙ ap now_owed (not_done r))

      still : (e : EndpointHistory) → StandsFor (handle_at h side).endpoint e → StandsFor (handle_at g side).endpoint e
      still e stands = stands_unchanged (handle_at h side).endpoint (handle_at g side).endpoint e (does.same (λ is. let never : Some r ≡ None = is in absurd (cc))) stands

      by : (r ≡ refusal.OutOfMemory) ⊎ ((((refusal_told r).number == 0) || ((refusal_told r).number == 18)) ≡ false) → Moves h (refused_by side h (handle_at g side)) (event.Body side id payload ∷ []) (answer.Refused r ∷ [])
      by (inl is) =
          subst (λ x. Moves h (refused_by side h (handle_at g side)) (event.Body side id payload ∷ []) (answer.Refused x ∷ [])) (sym is) (announce_lacks h side (handle_at g side) id payload all still)
      by (inr another) = announce_refused h side (handle_at g side) id payload r all (λ e stands. let x = does.done e stands (is_other r another) in (x.0, still e stands))

  announce_answered : (r : Result Unit Refusal) → n ≡ call_told r → SendsBodyOf (handle_at h side).endpoint (handle_at g side).endpoint id (length payload) r → Made (Announce side id payload n) h g
  announce_answered (Ok done) told does =
      made_moves (Announce side id payload n) h g (announced_by side h (handle_at g side) id payload) (event.Body side id payload ∷ []) (answer.Done ∷ [])
      (announced_is side h g id payload there carried (owed ∙ ap (λ (t : Told). now_owed (t.number == 0)) told)) (IsEvent refl (told, refl))
      (announce_accepted h side (handle_at g side) id payload all (λ e stands. does.done e stands (λ is. let never : None ≡ Some refusal.OutOfMemory = is in absurd (cc))))
  announce_answered (Err r) told does = announce_refuses r told does (memory_or_not r)

  announce_unknown : n ≡ argument → handle_at g side ≡ handle_at h side → Made (Announce side id payload n) h g
  announce_unknown told same =
      made_moves (Announce side id payload n) h g (refused_by side h (handle_at g side)) [] [] (refused_is side h g there carried (owed ∙ ap (λ (t : Told). now_owed (t.number == 0)) told))
      (IsRefused refl (inl told)) (refused_moves side h (handle_at g side) same)

announce_made : (side : Side) (id : ℕ) (payload : List ℕ) (n : Told) (h g : Handles) → Happens (Announce side id payload n) h g → Made (Announce side id payload n) h g
announce_made side id payload n h g (all, on, alone, owed) = elim (below_or_not id (2 ^ 62)) [
  | inl below ↦ (let k = on.known below in announce_answered side id payload n h g all alone.0 alone.1 owed k.answer k.is k.done)
  | inr above ↦ announce_unknown side id payload n h g all alone.0 alone.1 owed (on.unknown above).0 (on.unknown above).1
]

-- **What happens comes to events that both endpoints answer.**
pub act_made : CallsAreSteps → (act : Act) (h g : Handles) (ends : Ends) (stand : Stand h ends) → Happens act h g → MadeAt act h g ends stand.said
act_made law (Call side c) h g ends stand (out, given, does, alone, owed) = by (call_made side h g alone.0 (alone.1, owed) c out given does)
  where
    by : Made (Call side c) h g ⊎ ByHistory c → MadeAt (Call side c) h g ends stand.said
    by (inl made) = at_ends law ends stand made
    by (inr history) = by_history side h g alone.0 (alone.1, owed) ends stand c history does
act_made law (Announce side id payload n) h g ends stand happens = at_ends law ends stand (announce_made side id payload n h g happens)
act_made law (Take from id bytes) h g ends stand happens = at_ends law ends stand (take_made from id bytes h g happens)
act_made law (Bytes from id bytes n) h g ends stand happens = at_ends law ends stand (bytes_made from id bytes n h g ends stand happens)
act_made law (Read from id bytes fin used before item n) h g ends stand (gives, tells, ended) =
    let v = handle_at h from in
    let s = handle_at g (other from) in
    let made = read_made from id bytes fin used before item n v (handle_at h (other from)) s h.carried h.owed gives.rest (tells_stream v id _ tells).0 gives.first (goes_told v id tells)
    (λ ends_so. let none = ended ends_so in (sym (carried_here g (drop used bytes ++ gives.rest) gives.carried) ∙ none.0, ended_told v id (subst (λ x. Tells x id HasEnded) gives.there none.1))) gives.given in
    at_ends law ends stand (made_moves (Read from id bytes fin used before item n) h g _ made.events made.answers (given_is from h g id (drop used bytes ++ gives.rest) gives.there gives.carried gives.owed) (IsRead refl made.comes)
    (subst (λ x. Moves h x made.events made.answers) (pair_given from h s id (drop used bytes ++ gives.rest)) (subst (λ x. Moves x (pair from v s (carrying h.carried from id (drop used bytes ++ gives.rest)) h.owed) made.events made.answers) (pair_is from h) made.moves)))
  where
    carried_here : (g : Handles) (bytes : List ℕ) → g.carried ≡ carrying h.carried from id bytes → g.carried from id ≡ bytes
    carried_here g bytes is = ap (λ c. c from id) is ∙ carrying_here h.carried from id bytes
act_made law (End from id n) h g ends stand happens = at_ends law ends stand (end_made from id n h g happens)
act_made law (Reset from id n) h g ends stand happens = at_ends law ends stand (reset_made from id n h g happens)
act_made law (Empty from id) h g ends stand ((none, tells), same) =
    at_ends law ends stand (made_moves (Empty from id) h g h (event.Deliver from id 1 ∷ []) (answer.Short 0 ∷ []) same (IsEvent refl refl) (empty_given h from id none (empty_told (handle_at h from) id tells)))

-- what two programs come to
pub record RanTo (ends : Ends) (said : Side → ℕ → List ℕ) (h : Handles) (acts : List Act) (g : Handles) : Type 0 where
  pub events : List Event
  pub answers : List Answer
  pub stand : StandFor h acts events answers g
  pub of : AreOfC events
  pub new : Ends
  pub run : EndsRun (both_seen (views_of h.carried said) ends) events answers new

pub acts_run : CallsAreSteps → (acts : List Act) (h g : Handles) (ends : Ends) (stand : Stand h ends) → Happen h acts g → RanTo ends stand.said h acts g
acts_run law [] h g ends stand happen =
    subst (λ x. RanTo ends stand.said h [] x) (sym happen) (record { events = []; answers = []; stand = Nothing; of = tt; new = both_seen (views_of h.carried stand.said) ends; run = refl })
acts_run law (act ∷ acts) h g ends stand (next, happens, happen) =
    let made = act_made law act h next ends stand happens in
    let on = made.left in
    let rest = acts_run law acts next g on.new on.stand happen in
    record {
      events = made.events ++ rest.events;
      answers = made.answers ++ rest.answers;
      stand = Then happens made.comes rest.stand;
      of = of_both made.events rest.events on.of rest.of;
      new = rest.new;
      run = run_on made.events rest.events made.answers rest.answers (both_seen (views_of h.carried stand.said) ends) (both_seen (views_of next.carried on.stand.said) on.new) rest.new on.run rest.run;
    }

-- At the beginning nothing is carried, and nothing was announced.
same_if : (a b c : Bool) (n : ℕ) → (if a then n else (if b then n else (if c then n else n))) ≡ n
same_if true b c n = refl
same_if false true c n = refl
same_if false false true n = refl
same_if false false false n = refl

new_carries : (side : Side) (announced : Announced) (carried owed : ℕ → List ℕ) → ((id : ℕ) → (carried id ≡ []) × (owed id ≡ [])) → Carries side carried (λ id. []) owed (new_endpoint side announced)
new_carries side announced carried owed none =
    let e = new_endpoint side announced in
    record {
      side_is = refl;
      flies = λ id. subst (λ l. Flies (own_text e id) (own_taken e id) l) (sym (none id).0)
          (record { before = []; rest = own_text e id; is = refl; count = same_if (id == control_id side) (id == encoder_id side) (id == decoder_id side) 0 });
      owes = λ id. (refl, (none id).1);
      silent = refl;
      apart = λ id own. refl;
      next = 0;
      next_is = refl;
      fresh = λ client id behind. refl;
    }

new_seen : (side : Side) (announced : Announced) (carried said : ℕ → List ℕ) → seen (lagging side carried said) (new_endpoint side announced) ≡ seen plain (new_endpoint side announced)
new_seen side announced carried said =
    let e = new_endpoint side announced in
    ap (λ o. record (seen plain e) { own = o })
    (own_lags e.own _ _ _ _ _ _ (none_less (length (carried (control_id side)))) (none_less (length (carried (encoder_id side)))) (none_less (length (carried (decoder_id side)))))

pub new_stand : {setup : Setup} {h : Handles} → AreMade setup h → Stand h (new_ends setup)
new_stand {setup = setup} {h = h} made = record {
  client = handle_stands made.client;
  server = handle_stands made.server;
  said = λ side id. [];
  client_carries = new_carries Client setup.client (h.carried Client) (h.owed Client) (made.none Client);
  server_carries = new_carries Server setup.server (h.carried Server) (h.owed Server) (made.none Server);
}

pub new_both : (setup : Setup) (carried said : Side → ℕ → List ℕ) → both_seen (views_of carried said) (new_ends setup) ≡ both_unordered (new_ends setup)
new_both setup carried said =
    ap (λ e. let x : Ends = record { client = e; server = seen (lagging Server (carried Server) (said Server)) (new_ends setup).server } in x) (new_seen Client setup.client (carried Client) (said Client))
    ∙ ap (λ e. let x : Ends = record { client = seen plain (new_ends setup).client; server = e } in x) (new_seen Server setup.server (carried Server) (said Server))
