-- The statement, by the run of the world.
use Rattle.std.proofs.Common.{◌≡◌, ℕ, Bool, true, false, List, [], ◌∷◌, zero, suc, refl, ap, sym, ◌∙◌, subst}
use Rattle.std.specs.Prelude.{◌||◌, ◌&&◌, drop, take}
use Rattle.std.specs.List.{AllByRecursion, list_any}
use Rattle.h3_proto.specs.declared.stream.Side.{Side}
use Rattle.h3_connection.specs.OwnIds.{encoder_id, other}
use Rattle.h3_connection.specs.declared.event.Pull.TheVariants as pull
use Rattle.h3_connection.specs.declared.lists.ListPull.TheVariants as list
use Rattle.h3_world.specs.Headline.{is_connection_fault}
use Rattle.h3_world.specs.Run.{Run}
use Rattle.h3_world.specs.Sendable.{IsSendableBy}
use Rattle.h3_world.specs.Streams.{waiting}
use Rattle.h3_world.specs.World.{empty_world}
use Rattle.h3_world.specs.declared.event.Answer.{Answer}
use Rattle.h3_world.specs.declared.event.Answer.TheVariants as answer
use Rattle.h3_world.specs.declared.event.Event.{Event}
use Rattle.h3_world.specs.declared.event.Event.TheVariants as event
use Rattle.h3_world.specs.Setup.{Setup}
use Rattle.h3_headline.specs.FlowLaws.{other-other}
use Rattle.h3_headline.specs.Changes.{resets_on}
use Rattle.h3_headline.specs.Exactly.{IsAllOf, IsExactly, reader_at}
use Rattle.h3_headline.specs.Messages.{MessageContent, any_of, is_on, pulled, sent}
use Rattle.h3_memory.specs.Kept.{KeepingWorld, caught_up, nothing_kept}
use Rattle.h3_strict.specs.PlainEnds.{plain_setup}
use Rattle.h3_faithful.specs.Faithful.{AcceptsNext, HoldsAt, PausesDelivered, pauses_on}
use Rattle.h3_faithful.specs.Sends.{is_next}
use Rattle.h3_faithful.specs.Steps.{HappensAnywhere, RunsUntilFault, is_send, is_without_fault}
use Rattle.h3_faithful.proofs.Accounts.{MemoryMoves, hands_out}
use Rattle.h3_faithful.proofs.Delivered.{PausesAtEnd, all_came_out, nothing_waits}
use Rattle.h3_faithful.proofs.Ordered.{AcceptsEvent, OrderedAccepted, accepts_next, on_same}
use Rattle.h3_faithful.proofs.ReadAs.{as_long, front_read}
use Rattle.h3_faithful.proofs.Takes.{three_of}
use Rattle.h3_faithful.proofs.Telling.{tells}

-- a front of what may be sent
sendable_front : (P : Event → Type 0) (n : ℕ) (events : List Event) → AllByRecursion P events → AllByRecursion P (take n events)
sendable_front P zero events h = tt
sendable_front P (suc n) [] h = tt
sendable_front P (suc n) (e ∷ events) h = (h.0, sendable_front P n events h.1)

first_is : {X : Type 0} (x y : X) (l m : List X) → x ∷ l ≡ y ∷ m → x ≡ y
first_is x y l m is = ap (λ k. elim k [ [] ↦ x | z ∷ zs ↦ z ]) is

rest_is : {X : Type 0} (x y : X) (l m : List X) → x ∷ l ≡ y ∷ m → l ≡ m
rest_is x y l m is = ap (λ k. elim k [ [] ↦ l | z ∷ zs ↦ zs ]) is

drop_next : {X : Type 0} (n : ℕ) (l : List X) (x : X) (m : List X) → drop n l ≡ x ∷ m → drop (suc n) l ≡ m
drop_next zero [] x m is = absurd (cc)
drop_next zero (y ∷ l) x m is = rest_is y x l m is
drop_next (suc n) [] x m is = absurd (cc)
drop_next (suc n) (y ∷ l) x m is = drop_next n l x m is

-- one answer more that is no fault
next_none : (n : ℕ) (answers : List Answer) (a : Answer) (others : List Answer) → is_without_fault n answers → drop n answers ≡ a ∷ others → is_connection_fault a ≡ false → is_without_fault (suc n) answers
next_none zero [] a others none is not = absurd (cc)
next_none zero (b ∷ answers) a others none is not = ap (λ x. is_connection_fault x || false) (first_is b a answers others is) ∙ ap (λ x. x || false) not
next_none (suc n) [] a others none is not = absurd (cc)
next_none (suc n) (b ∷ answers) a others none is not = by_first (is_connection_fault b) none (next_none n answers a others (behind (is_connection_fault b) (list_any is_connection_fault (take n answers)) none) is not)
  where
    behind : (x y : Bool) → (x || y) ≡ false → y ≡ false
    behind true y h = absurd (cc)
    behind false y h = h

    by_first : (x : Bool) → (x || list_any is_connection_fault (take n answers)) ≡ false → list_any is_connection_fault (take (suc n) answers) ≡ false → (x || list_any is_connection_fault (take (suc n) answers)) ≡ false
    by_first true h k = absurd (cc)
    by_first false h k = k

-- The last step of a run.
record LastStep (setup : Setup) (old new : KeepingWorld) (n : ℕ) (events : List Event) (answers : List Answer) (e : Event) (a : Answer) : Type 0 where
  pub mid : KeepingWorld
  pub before : Run (HappensAnywhere setup) old (take n events) (take n answers) mid
  pub last : HappensAnywhere setup mid e a new

last_step : (setup : Setup) (old new : KeepingWorld) (n : ℕ) (events : List Event) (answers : List Answer) (e : Event) (a : Answer) (later : List Event) (others : List Answer) → drop n events ≡ e ∷ later → drop n answers ≡ a ∷ others
    → Run (HappensAnywhere setup) old (take (suc n) events) (take (suc n) answers) new → LastStep setup old new n events answers e a
last_step setup old new zero (x ∷ events) (y ∷ answers) e a later others at_e at_a run =
    record {
      mid = old;
      before = refl;
      last = subst (λ z. HappensAnywhere setup old z a new) (first_is x e events later at_e)
          (subst (λ z. HappensAnywhere setup old x z new) (first_is y a answers others at_a) (subst (HappensAnywhere setup old x y) (sym run.2) run.1));
    }
last_step setup old new (suc n) (x ∷ events) (y ∷ answers) e a later others at_e at_a run =
    let l = last_step setup run.0 new n events answers e a later others at_e at_a run.2 in
    record { mid = l.mid; before = (run.0, run.1, l.before); last = l.last }
last_step setup old new zero [] answers e a later others at_e at_a run = absurd (cc)
last_step setup old new (suc n) [] answers e a later others at_e at_a run = absurd (cc)
last_step setup old new zero (x ∷ events) [] e a later others at_e at_a run = absurd (cc)
last_step setup old new (suc n) (x ∷ events) [] e a later others at_e at_a run = absurd (cc)

-- what may come next is a send
next_sends : (setup : Setup) (side : Side) (id : ℕ) (all : List MessageContent) (e : Event) → is_next setup side id all e ≡ true → is_send e ≡ true
next_sends setup side id all (event.Head acting i head) h = refl
next_sends setup side id all (event.Fields acting i fields) h = refl
next_sends setup side id all (event.Body acting i bytes) h = refl
next_sends setup side id all (event.Trailer acting i trailer) h = refl
next_sends setup side id all (event.TrailerFields acting i fields) h = refl
next_sends setup side id all (event.Finish acting i) h = refl
next_sends setup side id all e h = absurd (cc)

-- a pause is no fault
pauses_no_fault : (side : Side) (id : ℕ) (e : Event) (a : Answer) → pauses_on side id e a ≡ true → is_connection_fault a ≡ false
pauses_no_fault side id (event.Pull acting i) (answer.Pulled pull.Pending) h = refl
pauses_no_fault side id (event.Pull acting i) (answer.Pulled (pull.Waiting count)) h = refl
pauses_no_fault side id (event.PullFields acting i) (answer.Listed list.Pending) h = refl
pauses_no_fault side id (event.PullFields acting i) (answer.Listed (list.Waiting count)) h = refl
pauses_no_fault side id e a h = absurd (cc)

module _ (laws : MemoryMoves) (accepted : OrderedAccepted) (at_end : PausesAtEnd) (setup : Setup) (events : List Event) (answers : List Answer) (sendable : AllByRecursion (IsSendableBy true) events) (runs : RunsUntilFault setup events answers) where
  abbrev first : KeepingWorld
  first = nothing_kept (empty_world (plain_setup setup))

  may : (n : ℕ) → AllByRecursion (IsSendableBy true) (take n events)
  may n = sendable_front (IsSendableBy true) n events sendable

  accepts_at : (n : ℕ) (e : Event) (a : Answer) (later : List Event) (others : List Answer) → is_without_fault n answers → drop n events ≡ e ∷ later → drop n answers ≡ a ∷ others → AcceptsEvent setup (take n events) (take n answers) e a
  accepts_at n e a later others none at_e at_a = λ side id on next.
      let not = runs.sends n e a later others none at_e at_a (next_sends setup side id (sent side id (take n events) (take n answers)) e next) in
      let r = runs.runs (suc n) (next_none n answers a others none at_a not) in
      let l = last_step setup first r.world n events answers e a later others at_e at_a r.run in
      accepts_next accepted setup (take n events) (take n answers) l.mid r.world e a (λ s i. tells laws setup (take n events) (take n answers) l.mid (may n) l.before s i) l.last side id on next

  abbrev AllCame : ℕ → Side → ℕ → Type 0
  AllCame n side id = IsAllOf (IsExactly (reader_at setup side)) (pulled side id (take n events) (take n answers)) (sent (other side) id (take n events) (take n answers))

  -- three steps behind a front
  came : (n : ℕ) (side : Side) (id : ℕ) (first_side second_side : Side) (i j : ℕ) (e : Event) (a : Answer) (later : List Event) (others : List Answer) → is_without_fault n answers
      → any_of (resets_on (other side) id) (take n events) (take n answers) ≡ false
      → drop n events ≡ event.Deliver first_side i (suc zero) ∷ event.Deliver second_side j (suc zero) ∷ e ∷ later → drop n answers ≡ answer.Short zero ∷ answer.Short zero ∷ a ∷ others
      → (is_on (other side) (encoder_id (other side)) first_side i && is_on (other side) id second_side j && pauses_on side id e a) ≡ true → AllCame n side id
  came n side id first_side second_side i j e a later others none no_reset at_e at_a on =
      let writer = other side in
      let encoder = encoder_id (other side) in
      let three = three_of (is_on writer encoder first_side i) (is_on writer id second_side j) (pauses_on side id e a) on in
      let at_e1 = drop_next n events (event.Deliver first_side i (suc zero)) (event.Deliver second_side j (suc zero) ∷ e ∷ later) at_e in
      let at_a1 = drop_next n answers (answer.Short zero) (answer.Short zero ∷ a ∷ others) at_a in
      let at_e2 = drop_next (suc n) events (event.Deliver second_side j (suc zero)) (e ∷ later) at_e1 in
      let at_a2 = drop_next (suc n) answers (answer.Short zero) (a ∷ others) at_a1 in
      let none1 = next_none n answers (answer.Short zero) (answer.Short zero ∷ a ∷ others) none at_a refl in
      let none2 = next_none (suc n) answers (answer.Short zero) (a ∷ others) none1 at_a1 refl in
      let r = runs.runs (suc (suc (suc n))) (next_none (suc (suc n)) answers a others none2 at_a2 (pauses_no_fault side id e a three.2)) in
      let l3 = last_step setup first r.world (suc (suc n)) events answers e a later others at_e2 at_a2 r.run in
      let l2 = last_step setup first l3.mid (suc n) events answers (event.Deliver second_side j (suc zero)) (answer.Short zero) (e ∷ later) (a ∷ others) at_e1 at_a1 l3.before in
      let l1 = last_step setup first l2.mid n events answers (event.Deliver first_side i (suc zero)) (answer.Short zero) (event.Deliver second_side j (suc zero) ∷ e ∷ later) (answer.Short zero ∷ a ∷ others) at_e at_a l2.before in
      let same1 = on_same writer first_side encoder i three.0 in
      let same2 = on_same writer second_side id j three.1 in
      let deliver1 = subst (λ z. HappensAnywhere setup l1.mid (event.Deliver writer z (suc zero)) (answer.Short zero) l2.mid) same1.1
      (subst (λ z. HappensAnywhere setup l1.mid (event.Deliver z i (suc zero)) (answer.Short zero) l2.mid) same1.0 l1.last) in
      let deliver2 = subst (λ z. HappensAnywhere setup l2.mid (event.Deliver writer z (suc zero)) (answer.Short zero) l3.mid) same2.1
      (subst (λ z. HappensAnywhere setup l2.mid (event.Deliver z j (suc zero)) (answer.Short zero) l3.mid) same2.0 l2.last) in
      let waits1 = nothing_waits setup l1.mid l2.mid writer encoder deliver1 in
      let waits2 = nothing_waits setup l2.mid l3.mid writer id deliver2 in
      all_came_out laws at_end setup (take n events) (take n answers) l1.mid r.world side id (may n) l1.before
      ((tells laws setup (take n events) (take n answers) l1.mid (may n) l1.before writer id).not_reset no_reset)
      (subst (λ z. waiting (plain_setup setup) (caught_up (plain_setup setup) l1.mid z) writer encoder ≡ zero) (other-other side) waits1.0)
      (subst (λ z. waiting (plain_setup setup) (caught_up (plain_setup setup) l1.mid z) writer id ≡ zero) (other-other side)
      (subst (λ z. waiting (plain_setup setup) (caught_up (plain_setup setup) z (other writer)) writer id ≡ zero) waits1.1 waits2.0))
      e a (subst (λ z. HappensAnywhere setup z e a r.world) (waits2.1 ∙ waits1.1) l3.last) three.2

  comes_at : (n : ℕ) (side : Side) (id : ℕ) → is_without_fault n answers → any_of (resets_on (other side) id) (take n events) (take n answers) ≡ false → PausesDelivered side id (drop n events) (drop n answers) → AllCame n side id
  comes_at n side id none no_reset pauses = by_lists (drop n events) (drop n answers) refl refl pauses
    where
      by_lists : (es : List Event) (given : List Answer) → drop n events ≡ es → drop n answers ≡ given → PausesDelivered side id es given → AllCame n side id
      by_lists (event.Deliver first_side i (suc zero) ∷ event.Deliver second_side j (suc zero) ∷ e ∷ later) (answer.Short zero ∷ answer.Short zero ∷ a ∷ others) at_e at_a h =
          came n side id first_side second_side i j e a later others none no_reset at_e at_a h
      by_lists es given at_e at_a h = absurd h

  accepts_front : (n : ℕ) → is_without_fault n answers → AcceptsNext setup (take n events) (take n answers) (drop n events) (drop n answers)
  accepts_front n none = by_lists (drop n events) (drop n answers) refl refl
    where
      by_lists : (es : List Event) (given : List Answer) → drop n events ≡ es → drop n answers ≡ given → AcceptsNext setup (take n events) (take n answers) es given
      by_lists (e ∷ later) (a ∷ others) at_e at_a = accepts_at n e a later others none at_e at_a
      by_lists [] given at_e at_a = tt
      by_lists (e ∷ later) [] at_e at_a = tt

  holds_at : (n : ℕ) → is_without_fault n answers → HoldsAt setup (take n events) (take n answers) (drop n events) (drop n answers)
  holds_at n none =
      let before = take n events in
      let given = take n answers in
      let r = runs.runs n none in
      let handed = hands_out laws setup before given r.world (may n) r.run in
      record {
        begins = λ side id. front_read setup side (pulled side id before given) (sent (other side) id before given) (handed.begins side id);
        ends = λ side id ended.
            let all = handed.ends side id ended in
            (as_long (IsExactly (reader_at setup side)) (pulled side id before given) (sent (other side) id before given) all.0, all.1);
        accepts = accepts_front n none;
        comes_out = λ side id no_reset pauses.
            as_long (IsExactly (reader_at setup side)) (pulled side id before given) (sent (other side) id before given) (comes_at n side id none no_reset pauses);
      }

-- **Up to a fault of the connection.**
pub until_fault : MemoryMoves → OrderedAccepted → PausesAtEnd → (setup : Setup) (events : List Event) (answers : List Answer) → AllByRecursion (IsSendableBy true) events → RunsUntilFault setup events answers
    → (n : ℕ) → is_without_fault n answers → HoldsAt setup (take n events) (take n answers) (drop n events) (drop n answers)
until_fault laws accepted at_end setup events answers sendable runs = holds_at laws accepted at_end setup events answers sendable runs
