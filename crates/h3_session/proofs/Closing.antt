-- A stream is given up both ways: by what a cancellation did, and then a reset.
use Rattle.std.proofs.Common.{◌≡◌, ◌≢◌, ◌∙◌, ℕ, Bool, true, false, refl, ap, sym, subst}
use Rattle.std.specs.Prelude.{if◌then◌else◌, not, Option, Some, None, is_none, is_ok, is_some, Result, Ok, Err}
use Rattle.h3_connection.specs.Answers.{call_refused}
use Rattle.h3_connection.specs.Endpoint.{EndpointHistory}
use Rattle.h3_connection.specs.Keeping.{arrival_refusal}
use Rattle.h3_connection.specs.Sending.{cancel, cancel_refusal, does, reset}
use Rattle.h3_connection.specs.SendingContracts.{Cancels, Resets}
use Rattle.h3_connection.specs.State.{EndpointState, StandsFor}
use Rattle.h3_connection.specs.declared.event.Refusal.{Refusal}
use Rattle.h3_connection.specs.declared.event.Refusal.TheVariants as refusal
use Rattle.h3_session.specs.Closing.{ClosesStream, is_ended, unless_ended}
use Rattle.h3_session.specs.declared.endpoint.closing.ClosedStream.{ClosedStream}
use Rattle.h3_session.proofs.SendingCalls.{was_done, was_refused}

-- a cancellation that was done, or that came too late, is not one that lacked memory
not_memory : (refused : Option Refusal) → None ≡ unless_ended refused → refused ≢ Some refusal.OutOfMemory
not_memory refused is = λ memory. absurd (lacked (is ∙ ap unless_ended memory))
  where
    lacked : None ≡ unless_ended (Some refusal.OutOfMemory) → ⊥
    lacked is = absurd (cc)

ok_is_none : (r : Result Unit Refusal) → is_ok r ≡ is_none (call_refused r)
ok_is_none (Ok x) = refl
ok_is_none (Err r) = refl

none_by : (o : Option Refusal) (b : Bool) → is_some o ≡ not b → b ≡ is_none o
none_by None true is = refl
none_by None false is = absurd (cc)
none_by (Some r) true is = absurd (cc)
none_by (Some r) false is = refl

abbrev frames : Bool → Bool → ClosedStream
frames stop sent = record { stop_sending = stop; reset_stream = sent }

both_frames : (a b x y : Bool) → a ≡ x → b ≡ y → frames a b ≡ frames x y
both_frames a b x y one other = ap (λ stop. frames stop b) one ∙ ap (λ sent. frames x sent) other

-- both are done, or a direction was over
pub closes : (old mid new : EndpointState) (id : ℕ) (arrival : Option Refusal) (canceled later : Result Unit Refusal) (stop sent : Bool)
    → ((e : EndpointHistory) → StandsFor old e → arrival ≡ arrival_refusal e id) → Cancels old mid id canceled → None ≡ unless_ended (call_refused canceled) → Resets mid new id later
    → is_some arrival ≡ not stop → sent ≡ is_ok later → ClosesStream old new id (Ok (record { stop_sending = stop; reset_stream = sent }))
closes old mid new id arrival canceled later stop sent comes c is r stopped told =
    record {
      closes = record {
        done = λ e h ne. was_done e (reset (cancel e id).1 id).1 new (unless_ended (cancel e id).0) (sym (refused e h)) (second e h).1;
        same = λ ne. absurd (ne refl);
        memory = λ e h memory. absurd (cc);
      };
      sends = λ e h. both_frames _ _ _ _ (none_by arrival stop stopped ∙ ap is_none (comes e h)) (told ∙ ok_is_none later ∙ ap is_none (second e h).0);
    }
  where
    first : (e : EndpointHistory) → StandsFor old e → (call_refused canceled ≡ (cancel e id).0) × StandsFor mid (cancel e id).1
    first e h = c.done e h (not_memory (call_refused canceled) is)

    second : (e : EndpointHistory) → StandsFor old e → (call_refused later ≡ (reset (cancel e id).1 id).0) × StandsFor new (reset (cancel e id).1 id).1
    second e h = r.done (cancel e id).1 (first e h).1

    refused : (e : EndpointHistory) → StandsFor old e → None ≡ unless_ended (cancel e id).0
    refused e h = is ∙ ap unless_ended (first e h).0

does_same : (r : Option Refusal) (why : Refusal) (e x : EndpointHistory) → (does r e x).0 ≡ Some why → (does r e x).1 ≡ e
does_same None why e x is = absurd (cc)
does_same (Some r) why e x is = refl

-- what still refuses is the refusal of the cancellation
refuses : (refused : Option Refusal) (why : Refusal) → Some why ≡ unless_ended refused → (refused ≡ Some why) × (unless_ended (Some why) ≡ Some why)
refuses None why is = absurd (cc)
refuses (Some r) why is = by_test (is_ended r) refl is
  where
    by_test : (b : Bool) → is_ended r ≡ b → Some why ≡ (if b then None else Some r) → (Some r ≡ Some why) × ((if is_ended why then None else Some why) ≡ Some why)
    by_test true told is = absurd (cc)
    by_test false told is =
        let same : r ≡ why = cc in
        (ap Some same, ap (λ b. if b then None else Some why) (ap is_ended (sym same) ∙ told))

-- the cancellation is refused: nothing is done
pub closes_not : (old mid : EndpointState) (id : ℕ) (canceled : Result Unit Refusal) (why : Refusal)
    → Cancels old mid id canceled → Some why ≡ unless_ended (call_refused canceled) → ClosesStream old mid id (Err why)
closes_not old mid id canceled why c is =
    record {
      closes = record {
        done = λ e h ne.
            let known = c.done e h (λ lacks. ne (sym same ∙ lacks)) in
            let told : (cancel e id).0 ≡ Some why = sym known.0 ∙ same in
            let stands : StandsFor mid e = subst (StandsFor mid) (does_same (cancel_refusal e id) why e _ told) known.1 in
            was_refused e (reset (cancel e id).1 id).1 mid (unless_ended (cancel e id).0) why (ap unless_ended told ∙ kept) stands;
        same = λ ne. c.same (λ none. ne (sym same ∙ none));
        memory = λ e h lacks. ap (λ r. (does (unless_ended r) e (reset (cancel e id).1 id).1).0) (c.memory e h (same ∙ lacks));
      };
      sends = tt;
    }
  where
    same : call_refused canceled ≡ Some why
    same = (refuses (call_refused canceled) why is).0

    kept : unless_ended (Some why) ≡ Some why
    kept = (refuses (call_refused canceled) why is).1
