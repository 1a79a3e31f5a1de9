-- A stream is canceled: it is read beside the endpoint, or goes one way, or is none of a session.
use Rattle.std.proofs.Common.{◌≡◌, ℕ, Bool, true, false, Option, Some, None, refl, sym, ◌∙◌}
use Rattle.std.specs.Prelude.{Result}
use Rattle.h3_connection.specs.Answers.{call_refused}
use Rattle.h3_connection.specs.SendingContracts.{Cancels}
use Rattle.h3_connection.specs.State.{EndpointState}
use Rattle.h3_connection.specs.declared.event.Refusal.{Refusal}
use Rattle.h3_connection.specs.declared.event.Refusal.TheVariants.{NotOpen}
use Rattle.h3_webtransport_streams.specs.Receiver.{canceled}
use Rattle.h3_webtransport_streams.specs.SessionStream.{receiving}
use Rattle.h3_webtransport.specs.Joint.{Joint, is_one_way, is_read}
use Rattle.h3_webtransport.specs.Parts.{ActsHere, UnlessClosed}
use Rattle.h3_webtransport.specs.Receiving.{CancelsOn, CancelsOneWay}

-- a test is not both
never : (A : Type 0) (b : Bool) → b ≡ true → b ≡ false → A
never A b holds fails = absurd (let both : true ≡ false = sym holds ∙ fails in cc)

pub cancels_own : (e : EndpointState) (s t : Joint) (id : ℕ) (result : Result Unit Refusal) → is_read s id ≡ true
    → UnlessClosed e.closed s t (call_refused result) (ActsHere (Some NotOpen) (receiving (Some NotOpen) canceled) s t id (call_refused result)) → CancelsOn e e s t id result
cancels_own e s t id result read goes =
    record {
      own = λ _. (refl, goes);
      one_way = λ not_read. never _ (is_read s id) read not_read;
      other = λ not_read. never _ (is_read s id) read not_read;
    }

pub cancels_one_way : (e f : EndpointState) (s t : Joint) (id : ℕ) (result : Result Unit Refusal) → is_read s id ≡ false → is_one_way s id ≡ true
    → CancelsOneWay e f s t id result → CancelsOn e f s t id result
cancels_one_way e f s t id result not_read one goes =
    record {
      own = λ read. never _ (is_read s id) read not_read;
      one_way = λ _ _. goes;
      other = λ _ both. never _ (is_one_way s id) one both;
    }

pub cancels_other : (e f : EndpointState) (s : Joint) (id : ℕ) (result : Result Unit Refusal) → is_read s id ≡ false → is_one_way s id ≡ false
    → Cancels e f id result → CancelsOn e f s s id result
cancels_other e f s id result not_read both goes =
    record {
      own = λ read. never _ (is_read s id) read not_read;
      one_way = λ _ one. never _ (is_one_way s id) one both;
      other = λ _ _. (refl, goes);
    }
