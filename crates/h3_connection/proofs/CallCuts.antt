-- Two lists of calls that differ in cuts alone are answered alike, up to a connection fault, which both find in the same part.
use Rattle.std.proofs.Common.{◌≡◌, ℕ, List, [], ◌∷◌, ◌++◌, refl, sym, ◌∙◌, subst, Option, Some, None}
use Rattle.std.specs.List.{concat}
use Rattle.h3_field.specs.Instruction.{DecoderInstruction}
use Rattle.h3_connection.specs.CallCuts.{with_streams, DifferInCutsAlone, Part, Same, Cut, Pieces, deliveries, calls_of_first, calls_of_second, first_calls, second_calls, IsCut, AreCuts, RefusedAlike, SameAnswer, AnsweredAlike, BothClosedOr, AllAnsweredAlike, first_refusal}
use Rattle.h3_connection.specs.CallLists.{Call, Result, called, answers, endpoint_after}
use Rattle.h3_connection.specs.Endpoint.{EndpointHistory, new_endpoint}
use Rattle.h3_connection.specs.declared.setup.Announced.{Announced}
use Rattle.h3_proto.specs.declared.stream.Side.{Side}
use Rattle.h3_connection.specs.Incoming.{Incoming}
use Rattle.h3_connection.specs.Isolation.{FindsNoFault}
use Rattle.h3_connection.specs.StreamSets.{Streams}
use Rattle.h3_connection.specs.Unidirectional.{Unidirectional}
use Rattle.h3_connection.proofs.AlikeCalls.{AlikeCalled, called_alike}
use Rattle.h3_connection.proofs.AlikeGroups.{SameEnd, BothOpen, BothClosed, all_delivered, refusal_of, end_of, cut_part}
use Rattle.h3_connection.proofs.AlikePieces.{pieces_alike}
use Rattle.h3_connection.proofs.AlikePulls.{pulls_alike}
use Rattle.h3_connection.proofs.AlikeReading.{Beside}

-- one part
record PartAlike (e f : EndpointHistory) (p : Part) : Type 0 where
  answer : AnsweredAlike e f p
  ends : SameEnd (endpoint_after e (calls_of_first p)) (endpoint_after f (calls_of_second p))

called_end : (P : Result → Result → Type 0) (x y : Result × EndpointHistory) → AlikeCalled P x y → SameEnd x.1 y.1
called_end P x y h = by_closed x.1.closed refl
  where
    by_closed : (o : Option ℕ) → x.1.closed ≡ o → SameEnd x.1 y.1
    by_closed None is = BothOpen is (sym h.closed ∙ is) (h.left is)
    by_closed (Some code) is = BothClosed code code is (sym h.closed ∙ is)

beside_part : (e : EndpointHistory) (s : Streams Incoming) (t : Streams Unidirectional) (r : List DecoderInstruction) → Beside e s t r → e.closed ≡ None → (p : Part) → IsCut e (with_streams e s t r) p → PartAlike e (with_streams e s t r) p
beside_part e s t r b open_still (Same call) is =
    let h = called_alike e s t r b call is (λ id none. pulls_alike e s t r id b none) in
    record { answer = h.answer; ends = called_end (SameAnswer e.side call) _ _ h }
beside_part e s t r b open_still (Cut id one two) is =
    let f = with_streams e s t r in
    let h = cut_part e s t r b open_still id one two is.0 is.1 is.2 in
    record {
      answer =
          subst (λ o. RefusedAlike e id (concat one) o (first_refusal (answers f (deliveries id two)))) (sym (refusal_of e id one))
          (subst (λ o. RefusedAlike e id (concat one) (all_delivered e id one).0 o) (sym (refusal_of f id two)) h.refused);
      ends =
          subst (λ g. SameEnd g (endpoint_after f (deliveries id two))) (sym (end_of e id one))
          (subst (λ g. SameEnd (all_delivered e id one).1 g) (sym (end_of f id two)) h.ends);
    }
beside_part e s t r b open_still (Pieces id m n) is =
    let h = pieces_alike e s t r id m n b open_still is.0 is.1 is.2 in
    record { answer = h.bytes; ends = BothOpen h.first h.second h.left }

part_alike : (e f : EndpointHistory) → DifferInCutsAlone e f → e.closed ≡ None → (p : Part) → IsCut e f p → PartAlike e f p
part_alike e f d open_still p =
    subst (λ g. IsCut e g p → PartAlike e g p) (sym d.same)
    (beside_part e f.incoming f.unidirectional f.own.replies (record { incoming = d.incoming; unidirectional = d.unidirectional; replies = d.replies }) open_still p)

or_closed : (later : Type 0) (one two : EndpointHistory) → SameEnd one two → (one.closed ≡ None → DifferInCutsAlone one two → later) → BothClosedOr later one.closed two.closed
or_closed later one two (BothOpen a b d) h =
    subst (λ o. BothClosedOr later o two.closed) (sym a) (subst (λ o. BothClosedOr later None o) (sym b) (h a d))
or_closed later one two (BothClosed code other a b) h =
    subst (λ o. BothClosedOr later o two.closed) (sym a) (subst (λ o. BothClosedOr later (Some code) o) (sym b) tt)

pub all_alike : (parts : List Part) (e f : EndpointHistory) → DifferInCutsAlone e f → e.closed ≡ None → AreCuts e f parts → AllAnsweredAlike e f parts
all_alike [] e f d open_still are = d
all_alike (p ∷ parts) e f d open_still are =
    let one = endpoint_after e (calls_of_first p) in
    let two = endpoint_after f (calls_of_second p) in
    let h = part_alike e f d open_still p are.0 in
    (h.answer, or_closed (AllAnsweredAlike one two parts) one two h.ends (λ still g. all_alike parts one two g still (are.1 still)))

-- one list behind another
after_both : (e : EndpointHistory) (one two : List Call) → endpoint_after e (one ++ two) ≡ endpoint_after (endpoint_after e one) two
after_both e [] two = refl
after_both e (c ∷ one) two = after_both (called e c).1 one two

no_fault_both : (e : EndpointHistory) (one two : List Call) → e.closed ≡ None → FindsNoFault e (one ++ two) → ((endpoint_after e one).closed ≡ None) × FindsNoFault (endpoint_after e one) two
no_fault_both e [] two open_still h = (open_still, h)
no_fault_both e (c ∷ one) two open_still h = no_fault_both (called e c).1 one two h.0 h.1

still_open : (later : Type 0) (one two : Option ℕ) → one ≡ None → BothClosedOr later one two → later
still_open later None None is h = h
still_open later None (Some code) is h = absurd h
still_open later (Some code) two is h = absurd (cc)

pub left_alike : (parts : List Part) (e f : EndpointHistory) → AllAnsweredAlike e f parts → e.closed ≡ None → FindsNoFault e (first_calls parts) → DifferInCutsAlone (endpoint_after e (first_calls parts)) (endpoint_after f (second_calls parts))
left_alike [] e f h open_still good = h
left_alike (p ∷ parts) e f h open_still good =
    let one = endpoint_after e (calls_of_first p) in
    let two = endpoint_after f (calls_of_second p) in
    let goes = no_fault_both e (calls_of_first p) (first_calls parts) open_still good in
    subst (λ x. DifferInCutsAlone x (endpoint_after f (calls_of_second p ++ second_calls parts))) (sym (after_both e (calls_of_first p) (first_calls parts)))
    (subst (λ x. DifferInCutsAlone (endpoint_after one (first_calls parts)) x) (sym (after_both f (calls_of_second p) (second_calls parts)))
    (left_alike parts one two (still_open (AllAnsweredAlike one two parts) one.closed two.closed goes.0 h.1) goes.0 goes.1))

-- nothing waits at a new endpoint
pub new_alike : (side : Side) (own : Announced) → DifferInCutsAlone (new_endpoint side own) (new_endpoint side own)
new_alike side own = record { incoming = tt; unidirectional = tt; replies = refl; same = refl }
