-- Which streams are ready goes along when a call changes the streams, and so do the counts.
use Rattle.std.proofs.Common.{arith, ◌≡◌, ℕ, zero, suc, Bool, true, false, if◌then◌else◌, List, [], ◌∷◌, length, sym, ◌∙◌, ap, refl, subst, inl, inr}
use Rattle.std.specs.Prelude.{◌≢◌, ◌<◌, ◌≤◌, ◌+◌, ◌*◌, ◌/◌, ◌^◌, ◌&&◌, ◌||◌, ◌==◌, Option, Some, None, IfSome, min, nat_lt, is_some}
use Rattle.std.proofs.lemmas.Bool.{cases_eq, cases_lt}
use Rattle.std.proofs.lemmas.Grind.{common_steps}
use Rattle.std.proofs.lemmas.List.{length-drop}
use Rattle.h3_blocked.specs.Counting.{IsSound, Replaces, SameCounts, waits_at}
use Rattle.h3_blocked.specs.Sums.{TakesOut}
use Rattle.h3_blocked.specs.declared.counts.Blocked.{Blocked}
use Rattle.h3_connection.specs.Calls.{Sets}
use Rattle.h3_connection.specs.State.{OutgoingState, RequestState, kept_at}
use Rattle.h3_connection.specs.StreamSets.{Streams, HaveDistinctIds}
use Rattle.h3_connection.specs.WaitingPieces.{bytes_of, without_front}
use Rattle.h3_connection.specs.WaitingPieceLaws.{bytes-without}
use Rattle.h3_frames.specs.Outgoing.{Outgoing as Piece}
use Rattle.h3_outgoing.specs.Sent.{end_waits, has_body, has_end_taken, is_end_next, is_open, takes_end}
use Rattle.h3_requests.specs.Classes.{class_at, class_of}
use Rattle.h3_requests.specs.Waiting.{has_place, is_any, is_any_below, is_waiting, IsOnePlace, KeepsOtherPlaces}
use Rattle.h3_requests.specs.HasBytes.{has_bytes, has_end, gives_end, may_end}
use Rattle.h3_requests.specs.Counted.{AreCounted}
use Rattle.h3_requests.specs.Lending.{Writes}
use Rattle.h3_requests.specs.Over.{IsOver, with_end_taken}
use Rattle.h3_requests.proofs.Ways.{over_pieces}
use Rattle.h3_connection.specs.Order.{default_precedence}
use Rattle.h3_connection.specs.declared.order.Precedence.{Precedence}
use Rattle.h3_requests.specs.Ready.{AreClassed, HasUrgency, AreEnding, AreKept, ArePlain, AreReady, Moves, is_ready, moved as moved_so}
use Rattle.h3_requests.specs.Seen.{AreSeen}
use Rattle.h3_requests.specs.declared.waiting.WaitingStreams.{WaitingStreams}
use Rattle.h3_requests.specs.declared.ready.ReadyStreams.{ReadyStreams}
use Rattle.h3_requests.specs.declared.ready.Waits.{Waits}
use Rattle.h3_requests.proofs.Counts as counting

and_true : (b : Bool) → (b && true) ≡ b
and_true true = refl
and_true false = refl

and_false : (b : Bool) → (b && false) ≡ false
and_false true = refl
and_false false = refl

itself : (n : ℕ) → (n == n) ≡ true
itself n = grind (arith, common_steps)

or_false : (b : Bool) → (b || false) ≡ b
or_false true = refl
or_false false = refl

same_number : (a b : ℕ) → (a == b) ≡ true → a ≡ b
same_number a b e = grind (arith, common_steps)

apart : (a b : ℕ) → a ≢ b → (a == b) ≡ false
apart a b differs = grind (arith, common_steps, differs)

-- A test of one class and id changes, where streams pass a test of theirs in their class.
abbrev InClass : (ℕ → ℕ → Bool) → (Option RequestState → Bool) → Streams RequestState → Type 0
InClass waits passes streams = (c q : ℕ) → waits c q ≡ (passes (kept_at streams q) && (c == class_at (kept_at streams q)))

-- what of the stream of that id is told, by its class before and after
one_here : (before after : Bool) (was is c class : ℕ) → was ≡ class → is ≡ class → (if (c == class) && true then after else before && (c == was)) ≡ (after && (c == is))
one_here before after was is c class old new = rw (old, new) (by_test (c == class))
  where
    by_test : (b : Bool) → (if b && true then after else before && b) ≡ (after && b)
    by_test true = sym (and_true after)
    by_test false = and_false before ∙ sym (and_false after)

gone_here : (before : Bool) (was c class : ℕ) → was ≡ class → (if (c == class) && true then false else before && (c == was)) ≡ false
gone_here before was c class old = rw old (by_test (c == class))
  where
    by_test : (b : Bool) → (if b && true then false else before && b) ≡ false
    by_test true = refl
    by_test false = and_false before

one_of_class : (passes : Option RequestState → Bool) (w v : ℕ → ℕ → Bool) (old new : Streams RequestState) (class id : ℕ) (is : Bool) → IsOnePlace class id is w v → is ≡ passes (kept_at new id)
    → class_at (kept_at old id) ≡ class → class_at (kept_at new id) ≡ class → ((q : ℕ) → q ≢ id → kept_at new q ≡ kept_at old q) → InClass w passes old → InClass v passes new
one_of_class passes w v old new class id is one own was now others h c q = elim (cases_eq q id) [
  | inl same ↦
      rw same (one c id ∙ ap (λ b. if (c == class) && b then is else w c id) (itself id) ∙ ap (λ b. if (c == class) && true then is else b) (h c id)
      ∙ one_here (passes (kept_at old id)) is (class_at (kept_at old id)) (class_at (kept_at new id)) c class was now ∙ ap (λ b. b && (c == class_at (kept_at new id))) own)
  | inr differs ↦
      one c q ∙ ap (λ b. if b then is else w c q) (ap (λ b. (c == class) && b) (apart q id differs) ∙ and_false (c == class)) ∙ h c q
      ∙ ap (λ o. passes o && (c == class_at o)) (sym (others q differs))
]

-- or nothing of it is told, whatever its class is then
none_of_class : (passes : Option RequestState → Bool) (w v : ℕ → ℕ → Bool) (old new : Streams RequestState) (class id : ℕ) → IsOnePlace class id false w v → passes (kept_at new id) ≡ false
    → class_at (kept_at old id) ≡ class → ((q : ℕ) → q ≢ id → kept_at new q ≡ kept_at old q) → InClass w passes old → InClass v passes new
none_of_class passes w v old new class id one own was others h c q = elim (cases_eq q id) [
  | inl same ↦
      rw same (one c id ∙ ap (λ b. if (c == class) && b then false else w c id) (itself id) ∙ ap (λ b. if (c == class) && true then false else b) (h c id)
      ∙ gone_here (passes (kept_at old id)) (class_at (kept_at old id)) c class was ∙ sym (ap (λ b. b && (c == class_at (kept_at new id))) own))
  | inr differs ↦
      one c q ∙ ap (λ b. if b then false else w c q) (ap (λ b. (c == class) && b) (apart q id differs) ∙ and_false (c == class)) ∙ h c q
      ∙ ap (λ o. passes o && (c == class_at o)) (sym (others q differs))
]

-- one stream changes, and the test of its id
ready_at : (s t : ReadyStreams) (old new : Streams RequestState) (class id : ℕ) (is : Bool) → IsOnePlace class id is (is_ready s) (is_ready t) → is ≡ has_bytes (kept_at new id) → class_at (kept_at old id) ≡ class
    → class_at (kept_at new id) ≡ class → ((q : ℕ) → q ≢ id → kept_at new q ≡ kept_at old q) → AreReady s old → AreReady t new
ready_at s t old new class id is one own was now others h = one_of_class has_bytes (is_ready s) (is_ready t) old new class id is one own was now others h

-- the places of ends, if one stream changes
placed_at : (e f : WaitingStreams) (old new : Streams RequestState) (id : ℕ) → ((c q : ℕ) → q ≢ id → has_place e c q ≡ true → has_place f c q ≡ true)
    → (may_end (kept_at new id) ≡ true → has_place f (class_at (kept_at new id)) id ≡ true) → ((q : ℕ) → q ≢ id → kept_at new q ≡ kept_at old q) → AreEnding e old
    → (q : ℕ) → may_end (kept_at new q) ≡ true → has_place f (class_at (kept_at new q)) q ≡ true
placed_at e f old new id places own_place others h q may = elim (cases_eq q id) [
  | inl same ↦ ap (λ k. has_place f (class_at (kept_at new k)) k) same ∙ own_place (ap (λ k. may_end (kept_at new k)) (sym same) ∙ may)
  | inr differs ↦
      ap (λ o. has_place f (class_at o) q) (others q differs)
      ∙ places (class_at (kept_at old q)) q differs (h.placed q (ap may_end (sym (others q differs)) ∙ may))
]

-- the same of its end
ends_at : (e f : WaitingStreams) (old new : Streams RequestState) (class id : ℕ) (is : Bool) → IsOnePlace class id is (is_waiting e) (is_waiting f) → ((c q : ℕ) → q ≢ id → has_place e c q ≡ true → has_place f c q ≡ true)
    → is ≡ has_end (kept_at new id) → class_at (kept_at old id) ≡ class → class_at (kept_at new id) ≡ class → (may_end (kept_at new id) ≡ true → has_place f (class_at (kept_at new id)) id ≡ true)
    → ((q : ℕ) → q ≢ id → kept_at new q ≡ kept_at old q) → AreEnding e old → AreEnding f new
ends_at e f old new class id is one places own was now own_place others h = record {
  ending = one_of_class has_end (is_waiting e) (is_waiting f) old new class id is one own was now others h.ending;
  placed = placed_at e f old new id places own_place others h;
}

-- other streams keep their places where one is left
pub keep_others : (class id : ℕ) (e f : WaitingStreams) → KeepsOtherPlaces class id (has_place e) (has_place f) → (c q : ℕ) → q ≢ id → has_place e c q ≡ true → has_place f c q ≡ true
keep_others class id e f keeps c q differs has = keeps c q (ap (λ b. (c == class) && b) (apart q id differs) ∙ and_false (c == class)) ∙ has

-- a stream keeps its class, and so do all others
few_at : (s : ReadyStreams) (old new : Streams RequestState) (id : ℕ) → IfSome (kept_at new id) HasUrgency → ((q : ℕ) → q ≢ id → kept_at new q ≡ kept_at old q) → AreClassed s old → (q : ℕ) → IfSome (kept_at new q) HasUrgency
few_at s old new id own others h q = elim (cases_eq q id) [
  | inl same ↦ subst (λ k. IfSome (kept_at new k) HasUrgency) (sym same) own
  | inr differs ↦ subst (λ o. IfSome o HasUrgency) (sym (others q differs)) (h.few q)
]

same_classes : (s t : ReadyStreams) (old new : Streams RequestState) (id : ℕ) → t.has_classes ≡ s.has_classes → class_at (kept_at new id) ≡ class_at (kept_at old id) → IfSome (kept_at new id) HasUrgency
    → ((q : ℕ) → q ≢ id → kept_at new q ≡ kept_at old q) → AreClassed s old → AreClassed t new
same_classes s t old new id has own urgent others h =
    record {
      few = few_at s old new id urgent others h;
      plain = λ none q. alike q ∙ h.plain (sym has ∙ none) q;
    }
  where
    alike : (q : ℕ) → class_at (kept_at new q) ≡ class_at (kept_at old q)
    alike q = elim (cases_eq q id) [
      | inl same ↦ ap (λ k. class_at (kept_at new k)) same ∙ own ∙ ap (λ k. class_at (kept_at old k)) (sym same)
      | inr differs ↦ ap class_at (others q differs)
    ]

-- or is of that of which nothing was said
plain_class : (s t : ReadyStreams) (old new : Streams RequestState) (id : ℕ) → t.has_classes ≡ s.has_classes → class_at (kept_at new id) ≡ 6 → IfSome (kept_at new id) HasUrgency
    → ((q : ℕ) → q ≢ id → kept_at new q ≡ kept_at old q) → AreClassed s old → AreClassed t new
plain_class s t old new id has own urgent others h =
    record {
      few = few_at s old new id urgent others h;
      plain = λ none q. elim (cases_eq q id) [
        | inl same ↦ ap (λ k. class_at (kept_at new k)) same ∙ own
        | inr differs ↦ ap class_at (others q differs) ∙ h.plain (sym has ∙ none) q
      ];
    }

-- a stream that is set is there, and so are all others as before
pub seen_set : {n : ℕ} (old new : Streams RequestState) (id : ℕ) (r : RequestState) → Sets old new id r → AreSeen n old → AreSeen n new
seen_set old new id r sets seen = record {
  few = seen.few;
  there = λ k below. elim (cases_eq (4 * k) id) [
    | inl same ↦ ap (λ q. is_some (kept_at new q)) same ∙ ap is_some sets.here
    | inr differs ↦ ap is_some (sets.others (4 * k) differs) ∙ seen.there k below
  ];
}

-- below one that is taken out all are there as before
pub seen_left : (n m : ℕ) (old new : Streams RequestState) (id : ℕ) → TakesOut old new id → m ≡ min n (id / 4) → AreSeen n old → AreSeen m new
seen_left n m old new id takes is seen =
    let most : n ≤ 2 ^ 60 = seen.few in record {
      few = omega (arith, most, is);
      there = λ k below.
          let within : k < n = omega (arith, below, is) in
          let differs : 4 * k ≢ id = λ same. absurd (omega (arith, below, is, same)) in
          ap is_some (takes.others (4 * k) differs) ∙ seen.there k within;
    }

-- the streams are what they were, one of them in another place
pub moved : {counts : Blocked} {s : ReadyStreams} {old new : Streams RequestState} {n : ℕ} → new ≡ old → AreKept counts s n old → AreKept counts s n new
moved {counts} {s} {old} {new} {n} same h = subst (AreKept counts s n) (sym same) h

-- room was taken, or given back
pub room_kept : {counts : Blocked} {s t : ReadyStreams} {streams : Streams RequestState} {n : ℕ} → ((c q : ℕ) → is_ready t c q ≡ is_ready s c q) → t.ends ≡ s.ends → t.has_classes ≡ s.has_classes
    → AreKept counts s n streams → AreKept counts t n streams
room_kept {counts} {s} {t} {streams} same ends classes h = record {
  counted = h.counted;
  ready = λ c q. same c q ∙ h.ready c q;
  ends = subst (λ e. AreEnding e streams) (sym ends) h.ends;
  seen_at_least = h.seen_at_least;
  classed = record { few = h.classed.few; plain = λ none. h.classed.plain (sym classes ∙ none) };
}

-- and room for ends
pub both_kept : {counts : Blocked} {s t : ReadyStreams} {streams : Streams RequestState} {n : ℕ} → ((c q : ℕ) → is_ready t c q ≡ is_ready s c q) → ((c q : ℕ) → is_waiting t.ends c q ≡ is_waiting s.ends c q)
    → ((c q : ℕ) → has_place s.ends c q ≡ true → has_place t.ends c q ≡ true) → t.has_classes ≡ s.has_classes → AreKept counts s n streams → AreKept counts t n streams
both_kept {counts} {s} {t} {streams} same ending places classes h = record {
  counted = h.counted;
  ready = λ c q. same c q ∙ h.ready c q;
  ends = record { ending = λ c q. ending c q ∙ h.ends.ending c q; placed = λ q may. places (class_at (kept_at streams q)) q (h.ends.placed q may) };
  seen_at_least = h.seen_at_least;
  classed = record { few = h.classed.few; plain = λ none. h.classed.plain (sym classes ∙ none) };
}

-- the same counts, kept in another way
pub kept_again : {counts others : Blocked} {s : ReadyStreams} {streams : Streams RequestState} {n : ℕ} → SameCounts counts others → IsSound others → AreKept counts s n streams → AreKept others s n streams
kept_again same sound h = record { counted = counting.counted_again same sound h.counted; ready = h.ready; ends = h.ends; seen_at_least = h.seen_at_least; classed = h.classed }

-- nothing changes of a test that the stream passes as before
as_it_was : (passes : Option RequestState → Bool) (w v : ℕ → ℕ → Bool) (old : Streams RequestState) (class id : ℕ) (is : Bool) → ((c q : ℕ) → v c q ≡ w c q) → class_at (kept_at old id) ≡ class → passes (kept_at old id) ≡ is
    → InClass w passes old → IsOnePlace class id is w v
as_it_was passes w v old class id is same was own h c q = same c q ∙ by_tests (c == class) refl (q == id) refl
  where
    by_tests : (b : Bool) → (c == class) ≡ b → (d : Bool) → (q == id) ≡ d → w c q ≡ (if b && d then is else w c q)
    by_tests true e true f =
        let here : c ≡ class = grind (arith, common_steps, e) in
        let there : q ≡ id = grind (arith, common_steps, f) in
        rw (here, there) (h class id ∙ ap (λ n. passes (kept_at old id) && (class == n)) was ∙ ap (λ b. passes (kept_at old id) && b) (itself class) ∙ and_true (passes (kept_at old id)) ∙ own)
    by_tests true e false f = refl
    by_tests false e d f = refl

bytes_before : {n : ℕ} (counts : Blocked) (s t : ReadyStreams) (old : Streams RequestState) (id : ℕ) (before after : RequestState) → kept_at old id ≡ Some before → ((c q : ℕ) → is_ready t c q ≡ is_ready s c q)
    → after.outgoing.pieces ≡ before.outgoing.pieces → AreKept counts s n old → IsOnePlace (class_at (Some before)) id (has_bytes (Some after)) (is_ready s) (is_ready t)
bytes_before counts s t old id before after there ready same h =
    as_it_was has_bytes (is_ready s) (is_ready t) old (class_at (Some before)) id (has_bytes (Some after)) ready (ap class_at there) (ap has_bytes there ∙ ap (λ p. nat_lt 0 (length (bytes_of p))) (sym same)) h.ready

end_before : {n : ℕ} (counts : Blocked) (s t : ReadyStreams) (old : Streams RequestState) (id : ℕ) (before after : RequestState) → kept_at old id ≡ Some before → t.ends ≡ s.ends
    → end_waits after.outgoing ≡ end_waits before.outgoing → AreKept counts s n old → IsOnePlace (class_at (Some before)) id (has_end (Some after)) (is_waiting s.ends) (is_waiting t.ends)
end_before counts s t old id before after there ends same h =
    as_it_was has_end (is_waiting s.ends) (is_waiting t.ends) old (class_at (Some before)) id (has_end (Some after)) (λ c q. ap (λ e. is_waiting e c q) ends) (ap class_at there) (ap has_end there ∙ sym same) h.ends.ending

-- the streams after a call on one of them, of which everything is known
after_call : {n : ℕ} (counts others : Blocked) (s t : ReadyStreams) (old new : Streams RequestState) (id : ℕ) (before after : RequestState) → kept_at old id ≡ Some before → Sets old new id after
    → after.outgoing.precedence ≡ before.outgoing.precedence → t.has_classes ≡ s.has_classes → AreCounted others new
    → IsOnePlace (class_at (Some before)) id (has_bytes (Some after)) (is_ready s) (is_ready t) → IsOnePlace (class_at (Some before)) id (has_end (Some after)) (is_waiting s.ends) (is_waiting t.ends)
    → ((c q : ℕ) → q ≢ id → has_place s.ends c q ≡ true → has_place t.ends c q ≡ true) → (takes_end after.outgoing ≡ true → has_place t.ends (class_at (Some before)) id ≡ true) → AreKept counts s n old
    → AreKept others t n new
after_call counts others s t old new id before after was sets same has counted bytes end places own h =
    let class : class_at (kept_at new id) ≡ class_at (Some before) = ap class_at sets.here ∙ ap class_of same in
    let few : HasUrgency before = subst (λ o. IfSome o HasUrgency) was (h.classed.few id) in
    let still : HasUrgency after = subst (λ (p : Precedence). p.priority.urgency ≤ 7) (sym same) few in
    let urgent : IfSome (kept_at new id) HasUrgency = subst (λ o. IfSome o HasUrgency) (sym sets.here) still in
    record {
      counted = counted;
      ready = ready_at s t old new (class_at (Some before)) id (has_bytes (Some after)) bytes (sym (ap has_bytes sets.here)) (ap class_at was) class sets.others h.ready;
      ends =
          ends_at s.ends t.ends old new (class_at (Some before)) id (has_end (Some after)) end places (sym (ap has_end sets.here)) (ap class_at was) class
          (λ may. ap (λ k. has_place t.ends k id) class ∙ own (sym (ap may_end sets.here) ∙ may)) sets.others h.ends;
      seen_at_least = seen_set old new id after sets h.seen_at_least;
      classed = same_classes s t old new id has (class ∙ sym (ap class_at was)) urgent sets.others h.classed;
    }

-- a stream that may be finished has a place
place_before : {n : ℕ} (counts : Blocked) (s t : ReadyStreams) (old : Streams RequestState) (id : ℕ) (before after : RequestState) → kept_at old id ≡ Some before → t.ends ≡ s.ends → takes_end after.outgoing ≡ takes_end before.outgoing
    → AreKept counts s n old → takes_end after.outgoing ≡ true → has_place t.ends (class_at (Some before)) id ≡ true
place_before counts s t old id before after there ends same h may =
    ap (λ e. has_place e (class_at (Some before)) id) ends ∙ ap (λ o. has_place s.ends (class_at o) id) (sym there) ∙ h.ends.placed id (ap may_end there ∙ sym same ∙ may)

places_stay : (s t : ReadyStreams) (id : ℕ) → t.ends ≡ s.ends → (c q : ℕ) → q ≢ id → has_place s.ends c q ≡ true → has_place t.ends c q ≡ true
places_stay s t id ends c q differs h = ap (λ e. has_place e c q) ends ∙ h

-- a stream was written that waits for as much as before, and of which as much is sent
pub written : {under_way : Option RequestState} {n : ℕ} (counts : Blocked) (s : ReadyStreams) (old new : Streams RequestState) (id : ℕ) (before after : RequestState) → Writes old new under_way id after → under_way ≡ Some before
    → after.incoming.waits_for ≡ before.incoming.waits_for → after.outgoing ≡ before.outgoing → AreKept counts s n old → AreKept counts s n new
written counts s old new id before after writes there same sent h =
    let was = counting.kept_there old new id before after writes there in
    after_call counts counts s s old new id before after was (writes.0 (ap is_some there)) (ap (λ o. o.precedence) sent) refl (counting.written counts old new id before after writes there same h.counted)
    (bytes_before counts s s old id before after was (λ c q. refl) (ap (λ o. o.pieces) sent) h) (end_before counts s s old id before after was refl (ap end_waits sent) h)
    (places_stay s s id refl) (place_before counts s s old id before after was refl (ap takes_end sent) h) h

-- the same where no more is known than that its bytes and its end wait as before
pub written_so : {under_way : Option RequestState} {n : ℕ} (counts : Blocked) (s : ReadyStreams) (old new : Streams RequestState) (id : ℕ) (before after : RequestState) → Writes old new under_way id after → under_way ≡ Some before
    → after.incoming.waits_for ≡ before.incoming.waits_for → after.outgoing.pieces ≡ before.outgoing.pieces → end_waits after.outgoing ≡ end_waits before.outgoing
    → takes_end after.outgoing ≡ takes_end before.outgoing → after.outgoing.precedence ≡ before.outgoing.precedence → AreKept counts s n old → AreKept counts s n new
written_so counts s old new id before after writes there same pieces end takes class h =
    let was = counting.kept_there old new id before after writes there in
    after_call counts counts s s old new id before after was (writes.0 (ap is_some there)) class refl (counting.written counts old new id before after writes there same h.counted)
    (bytes_before counts s s old id before after was (λ c q. refl) pieces h) (end_before counts s s old id before after was refl end h)
    (places_stay s s id refl) (place_before counts s s old id before after was refl takes h) h

-- or its count was replaced
pub replaced : {under_way : Option RequestState} {n : ℕ} (counts others : Blocked) (s : ReadyStreams) (old new : Streams RequestState) (id : ℕ) (before after : RequestState) → Writes old new under_way id after → under_way ≡ Some before
    → IsSound others → Replaces counts others before.incoming.waits_for after.incoming.waits_for → after.outgoing ≡ before.outgoing → AreKept counts s n old
    → AreKept others s n new
replaced counts others s old new id before after writes there sound replaces sent h =
    let was = counting.kept_there old new id before after writes there in
    after_call counts others s s old new id before after was (writes.0 (ap is_some there)) (ap (λ o. o.precedence) sent) refl (counting.replaced counts others old new id before after writes there sound replaces h.counted)
    (bytes_before counts s s old id before after was (λ c q. refl) (ap (λ o. o.pieces) sent) h) (end_before counts s s old id before after was refl (ap end_waits sent) h)
    (places_stay s s id refl) (place_before counts s s old id before after was refl (ap takes_end sent) h) h

-- or its bytes were, and whether any wait is known
pub settled : {under_way : Option RequestState} {n : ℕ} (counts : Blocked) (s t : ReadyStreams) (old new : Streams RequestState) (class id : ℕ) (is : Bool) (before after : RequestState) → Writes old new under_way id after → under_way ≡ Some before
    → after.incoming.waits_for ≡ before.incoming.waits_for → IsOnePlace class id is (is_ready s) (is_ready t) → is ≡ nat_lt 0 (length (bytes_of after.outgoing.pieces)) → t.ends ≡ s.ends
    → end_waits after.outgoing ≡ end_waits before.outgoing → (takes_end after.outgoing ≡ true → has_place s.ends class id ≡ true) → class ≡ class_at (Some before)
    → after.outgoing.precedence ≡ before.outgoing.precedence → t.has_classes ≡ s.has_classes → AreKept counts s n old → AreKept counts t n new
settled counts s t old new class id is before after writes there same one waits ends end may is_class precedence has h =
    let was = counting.kept_there old new id before after writes there in
    after_call counts counts s t old new id before after was (writes.0 (ap is_some there)) precedence has (counting.written counts old new id before after writes there same h.counted)
    (subst (λ k. IsOnePlace k id (has_bytes (Some after)) (is_ready s) (is_ready t)) is_class (subst (λ b. IsOnePlace class id b (is_ready s) (is_ready t)) waits one)) (end_before counts s t old id before after was ends end h)
    (places_stay s t id ends) (λ takes. ap (λ e. has_place e (class_at (Some before)) id) ends ∙ subst (λ k. has_place s.ends k id ≡ true) is_class (may takes)) h

-- a stream that took an end before has a place
pub had_place : {under_way : Option RequestState} {n : ℕ} (counts : Blocked) (s : ReadyStreams) (old new : Streams RequestState) (id : ℕ) (before after : RequestState) → Writes old new under_way id after → under_way ≡ Some before
    → takes_end after.outgoing ≡ takes_end before.outgoing → AreKept counts s n old → (class : ℕ) → class ≡ class_at (Some before) → takes_end after.outgoing ≡ true → has_place s.ends class id ≡ true
had_place counts s old new id before after writes there same h class is may =
    ap (λ k. has_place s.ends k id) is ∙ place_before counts s s old id before after (counting.kept_there old new id before after writes there) refl same h may

-- or it was reset
pub left : {under_way : Option RequestState} {n : ℕ} (counts : Blocked) (s t : ReadyStreams) (old new : Streams RequestState) (class id : ℕ) (before after : RequestState) → Writes old new under_way id after → under_way ≡ Some before
    → after.incoming.waits_for ≡ before.incoming.waits_for → has_bytes (Some after) ≡ false → after.outgoing.is_finished ≡ false → after.outgoing.is_reset ≡ true → class ≡ class_at (Some before)
    → after.outgoing.precedence ≡ before.outgoing.precedence → IsOnePlace class id false (is_ready s) (is_ready t) → IsOnePlace class id false (is_waiting s.ends) (is_waiting t.ends)
    → KeepsOtherPlaces class id (has_place s.ends) (has_place t.ends) → t.has_classes ≡ s.has_classes → AreKept counts s n old → AreKept counts t n new
left counts s t old new class id before after writes there same none unfinished reset is_class precedence bytes end places has h =
    let was = counting.kept_there old new id before after writes there in
    let no_end : end_waits after.outgoing ≡ false = rw unfinished refl in
    let closed : takes_end after.outgoing ≡ false = rw (unfinished, reset) refl in
    after_call counts counts s t old new id before after was (writes.0 (ap is_some there)) precedence has (counting.written counts old new id before after writes there same h.counted)
    (subst (λ k. IsOnePlace k id (has_bytes (Some after)) (is_ready s) (is_ready t)) is_class (subst (λ b. IsOnePlace class id b (is_ready s) (is_ready t)) (sym none) bytes))
    (subst (λ k. IsOnePlace k id (has_end (Some after)) (is_waiting s.ends) (is_waiting t.ends)) is_class (subst (λ b. IsOnePlace class id b (is_waiting s.ends) (is_waiting t.ends)) (sym no_end) end))
    (keep_others class id s.ends t.ends places) (λ takes. absurd (let wrong : false ≡ true = sym closed ∙ takes in cc)) h

-- or it was finished
pub ended : {under_way : Option RequestState} {n : ℕ} (counts : Blocked) (s t : ReadyStreams) (old new : Streams RequestState) (class id : ℕ) (is : Bool) (before after : RequestState) → Writes old new under_way id after → under_way ≡ Some before
    → after.incoming.waits_for ≡ before.incoming.waits_for → after.outgoing.pieces ≡ before.outgoing.pieces → is ≡ end_waits after.outgoing → is_open after.outgoing ≡ false → class ≡ class_at (Some before)
    → after.outgoing.precedence ≡ before.outgoing.precedence → ((c q : ℕ) → is_ready t c q ≡ is_ready s c q) → IsOnePlace class id is (is_waiting s.ends) (is_waiting t.ends)
    → KeepsOtherPlaces class id (has_place s.ends) (has_place t.ends) → t.has_classes ≡ s.has_classes → AreKept counts s n old → AreKept counts t n new
ended counts s t old new class id is before after writes there same sent waits closed is_class precedence ready end places has h =
    let was = counting.kept_there old new id before after writes there in
    let takes_none : takes_end after.outgoing ≡ false = rw closed refl in
    after_call counts counts s t old new id before after was (writes.0 (ap is_some there)) precedence has (counting.written counts old new id before after writes there same h.counted)
    (bytes_before counts s t old id before after was ready sent h)
    (subst (λ k. IsOnePlace k id (has_end (Some after)) (is_waiting s.ends) (is_waiting t.ends)) is_class (subst (λ b. IsOnePlace class id b (is_waiting s.ends) (is_waiting t.ends)) waits end))
    (keep_others class id s.ends t.ends places) (λ takes. absurd (let wrong : false ≡ true = sym takes_none ∙ takes in cc)) h

-- a stream whose FIN was taken
both : (a b : Bool) → (a && b) ≡ true → (a ≡ true) × (b ≡ true)
both true b h = (refl, h)
both false b h = absurd (cc)

gone : (o : OutgoingState) → is_end_next o ≡ true → (end_waits (has_end_taken o) ≡ false) × (takes_end (has_end_taken o) ≡ false)
gone o next =
    let finished : o.is_finished ≡ true = (both _ _ (both _ _ next).0).0 in
    (rw finished refl, rw finished refl)

pub end_gone : {under_way : Option RequestState} {n : ℕ} (counts : Blocked) (s t : ReadyStreams) (old new : Streams RequestState) (class id : ℕ) (before after : RequestState) → Writes old new under_way id after → under_way ≡ Some before
    → after.incoming.waits_for ≡ before.incoming.waits_for → after.outgoing ≡ has_end_taken before.outgoing → is_end_next before.outgoing ≡ true → class ≡ class_at (Some before)
    → ((c q : ℕ) → is_ready t c q ≡ is_ready s c q) → IsOnePlace class id false (is_waiting s.ends) (is_waiting t.ends) → KeepsOtherPlaces class id (has_place s.ends) (has_place t.ends) → t.has_classes ≡ s.has_classes
    → AreKept counts s n old → AreKept counts t n new
end_gone counts s t old new class id before after writes there same taken next is_class ready end places has h =
    let was = counting.kept_there old new id before after writes there in
    let off = gone before.outgoing next in
    let no_end : end_waits after.outgoing ≡ false = ap end_waits taken ∙ off.0 in
    let closed : takes_end after.outgoing ≡ false = ap takes_end taken ∙ off.1 in
    after_call counts counts s t old new id before after was (writes.0 (ap is_some there)) (ap (λ o. o.precedence) taken) has (counting.written counts old new id before after writes there same h.counted)
    (bytes_before counts s t old id before after was ready (ap (λ o. o.pieces) taken) h)
    (subst (λ k. IsOnePlace k id (has_end (Some after)) (is_waiting s.ends) (is_waiting t.ends)) is_class (subst (λ b. IsOnePlace class id b (is_waiting s.ends) (is_waiting t.ends)) (sym no_end) end))
    (keep_others class id s.ends t.ends places) (λ takes. absurd (let wrong : false ≡ true = sym closed ∙ takes in cc)) h

-- a stream came on which nothing has happened, in the place of one whose count was taken out
pub inserted : {n m : ℕ} (counts others : Blocked) (s t : ReadyStreams) (old new : Streams RequestState) (class id count : ℕ) (r : RequestState) → Sets old new id r → HaveDistinctIds new
    → r.incoming.waits_for ≡ 0 → has_bytes (Some r) ≡ false → has_end (Some r) ≡ false → may_end (Some r) ≡ false → r.outgoing.precedence ≡ default_precedence → count ≡ waits_at (kept_at old id) → IsSound others → Replaces counts others count 0
    → class ≡ class_at (kept_at old id) → IsOnePlace class id false (is_ready s) (is_ready t) → IsOnePlace class id false (is_waiting s.ends) (is_waiting t.ends) → KeepsOtherPlaces class id (has_place s.ends) (has_place t.ends)
    → t.has_classes ≡ s.has_classes → AreKept counts s n old → AreSeen m new → AreKept others t m new
inserted counts others s t old new class id count r sets distinct nothing none no_end unsent plain is sound replaces is_class one end places has h seen =
    record {
      counted = counting.inserted counts others old new id count r sets distinct nothing is sound replaces h.counted;
      ready = none_of_class has_bytes (is_ready s) (is_ready t) old new class id one (ap has_bytes sets.here ∙ none) (sym is_class) sets.others h.ready;
      ends = record {
        ending = none_of_class has_end (is_waiting s.ends) (is_waiting t.ends) old new class id end (ap has_end sets.here ∙ no_end) (sym is_class) sets.others h.ends.ending;
        placed = placed_at s.ends t.ends old new id (keep_others class id s.ends t.ends places) (λ may. absurd (let wrong : false ≡ true = sym (ap may_end sets.here ∙ unsent) ∙ may in cc)) sets.others h.ends;
      };
      seen_at_least = seen;
      classed =
          plain_class s t old new id has (ap class_at sets.here ∙ ap class_of plain)
          (subst (λ o. IfSome o HasUrgency) (sym sets.here) (subst (λ (p : Precedence). p.priority.urgency ≤ 7) (sym plain) (omega arith))) sets.others h.classed;
    }

-- or where none was
pub came : {n m : ℕ} (counts : Blocked) (s : ReadyStreams) (old new : Streams RequestState) (id : ℕ) (r : RequestState) → Sets old new id r → HaveDistinctIds new
    → r.incoming.waits_for ≡ 0 → has_bytes (Some r) ≡ false → has_end (Some r) ≡ false → may_end (Some r) ≡ false → r.outgoing.precedence ≡ default_precedence → kept_at old id ≡ None → AreKept counts s n old → AreSeen m new → AreKept counts s m new
came counts s old new id r sets distinct nothing none no_end unsent plain absent h seen =
    inserted counts counts s s old new 6 id 0 r sets distinct nothing none no_end unsent plain (sym (ap waits_at absent)) h.counted.sound (λ n. refl) (sym (ap class_at absent))
    (as_it_was has_bytes (is_ready s) (is_ready s) old 6 id false (λ c q. refl) (ap class_at absent) (ap has_bytes absent) h.ready)
    (as_it_was has_end (is_waiting s.ends) (is_waiting s.ends) old 6 id false (λ c q. refl) (ap class_at absent) (ap has_end absent) h.ends.ending) (λ c q differs. refl) refl h seen

-- and one went
pub removed : {n m : ℕ} (counts others : Blocked) (s t : ReadyStreams) (old new : Streams RequestState) (class id count : ℕ) → TakesOut old new id → HaveDistinctIds new
    → count ≡ waits_at (kept_at old id) → IsSound others → Replaces counts others count 0 → class ≡ class_at (kept_at old id) → IsOnePlace class id false (is_ready s) (is_ready t)
    → IsOnePlace class id false (is_waiting s.ends) (is_waiting t.ends) → KeepsOtherPlaces class id (has_place s.ends) (has_place t.ends) → t.has_classes ≡ s.has_classes → AreKept counts s n old → AreSeen m new
    → AreKept others t m new
removed counts others s t old new class id count takes distinct is sound replaces is_class one end places has h seen =
    record {
      counted = counting.removed counts others old new id count takes distinct is sound replaces h.counted;
      ready = none_of_class has_bytes (is_ready s) (is_ready t) old new class id one (ap has_bytes takes.here) (sym is_class) takes.others h.ready;
      ends = record {
        ending = none_of_class has_end (is_waiting s.ends) (is_waiting t.ends) old new class id end (ap has_end takes.here) (sym is_class) takes.others h.ends.ending;
        placed = placed_at s.ends t.ends old new id (keep_others class id s.ends t.ends places) (λ may. absurd (let wrong : false ≡ true = sym (ap may_end takes.here) ∙ may in cc)) takes.others h.ends;
      };
      seen_at_least = seen;
      classed = plain_class s t old new id has (ap class_at takes.here) (subst (λ o. IfSome o HasUrgency) (sym takes.here) tt) takes.others h.classed;
    }

-- what waits once some of it was taken waited before
fewer : (count : ℕ) (pieces : List Piece) → nat_lt 0 (length (bytes_of (without_front count pieces))) ≡ true → nat_lt 0 (length (bytes_of pieces)) ≡ true
fewer count pieces some = grind (arith, some, ap length (bytes-without count pieces), length-drop count (bytes_of pieces))

-- so the stream is ready
pub ready_before : {n : ℕ} (counts : Blocked) (s : ReadyStreams) (streams : Streams RequestState) (class id count : ℕ) (is : Bool) (r : RequestState) → AreKept counts s n streams → kept_at streams id ≡ Some r
    → class ≡ class_at (Some r) → is ≡ nat_lt 0 (length (bytes_of (without_front count r.outgoing.pieces))) → is ≡ true → is_ready s class id ≡ true
ready_before counts s streams class id count is r h there is_class left some =
    ap (λ k. is_ready s k id) is_class ∙ h.ready (class_at (Some r)) id ∙ ap (λ o. has_bytes o && (class_at (Some r) == class_at o)) there ∙ ap (λ b. has_bytes (Some r) && b) (itself (class_at (Some r)))
    ∙ and_true (has_bytes (Some r)) ∙ fewer count r.outgoing.pieces (sym left ∙ some)

-- while all streams are of one class this one is
pub of_plain : {n : ℕ} {counts : Blocked} {s : ReadyStreams} {streams : Streams RequestState} (id : ℕ) (r : RequestState) → AreKept counts s n streams → kept_at streams id ≡ Some r
    → s.has_classes ≡ false → class_at (Some r) ≡ 6
of_plain id r h there none = sym (ap class_at there) ∙ h.classed.plain none id

-- a body changes nothing of the stream's end
pub body_end : (o : OutgoingState) (bytes : List ℕ) → (end_waits (has_body o bytes) ≡ end_waits o) × (takes_end (has_body o bytes) ≡ takes_end o)
body_end o [] = (refl, refl)
body_end o (byte ∷ bytes) = (refl, refl)

-- nor its class
pub body_class : (o : OutgoingState) (bytes : List ℕ) → (has_body o bytes).precedence ≡ o.precedence
body_class o [] = refl
body_class o (byte ∷ bytes) = refl

-- a stream that may be finished has a place in its class
pub class_place : {counts : Blocked} {s : ReadyStreams} {streams : Streams RequestState} {n : ℕ} → AreKept counts s n streams → (class id : ℕ) (r : RequestState) → kept_at streams id ≡ Some r → class ≡ class_at (Some r)
    → takes_end r.outgoing ≡ true → has_place s.ends class id ≡ true
class_place {counts} {s} {streams} {n} h class id r there is may =
    ap (λ k. has_place s.ends k id) is ∙ ap (λ o. has_place s.ends (class_at o) id) (sym there) ∙ h.ends.placed id (ap may_end there ∙ may)

-- the end of a stream that is over is next, where it waits
pub over_gives : (o : Option RequestState) → IfSome o IsOver → has_end o ≡ gives_end o
over_gives None h = refl
over_gives (Some r) h = sym (ap (λ p. end_waits r.outgoing && (length (bytes_of p) == 0)) (over_pieces r h) ∙ and_true (end_waits r.outgoing))
  where
    and_true : (b : Bool) → (b && true) ≡ b
    and_true true = refl
    and_true false = refl

over_goes : (o : Option RequestState) → IfSome o IsOver → has_end o ≡ true → IfSome o (λ r. is_end_next r.outgoing ≡ true)
over_goes None h waits = tt
over_goes (Some r) h waits = sym (over_gives (Some r) h) ∙ waits

-- the end of a stream that is over was taken
pub over_gone : {n : ℕ} (counts : Blocked) (s t : ReadyStreams) (old new : Streams RequestState) (class id : ℕ) (o : Option RequestState) → kept_at old id ≡ o → IfSome o IsOver → has_end o ≡ true → HaveDistinctIds new
    → IfSome o (λ r. Sets old new id (with_end_taken r)) → class ≡ class_at o → ((c q : ℕ) → is_ready t c q ≡ is_ready s c q) → IsOnePlace class id false (is_waiting s.ends) (is_waiting t.ends)
    → KeepsOtherPlaces class id (has_place s.ends) (has_place t.ends) → t.has_classes ≡ s.has_classes → AreKept counts s n old → AreKept counts t n new
over_gone counts s t old new class id None there over waits distinct sets is_class ready end places has h = absurd (cc)
over_gone counts s t old new class id (Some r) there over waits distinct sets is_class ready end places has h =
    let off = gone r.outgoing (over_goes (Some r) over waits) in
    after_call counts counts s t old new id r (with_end_taken r) there sets refl has (counting.same_count counts old new id r (with_end_taken r) sets distinct there refl h.counted)
    (bytes_before counts s t old id r (with_end_taken r) there ready refl h)
    (subst (λ k. IsOnePlace k id (has_end (Some (with_end_taken r))) (is_waiting s.ends) (is_waiting t.ends)) is_class (subst (λ b. IsOnePlace class id b (is_waiting s.ends) (is_waiting t.ends)) (sym off.0) end))
    (keep_others class id s.ends t.ends places) (λ takes. absurd (let wrong : false ≡ true = sym off.1 ∙ takes in cc)) h

-- until a stream is of a class of its own nothing waits in any class but one
pub plain : {counts : Blocked} {s : ReadyStreams} {streams : Streams RequestState} {n : ℕ} → AreKept counts s n streams → ArePlain s
plain {counts} {s} {streams} h none c q differs =
    let class : class_at (kept_at streams q) ≡ 6 = h.classed.plain none q in
    let no : (c == class_at (kept_at streams q)) ≡ false = ap (λ n. c == n) class ∙ apart c 6 differs in
    ap (λ b. b || is_waiting s.ends c q) (h.ready c q ∙ ap (λ b. has_bytes (kept_at streams q) && b) no ∙ and_false (has_bytes (kept_at streams q)))
    ∙ h.ends.ending c q ∙ ap (λ b. has_end (kept_at streams q) && b) no ∙ and_false (has_end (kept_at streams q))

-- what waits in any class waits on the stream
any_below : (waits : ℕ → ℕ → Bool) (passes : Bool) (class q n : ℕ) → ((c : ℕ) → waits c q ≡ (passes && (c == class))) → is_any_below n waits q ≡ (passes && nat_lt class n)
any_below waits passes class q zero h = sym (ap (λ b. passes && b) (let no : nat_lt class 0 ≡ false = grind (arith, common_steps) in no) ∙ and_false passes)
any_below waits passes class q (suc n) h =
    ap (λ b. b || waits n q) (any_below waits passes class q n h) ∙ ap (λ b. (passes && nat_lt class n) || b) (h n) ∙ by_test passes
  where
    one_more : (nat_lt class n || (n == class)) ≡ nat_lt class (suc n)
    one_more = elim (cases_lt class n) [
      | inl less ↦
          let more : class < suc n = omega (arith, less) in
          let here : nat_lt class n ≡ true = grind (arith, common_steps, less) in
          let too : nat_lt class (suc n) ≡ true = grind (arith, common_steps, more) in
          rw (here, too) refl
      | inr most ↦ elim (cases_eq n class) [
        | inl same ↦
            let more : class < suc n = omega (arith, same) in
            let too : nat_lt class (suc n) ≡ true = grind (arith, common_steps, more) in
            let out : nat_lt class n ≡ false = grind (arith, common_steps, most) in
            let is : (n == class) ≡ true = grind (arith, common_steps, same) in
            rw (out, is, too) refl
        | inr differs ↦
            let early : nat_lt class n ≡ false = grind (arith, common_steps, most) in
            let past : n < class = omega (arith, most, differs) in
            let out : nat_lt class (suc n) ≡ false = grind (arith, common_steps, past) in
            rw (early, apart n class differs, out) refl
      ]
    ]

    by_test : (p : Bool) → ((p && nat_lt class n) || (p && (n == class))) ≡ (p && nat_lt class (suc n))
    by_test true = one_more
    by_test false = refl

-- there are 17 classes
class_few : (p : Precedence) → p.priority.urgency ≤ 7 → class_of p ≤ 16
class_few p few = by_tests p.is_held p.priority.incremental
  where
    by_tests : (b d : Bool) → (if b then 16 else p.priority.urgency * 2 + (if d then 1 else 0)) ≤ 16
    by_tests true d = omega arith
    by_tests false true = omega (arith, few)
    by_tests false false = omega (arith, few)

few_classes : (o : Option RequestState) → IfSome o HasUrgency → class_at o ≤ 16
few_classes None h = omega arith
few_classes (Some r) h = class_few r.outgoing.precedence h

any_of : (waits : ℕ → ℕ → Bool) (passes : Option RequestState → Bool) (streams : Streams RequestState) (q : ℕ) → IfSome (kept_at streams q) HasUrgency → InClass waits passes streams → is_any waits q ≡ passes (kept_at streams q)
any_of waits passes streams q urgent h =
    let few : class_at (kept_at streams q) ≤ 16 = few_classes (kept_at streams q) urgent in
    let yes : nat_lt (class_at (kept_at streams q)) 17 ≡ true = grind (arith, common_steps, few) in
    any_below waits (passes (kept_at streams q)) (class_at (kept_at streams q)) q 17 (λ c. h c q) ∙ ap (λ b. passes (kept_at streams q) && b) yes ∙ and_true (passes (kept_at streams q))

pub any_bytes : {counts : Blocked} {s : ReadyStreams} {streams : Streams RequestState} {n : ℕ} → AreKept counts s n streams → (q : ℕ) → is_any (is_ready s) q ≡ has_bytes (kept_at streams q)
any_bytes {counts} {s} {streams} h q = any_of (is_ready s) has_bytes streams q (h.classed.few q) h.ready

pub any_end : {counts : Blocked} {s : ReadyStreams} {streams : Streams RequestState} {n : ℕ} → AreKept counts s n streams → (q : ℕ) → is_any (is_waiting s.ends) q ≡ has_end (kept_at streams q)
any_end {counts} {s} {streams} h q = any_of (is_waiting s.ends) has_end streams q (h.classed.few q) h.ends.ending

-- a stream goes to another class, and what of it waits goes along
here_moved : (passes : Bool) (before after was is c : ℕ) (other : Bool) → before ≢ after → was ≡ before → is ≡ after → other ≡ (passes && (c == was))
    → (if (c == before) && true then false else (if (c == after) && true then passes || other else other)) ≡ (passes && (c == is))
here_moved passes before after was is c other differ old new same = rw (same, old, new) (by_tests (c == before) refl (c == after) refl)
  where
    by_tests : (b : Bool) → (c == before) ≡ b → (d : Bool) → (c == after) ≡ d
        → (if b && true then false else (if d && true then passes || (passes && b) else passes && b)) ≡ (passes && d)
    by_tests true e true f = absurd (differ (sym (same_number c before e) ∙ same_number c after f))
    by_tests true e false f = sym (and_false passes)
    by_tests false e true f = ap (λ b. passes || b) (and_false passes) ∙ or_false passes ∙ sym (and_true passes)
    by_tests false e false f = refl

moved_class : (passes : Option RequestState → Bool) (w v : ℕ → ℕ → Bool) (old new : Streams RequestState) (before after id : ℕ) (is : Bool) → before ≢ after → ((c q : ℕ) → v c q ≡ moved_so before after id is w c q)
    → is ≡ passes (kept_at old id) → passes (kept_at new id) ≡ passes (kept_at old id) → class_at (kept_at old id) ≡ before → class_at (kept_at new id) ≡ after → ((q : ℕ) → q ≢ id → kept_at new q ≡ kept_at old q)
    → InClass w passes old → InClass v passes new
moved_class passes w v old new before after id is differ moves own kept was now others h c q = elim (cases_eq q id) [
  | inl same ↦
      rw same (moves c id ∙ ap (λ b. if (c == before) && b then false else (if (c == after) && b then is || w c id else w c id)) (itself id)
      ∙ ap (λ i. if (c == before) && true then false else (if (c == after) && true then i || w c id else w c id)) own
      ∙ here_moved (passes (kept_at old id)) before after (class_at (kept_at old id)) (class_at (kept_at new id)) c (w c id) differ was now (h c id)
      ∙ ap (λ b. b && (c == class_at (kept_at new id))) (sym kept))
  | inr differs ↦
      moves c q ∙ ap (λ b. if b then false else (if (c == after) && (q == id) then is || w c q else w c q)) (ap (λ b. (c == before) && b) (apart q id differs) ∙ and_false (c == before))
      ∙ ap (λ b. if b then is || w c q else w c q) (ap (λ b. (c == after) && b) (apart q id differs) ∙ and_false (c == after)) ∙ h c q
      ∙ ap (λ o. passes o && (c == class_at o)) (sym (others q differs))
]

pub reclassed : {under_way : Option RequestState} {n : ℕ} (counts : Blocked) (s t : ReadyStreams) (old new : Streams RequestState) (class id : ℕ) (waits : Waits) (before after : RequestState) → Writes old new under_way id after
    → under_way ≡ Some before → after.incoming.waits_for ≡ before.incoming.waits_for → after.outgoing.pieces ≡ before.outgoing.pieces → end_waits after.outgoing ≡ end_waits before.outgoing
    → takes_end after.outgoing ≡ takes_end before.outgoing → class ≡ class_at (Some before) → class ≢ class_at (Some after) → HasUrgency after → waits.bytes ≡ has_bytes (Some before) → waits.end ≡ has_end (Some before)
    → waits.may_end ≡ takes_end before.outgoing → Moves class (class_at (Some after)) id waits s t → AreKept counts s n old → AreKept counts t n new
reclassed counts s t old new class id waits before after writes there same pieces end takes is_class differ urgent bytes ends may moves h =
    let was = counting.kept_there old new id before after writes there in
    let sets : Sets old new id after = writes.0 (ap is_some there) in
    let class_was : class_at (kept_at old id) ≡ class = ap class_at was ∙ sym is_class in
    record {
      counted = counting.written counts old new id before after writes there same h.counted;
      ready =
          moved_class has_bytes (is_ready s) (is_ready t) old new class (class_at (Some after)) id waits.bytes differ moves.bytes (bytes ∙ ap has_bytes (sym was))
          (ap has_bytes sets.here ∙ ap (λ p. nat_lt 0 (length (bytes_of p))) pieces ∙ ap has_bytes (sym was)) class_was (ap class_at sets.here) sets.others h.ready;
      ends = record {
        ending =
            moved_class has_end (is_waiting s.ends) (is_waiting t.ends) old new class (class_at (Some after)) id waits.end differ moves.ends (ends ∙ ap has_end (sym was))
            (ap has_end sets.here ∙ end ∙ ap has_end (sym was)) class_was (ap class_at sets.here) sets.others h.ends.ending;
        placed =
            placed_at s.ends t.ends old new id moves.places
            (λ is. ap (λ o. has_place t.ends (class_at o) id) sets.here ∙ moves.placed (may ∙ sym takes ∙ sym (ap may_end sets.here) ∙ is)) sets.others h.ends;
      };
      seen_at_least = seen_set old new id after sets h.seen_at_least;
      classed = record {
        few = few_at s old new id (subst (λ o. IfSome o HasUrgency) (sym sets.here) urgent) sets.others h.classed;
        plain = λ none. absurd (let wrong : true ≡ false = sym moves.classes ∙ none in cc);
      };
    }

-- or it stays in its class
pub class_kept : {under_way : Option RequestState} {n : ℕ} (counts : Blocked) (s : ReadyStreams) (old new : Streams RequestState) (id : ℕ) (before after : RequestState) → Writes old new under_way id after
    → under_way ≡ Some before → after.incoming.waits_for ≡ before.incoming.waits_for → after.outgoing.pieces ≡ before.outgoing.pieces → end_waits after.outgoing ≡ end_waits before.outgoing
    → takes_end after.outgoing ≡ takes_end before.outgoing → class_at (Some after) ≡ class_at (Some before) → HasUrgency after → AreKept counts s n old → AreKept counts s n new
class_kept counts s old new id before after writes there same pieces end takes class urgent h =
    let was = counting.kept_there old new id before after writes there in
    let sets : Sets old new id after = writes.0 (ap is_some there) in
    let now : class_at (kept_at new id) ≡ class_at (Some before) = ap class_at sets.here ∙ class in
    record {
      counted = counting.written counts old new id before after writes there same h.counted;
      ready =
          ready_at s s old new (class_at (Some before)) id (has_bytes (Some after)) (bytes_before counts s s old id before after was (λ c q. refl) pieces h) (sym (ap has_bytes sets.here)) (ap class_at was) now sets.others h.ready;
      ends =
          ends_at s.ends s.ends old new (class_at (Some before)) id (has_end (Some after)) (end_before counts s s old id before after was refl end h) (λ c q differs has. has) (sym (ap has_end sets.here)) (ap class_at was) now
          (λ may. ap (λ k. has_place s.ends k id) now ∙ place_before counts s s old id before after was refl takes h (sym (ap may_end sets.here) ∙ may)) sets.others h.ends;
      seen_at_least = seen_set old new id after sets h.seen_at_least;
      classed = same_classes s s old new id refl (now ∙ sym (ap class_at was)) (subst (λ o. IfSome o HasUrgency) (sym sets.here) urgent) sets.others h.classed;
    }
