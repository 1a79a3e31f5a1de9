-- The counts go along when a call changes the streams.
use Rattle.std.proofs.Common.{arith, ◌≡◌, ℕ, sym, ◌∙◌, ap, subst, refl}
use Rattle.std.specs.Prelude.{Option, Some, None, option_map, count_by, nat_lt, is_some}
use Rattle.h3_blocked.specs.Counting.{above, HasCount, IsSound, Replaces, SameCounts, one_if, waits_at}
use Rattle.h3_blocked.specs.CountingLaws.{agrees_set, agrees_set_same, agrees_takes_out, has_count, waiting_list}
use Rattle.h3_blocked.specs.Sums.{TakesOut, part_of}
use Rattle.h3_blocked.specs.SumLaws.{total-set}
use Rattle.h3_blocked.specs.declared.counts.Blocked.{Blocked}
use Rattle.h3_connection.specs.Calls.{Sets}
use Rattle.h3_connection.specs.Incoming.{Incoming}
use Rattle.h3_connection.specs.State.{RequestState, kept_at}
use Rattle.h3_connection.specs.StreamSets.{Streams, HaveDistinctIds, stream_at, set_stream}
use Rattle.h3_requests.specs.Counted.{AreCounted}
use Rattle.h3_requests.specs.Lending.{Writes}
use Rattle.h3_requests.specs.Limited.{AreReceivers}

-- the same counts, kept in another way
pub counted_again : {counts others : Blocked} {streams : Streams RequestState} → SameCounts counts others → IsSound others → AreCounted counts streams → AreCounted others streams
counted_again same sound h = record { sound = sound; agrees = λ n. same n ∙ h.agrees n; distinct = h.distinct }

-- the stream that was written is found as it was under way
pub kept_there : {under_way : Option RequestState} (old new : Streams RequestState) (id : ℕ) (before after : RequestState) → Writes old new under_way id after → under_way ≡ Some before
    → kept_at old id ≡ Some before
kept_there old new id before after writes there = writes.3 before there

-- a stream was written that waits for as much as before
pub written : {under_way : Option RequestState} (counts : Blocked) (old new : Streams RequestState) (id : ℕ) (before after : RequestState) → Writes old new under_way id after → under_way ≡ Some before
    → after.incoming.waits_for ≡ before.incoming.waits_for → AreCounted counts old → AreCounted counts new
written counts old new id before after writes there same h =
    let sets : Sets old new id after = writes.0 (ap is_some there) in
    let kept = kept_there old new id before after writes there in
    record { sound = h.sound; agrees = agrees_set_same counts old new id after h.distinct writes.2 h.agrees sets (same ∙ sym (ap waits_at kept)); distinct = writes.2 }

-- or it waits for as much, whether it is under way or over
pub same_count : (counts : Blocked) (old new : Streams RequestState) (id : ℕ) (before after : RequestState) → Sets old new id after → HaveDistinctIds new → kept_at old id ≡ Some before
    → after.incoming.waits_for ≡ before.incoming.waits_for → AreCounted counts old → AreCounted counts new
same_count counts old new id before after sets distinct there same h =
    record { sound = h.sound; agrees = agrees_set_same counts old new id after h.distinct distinct h.agrees sets (same ∙ sym (ap waits_at there)); distinct = distinct }

-- or its count was replaced
pub replaced : {under_way : Option RequestState} (counts others : Blocked) (old new : Streams RequestState) (id : ℕ) (before after : RequestState) → Writes old new under_way id after → under_way ≡ Some before
    → IsSound others → Replaces counts others before.incoming.waits_for after.incoming.waits_for → AreCounted counts old → AreCounted others new
replaced counts others old new id before after writes there sound replaces h =
    let sets : Sets old new id after = writes.0 (ap is_some there) in
    let kept = kept_there old new id before after writes there in
    let goes : Replaces counts others (waits_at (kept_at old id)) after.incoming.waits_for = subst (λ o. Replaces counts others (waits_at o) after.incoming.waits_for) (sym kept) replaces in
    record { sound = sound; agrees = agrees_set counts others old new id after h.distinct writes.2 h.agrees sets goes; distinct = writes.2 }

has_count_by : (counts : Blocked) (streams : Streams RequestState) (id : ℕ) (o : Option RequestState) → kept_at streams id ≡ o → AreCounted counts streams → HasCount counts (waits_at o)
has_count_by counts streams id None is h = λ some. absurd (omega (arith, some))
has_count_by counts streams id (Some r) is h = has_count counts streams id r h.agrees is

-- what a stream waits for is among the counts
pub has_count_at : (counts : Blocked) (streams : Streams RequestState) (id count : ℕ) → count ≡ waits_at (kept_at streams id) → AreCounted counts streams → HasCount counts count
has_count_at counts streams id count is h = subst (HasCount counts) (sym is) (has_count_by counts streams id (kept_at streams id) refl h)

-- a stream came that waits for nothing, in the place of one whose count was taken out
pub inserted : (counts others : Blocked) (old new : Streams RequestState) (id count : ℕ) (r : RequestState) → Sets old new id r → HaveDistinctIds new → r.incoming.waits_for ≡ 0
    → count ≡ waits_at (kept_at old id) → IsSound others → Replaces counts others count 0 → AreCounted counts old → AreCounted others new
inserted counts others old new id count r sets distinct nothing is sound replaces h =
    let goes : Replaces counts others (waits_at (kept_at old id)) r.incoming.waits_for = subst (Replaces counts others (waits_at (kept_at old id))) (sym nothing) (subst (λ n. Replaces counts others n 0) is replaces) in
    record { sound = sound; agrees = agrees_set counts others old new id r h.distinct distinct h.agrees sets goes; distinct = distinct }

-- and one went, and its count
pub removed : (counts others : Blocked) (old new : Streams RequestState) (id count : ℕ) → TakesOut old new id → HaveDistinctIds new
    → count ≡ waits_at (kept_at old id) → IsSound others → Replaces counts others count 0 → AreCounted counts old → AreCounted others new
removed counts others old new id count takes distinct is sound replaces h =
    let goes : Replaces counts others (waits_at (kept_at old id)) 0 = subst (λ n. Replaces counts others n 0) is replaces in
    record { sound = sound; agrees = agrees_takes_out counts others old new id h.distinct distinct h.agrees takes goes; distinct = distinct }

-- how many wait, of the receivers that a history has
pub waits : (counts : Blocked) (streams : Streams RequestState) (receivers : Streams Incoming) → AreCounted counts streams → AreReceivers receivers streams
    → (n : ℕ) → above n counts ≡ count_by (λ s. nat_lt n s.1.waits_for) receivers
waits counts streams receivers h are n = h.agrees n ∙ waiting_list streams receivers h.distinct are.distinct are.same n

-- and of them once a stream was pulled
pub waits_then : (counts others : Blocked) (streams : Streams RequestState) (receivers : Streams Incoming) (id : ℕ) (before : RequestState) (i : Incoming) → AreCounted counts streams
    → AreReceivers receivers streams → kept_at streams id ≡ Some before → Replaces counts others before.incoming.waits_for i.waits_for
    → (n : ℕ) → count_by (λ s. nat_lt n s.1.waits_for) (set_stream receivers id i) ≡ above n others
waits_then counts others streams receivers id before i h are there replaces n =
    let f : Incoming → ℕ = λ j. one_if (nat_lt n j.waits_for) in
    let found : stream_at receivers id ≡ Some before.incoming = sym (are.same id) ∙ ap (option_map (λ r. r.incoming)) there in
    omega (arith, total-set f receivers id i, ap (part_of f) found, waits counts streams receivers h are n, replaces n)

-- one count is replaced by another one, and that by a third one
pub replaced_twice : (counts others last : Blocked) (before between after : ℕ) → Replaces counts others before between → Replaces others last between after → Replaces counts last before after
replaced_twice counts others last before between after first second n = omega (arith, first n, second n)
