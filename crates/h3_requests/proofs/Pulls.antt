-- What a pull within the limit gives.
use Rattle.std.proofs.Common.{◌≡◌, ℕ, Bool, true, false, List, [], ◌++◌, Some, refl, sym, ap, subst, ◌∙◌, append-nil}
use Rattle.std.specs.Prelude.{◌||◌, Option, None, is_some, nat_lt, IfSome}
use Rattle.h3_blocked.specs.Counting.{above, Replaces}
use Rattle.h3_blocked.specs.declared.counts.Blocked.{Blocked}
use Rattle.h3_connection.specs.Calls.{Sets}
use Rattle.h3_connection.specs.Incoming.{Incoming}
use Rattle.h3_connection.specs.Codes.{decompression_failed}
use Rattle.h3_connection.specs.Keeping.{is_settled_request}
use Rattle.h3_connection.specs.Pulling.{Pulled, is_memory, just, pull_stream}
use Rattle.h3_connection.specs.Sending.{if_too_many}
use Rattle.h3_connection.specs.State.{RequestState, kept_at}
use Rattle.h3_connection.specs.StreamSets.{Streams}
use Rattle.h3_connection.specs.declared.event.Fault.TheVariants.{Connection, Stream}
use Rattle.h3_connection.specs.declared.event.Item.TheVariants as item
use Rattle.h3_connection.specs.declared.event.Pull.{Pull}
use Rattle.h3_connection.specs.declared.event.Pull.TheVariants as pull
use Rattle.h3_connection.specs.declared.event.StreamFault.{StreamFault}
use Rattle.h3_connection.specs.declared.setup.Announced.{Announced}
use Rattle.h3_field.specs.Instruction.{DecoderInstruction}
use Rattle.h3_incoming.specs.Gives.{Gives}
use Rattle.h3_incoming.specs.Replying.{encodings}
use Rattle.h3_proto.specs.declared.stream.Side.{Side}
use Rattle.h3_qpack.specs.DecoderState.{DecoderState}
use Rattle.h3_requests.specs.Counted.{AreCounted}
use Rattle.h3_requests.specs.Limited.{AnswersOver, AreReceivers, PullsWithin, limited}
use Rattle.h3_requests.specs.Over.{IsOver}
use Rattle.h3_requests.proofs.Counts.{waits_then}
use Rattle.h3_requests.proofs.Ways.{over_settled, over_waits}

-- a stream that was given up gives its fault,
pub gives_fault : (side : Side) (own : Announced) (id : ℕ) (r : DecoderState) (i : Incoming) (fault : StreamFault) → i.fault ≡ Some fault → pull_stream side own id r i ≡ just (pull.Fault (Stream fault)) i
unfolding pull_stream
gives_fault side own id r i fault is = rw is refl

-- and one whose end was handed out gives that
pub gives_end : (side : Side) (own : Announced) (id : ℕ) (r : DecoderState) (i : Incoming) → i.fault ≡ None → i.is_over ≡ true → pull_stream side own id r i ≡ just (pull.Item item.End) i
unfolding pull_stream
gives_end side own id r i none over = rw (none, over) refl

-- an answer that writes nothing
pub gives_just : (p : Pulled) (answer : Pull) (i : Incoming) (replies : List ℕ) → p ≡ just answer i → Gives p answer i replies replies
gives_just p answer i replies is =
    let none : p.replies ≡ [] = ap (λ q. q.replies) is in
    record { is = is ∙ ap (λ l. record { answer = answer; incoming = i; replies = l }) (sym none); replies = sym (ap (λ l. replies ++ encodings l) none ∙ append-nil replies) }

-- by the answer, what is left and the replies, whatever these are
gives_by : (p : Pulled) (answer : Pull) (i : Incoming) (said : List DecoderInstruction) (replies written : List ℕ) → p ≡ record { answer = answer; incoming = i; replies = said }
    → written ≡ replies ++ encodings said → Gives p answer i replies written
gives_by p answer i said replies written is writes =
    let same : p.replies ≡ said = ap (λ q. q.replies) is in
    record { is = is ∙ ap (λ l. record { answer = answer; incoming = i; replies = l }) (sym same); replies = writes ∙ sym (ap (λ l. replies ++ encodings l) same) }

-- What was pulled, judged by the counts, is what the limit makes of it.
pub gives_limited : (side : Side) (own : Announced) (id : ℕ) (r : DecoderState) (streams : Streams RequestState) (before : RequestState) (given answer : Pull) (i after : Incoming) (counts others : Blocked) (inserted : ℕ) (replies written : List ℕ)
    → AreCounted counts streams → kept_at streams id ≡ Some before → Gives (pull_stream side own id r before.incoming) given i replies written → Replaces counts others before.incoming.waits_for i.waits_for
    → inserted ≡ r.table.inserted → ((said : List DecoderInstruction) → if_too_many (nat_lt own.limits.blocked (above inserted others)) (record { answer = given; incoming = i; replies = said }) ≡ record { answer = answer; incoming = after; replies = said })
    → (receivers : Streams Incoming) → AreReceivers receivers streams → Gives (limited own id r receivers (pull_stream side own id r before.incoming)) answer after replies written
gives_limited side own id r streams before given answer i after counts others inserted replies written h there gives replaces is judged receivers are =
    let p : Pulled = pull_stream side own id r before.incoming in
    let q : Pulled = record { answer = given; incoming = i; replies = p.replies } in
    let within : limited own id r receivers q ≡ if_too_many (nat_lt own.limits.blocked (above inserted others)) q =
    ap (λ n. if_too_many (nat_lt own.limits.blocked n) q) (waits_then counts others streams receivers id before i h are there replaces r.table.inserted ∙ ap (λ n. above n others) (sym is)) in
    gives_by (limited own id r receivers p) answer after p.replies replies written (ap (limited own id r receivers) gives.is ∙ within ∙ judged p.replies) gives.replies

must_settle : {P : Type 0} (result settled : Bool) → (result ≡ true → P) → (result ≡ false → settled ≡ false) → settled ≡ true → P
must_settle true settled given not_given is = given refl
must_settle false settled given not_given is = absurd (let never : true ≡ false = sym is ∙ not_given refl in cc)

judged_over : (i : Incoming) (are_too_many : Bool) (given answer : Pull) → i.waits_for ≡ 0 → (are_too_many ≡ true → answer ≡ pull.Fault (Connection decompression_failed)) → (are_too_many ≡ false → answer ≡ given)
    → (replies : List DecoderInstruction) → if_too_many are_too_many (record { answer = given; incoming = i; replies = replies }) ≡ record { answer = answer; incoming = i; replies = replies }
judged_over i true given answer none many few replies =
    let same : record i { waits_for = 0 } ≡ i = ap (λ n. record i { waits_for = n }) (sym none) in
    ap (λ a. record { answer = a; incoming = record i { waits_for = 0 }; replies = replies }) (sym (many refl)) ∙ ap (λ j. record { answer = answer; incoming = j; replies = replies }) same
judged_over i false given answer none many few replies = ap (λ a. record { answer = a; incoming = i; replies = replies }) (sym (few refl))

-- What a stream answers that is over.
pub answers_over : (r : RequestState) (are_too_many result : Bool) (given answer : Pull) → IsOver r
    → (result ≡ true → (is_memory given ≡ false) × ((side : Side) (own : Announced) (id : ℕ) (d : DecoderState) → pull_stream side own id d r.incoming ≡ just given r.incoming))
    → (result ≡ false → is_settled_request (Some r.incoming) ≡ false) → (are_too_many ≡ true → answer ≡ pull.Fault (Connection decompression_failed)) → (are_too_many ≡ false → answer ≡ given)
    → AnswersOver r.incoming are_too_many answer
answers_over r are_too_many result given answer h settled not_settled many few =
    let p = must_settle result (is_settled_request (Some r.incoming)) settled not_settled (settles r.incoming.is_over (is_some r.incoming.fault) (over_settled r h)) in
    record { given = given; settled = p.1; judged = judged_over r.incoming are_too_many given answer (over_waits (Some r) h) many few }
  where
    settles : (a b : Bool) → (a || b) ≡ true → (b || a) ≡ true
    settles true true e = refl
    settles true false e = refl
    settles false true e = refl
    settles false false e = absurd (cc)

-- So its pull is within the limit or tells that it is not, and nothing of it changes.
pub pulled_over : (side : Side) (own : Announced) (id : ℕ) (r : DecoderState) (m : Streams RequestState) (counts : Blocked) (inserted : ℕ) (o : Option RequestState) (answer : Pull) (replies : List ℕ) → AreCounted counts m
    → kept_at m id ≡ o → IfSome o (λ q. AnswersOver q.incoming (nat_lt own.limits.blocked (above inserted counts)) answer) → inserted ≡ r.table.inserted
    → IfSome (kept_at m id) (λ before. IfSome (kept_at m id) (λ after. PullsWithin side own id r m m before after answer replies replies))
pulled_over side own id r m counts inserted None answer replies h is a same = rw is tt
pulled_over side own id r m counts inserted (Some q) answer replies h is a same =
    rw is (record {
      sets = record { here = is; others = λ p differs. refl };
      gives = gives_limited side own id r m q a.given answer q.incoming q.incoming counts counts inserted replies replies h is (gives_just _ _ _ _ (a.settled side own id r)) (λ n. refl) same a.judged;
    })

-- A stream that is under way was pulled within the limit, and stands where it stood or among those that are over.
pub pulled_there : (side : Side) (own : Announced) (id : ℕ) (r : DecoderState) (s m l n : Streams RequestState) (before now : RequestState) (answer : Pull) (replies written : List ℕ) → s ≡ m
    → kept_at s id ≡ Some before → Sets s l id now → n ≡ l → now ≡ record before { incoming = now.incoming }
    → ((receivers : Streams Incoming) → AreReceivers receivers s → Gives (limited own id r receivers (pull_stream side own id r before.incoming)) answer now.incoming replies written)
    → IfSome (kept_at m id) (λ b. IfSome (kept_at n id) (λ a. PullsWithin side own id r m n b a answer replies written))
pulled_there side own id r s m l n before now answer replies written view there sets same kept gives =
    subst (λ v. IfSome (kept_at v id) (λ b. IfSome (kept_at n id) (λ a. PullsWithin side own id r v n b a answer replies written))) view
    (subst (λ v. IfSome (kept_at s id) (λ b. IfSome (kept_at v id) (λ a. PullsWithin side own id r s v b a answer replies written))) (sym same)
    (rw (there, sets.here) (record { sets = subst (Sets s l id) kept sets; gives = gives })))
