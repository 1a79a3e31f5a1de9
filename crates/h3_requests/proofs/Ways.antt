-- Streams that are over, and the ways in which they are.
use Rattle.std.proofs.Common.{arith, ◌≡◌, ◌<◌, ◌≤◌, ℕ, zero, suc, ◌+◌, ◌-◌, Bool, true, false, List, [], ◌∷◌, ◌++◌, length, ◌^◌, get_or, length-append, refl, sym, ◌∙◌, ap, subst, min, inl, inr}
use Rattle.std.specs.Prelude.{◌≢◌, ◌&&◌, ◌||◌, ◌==◌, not, Option, Some, None, if◌then◌else◌, is_some, option_map, slice_get, IfSome, nat_lt}
use Rattle.std.proofs.lemmas.Bool.{cases_eq, lt-ltb}
use Rattle.std.specs.BTreeMap.{is_at}
use Rattle.std.specs.Map.{lookup}
use Rattle.std.specs.Ordering.{nat_cmp}
use Rattle.std.proofs.Math.Seq.{get_or-append_seam}
use Rattle.std.proofs.lemmas.Grind.{common_steps}
use Rattle.std.proofs.lemmas.List.{get_or_append_left}
use Rattle.std.proofs.lemmas.Option.{slice_get-get_or, slice_get_past}
use Rattle.h3_blocked.specs.Counting.{waits_at}
use Rattle.h3_blocked.specs.Sums.{TakesOut}
use Rattle.h3_connection.specs.Calls.{Sets}
use Rattle.h3_connection.specs.Incoming.{Incoming}
use Rattle.h3_connection.specs.State.{OutgoingState, RequestState, kept_at}
use Rattle.h3_connection.specs.StreamSets.{Streams}
use Rattle.h3_connection.specs.WaitingPieces.{bytes_of, without_front}
use Rattle.h3_connection.specs.declared.event.Refusal.{Refusal}
use Rattle.h3_connection.specs.declared.event.Refusal.TheVariants as refusal
use Rattle.h3_outgoing.specs.Sent.{end_waits, is_sent_off, is_open, taken_from}
use Rattle.h3_requests.specs.Listed.{streams_of}
use Rattle.h3_requests.specs.Marks.{HaveSameMarks, IsOneMark}
use Rattle.h3_requests.specs.Over.{AddsWays, AreAlike, AreMarked, HasWays, IsOver, IsPaired, IsWay, codeless, ended_way, over_in, over_so, reset_with, way_at, ways_in, ways_of, with_end_taken, without_code, ReceivesAlike, SendsAlike}
use Rattle.h3_requests.specs.declared.over.Way.{Way}
use Rattle.h3_requests.specs.declared.over.ways.Ways.{Ways}
use Rattle.h3_connection.specs.declared.event.StreamFault.TheVariants.{Reset}
use Rattle.h3_requests.proofs.Found.{few, found, sets, takes_out}
use Rattle.h3_requests.proofs.Listed as listed

both : (a b : Bool) → (a && b) ≡ true → (a ≡ true) × (b ≡ true)
both true b h = (refl, h)
both false b h = absurd (cc)

empty : {X : Type 0} (xs : List X) → (length xs == 0) ≡ true → xs ≡ []
empty [] h = refl
empty (x ∷ xs) h = absurd (grind (arith, common_steps, h))

zero_of : (n : ℕ) → (n == 0) ≡ true → n ≡ 0
zero_of n h = grind (arith, common_steps, h)

none_of : {X : Type 0} (o : Option X) → not (is_some o) ≡ true → o ≡ None
none_of None h = refl
none_of (Some x) h = absurd (cc)

-- what is known of a stream that is over
record Parts (r : RequestState) : Type 0 where
  ended : (r.incoming.ended || r.incoming.was_reset) ≡ true
  settled : (r.incoming.is_over || is_some r.incoming.fault) ≡ true
  unread : r.incoming.unread ≡ []
  section : r.incoming.section ≡ None
  body_left : r.incoming.body_left ≡ 0
  waits_for : r.incoming.waits_for ≡ 0
  sent_off : is_sent_off r.outgoing ≡ true
  pieces : r.outgoing.pieces ≡ []

parts : (r : RequestState) → IsOver r → Parts r
parts r h =
    let a = both _ _ h in
    let b = both _ _ a.0 in
    let c = both _ _ b.0 in
    let d = both _ _ c.0 in
    let e = both _ _ c.1 in
    let f = both _ _ e.0 in
    let g = both _ _ f.0 in
    record {
      ended = d.0;
      settled = d.1;
      unread = empty _ g.0;
      section = none_of _ g.1;
      body_left = zero_of _ f.1;
      waits_for = zero_of _ e.1;
      sent_off = b.1;
      pieces = empty _ a.1;
    }

received_alike : (a b : Incoming) → a.unread ≡ b.unread → a.section ≡ b.section → a.body_left ≡ b.body_left → a.waits_for ≡ b.waits_for → ReceivesAlike a b → a ≡ b
received_alike a b unread section body_left waits_for same =
    let e : record { unread = a.unread; section = a.section; body_left = a.body_left; content = a.content; response = a.response; place = a.place; waits_for = a.waits_for; tries = a.tries; ended = a.ended; was_reset = a.was_reset; is_over = a.is_over; fault = a.fault }
    ≡ record { unread = b.unread; section = b.section; body_left = b.body_left; content = b.content; response = b.response; place = b.place; waits_for = b.waits_for; tries = b.tries; ended = b.ended; was_reset = b.was_reset; is_over = b.is_over; fault = b.fault } =
    rw (unread, section, body_left, waits_for, same.content, same.response, same.place, same.tries, same.ended, same.was_reset, same.is_over, same.fault) refl in
    e

sent_alike : (a b : OutgoingState) → a.pieces ≡ [] → b.pieces ≡ [] → SendsAlike a b → a ≡ b
sent_alike a b an bn same =
    let left : a ≡ record { pieces = []; place = b.place; content = b.content; is_finished = b.is_finished; is_reset = b.is_reset; end_taken = b.end_taken; precedence = b.precedence } = rw (sym an, sym same.place, sym same.content, sym same.is_finished, sym same.is_reset, sym same.end_taken, sym same.precedence) refl in
    let right : record { pieces = []; place = b.place; content = b.content; is_finished = b.is_finished; is_reset = b.is_reset; end_taken = b.end_taken; precedence = b.precedence } ≡ b = rw (sym bn) refl in
    left ∙ right

-- Streams that are over alike are the same.
pub over_alike : (a b : RequestState) → IsOver a → IsOver b → ReceivesAlike a.incoming b.incoming → SendsAlike a.outgoing b.outgoing → a ≡ b
over_alike a b h k received sent =
    let p = parts a h in
    let q = parts b k in
    let incoming : a.incoming ≡ b.incoming = received_alike a.incoming b.incoming (p.unread ∙ sym q.unread) (p.section ∙ sym q.section) (p.body_left ∙ sym q.body_left) (p.waits_for ∙ sym q.waits_for) received in
    let outgoing : a.outgoing ≡ b.outgoing = sent_alike a.outgoing b.outgoing p.pieces q.pieces sent in
    ap (λ i. record { incoming = i; outgoing = a.outgoing }) incoming ∙ ap (λ o. record { incoming = b.incoming; outgoing = o }) outgoing

-- A stream that is over waits for nothing,
pub over_waits : (o : Option RequestState) → IfSome o IsOver → waits_at o ≡ 0
over_waits None h = refl
over_waits (Some r) h = (parts r h).waits_for

pub over_pieces : (r : RequestState) → IsOver r → r.outgoing.pieces ≡ []
over_pieces r h = (parts r h).pieces

pub over_settled : (r : RequestState) → IsOver r → (r.incoming.is_over || is_some r.incoming.fault) ≡ true
over_settled r h = (parts r h).settled

-- and nothing more is sent on it
pub over_sent : (r : RequestState) → IsOver r → is_sent_off r.outgoing ≡ true
over_sent r h = (parts r h).sent_off

closed_by : (o : OutgoingState) (reset finished : Bool) → o.is_reset ≡ reset → o.is_finished ≡ finished → is_sent_off o ≡ true → is_open o ≡ false
closed_by o true finished is_reset is_finished h = grind (arith, common_steps, is_reset)
closed_by o false true is_reset is_finished h = rw is_finished refl
closed_by o false false is_reset is_finished h = absurd (let off : false ≡ true = sym (rw (is_reset, is_finished) refl) ∙ h in cc)

pub over_closed : (r : RequestState) → IsOver r → is_open r.outgoing ≡ false
over_closed r h = closed_by r.outgoing r.outgoing.is_reset r.outgoing.is_finished refl refl (over_sent r h)

none_taken : (count : ℕ) (o : OutgoingState) → o.pieces ≡ [] → taken_from o count ≡ o
none_taken count o none =
    let same : without_front count o.pieces ≡ o.pieces = rw none refl in
    ap (λ pieces. record o { pieces = pieces }) same

-- so as much is taken of it as waits, which is nothing
pub over_taken : (r : RequestState) (count : ℕ) → IsOver r → record r { outgoing = taken_from r.outgoing (min count (length (bytes_of r.outgoing.pieces))) } ≡ r
over_taken r count h = ap (λ o. record r { outgoing = o }) (none_taken (min count (length (bytes_of r.outgoing.pieces))) r.outgoing (parts r h).pieces)

pub way_found : (ways : List Way) (way : ℕ) → way ≢ 0 → way_at ways way ≡ slice_get ways (way - 1)
way_found ways way some = let e : (way == 0) ≡ false = grind (arith, common_steps) in rw e refl

behind : (ways : List Way) (n : ℕ) → way_at ways (suc n) ≡ slice_get ways n
behind ways n =
    let some : suc n ≢ 0 = omega arith in
    let before : suc n - 1 ≡ n = omega arith in
    way_found ways (suc n) some ∙ ap (slice_get ways) before

-- each of the ways is over
pub way_stands : (ways : List Way) (n : ℕ) (w : Way) → ((way : ℕ) → IfSome (way_at ways way) IsWay) → slice_get ways n ≡ Some w → IsOver w.stream
way_stands ways n w all at = (subst (λ o. IfSome o IsWay) (behind ways n ∙ at) (all (suc n))).over

all_true : (a b c d e : Bool) → a ≡ true → b ≡ true → c ≡ true → d ≡ true → e ≡ true → (a && b && c && d && e) ≡ true
all_true a b c d e p q r s t = rw (p, q, r, s, t) refl

or_true : (b : Bool) → (b || true) ≡ true
or_true true = refl
or_true false = refl

-- A stream that is over is over with another code too.
pub reset_over : (r : RequestState) (code : ℕ) → IsOver r → IsOver (reset_with r code)
reset_over r code h =
    let a = both _ _ h in
    let b = both _ _ a.0 in
    let c = both _ _ b.0 in
    let d = both _ _ c.0 in
    all_true _ _ _ _ _ d.0 (or_true r.incoming.is_over) c.1 b.1 a.1

-- with its own code it is what it is
pub reset_again : (r : RequestState) (code : ℕ) → r.incoming.fault ≡ Some (Reset code) → reset_with r code ≡ r
reset_again r code is = ap (λ fault. record r { incoming = record r.incoming { fault = fault } }) (sym is)

over_by : (has_code : Bool) (r : RequestState) (code : ℕ) → IsOver r → IsOver (if has_code then reset_with r code else r)
over_by true r code h = reset_over r code h
over_by false r code h = h

-- What is over in a way is over,
pub way_over : (w : Way) (code : ℕ) → IsWay w → IsOver (over_so w code)
way_over w code h = over_by w.has_code w.stream code h.over

-- and is what stands for it, but for its code.
alike_by : (has_code : Bool) (r : RequestState) (code : ℕ) → (has_code ≡ true → r.incoming.fault ≡ Some (Reset 0)) → codeless r ≡ codeless (if has_code then reset_with r code else r)
alike_by true r code h = ap (λ fault. record r { incoming = record r.incoming { fault = without_code fault } }) (h refl)
alike_by false r code h = refl

abbrev pub told : Option Way → ℕ → Option RequestState
told o code = option_map (λ w. over_so w code) o

pub told_over : (o : Option Way) (code : ℕ) → IfSome o IsWay → IfSome (told o code) IsOver
told_over None code h = tt
told_over (Some w) code h = way_over w code h

told_alike : (o : Option Way) (code : ℕ) → IfSome o IsWay → AreAlike (option_map (λ w. w.stream) o) (told o code)
told_alike None code h = refl
told_alike (Some w) code h = ap Some (alike_by w.has_code w.stream code h.code)

pub told_some : (o : Option Way) (code : ℕ) → is_some (told o code) ≡ is_some o
told_some None code = refl
told_some (Some w) code = refl

-- What is found among the streams that are over, by the group and the mark of an id.
pub over_found : (ways : ℕ → List Way) (groups marks codes : ℕ → ℕ) (model : Streams RequestState) (number id way : ℕ) → streams_of (over_in ways groups marks codes) ≡ model → number ≡ id → number < 2 ^ 62 → way ≡ marks number
    → kept_at model id ≡ told (way_at (ways (groups number)) way) (codes number)
over_found ways groups marks codes model number id way is same below marked =
    ap (λ l. kept_at l id) (sym is) ∙ found (over_in ways groups marks codes) id (few number id same below) ∙ ap (over_in ways groups marks codes) (sym same)
    ∙ ap (λ m. told (way_at (ways (groups number)) m) (codes number)) (sym marked)

-- the same by the way that is lent
pub over_lent : (ways : ℕ → List Way) (groups marks codes : ℕ → ℕ) (model : Streams RequestState) (number id group way : ℕ) (o : Option Way) → streams_of (over_in ways groups marks codes) ≡ model → number ≡ id → number < 2 ^ 62 → group ≡ groups number
    → way ≡ marks number → o ≡ way_at (ways group) way → kept_at model id ≡ told o (codes number)
over_lent ways groups marks codes model number id group way o is same below grouped marked lends =
    over_found ways groups marks codes model number id way is same below marked ∙ ap (λ g. told (way_at (ways g) way) (codes number)) (sym grouped) ∙ ap (λ w. told w (codes number)) (sym lends)

-- It is over.
pub over_known : (ways : ℕ → List Way) (groups marks codes : ℕ → ℕ) (model : Streams RequestState) (number id : ℕ) → streams_of (over_in ways groups marks codes) ≡ model → number ≡ id → number < 2 ^ 62 → AreMarked ways groups marks
    → IfSome (kept_at model id) IsOver
over_known ways groups marks codes model number id is same below h =
    subst (λ o. IfSome o IsOver) (sym (over_found ways groups marks codes model number id (marks number) is same below refl))
    (told_over (way_at (ways (groups number)) (marks number)) (codes number) (h.over (groups number) (marks number)))

-- What stands for its way is like it.
pub over_alike_found : (ways : ℕ → List Way) (groups marks codes : ℕ → ℕ) (model : Streams RequestState) (number id group way : ℕ) (o : Option Way) → streams_of (over_in ways groups marks codes) ≡ model → number ≡ id → number < 2 ^ 62
    → group ≡ groups number → way ≡ marks number → o ≡ way_at (ways group) way → AreMarked ways groups marks → AreAlike (option_map (λ w. w.stream) o) (kept_at model id)
over_alike_found ways groups marks codes model number id group way o is same below grouped marked lends h =
    told_alike o (codes number) (subst (λ w. IfSome w IsWay) (sym lends) (h.over group way))
    ∙ ap (option_map codeless) (sym (over_lent ways groups marks codes model number id group way o is same below grouped marked lends))

there : (ways : List Way) (n : ℕ) → n < length ways → is_some (slice_get ways n) ≡ true
there [] n within = absurd (omega (arith, within))
there (w ∷ ways) n within = ap is_some (slice_get-get_or (w ∷ ways) n w within)

pub way_there : (ways : List Way) (way : ℕ) → way ≤ length ways → is_some (way_at ways way) ≡ nat_lt 0 way
way_there ways zero known = refl
way_there ways (suc n) known =
    let within : n < length ways = omega (arith, known) in
    ap is_some (behind ways n) ∙ there ways n within ∙ sym (lt-ltb 0 (suc n) (omega arith))

-- A mark that is not 0 is one of a stream that is there.
pub over_there : (ways : ℕ → List Way) (groups marks codes : ℕ → ℕ) (model : Streams RequestState) (number id way : ℕ) → streams_of (over_in ways groups marks codes) ≡ model → number ≡ id → number < 2 ^ 62 → way ≡ marks number
    → AreMarked ways groups marks → nat_lt 0 way ≡ is_some (kept_at model id)
over_there ways groups marks codes model number id way is same below marked h =
    let known : way ≤ length (ways (groups number)) = omega (arith, marked, h.known number) in
    sym (ap is_some (over_found ways groups marks codes model number id way is same below marked) ∙ told_some (way_at (ways (groups number)) way) (codes number) ∙ way_there (ways (groups number)) way known)

-- where nothing is marked none is
pub none_marked : (ways : ℕ → List Way) (groups marks codes : ℕ → ℕ) → ((id : ℕ) → marks id ≡ 0) → streams_of (over_in ways groups marks codes) ≡ []
none_marked ways groups marks codes none = listed.nothing (over_in ways groups marks codes) (λ id. rw (none id) refl)

-- the marks are the same, and the ways that they name, and the groups and the codes of what is marked
pub same_marked : (ways others : ℕ → List Way) (groups regroups marks later codes recodes : ℕ → ℕ) → AreMarked ways groups marks → ((group : ℕ) → HasWays (ways group) (others group)) → HaveSameMarks marks later
    → ((q : ℕ) → marks q ≢ 0 → regroups q ≡ groups q) → ((q : ℕ) → marks q ≢ 0 → recodes q ≡ codes q) → streams_of (over_in others regroups later recodes) ≡ streams_of (over_in ways groups marks codes)
same_marked ways others groups regroups marks later codes recodes h has same grouped kept =
    listed.same_streams (over_in ways groups marks codes) (over_in others regroups later recodes) (λ q. elim (cases_eq (marks q) 0) [
      | inl none ↦
          let before : over_in ways groups marks codes q ≡ None = ap (λ m. told (way_at (ways (groups q)) m) (codes q)) none in
          let after : over_in others regroups later recodes q ≡ None = ap (λ m. told (way_at (others (regroups q)) m) (recodes q)) (same q ∙ none) in
          after ∙ sym before
      | inr some ↦
          ap (told (way_at (others (regroups q)) (later q))) (kept q some) ∙ ap (λ g. told (way_at (others g) (later q)) (codes q)) (grouped q some)
          ∙ ap (λ o. told o (codes q)) (ap (way_at (others (groups q))) (same q) ∙ (has (groups q)).same (marks q) (h.known q))
    ])

-- one stream is marked
pub one_marked : (ways others : ℕ → List Way) (groups regroups marks later codes recodes : ℕ → ℕ) (number id group way : ℕ) (r : RequestState) → AreMarked ways groups marks → ((group : ℕ) → HasWays (ways group) (others group)) → number ≡ id
    → number < 2 ^ 62 → IsOneMark number group groups regroups → IsOneMark number way marks later → ((q : ℕ) → q ≢ number → recodes q ≡ codes q) → told (way_at (others group) way) (recodes number) ≡ Some r
    → Sets (streams_of (over_in ways groups marks codes)) (streams_of (over_in others regroups later recodes)) id r
one_marked ways others groups regroups marks later codes recodes number id group way r h has is below grouped one kept found_ =
    sets (over_in ways groups marks codes) (over_in others regroups later recodes) id r (few number id is below)
    (ap (over_in others regroups later recodes) (sym is) ∙ ap (λ g. told (way_at (others g) (later number)) (recodes number)) grouped.own ∙ ap (λ m. told (way_at (others group) m) (recodes number)) one.own ∙ found_)
    (λ q differs.
    let other : q ≢ number = λ same. differs (same ∙ is) in
    ap (told (way_at (others (regroups q)) (later q))) (kept q other) ∙ ap (λ g. told (way_at (others g) (later q)) (codes q)) (grouped.others q other)
    ∙ ap (λ o. told o (codes q)) (ap (way_at (others (groups q))) (one.others q other) ∙ (has (groups q)).same (marks q) (h.known q)))

pub marked_in : (ways others : ℕ → List Way) (groups regroups marks later codes recodes : ℕ → ℕ) (model : Streams RequestState) (number id group way : ℕ) (r : RequestState) → streams_of (over_in ways groups marks codes) ≡ model
    → AreMarked ways groups marks → ((group : ℕ) → HasWays (ways group) (others group)) → number ≡ id → number < 2 ^ 62 → IsOneMark number group groups regroups → IsOneMark number way marks later
    → ((q : ℕ) → q ≢ number → recodes q ≡ codes q) → told (way_at (others group) way) (recodes number) ≡ Some r → Sets model (streams_of (over_in others regroups later recodes)) id r
marked_in ways others groups regroups marks later codes recodes model number id group way r view h has is below grouped one kept found_ =
    subst (λ l. Sets l (streams_of (over_in others regroups later recodes)) id r) view
    (one_marked ways others groups regroups marks later codes recodes number id group way r h has is below grouped one kept found_)

-- the ways are there
pub same_ways : (ways : List Way) → HasWays ways ways
same_ways ways = record { longer = omega arith; same = λ way least. refl }

-- no way more
pub none_more : (ways : List Way) → AddsWays ways ways
none_more ways = record {
  over = λ way more. past IsWay way more;
  paired = λ way more. past (IsPaired ways way) way more;
  few = λ known. known;
}
  where
    past : (P : Way → Type 0) (way : ℕ) → length ways < way → IfSome (way_at ways way) P
    past P way more =
        let some : way ≢ 0 = omega (arith, more) in
        subst (λ o. IfSome o P) (sym (way_found ways way some ∙ slice_get_past ways (way - 1) (omega (arith, more)))) tt

-- Groups are the same if those of plain streams and of others are.
pub same_groups : (old new : Ways) → new.plain.items ≡ old.plain.items → new.others ≡ old.others → ways_in new ≡ ways_in old
same_groups old new plain others =
    ap (λ items. λ group. if group == 0 then items else ways_of (lookup (is_at (nat_cmp group)) new.others.entries)) plain
    ∙ ap (λ o. λ group. if group == 0 then old.plain.items else ways_of (lookup (is_at (nat_cmp group)) o.entries)) others

-- A change in one group is one in which the ways of all are there still,
pub have_ways : (ways others : ℕ → List Way) (group : ℕ) → HasWays (ways group) (others group) → ((other : ℕ) → other ≢ group → others other ≡ ways other) → (other : ℕ) → HasWays (ways other) (others other)
have_ways ways others group has rest other = elim (cases_eq other group) [
  | inl same ↦ subst (λ g. HasWays (ways g) (others g)) (sym same) has
  | inr differs ↦ subst (HasWays (ways other)) (sym (rest other differs)) (same_ways (ways other))
]

-- and what is added to one is added to all
pub add_ways : (ways others : ℕ → List Way) (group : ℕ) → AddsWays (ways group) (others group) → ((other : ℕ) → other ≢ group → others other ≡ ways other) → (other : ℕ) → AddsWays (ways other) (others other)
add_ways ways others group adds rest other = elim (cases_eq other group) [
  | inl same ↦ subst (λ g. AddsWays (ways g) (others g)) (sym same) adds
  | inr differs ↦ subst (AddsWays (ways other)) (sym (rest other differs)) (none_more (ways other))
]

-- by a way of its own,
pub told_plain : (ways : List Way) (way code : ℕ) (r : RequestState) → way_at ways way ≡ Some (record { stream = r; has_code = false }) → told (way_at ways way) code ≡ Some r
told_plain ways way code r is = ap (λ o. told o code) is

-- or by one of which each has a code of its own
pub told_coded : (ways : List Way) (way code kept : ℕ) (r alike : RequestState) → way_at ways way ≡ Some (record { stream = alike; has_code = true }) → alike ≡ reset_with r 0 → kept ≡ code → r.incoming.fault ≡ Some (Reset code)
    → told (way_at ways way) kept ≡ Some r
told_coded ways way code kept r alike is stands same reset = ap (λ o. told o kept) is ∙ ap (λ s. Some (reset_with s kept)) stands ∙ ap (λ n. Some (reset_with r n)) same ∙ ap Some (reset_again r code reset)

-- or none is in its place
pub one_unmarked : (ways : ℕ → List Way) (groups marks later codes : ℕ → ℕ) (number id : ℕ) → number ≡ id → number < 2 ^ 62 → IsOneMark number 0 marks later
    → TakesOut (streams_of (over_in ways groups marks codes)) (streams_of (over_in ways groups later codes)) id
one_unmarked ways groups marks later codes number id is below one =
    takes_out (over_in ways groups marks codes) (over_in ways groups later codes) id (few number id is below)
    (ap (over_in ways groups later codes) (sym is) ∙ ap (λ m. told (way_at (ways (groups number)) m) (codes number)) one.own)
    (λ q differs. ap (λ m. told (way_at (ways (groups q)) m) (codes q)) (one.others q (λ same. differs (same ∙ is))))

pub none_unmarked : (ways : ℕ → List Way) (groups marks later codes : ℕ → ℕ) (number id : ℕ) → number ≡ id → number < 2 ^ 62 → HaveSameMarks marks later → marks number ≡ 0
    → TakesOut (streams_of (over_in ways groups marks codes)) (streams_of (over_in ways groups later codes)) id
none_unmarked ways groups marks later codes number id is below same none =
    takes_out (over_in ways groups marks codes) (over_in ways groups later codes) id (few number id is below)
    (ap (over_in ways groups later codes) (sym is) ∙ ap (λ m. told (way_at (ways (groups number)) m) (codes number)) (same number ∙ none))
    (λ q differs. ap (λ m. told (way_at (ways (groups q)) m) (codes q)) (same q))

-- or may be, whether its mark was set or was none
pub unmarked : (ways : ℕ → List Way) (groups marks later codes : ℕ → ℕ) (model : Streams RequestState) (number id : ℕ) (is_set : Bool) → streams_of (over_in ways groups marks codes) ≡ model → number ≡ id → number < 2 ^ 62
    → (is_set ≡ true → IsOneMark number 0 marks later) → (is_set ≡ false → HaveSameMarks marks later) → (is_set ≡ false → marks number ≡ 0) → TakesOut model (streams_of (over_in ways groups later codes)) id
unmarked ways groups marks later codes model number id true view is below set same none =
    subst (λ l. TakesOut l (streams_of (over_in ways groups later codes)) id) view (one_unmarked ways groups marks later codes number id is below (set refl))
unmarked ways groups marks later codes model number id false view is below set same none =
    subst (λ l. TakesOut l (streams_of (over_in ways groups later codes)) id) view (none_unmarked ways groups marks later codes number id is below (same refl) (none refl))

-- a way more
seen : (ways : List Way) (r : Way) (way : ℕ) → way ≤ length ways → way_at (ways ++ r ∷ []) way ≡ way_at ways way
seen ways r zero least = refl
seen ways r (suc n) least =
    let within : n < length ways = omega (arith, least) in
    let longer : n < length (ways ++ r ∷ []) = omega (arith, within, length-append ways (r ∷ [])) in
    behind (ways ++ r ∷ []) n ∙ slice_get-get_or (ways ++ r ∷ []) n r longer ∙ ap Some (get_or_append_left ways (r ∷ []) r n within) ∙ sym (slice_get-get_or ways n r within) ∙ sym (behind ways n)

pub grown : (ways : List Way) (r : Way) → HasWays ways (ways ++ r ∷ [])
grown ways r = record { longer = omega (arith, length-append ways (r ∷ [])); same = seen ways r }

at_last : (ways : List Way) (r : Way) (n : ℕ) → n ≡ length ways → slice_get (ways ++ r ∷ []) n ≡ Some r
at_last ways r n is =
    let within : n < length (ways ++ r ∷ []) = omega (arith, is, length-append ways (r ∷ [])) in
    slice_get-get_or (ways ++ r ∷ []) n r within ∙ ap (λ k. Some (get_or (ways ++ r ∷ []) k r)) is ∙ ap Some (get_or-append_seam ways r [] r)

pub way_last : (ways : List Way) (r : Way) (n : ℕ) → n ≡ length ways + 1 → way_at (ways ++ r ∷ []) n ≡ Some r
way_last ways r n is =
    let up : n ≡ suc (length ways) = omega (arith, is) in
    ap (way_at (ways ++ r ∷ [])) up ∙ behind (ways ++ r ∷ []) (length ways) ∙ at_last ways r (length ways) refl

-- what is behind the ways is the last one
grown_all : (P : Way → Type 0) (ways : List Way) (r : Way) → P r → (way : ℕ) → length ways < way → IfSome (way_at (ways ++ r ∷ []) way) P
grown_all P ways r h zero more = absurd (omega (arith, more))
grown_all P ways r h (suc n) more = subst (λ o. IfSome o P) (sym (behind (ways ++ r ∷ []) n)) (by_test (n == length ways) refl)
  where
    by_test : (t : Bool) → (n == length ways) ≡ t → IfSome (slice_get (ways ++ r ∷ []) n) P
    by_test true e = let is : n ≡ length ways = grind (arith, common_steps, e) in subst (λ o. IfSome o P) (sym (at_last ways r n is)) h
    by_test false e =
        let differs : n ≢ length ways = grind (arith, common_steps, e) in
        let past : length (ways ++ r ∷ []) ≤ n = omega (arith, more, differs, length-append ways (r ∷ [])) in
        subst (λ o. IfSome o P) (sym (slice_get_past (ways ++ r ∷ []) n past)) tt

one_longer : (ways : List Way) (r : Way) → length (ways ++ r ∷ []) ≡ length ways + 1
one_longer ways r = length-append ways (r ∷ [])

-- one way more, whose end does not wait
pub grown_one : (ways : List Way) (r : Way) → IsWay r → end_waits r.stream.outgoing ≡ false → length ways < 255 → AddsWays ways (ways ++ r ∷ [])
grown_one ways r h none less = record {
  over = grown_all IsWay ways r h;
  paired = λ way more. grown_all (IsPaired (ways ++ r ∷ []) way) ways r (λ waits. absurd (let wrong : false ≡ true = sym none ∙ waits in cc)) way more;
  few = λ known. omega (arith, less, one_longer ways r);
}

-- the way with its end taken is one too
ended_is : (w : Way) → IsWay w → IsWay (ended_way w)
ended_is w h = record { over = h.over; code = h.code }

abbrev two : List Way → Way → Way → List Way
two ways r t = (ways ++ r ∷ []) ++ t ∷ []

-- or two more, of which the other is the one with its end taken
pub grown_two : (ways : List Way) (r : Way) → IsWay r → length ways + 1 < 255 → AddsWays ways ((ways ++ r ∷ []) ++ ended_way r ∷ [])
grown_two ways r h less = record { over = over; paired = paired; few = λ known. omega (arith, less, one_longer ways r, one_longer (ways ++ r ∷ []) t) }
  where
    t : Way
    t = ended_way r

    taken : end_waits t.stream.outgoing ≡ false
    taken = by_test r.stream.outgoing.is_finished
      where
        by_test : (b : Bool) → (b && false) ≡ false
        by_test true = refl
        by_test false = refl

    over : (way : ℕ) → length ways < way → IfSome (way_at (two ways r t) way) IsWay
    over way more = by_test (nat_lt (length (ways ++ r ∷ [])) way) refl
      where
        by_test : (b : Bool) → nat_lt (length (ways ++ r ∷ [])) way ≡ b → IfSome (way_at (two ways r t) way) IsWay
        by_test true e = grown_all IsWay (ways ++ r ∷ []) t (ended_is r h) way (grind (arith, common_steps, e))
        by_test false e =
            let least : way ≤ length (ways ++ r ∷ []) = grind (arith, common_steps, e) in
            subst (λ o. IfSome o IsWay) (sym ((grown (ways ++ r ∷ []) t).same way least)) (grown_all IsWay ways r h way more)

    next : (way : ℕ) → way ≡ length ways + 1 → way_at (two ways r t) (way + 1) ≡ Some t
    next way is =
        let place : way ≡ length (ways ++ r ∷ []) = omega (arith, is, one_longer ways r) in
        let up : way + 1 ≡ suc way = omega arith in
        ap (way_at (two ways r t)) up ∙ behind (two ways r t) way ∙ at_last (ways ++ r ∷ []) t way place

    paired : (way : ℕ) → length ways < way → IfSome (way_at (two ways r t) way) (IsPaired (two ways r t) way)
    paired way more = by_test (nat_lt (length (ways ++ r ∷ [])) way) refl
      where
        by_test : (b : Bool) → nat_lt (length (ways ++ r ∷ [])) way ≡ b → IfSome (way_at (two ways r t) way) (IsPaired (two ways r t) way)
        by_test true e =
            grown_all (IsPaired (two ways r t) way) (ways ++ r ∷ []) t (λ waits. absurd (let wrong : false ≡ true = sym taken ∙ waits in cc)) way (grind (arith, common_steps, e))
        by_test false e =
            let least : way ≤ length (ways ++ r ∷ []) = grind (arith, common_steps, e) in
            let is : way ≡ length ways + 1 = omega (arith, least, more, one_longer ways r) in
            subst (λ o. IfSome o (IsPaired (two ways r t) way)) (sym ((grown (ways ++ r ∷ []) t).same way least)) (grown_all (IsPaired (two ways r t) way) ways r (λ waits. next way is) way more)

pub grown_both : (ways : List Way) (r t : Way) → HasWays ways ((ways ++ r ∷ []) ++ t ∷ [])
grown_both ways r t =
    let one = grown ways r in
    let other = grown (ways ++ r ∷ []) t in
    record { longer = omega (arith, one.longer, other.longer); same = λ way least. other.same way (omega (arith, least, one.longer)) ∙ one.same way least }

-- the first of the two is the way of the stream
pub at_first : (ways : List Way) (r t : Way) (way : ℕ) → way ≡ length ways + 1 → way_at ((ways ++ r ∷ []) ++ t ∷ []) way ≡ Some r
at_first ways r t way is =
    let least : way ≤ length (ways ++ r ∷ []) = omega (arith, is, one_longer ways r) in
    let up : way ≡ suc (length ways) = omega (arith, is) in
    (grown (ways ++ r ∷ []) t).same way least ∙ ap (way_at (ways ++ r ∷ [])) up ∙ behind (ways ++ r ∷ []) (length ways) ∙ at_last ways r (length ways) refl

over_each : (ways others : List Way) → ((way : ℕ) → IfSome (way_at ways way) IsWay) → HasWays ways others → ((way : ℕ) → length ways < way → IfSome (way_at others way) IsWay) → (way : ℕ) → IfSome (way_at others way) IsWay
over_each ways others h has over way = by_test (nat_lt (length ways) way) refl
  where
    by_test : (t : Bool) → nat_lt (length ways) way ≡ t → IfSome (way_at others way) IsWay
    by_test true e = over way (grind (arith, common_steps, e))
    by_test false e = let least : way ≤ length ways = grind (arith, common_steps, e) in subst (λ o. IfSome o IsWay) (sym (has.same way least)) (h way)

-- a way that is there has a place
within_ways : (ways : List Way) (way : ℕ) (r : Way) → way_at ways way ≡ Some r → way ≤ length ways
within_ways ways way r there = by_test (nat_lt (length ways) way) refl
  where
    by_test : (t : Bool) → nat_lt (length ways) way ≡ t → way ≤ length ways
    by_test false e = grind (arith, common_steps, e)
    by_test true e =
        let past : length ways < way = grind (arith, common_steps, e) in
        let some : way ≢ 0 = omega (arith, past) in
        let none : way_at ways way ≡ None = way_found ways way some ∙ slice_get_past ways (way - 1) (omega (arith, past)) in
        absurd (let wrong : None ≡ Some r = sym none ∙ there in cc)

paired_each : (ways others : List Way) → ((way : ℕ) → IfSome (way_at ways way) (IsPaired ways way)) → HasWays ways others → ((way : ℕ) → length ways < way → IfSome (way_at others way) (IsPaired others way)) → (way : ℕ)
    → IfSome (way_at others way) (IsPaired others way)
paired_each ways others h has paired way = by_test (nat_lt (length ways) way) refl
  where
    there : (o : Option Way) → way_at ways way ≡ o → IfSome o (IsPaired ways way) → IfSome o (IsPaired others way)
    there None is p = tt
    there (Some r) is p = λ waits. let next = p waits in has.same (way + 1) (within_ways ways (way + 1) (ended_way r) next) ∙ next

    by_test : (t : Bool) → nat_lt (length ways) way ≡ t → IfSome (way_at others way) (IsPaired others way)
    by_test true e = paired way (grind (arith, common_steps, e))
    by_test false e =
        let least : way ≤ length ways = grind (arith, common_steps, e) in
        subst (λ o. IfSome o (IsPaired others way)) (sym (has.same way least)) (there (way_at ways way) refl (h way))

-- Marks name ways that are there still, if each mark that is one is of a way of its group.
still_known : (ways others : ℕ → List Way) (groups marks regroups later : ℕ → ℕ) → AreMarked ways groups marks → ((group : ℕ) → HasWays (ways group) (others group)) → ((group : ℕ) → AddsWays (ways group) (others group))
    → ((id : ℕ) → later id ≤ length (others (regroups id))) → AreMarked others regroups later
still_known ways others groups marks regroups later h has adds known = record {
  over = λ group way. over_each (ways group) (others group) (h.over group) (has group) (adds group).over way;
  known = known;
  paired = λ group way. paired_each (ways group) (others group) (h.paired group) (has group) (adds group).paired way;
  few = λ group. (adds group).few (h.few group);
}

-- marks that stay do,
pub still_marked : (ways others : ℕ → List Way) (groups regroups marks later : ℕ → ℕ) → AreMarked ways groups marks → ((group : ℕ) → HasWays (ways group) (others group)) → ((group : ℕ) → AddsWays (ways group) (others group))
    → HaveSameMarks marks later → ((q : ℕ) → marks q ≢ 0 → regroups q ≡ groups q) → AreMarked others regroups later
still_marked ways others groups regroups marks later h has adds same grouped =
    still_known ways others groups marks regroups later h has adds (λ id. elim (cases_eq (marks id) 0) [
      | inl none ↦ let e = same id in omega (arith, none, e)
      | inr some ↦
          let k = h.known id in
          let e = same id in
          let longer = (has (groups id)).longer in
          let least : later id ≤ length (others (groups id)) = omega (arith, k, e, longer) in
          subst (λ g. later id ≤ length (others g)) (sym (grouped id some)) least
    ])

-- and so does one that is set
pub marked_too : (ways others : ℕ → List Way) (groups regroups marks later : ℕ → ℕ) (number group way : ℕ) → AreMarked ways groups marks → ((group : ℕ) → HasWays (ways group) (others group)) → ((group : ℕ) → AddsWays (ways group) (others group))
    → IsOneMark number group groups regroups → IsOneMark number way marks later → way ≤ length (others group) → AreMarked others regroups later
marked_too ways others groups regroups marks later number group way h has adds grouped one known =
    still_known ways others groups marks regroups later h has adds (λ id. elim (cases_eq id number) [
      | inl same ↦
          let e : later id ≡ way = ap later same ∙ one.own in
          let g : regroups id ≡ group = ap regroups same ∙ grouped.own in
          let least : later id ≤ length (others group) = omega (arith, known, e) in
          subst (λ g. later id ≤ length (others g)) (sym g) least
      | inr differs ↦
          let k = h.known id in
          let e = one.others id differs in
          let longer = (has (groups id)).longer in
          let least : later id ≤ length (others (groups id)) = omega (arith, k, e, longer) in
          subst (λ g. later id ≤ length (others g)) (sym (grouped.others id differs)) least
    ])

-- whether the mark was set or was not
pub still_or_too : (ways others : ℕ → List Way) (groups regroups marks later : ℕ → ℕ) (number group way : ℕ) (is_set : Bool) → AreMarked ways groups marks → ((group : ℕ) → HasWays (ways group) (others group))
    → ((group : ℕ) → AddsWays (ways group) (others group)) → (is_set ≡ true → IsOneMark number group groups regroups) → (is_set ≡ false → (q : ℕ) → marks q ≢ 0 → regroups q ≡ groups q)
    → (is_set ≡ true → IsOneMark number way marks later) → (is_set ≡ false → HaveSameMarks marks later) → way ≤ length (others group) → AreMarked others regroups later
still_or_too ways others groups regroups marks later number group way true h has adds regrouped grouped set same known =
    marked_too ways others groups regroups marks later number group way h has adds (regrouped refl) (set refl) known
still_or_too ways others groups regroups marks later number group way false h has adds regrouped grouped set same known =
    still_marked ways others groups regroups marks later h has adds (same refl) (grouped refl)

-- Nothing is taken of a stream that is over.
pub over_advanced : (m : Streams RequestState) (id count : ℕ) (o : Option RequestState) → kept_at m id ≡ o → IfSome o IsOver
    → IfSome (kept_at m id) (λ r. Sets m m id (record r { outgoing = taken_from r.outgoing (min count (length (bytes_of r.outgoing.pieces))) }))
over_advanced m id count None is h = rw is tt
over_advanced m id count (Some r) is h = rw is (record { here = is ∙ ap Some (sym (over_taken r count h)); others = λ q differs. refl })

-- the way with the end taken is one of the ways
pub next_way : (ways : ℕ → List Way) (groups marks : ℕ → ℕ) (group way : ℕ) (w : Way) → AreMarked ways groups marks → way_at (ways group) way ≡ Some w → end_waits w.stream.outgoing ≡ true
    → (way_at (ways group) (way + 1) ≡ Some (ended_way w)) × (way + 1 ≤ 255) × (way + 1 ≤ length (ways group))
next_way ways groups marks group way w h there waits =
    let paired : IsPaired (ways group) way w = subst (λ o. IfSome o (IsPaired (ways group) way)) there (h.paired group way) in
    let next = paired waits in
    let within = within_ways (ways group) (way + 1) (ended_way w) next in
    let few_ = h.few group in
    (next, omega (arith, within, few_), within)

-- a number that is there already is set
pub own_set : (number mark : ℕ) (old : ℕ → ℕ) (is : mark ≡ old number) → IsOneMark number mark old old
own_set number mark old is = record { own = sym is; others = λ q differs. refl }

-- a number is set if it could not be, but where it was 0, and only for 0
pub one_set : (number mark : ℕ) (old new : ℕ → ℕ) (is_set : Bool) → (is_set ≡ true → IsOneMark number mark old new) → (is_set ≡ false → HaveSameMarks old new) → (is_set ≡ false → old number ≡ 0) → (old number ≡ 0 → mark ≡ 0)
    → IsOneMark number mark old new
one_set number mark old new true set same none only = set refl
one_set number mark old new false set same none only = record { own = same refl number ∙ none refl ∙ sym (only (none refl)); others = λ q differs. same refl q }

-- once it is set back all are as before
pub set_again : (number mark before : ℕ) (old set new : ℕ → ℕ) → IsOneMark number mark old set → IsOneMark number before set new → before ≡ old number → HaveSameMarks old new
set_again number mark before old set new one back is q = elim (cases_eq q number) [
  | inl same ↦ ap new same ∙ back.own ∙ is ∙ ap old (sym same)
  | inr differs ↦ back.others q differs ∙ one.others q differs
]

-- a mark that is not 0 can be set
pub was_set : (is_set : Bool) (mark way : ℕ) → (is_set ≡ false → mark ≡ 0) → way ≡ mark → way ≢ 0 → is_set ≡ true
was_set true mark way none is some = refl
was_set false mark way none is some = absurd (some (is ∙ none refl))

-- the end waits whatever the code is
pub so_waits : (w : Way) (code : ℕ) → end_waits (over_so w code).outgoing ≡ end_waits w.stream.outgoing
so_waits w code = by_test w.has_code
  where
    by_test : (b : Bool) → end_waits (if b then reset_with w.stream code else w.stream).outgoing ≡ end_waits w.stream.outgoing
    by_test true = refl
    by_test false = refl

-- and the way with the end taken is what is over in that way, with its end taken
so_taken : (w : Way) (code : ℕ) → over_so (ended_way w) code ≡ with_end_taken (over_so w code)
so_taken w code = by_test w.has_code
  where
    by_test : (b : Bool) → (if b then reset_with (with_end_taken w.stream) code else with_end_taken w.stream) ≡ with_end_taken (if b then reset_with w.stream code else w.stream)
    by_test true = refl
    by_test false = refl

-- the stream is in that way then
pub goes_on : (ways : ℕ → List Way) (groups marks later codes : ℕ → ℕ) (model : Streams RequestState) (number id group way : ℕ) (w : Way) → streams_of (over_in ways groups marks codes) ≡ model → AreMarked ways groups marks → number ≡ id
    → number < 2 ^ 62 → group ≡ groups number → IsOneMark number (way + 1) marks later → way_at (ways group) way ≡ Some w → end_waits w.stream.outgoing ≡ true → kept_at model id ≡ Some (over_so w (codes number))
    → IfSome (kept_at model id) (λ s. Sets model (streams_of (over_in ways groups later codes)) id (with_end_taken s))
goes_on ways groups marks later codes model number id group way w view h is below grouped one there waits found_ =
    let next = (next_way ways groups marks group way w h there waits).0 in
    let so : told (way_at (ways group) (way + 1)) (codes number) ≡ Some (with_end_taken (over_so w (codes number))) = ap (λ o. told o (codes number)) next ∙ ap Some (so_taken w (codes number)) in
    let own : IsOneMark number group groups groups = record { own = sym grouped; others = λ q differs. refl } in
    subst (λ o. IfSome o (λ s. Sets model (streams_of (over_in ways groups later codes)) id (with_end_taken s))) (sym found_)
    (marked_in ways ways groups groups marks later codes codes model number id group (way + 1) (with_end_taken (over_so w (codes number))) view h (λ g. same_ways (ways g)) is below own one (λ q differs. refl) so)
