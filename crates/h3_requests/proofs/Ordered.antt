-- Streams of classes as the scheduler sees them, and a stream that goes from one class to another.
use Rattle.std.proofs.Common.{arith, ◌≡◌, ◌≢◌, ◌<◌, ◌≤◌, ℕ, zero, suc, ◌+◌, ◌*◌, ◌/◌, ◌%◌, Bool, true, false, if◌then◌else◌, ◌&&◌, ◌||◌, refl, sym, ◌∙◌, ap, subst, inl, inr}
use Rattle.std.specs.Prelude.{◌==◌, ◌^◌, not, nat_lt, Option, Some, None, IfSome, List}
use Rattle.std.proofs.lemmas.Bool.{cases_eq}
use Rattle.std.proofs.lemmas.Grind.{common_steps}
use Rattle.h3_connection.specs.NextWaiting.{IsLeast}
use Rattle.h3_connection.specs.NextWaitingLaws.{least_same}
use Rattle.h3_scheduler.specs.Least as scheduler
use Rattle.h3_scheduler.specs.Places.{takes_at, IsFirstUrgency, IsNext}
use Rattle.h3_scheduler.specs.Streams.{alike, is_it}
use Rattle.h3_scheduler.specs.declared.round.Round.{Round}
use Rattle.h3_blocked.specs.declared.counts.Blocked.{Blocked}
use Rattle.h3_connection.specs.State.{RequestState, kept_at}
use Rattle.h3_connection.specs.StreamSets.{Streams}
use Rattle.h3_connection.specs.declared.order.Precedence.{Precedence}
use Rattle.h3_requests.specs.Classes.{class_at, class_of}
use Rattle.h3_requests.specs.HasBytes.{has_bytes, has_end}
use Rattle.h3_requests.specs.Ordered.{places_in, sends_at}
use Rattle.h3_requests.specs.declared.waiting.WaitingStreams.{WaitingStreams}
use Rattle.h3_requests.specs.Lesser.{lesser_of}
use Rattle.h3_requests.specs.Ready.{is_ready, moved, stands, stands_in, AreKept, ArePlain, HasUrgency, Moves}
use Rattle.h3_requests.specs.Waiting.{has_place, is_any, is_any_below, is_waiting, IsFirstClass, IsOnePlace, KeepsOtherPlaces, PutIf}
use Rattle.h3_requests.specs.declared.ready.ReadyStreams.{ReadyStreams}
use Rattle.h3_requests.specs.declared.ready.Waits.{Waits}

neither : (a b : Bool) → a ≡ false → b ≡ false → (a || b) ≡ false
neither true b is other = absurd (cc)
neither false b is other = other

either_one : (a b : Bool) → a ≡ true → (a || b) ≡ true
either_one true b is = refl
either_one false b is = absurd (cc)

either_other : (a b : Bool) → b ≡ true → (a || b) ≡ true
either_other true b is = refl
either_other false b is = is

first_false : (a b : Bool) → (a || b) ≡ false → a ≡ false
first_false true b h = absurd (cc)
first_false false b h = refl

second_false : (a b : Bool) → (a || b) ≡ false → b ≡ false
second_false true b h = absurd (cc)
second_false false b h = h

and_false : (b : Bool) → (b && false) ≡ false
and_false true = refl
and_false false = refl

or_false : (b : Bool) → (b || false) ≡ b
or_false true = refl
or_false false = refl

-- the first class by one of two tests is the lesser of those by each
first_by : (f g : ℕ → ℕ → Bool) (a b : ℕ) (t : Bool) → nat_lt b a ≡ t → IsFirstClass f (Some a) → IsFirstClass g (Some b) → IsFirstClass (λ c q. f c q || g c q) (if t then Some b else Some a)
first_by f g a b true e h k =
    let less : b < a = grind (arith, common_steps, e) in
    ((k.0.0, either_other (f b k.0.0) (g b k.0.0) k.0.1), λ c q low. neither (f c q) (g c q) (h.1 c q (omega (arith, low, less))) (k.1 c q low))
first_by f g a b false e h k =
    let most : a ≤ b = grind (arith, common_steps, e) in
    ((h.0.0, either_one (f a h.0.0) (g a h.0.0) h.0.1), λ c q low. neither (f c q) (g c q) (h.1 c q low) (k.1 c q (omega (arith, low, most))))

pub first_either : (f g : ℕ → ℕ → Bool) (one other : Option ℕ) → IfSome one (λ c. c ≤ 16) → IfSome other (λ c. c ≤ 16) → IsFirstClass f one → IsFirstClass g other
    → IsFirstClass (λ c q. f c q || g c q) (lesser_of one other)
first_either f g None None few less h k = λ c q within. neither (f c q) (g c q) (h c q within) (k c q within)
first_either f g None (Some b) few less h k =
    ((k.0.0, either_other (f b k.0.0) (g b k.0.0) k.0.1), λ c q low. let within : c < 17 = omega (arith, low, less) in neither (f c q) (g c q) (h c q within) (k.1 c q low))
first_either f g (Some a) None few less h k =
    ((h.0.0, either_one (f a h.0.0) (g a h.0.0) h.0.1), λ c q low. let within : c < 17 = omega (arith, low, few) in neither (f c q) (g c q) (h.1 c q low) (k c q within))
first_either f g (Some a) (Some b) few less h k = first_by f g a b (nat_lt b a) refl h k

-- where nothing waits but in one class, what waits in any waits there
below_plain : (waits : ℕ → ℕ → Bool) (q n : ℕ) → ((c : ℕ) → c ≢ 6 → waits c q ≡ false) → n ≤ 6 → is_any_below n waits q ≡ false
below_plain waits q zero h few = refl
below_plain waits q (suc n) h few =
    let differs : n ≢ 6 = λ is. absurd (omega (arith, is, few)) in
    let less : n ≤ 6 = omega (arith, few) in
    neither (is_any_below n waits q) (waits n q) (below_plain waits q n h less) (h n differs)

past_plain : (waits : ℕ → ℕ → Bool) (q n : ℕ) → ((c : ℕ) → c ≢ 6 → waits c q ≡ false) → 6 < n → is_any_below n waits q ≡ waits 6 q
past_plain waits q zero h past = absurd (omega (arith, past))
past_plain waits q (suc n) h past = elim (cases_eq n 6) [
  | inl same ↦
      let few : n ≤ 6 = omega (arith, same) in
      ap (λ b. b || waits n q) (below_plain waits q n h few) ∙ ap (λ c. waits c q) same
  | inr differs ↦
      let later : 6 < n = omega (arith, past, differs) in
      ap (λ b. is_any_below n waits q || b) (h n differs) ∙ or_false (is_any_below n waits q) ∙ past_plain waits q n h later
]

pub least_plain : (waits : ℕ → ℕ → Bool) (from : ℕ) (found : Option ℕ) → ((c q : ℕ) → c ≢ 6 → waits c q ≡ false) → IsLeast (waits 6) from found → IsLeast (is_any waits) from found
least_plain waits from found h k = least_same (waits 6) (is_any waits) from found (λ q. past_plain waits q 17 (λ c. h c q) (omega arith)) k

pub plain_bytes : (s : ReadyStreams) → ArePlain s → s.has_classes ≡ false → (c q : ℕ) → c ≢ 6 → is_ready s c q ≡ false
plain_bytes s h none c q differs = first_false (is_ready s c q) (is_waiting s.ends c q) (h none c q differs)

pub plain_ends : (s : ReadyStreams) → ArePlain s → s.has_classes ≡ false → (c q : ℕ) → c ≢ 6 → is_waiting s.ends c q ≡ false
plain_ends s h none c q differs = second_false (is_ready s c q) (is_waiting s.ends c q) (h none c q differs)

-- the least number, and the lesser of two, as the scheduler has them
pub least_there : (f : ℕ → Bool) (from : ℕ) (found : Option ℕ) → IsLeast f from found → scheduler.IsLeast f from found
least_there f from None h = h
least_there f from (Some id) h = h

pub lesser_there : (one other : Option ℕ) → lesser_of one other ≡ scheduler.lesser_of one other
lesser_there None other = refl
lesser_there (Some a) None = refl
lesser_there (Some a) (Some b) = refl

-- the first urgency is that of the first class,
class_lies : (first : ℕ) → first / 2 * 2 + (if first % 2 == 1 then 1 else 0) ≡ first
class_lies first = by_test (first % 2 == 1) refl
  where
    by_test : (b : Bool) → (first % 2 == 1) ≡ b → first / 2 * 2 + (if b then 1 else 0) ≡ first
    by_test true e = let odd : first % 2 ≡ 1 = grind (arith, common_steps, e) in omega (arith, odd)
    by_test false e = let even : first % 2 ≢ 1 = grind (arith, common_steps, e) in omega (arith, even)

low_class : (urgency first : ℕ) (b : Bool) → urgency < first / 2 → urgency * 2 + (if b then 1 else 0) < first
low_class urgency first true less = omega (arith, less)
low_class urgency first false less = omega (arith, less)

within_eight : (urgency : ℕ) → urgency < 8 → nat_lt urgency 8 ≡ true
within_eight urgency less = grind (arith, common_steps, less)

pub first_urgency : (s : ReadyStreams) (first : ℕ) → first < 16 → IsFirstClass (stands s) (Some first) → IsFirstUrgency (stands_in s) (Some (first / 2))
first_urgency s first few h =
    let half : first / 2 < 8 = omega (arith, few) in (
      (
        first % 2 == 1,
        h.0.0,
        ap (λ b. b && stands s (first / 2 * 2 + (if first % 2 == 1 then 1 else 0)) h.0.0) (within_eight (first / 2) half) ∙ ap (λ c. stands s c h.0.0) (class_lies first) ∙ h.0.1,
      ),
      λ urgency incremental q less. ap (λ b. nat_lt urgency 8 && b) (h.1 (urgency * 2 + (if incremental then 1 else 0)) q (low_class urgency first incremental less)) ∙ and_false (nat_lt urgency 8),
    )

-- the least of an urgency, not incremental and incremental
pub least_at : (s : ReadyStreams) (urgency class from : ℕ) (incremental : Bool) (found : Option ℕ) → urgency < 8 → urgency * 2 + (if incremental then 1 else 0) ≡ class
    → IsLeast (stands s class) from found → scheduler.IsLeast (stands_in s urgency incremental) from found
least_at s urgency class from incremental found less is h =
    least_there (stands_in s urgency incremental) from found
    (least_same (stands s class) (stands_in s urgency incremental) from found
    (λ q. ap (λ b. b && stands s (urgency * 2 + (if incremental then 1 else 0)) q) (within_eight urgency less) ∙ ap (λ c. stands s c q) is) h)

-- a stream that goes from one class to another
moved_over : (before after id : ℕ) (is : Bool) (w v u t : ℕ → ℕ → Bool) → ((c q : ℕ) → v c q ≡ w c q) → PutIf after id is v u → IsOnePlace before id false u t → (c q : ℕ) → t c q ≡ moved before after id is w c q
moved_over before after id is w v u t same put left c q =
    left c q ∙ ap (λ b. if (c == before) && (q == id) then false else b) (put c q ∙ ap (λ b. if (c == after) && (q == id) then is || b else b) (same c q))

other_place : (class id c q : ℕ) → q ≢ id → ((c == class) && (q == id)) ≡ false
other_place class id c q differs = let no : (q == id) ≡ false = grind (arith, common_steps, differs) in rw no (and_false (c == class))

other_class : (class after id : ℕ) → class ≢ after → ((after == class) && (id == id)) ≡ false
other_class class after id differs = let no : (after == class) ≡ false = grind (arith, common_steps, differs) in rw no refl

any_end : (end may : Bool) → may ≡ true → (end || may) ≡ true
any_end true may h = refl
any_end false may h = h

pub moves : (before after id : ℕ) (waits : Waits) (s t u v w : ReadyStreams) → before ≢ after
    → ((c q : ℕ) → is_ready t c q ≡ is_ready s c q) → ((c q : ℕ) → is_waiting t.ends c q ≡ is_waiting s.ends c q) → ((c q : ℕ) → has_place s.ends c q ≡ true → has_place t.ends c q ≡ true)
    → ((waits.end || waits.may_end) ≡ true → has_place t.ends after id ≡ true)
    → PutIf after id waits.bytes (is_ready t) (is_ready u) → u.ends ≡ t.ends → PutIf after id waits.end (is_waiting u.ends) (is_waiting v.ends) → ((c q : ℕ) → has_place v.ends c q ≡ has_place u.ends c q) → v.bytes ≡ u.bytes
    → IsOnePlace before id false (is_ready v) (is_ready w) → IsOnePlace before id false (is_waiting v.ends) (is_waiting w.ends) → KeepsOtherPlaces before id (has_place v.ends) (has_place w.ends) → w.has_classes ≡ true
    → Moves before after id waits s w
moves before after id waits s t u v w differ ready ending places placed put_bytes same_ends put_end same_places same_bytes left_bytes left_end left_places classes = record {
  bytes = moved_over before after id waits.bytes (is_ready s) (is_ready t) (is_ready v) (is_ready w) ready (subst (λ b. PutIf after id waits.bytes (is_ready t) (is_waiting b)) (sym same_bytes) put_bytes) left_bytes;
  ends = moved_over before after id waits.end (is_waiting s.ends) (is_waiting t.ends) (is_waiting v.ends) (is_waiting w.ends) ending (subst (λ e. PutIf after id waits.end (is_waiting e) (is_waiting v.ends)) same_ends put_end) left_end;
  places = λ c q differs has. left_places c q (other_place before id c q differs) ∙ same_places c q ∙ ap (λ e. has_place e c q) same_ends ∙ places c q has;
  placed = λ may. left_places after id (other_class before after id differ) ∙ same_places after id ∙ ap (λ e. has_place e after id) same_ends ∙ placed (any_end waits.end waits.may_end may);
  classes = classes;
}

-- The class of a stream says whether it is held, and else its urgency and whether it is incremental.
differ : (a b : ℕ) → a ≢ b → (a == b) ≡ false
differ a b differs = grind (arith, common_steps, differs)

same_urgency : (n m kind : ℕ) → (n * 2 + kind == m * 2 + kind) ≡ ((m == n) && true)
same_urgency n m kind = elim (cases_eq m n) [
  | inl same ↦
      let level : n * 2 + kind ≡ m * 2 + kind = omega (arith, same) in
      let one : (n * 2 + kind == m * 2 + kind) ≡ true = grind (arith, common_steps, level) in
      let other : (m == n) ≡ true = grind (arith, common_steps, same) in
      rw (one, other) refl
  | inr apart ↦ differ (n * 2 + kind) (m * 2 + kind) (λ is. apart (omega (arith, is))) ∙ sym (ap (λ b. b && true) (differ m n apart))
]

same_class : (held own incremental : Bool) (n m : ℕ) → n < 8
    → (n * 2 + (if incremental then 1 else 0) == (if held then 16 else m * 2 + (if own then 1 else 0))) ≡ (not held && ((m == n) && alike own incremental))
same_class true own true n m less = differ (n * 2 + 1) 16 (λ is. absurd (omega (arith, is, less)))
same_class true own false n m less = differ (n * 2 + 0) 16 (λ is. absurd (omega (arith, is, less)))
same_class false true true n m less = same_urgency n m 1
same_class false false false n m less = same_urgency n m 0
same_class false true false n m less = differ (n * 2 + 0) (m * 2 + 1) (λ is. absurd (omega (arith, is))) ∙ sym (and_false (m == n))
same_class false false true n m less = differ (n * 2 + 1) (m * 2 + 0) (λ is. absurd (omega (arith, is))) ∙ sym (and_false (m == n))

either_both : (a b c : Bool) → ((a && c) || (b && c)) ≡ ((a || b) && c)
either_both true true true = refl
either_both true true false = refl
either_both true false true = refl
either_both true false false = refl
either_both false b c = refl

-- so the places are those of the streams that send
stands_by : (bytes end : Bool) (o : Option RequestState) (urgency : ℕ) (incremental : Bool) → IfSome o HasUrgency → bytes ≡ (has_bytes o && (urgency * 2 + (if incremental then 1 else 0) == class_at o))
    → end ≡ (has_end o && (urgency * 2 + (if incremental then 1 else 0) == class_at o)) → (nat_lt urgency 8 && (bytes || end)) ≡ sends_at o urgency incremental
stands_by bytes end None urgency incremental few b e = rw (b, e) (and_false (nat_lt urgency 8))
stands_by bytes end (Some r) urgency incremental few b e = by_test (nat_lt urgency 8) refl
  where
    p : Precedence
    p = r.outgoing.precedence

    by_test : (t : Bool) → nat_lt urgency 8 ≡ t → (t && (bytes || end)) ≡ sends_at (Some r) urgency incremental
    by_test true is =
        let less : urgency < 8 = grind (arith, common_steps, is) in
        ap (λ x. x || end) b ∙ ap (λ x. (has_bytes (Some r) && (urgency * 2 + (if incremental then 1 else 0) == class_of p)) || x) e
        ∙ either_both (has_bytes (Some r)) (has_end (Some r)) (urgency * 2 + (if incremental then 1 else 0) == class_of p)
        ∙ ap (λ x. (has_bytes (Some r) || has_end (Some r)) && x) (same_class p.is_held p.priority.incremental incremental urgency p.priority.urgency less)
    by_test false is =
        let most : 8 ≤ urgency = grind (arith, common_steps, is) in
        let none : (p.priority.urgency == urgency) ≡ false = differ p.priority.urgency urgency (λ same. absurd (omega (arith, same, most, few))) in
        sym (ap (λ x. (has_bytes (Some r) || has_end (Some r)) && (not p.is_held && (x && alike p.priority.incremental incremental))) none
        ∙ ap (λ x. (has_bytes (Some r) || has_end (Some r)) && x) (and_false (not p.is_held)) ∙ and_false (has_bytes (Some r) || has_end (Some r)))

pub stand_alike : {counts : Blocked} {s : ReadyStreams} {streams : Streams RequestState} {n : ℕ} → AreKept counts s n streams → (urgency : ℕ) (incremental : Bool) (q : ℕ)
    → places_in streams urgency incremental q ≡ stands_in s urgency incremental q
stand_alike {counts} {s} {streams} h urgency incremental q =
    sym (stands_by (is_ready s (urgency * 2 + (if incremental then 1 else 0)) q) (is_waiting s.ends (urgency * 2 + (if incremental then 1 else 0)) q) (kept_at streams q) urgency incremental (h.classed.few q)
    (h.ready (urgency * 2 + (if incremental then 1 else 0)) q) (h.ends.ending (urgency * 2 + (if incremental then 1 else 0)) q))

-- the number of a stream that sends is that of a stream
waits_few : (s : WaitingStreams) (class q : ℕ) → is_waiting s class q ≡ true → q < 2 ^ 62
waits_few s class q h = let few : nat_lt q (2 ^ 62) ≡ true = second _ _ h in grind (arith, common_steps, few)
  where
    second : (a b : Bool) → (a && b) ≡ true → b ≡ true
    second true b h = h
    second false b h = absurd (cc)

stands_few : (s : ReadyStreams) (class q : ℕ) → stands s class q ≡ true → q < 2 ^ 62
stands_few s class q h = by_bytes (is_ready s class q) refl
  where
    by_bytes : (b : Bool) → is_ready s class q ≡ b → q < 2 ^ 62
    by_bytes true is = waits_few s.bytes class q is
    by_bytes false is = waits_few s.ends class q (sym (ap (λ b. b || is_waiting s.ends class q) is) ∙ h)

place_few : (s : ReadyStreams) (urgency : ℕ) (incremental : Bool) (q : ℕ) → stands_in s urgency incremental q ≡ true → q < 2 ^ 62
place_few s urgency incremental q h = stands_few s (urgency * 2 + (if incremental then 1 else 0)) q (second _ _ h)
  where
    second : (a b : Bool) → (a && b) ≡ true → b ≡ true
    second true b h = h
    second false b h = absurd (cc)

takes_few : (s : ReadyStreams) (urgency : ℕ) (plain : Option ℕ) (q : ℕ) → takes_at (stands_in s) urgency plain q ≡ true → q < 2 ^ 62
takes_few s urgency plain q h = by_shared (stands_in s urgency true q) refl
  where
    first : (a b : Bool) → (a && b) ≡ true → a ≡ true
    first true b h = refl
    first false b h = absurd (cc)

    by_shared : (b : Bool) → stands_in s urgency true q ≡ b → q < 2 ^ 62
    by_shared true is = place_few s urgency true q is
    by_shared false is = place_few s urgency false q (first _ _ (sym (ap (λ b. b || (stands_in s urgency false q && is_it plain q)) is) ∙ h))

pub next_few : (s : ReadyStreams) (rounds : List Round) (id : ℕ) → IsNext (stands_in s) rounds (Some id) → id < 2 ^ 62
next_few s rounds id h = elim h.turn [
  | inl in_round ↦ takes_few s h.urgency h.plain id (first _ _ in_round.1)
  | inr another ↦ takes_few s h.urgency h.plain id another.1.1
]
  where
    first : (a b : Bool) → (a && b) ≡ true → a ≡ true
    first true b h = refl
    first false b h = absurd (cc)
