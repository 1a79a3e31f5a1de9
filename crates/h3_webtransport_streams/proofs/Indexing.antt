-- The index has the streams that take turns.
use Rattle.std.proofs.Common.{◌≡◌, ◌≢◌, ◌⊎◌, inl, inr, ◌<◌, ◌≤◌, ◌+◌, ℕ, Bool, true, false, ◌||◌, ◌==◌, List, [], ◌∷◌, length, if◌then◌else◌, refl, sym, ap, subst, ◌∙◌, arith, nat_cmp, nat_lt, Less, is_some}
use Rattle.std.proofs.Common.{Option, Some, None, Result, Ok, Err, OnOk, IfErr, unwrap_or}
use Rattle.std.proofs.lemmas.Bool.{cases_eq, cases_lt, eq-eqb, ne_eqb}
use Rattle.std.proofs.lemmas.Grind.{common_steps}
use Rattle.std.proofs.lemmas.Map.{lookup-none}
use Rattle.std.proofs.lemmas.Map.Entries.{none_below_head}
use Rattle.std.specs.BTreeMap.{is_at}
use Rattle.std.specs.Cmp.{nat_cmp_total}
use Rattle.std.specs.List.{AllByRecursion}
use Rattle.std.specs.List.Sorted.{IsStrictlySortedBy}
use Rattle.std.specs.Map.{keys_of}
use Rattle.h3_connection.specs.Calls.{AllSame, Sets}
use Rattle.h3_connection.specs.State.{kept_at}
use Rattle.h3_connection.specs.StreamSets.{Streams}
use Rattle.h3_connection.specs.declared.event.Refusal.{Refusal}
use Rattle.h3_webtransport_streams.specs.Begun.{TakesBytes, begun_by, stream_or_unseen, tells_session}
use Rattle.h3_webtransport_streams.specs.Closing.{closing}
use Rattle.h3_webtransport_streams.specs.Indexed.{AreAtMost, AreIndexed, AreIndexedBut, Rises, TurnIdsState, has_id}
use Rattle.h3_webtransport_streams.proofs.Rising.{none_rise}
use Rattle.h3_webtransport_streams.specs.Receiver.{Arrived, Receiver, came}
use Rattle.h3_webtransport_streams.specs.Receiver.Arrived.{Taken, NoFront, NoSession}
use Rattle.h3_webtransport_streams.specs.SessionStream.{SessionStream, Acts, ActsOn, Changes, ChangesOn, gives_up, on_receiver, passes, receiving, takes_turns, told_by, unseen}
use Rattle.h3_webtransport_streams.specs.Sessions.{IsLast, IsTurn}
use Rattle.h3_webtransport_streams.specs.declared.receiver.Begun.{Begun}

never : (b : Bool) → b ≡ true → b ≡ false → ⊥
never b is not = absurd (let both : true ≡ false = sym is ∙ not in cc)

-- A list of keys is no longer than that of the entries.
less : (a b : ℕ) → a < b → nat_cmp a b ≡ Less
less a b lt = let e : nat_lt a b ≡ true = grind (arith, common_steps) in rw e refl

is_less : (a b : ℕ) → nat_cmp a b ≡ Less → a < b
is_less a b h = grind (arith, common_steps, h)

other : (a b : ℕ) → b < a → is_at (nat_cmp a) b ≡ false
other a b lt = grind (arith, common_steps, lt)

all_at : (P : ℕ → Type 0) (ids : List ℕ) (q : ℕ) → AllByRecursion P ids → has_id ids q ≡ true → P q
all_at P [] q h there = absurd (never false there refl)
all_at P (id ∷ ids) q h there = elim (cases_eq id q) [
  | inl same ↦ subst P same h.0
  | inr differs ↦ all_at P ids q h.1 (let e = ne_eqb id q differs in rw e at there)
]

has_first : (id : ℕ) (ids : List ℕ) → has_id (id ∷ ids) id ≡ true
has_first id ids = rw (eq-eqb id id refl) refl

has_later : (id : ℕ) (ids : List ℕ) (q : ℕ) → has_id ids q ≡ true → has_id (id ∷ ids) q ≡ true
has_later id ids q there = by_test (id == q)
  where
    by_test : (b : Bool) → (b || has_id ids q) ≡ true
    by_test true = refl
    by_test false = there

pub keys_at_most : (es : Streams SessionStream) → Rises (keys_of es) → AreAtMost (λ q. is_some (kept_at es q)) (length es)
unfolding IsStrictlySortedBy
keys_at_most [] sorted [] rises within = omega arith
keys_at_most [] sorted (id ∷ ids) rises within = absurd (never false (within id (has_first id ids)) refl)
keys_at_most (e ∷ es) sorted [] rises within = omega arith
keys_at_most (e ∷ es) sorted (id ∷ ids) rises within = let fewer = keys_at_most es sorted.1 ids rises.1 later in omega (arith, fewer)
  where
    from_head : e.0 ≤ id
    from_head = elim (cases_lt id e.0) [
      | inl before ↦ absurd (never (is_some (kept_at (e ∷ es) id)) (within id (has_first id ids))
          (ap is_some (lookup-none (is_at (nat_cmp id)) (e ∷ es) (none_below_head nat_cmp_total id e es sorted (less id e.0 before)))))
      | inr from ↦ from
    ]

    later : (q : ℕ) → has_id ids q ≡ true → is_some (kept_at es q) ≡ true
    later q there =
        let after : id < q = is_less id q (all_at (λ y. nat_cmp id y ≡ Less) ids q rises.0 there) in
        let same : kept_at (e ∷ es) q ≡ kept_at es q = rw (other q e.0 (omega (arith, from_head, after))) refl in
        ap is_some (sym same) ∙ within q (has_later id ids q there)

pub put_room : (new : Streams SessionStream) (count room : ℕ) (was : Bool) → Rises (keys_of new) → length new ≡ count + (if was then 0 else 1) → count < room
    → AreAtMost (λ q. is_some (kept_at new q)) room
put_room new count room true sorted len more ids rises within = omega (arith, keys_at_most new sorted ids rises within, len, more)
put_room new count room false sorted len more ids rises within = omega (arith, keys_at_most new sorted ids rises within, len, more)

-- the streams are those that were there, or fewer
fewer_at_most : (old new : Streams SessionStream) (n m : ℕ) → ((q : ℕ) → is_some (kept_at new q) ≡ true → is_some (kept_at old q) ≡ true) → n ≤ m
    → AreAtMost (λ q. is_some (kept_at old q)) n → AreAtMost (λ q. is_some (kept_at new q)) m
fewer_at_most old new n m each le h ids rises within = omega (arith, h ids rises (λ q there. each q (within q there)), le)

pub same_room : (old new : Streams SessionStream) (n m : ℕ) → AllSame old new → n ≤ m → AreAtMost (λ q. is_some (kept_at old q)) n → AreAtMost (λ q. is_some (kept_at new q)) m
same_room old new n m same le h = fewer_at_most old new n m (λ q there. ap is_some (sym (same.each q)) ∙ there) le h

pub none_indexed : (t : TurnIdsState) (es : Streams SessionStream) → t ≡ record { ids = []; room = 0 } → es ≡ [] → AreIndexed t es
none_indexed t es none empty = subst (λ t. AreIndexed t es) (sym none) (subst (λ es. AreIndexed (record { ids = []; room = 0 }) es) (sym empty) at_first)
  where
    at_first : AreIndexed (record { ids = []; room = 0 }) []
    at_first = record { ids = λ q. refl; room = keys_at_most [] (none_rise [] refl) }

-- a stream that changed
is_there : (o : Option SessionStream) → passes takes_turns o ≡ true → is_some o ≡ true
is_there None h = absurd (never false h refl)
is_there (Some s) h = refl

in_either : (id q : ℕ) (ids : List ℕ) → ((id == q) || has_id ids q) ≡ true → (id ≡ q) ⊎ (id ≢ q) × (has_id ids q ≡ true)
in_either id q ids there = elim (cases_eq id q) [
  | inl same ↦ inl same
  | inr differs ↦ inr (differs, let e = ne_eqb id q differs in rw e at there)
]

module _ (id : ℕ) (t : TurnIdsState) (es : Streams SessionStream) (takes : Bool) (h : AreIndexedBut id t es) (says : takes ≡ passes takes_turns (kept_at es id)) where
  pub has_room : takes ≡ true → AreAtMost (λ q. (id == q) || has_id t.ids q) t.room
  has_room is ids rises within = h.room ids rises (λ q there. elim (in_either id q t.ids (within q there)) [
    | inl same ↦ subst (λ n. is_some (kept_at es n) ≡ true) same (is_there (kept_at es id) (sym says ∙ is))
    | inr later ↦ is_there (kept_at es q) (sym (h.others q (λ same. later.0 (sym same))) ∙ later.1)
  ])

  pub entered_indexed : (u : TurnIdsState) → takes ≡ true → ((q : ℕ) → has_id u.ids q ≡ ((id == q) || has_id t.ids q)) → u.room ≡ t.room → AreIndexed u es
  entered_indexed u is ids room = record {
    ids = λ q. elim (cases_eq id q) [
      | inl same ↦ ids q ∙ rw (eq-eqb id q same) (subst (λ n. true ≡ passes takes_turns (kept_at es n)) same (sym is ∙ says))
      | inr differs ↦ ids q ∙ rw (ne_eqb id q differs) (h.others q (λ same. differs (sym same)))
    ];
    room = subst (λ n. AreAtMost (λ q. is_some (kept_at es q)) n) (sym room) h.room;
  }

  pub left_indexed : (u : TurnIdsState) → takes ≡ false → has_id u.ids id ≡ false → ((q : ℕ) → q ≢ id → has_id u.ids q ≡ has_id t.ids q) → u.room ≡ t.room → AreIndexed u es
  left_indexed u is here others room = record {
    ids = λ q. elim (cases_eq q id) [
      | inl same ↦ subst (λ n. has_id u.ids n ≡ passes takes_turns (kept_at es n)) (sym same) (here ∙ sym is ∙ says)
      | inr differs ↦ others q differs ∙ h.others q differs
    ];
    room = subst (λ n. AreAtMost (λ q. is_some (kept_at es q)) n) (sym room) h.room;
  }

-- what a stream's change leaves
module _ (t u : TurnIdsState) (old new : Streams SessionStream) (h : AreIndexed t old) where
  pub put_but : (id : ℕ) (x : SessionStream) → u.ids ≡ t.ids → Sets old new id x → AreAtMost (λ q. is_some (kept_at new q)) u.room → AreIndexedBut id u new
  put_but id x ids sets room = record { others = λ q differs. ap (λ l. has_id l q) ids ∙ h.ids q ∙ ap (passes takes_turns) (sym (sets.others q differs)); room = room }

  pub same_indexed : u.ids ≡ t.ids → AllSame old new → AreAtMost (λ q. is_some (kept_at new q)) u.room → AreIndexed u new
  same_indexed ids same room = record { ids = λ q. ap (λ l. has_id l q) ids ∙ h.ids q ∙ ap (passes takes_turns) (sym (same.each q)); room = room }

  pub unseen_indexed : (id : ℕ) → u.ids ≡ t.ids → kept_at old id ≡ None → Sets old new id unseen → AreAtMost (λ q. is_some (kept_at new q)) u.room → AreIndexed u new
  unseen_indexed id ids none sets room = record {
    ids = λ q. elim (cases_eq q id) [
      | inl same ↦ subst (λ n. has_id u.ids n ≡ passes takes_turns (kept_at new n)) (sym same)
          (ap (λ l. has_id l id) ids ∙ h.ids id ∙ ap (passes takes_turns) none ∙ ap (passes takes_turns) (sym sets.here))
      | inr differs ↦ ap (λ l. has_id l q) ids ∙ h.ids q ∙ ap (passes takes_turns) (sym (sets.others q differs))
    ];
    room = room;
  }

  pub gone_indexed : (id : ℕ) → kept_at new id ≡ None → ((q : ℕ) → q ≢ id → kept_at new q ≡ kept_at old q) → has_id u.ids id ≡ false
      → ((q : ℕ) → q ≢ id → has_id u.ids q ≡ has_id t.ids q) → u.room ≡ t.room → AreIndexed u new
  gone_indexed id gone same here others room = record {
    ids = λ q. elim (cases_eq q id) [
      | inl is ↦ subst (λ n. has_id u.ids n ≡ passes takes_turns (kept_at new n)) (sym is) (here ∙ ap (passes takes_turns) (sym gone))
      | inr differs ↦ others q differs ∙ h.ids q ∙ ap (passes takes_turns) (sym (same q differs))
    ];
    room = fewer_at_most old new t.room u.room (λ q there. elim (cases_eq q id) [
      | inl is ↦ absurd (never (is_some (kept_at new q)) there (ap is_some (subst (λ n. kept_at new n ≡ None) (sym is) gone)))
      | inr differs ↦ ap is_some (sym (same q differs)) ∙ there
    ]) (omega (arith, room)) h.room;
  }

module _ (t : TurnIdsState) (old new : Streams SessionStream) (id : ℕ) (h : AreIndexed t old) where
  pub again_indexed : AllSame old new → AreIndexed t new
  again_indexed same = same_indexed t t old new h refl same (same_room old new t.room t.room same (omega arith) h.room)

  same_but : AllSame old new → AreIndexedBut id t new
  same_but same = let again = again_indexed same in record { others = λ q differs. again.ids q; room = again.room }

  -- one that was there is another now
  there_room : (x : SessionStream) → is_some (kept_at old id) ≡ true → Sets old new id x → AreAtMost (λ q. is_some (kept_at new q)) t.room
  there_room x there sets = fewer_at_most old new t.room t.room (λ q is. elim (cases_eq q id) [
    | inl same ↦ subst (λ n. is_some (kept_at old n) ≡ true) (sym same) there
    | inr differs ↦ ap is_some (sym (sets.others q differs)) ∙ is
  ]) (omega arith) h.room

  set_but : (x : SessionStream) → is_some (kept_at old id) ≡ true → Sets old new id x → AreIndexedBut id t new
  set_but x there sets = put_but t t old new h id x refl sets (there_room x there sets)

  set_indexed : (s x : SessionStream) → kept_at old id ≡ Some s → Sets old new id x → takes_turns x ≡ takes_turns s → AreIndexed t new
  set_indexed s x there sets same = record {
    ids = λ q. elim (cases_eq q id) [
      | inl is ↦ subst (λ n. has_id t.ids n ≡ passes takes_turns (kept_at new n)) (sym is)
          (h.ids id ∙ ap (passes takes_turns) there ∙ sym same ∙ ap (passes takes_turns) (sym sets.here))
      | inr differs ↦ h.ids q ∙ ap (passes takes_turns) (sym (sets.others q differs))
    ];
    room = there_room x (ap is_some there) sets;
  }

  -- by what a call says of it
  acts_on_but : {A : Type 0} (absent : A) (act : SessionStream → A × SessionStream) (answer : A) (o : Option SessionStream) → kept_at old id ≡ o → ActsOn absent act old new id answer o → AreIndexedBut id t new
  acts_on_but absent act answer None is acts = same_but acts.1
  acts_on_but absent act answer (Some s) is acts = set_but (act s).1 (ap is_some is) acts.1

  pub acts_but : {A : Type 0} (absent : A) (act : SessionStream → A × SessionStream) (answer : A) → Acts absent act old new id answer → AreIndexedBut id t new
  acts_but absent act answer acts = acts_on_but absent act answer (kept_at old id) refl acts

  acts_on_indexed : {A : Type 0} (absent : A) (act : SessionStream → A × SessionStream) (answer : A) (o : Option SessionStream) → ((s : SessionStream) → takes_turns (act s).1 ≡ takes_turns s)
      → kept_at old id ≡ o → ActsOn absent act old new id answer o → AreIndexed t new
  acts_on_indexed absent act answer None same is acts = again_indexed acts.1
  acts_on_indexed absent act answer (Some s) same is acts = set_indexed s (act s).1 is acts.1 (same s)

  changes_on_but : (change : SessionStream → SessionStream) (o : Option SessionStream) → kept_at old id ≡ o → ChangesOn change old new id o → AreIndexedBut id t new
  changes_on_but change None is changes = same_but changes
  changes_on_but change (Some s) is changes = set_but (change s) (ap is_some is) changes

  pub changes_but : (change : SessionStream → SessionStream) → Changes change old new id → AreIndexedBut id t new
  changes_but change changes = changes_on_but change (kept_at old id) refl changes

  changes_on_indexed : (change : SessionStream → SessionStream) (o : Option SessionStream) → ((s : SessionStream) → takes_turns (change s) ≡ takes_turns s) → kept_at old id ≡ o
      → ChangesOn change old new id o → AreIndexed t new
  changes_on_indexed change None same is changes = again_indexed changes
  changes_on_indexed change (Some s) same is changes = set_indexed s (change s) is changes (same s)

  pub sent_but : (absent : Option Refusal) (act : SessionStream → Option Refusal × SessionStream) (bytes : List ℕ) (result : Result Unit (Refusal × List ℕ))
      → OnOk result (Acts absent act old new id None) → IfErr result (λ e. (e.1 ≡ bytes) × AllSame old new) → AreIndexedBut id t new
  sent_but absent act bytes (Ok done) ok err = acts_but absent act None ok
  sent_but absent act bytes (Err e) ok err = same_but err.1

  -- nothing changed of what is sent
  receiving_turns : {A : Type 0} (absent : A) (act : Receiver → A × Receiver) (s : SessionStream) (o : Option Receiver) → takes_turns (on_receiver absent act s o).1 ≡ takes_turns s
  receiving_turns absent act s None = refl
  receiving_turns absent act s (Some r) = refl

  pub received_indexed : {A : Type 0} (absent : A) (act : SessionStream → Receiver → A × Receiver) (answer : A) → Acts absent (λ s. receiving absent (act s) s) old new id answer → AreIndexed t new
  received_indexed absent act answer acts =
      acts_on_indexed absent (λ s. receiving absent (act s) s) answer (kept_at old id) (λ s. receiving_turns absent (act s) s s.receiver) refl acts

  pub session_indexed : (session : ℕ) → Changes (λ s. record s { session = Some session }) old new id → AreIndexed t new
  session_indexed session changes = changes_on_indexed (λ s. record s { session = Some session }) (kept_at old id) (λ s. refl) refl changes

  pub given_up_indexed : (ended : Bool) → Changes (λ s. gives_up s ended) old new id → AreIndexed t new
  given_up_indexed ended changes = changes_on_indexed (λ s. gives_up s ended) (kept_at old id) (λ s. refl) refl changes

  -- the stream is there, as `open` leaves it
  is_stream : (o : Option SessionStream) → is_some o ≡ true → o ≡ Some (unwrap_or o unseen)
  is_stream None there = absurd (never false there refl)
  is_stream (Some s) there = refl

  closing_turns : (code : Option ℕ) (s : SessionStream) (o : Option Receiver) → takes_turns (closing code s o) ≡ takes_turns s
  closing_turns code s None = refl
  closing_turns code s (Some r) = refl

  pub closed_indexed : (code : Option ℕ) → is_some (kept_at old id) ≡ true → Sets old new id (closing code (stream_or_unseen old id) (stream_or_unseen old id).receiver) → AreIndexed t new
  closed_indexed code there sets =
      set_indexed (stream_or_unseen old id) (closing code (stream_or_unseen old id) (stream_or_unseen old id).receiver) (is_stream (kept_at old id) there) sets
      (closing_turns code (stream_or_unseen old id) (stream_or_unseen old id).receiver)

  pub taken_but : (bytes : List ℕ) (s : SessionStream) (o : Option Receiver) (answer : Begun) → is_some (kept_at old id) ≡ true → TakesBytes old new id bytes s o answer → AreIndexedBut id t new
  taken_but bytes s None answer there takes = absurd takes
  taken_but bytes s (Some r) answer there takes = set_but (told_by s (came r bytes)) there takes.1

  told_turns : (s : SessionStream) (a : Arrived) → tells_session (begun_by a) ≡ false → takes_turns (told_by s a) ≡ takes_turns s
  told_turns s (Taken None r) not = refl
  told_turns s (Taken (Some session) r) not = absurd (never true refl not)
  told_turns s NoFront not = refl
  told_turns s NoSession not = refl

  taken_by : (bytes : List ℕ) (o : Option Receiver) (answer : Begun) → is_some (kept_at old id) ≡ true → tells_session answer ≡ false
      → TakesBytes old new id bytes (stream_or_unseen old id) o answer → AreIndexed t new
  taken_by bytes None answer there not takes = absurd takes
  taken_by bytes (Some r) answer there not takes =
      set_indexed (stream_or_unseen old id) (told_by (stream_or_unseen old id) (came r bytes)) (is_stream (kept_at old id) there) takes.1
      (told_turns (stream_or_unseen old id) (came r bytes) (ap tells_session (sym takes.0) ∙ not))

  pub taken_indexed : (bytes : List ℕ) (answer : Begun) (tells : Bool) → is_some (kept_at old id) ≡ true → tells ≡ tells_session answer → tells ≡ false
      → TakesBytes old new id bytes (stream_or_unseen old id) (stream_or_unseen old id).receiver answer → AreIndexed t new
  taken_indexed bytes answer tells there says not takes = taken_by bytes (stream_or_unseen old id).receiver answer there (sym says ∙ not) takes

-- the turn is that of the streams
same_last : (f g : ℕ → Bool) (below found : Option ℕ) → ((q : ℕ) → f q ≡ g q) → IsLast f below found → IsLast g below found
same_last f g below None same h = λ q there. sym (same q) ∙ h q there
same_last f g below (Some id) same h = (h.0, sym (same id) ∙ h.1, λ q there after. sym (same q) ∙ h.2 q there after)

pub same_turn : (t : TurnIdsState) (es : Streams SessionStream) (from : ℕ) (found : Option ℕ) → AreIndexed t es → IsTurn (λ q. has_id t.ids q) from found
    → IsTurn (λ q. passes takes_turns (kept_at es q)) from found
same_turn t es from None h turn = same_last (λ q. has_id t.ids q) (λ q. passes takes_turns (kept_at es q)) None None h.ids turn
same_turn t es from (Some id) h (inl here) = inl (same_last (λ q. has_id t.ids q) (λ q. passes takes_turns (kept_at es q)) (Some from) (Some id) h.ids here)
same_turn t es from (Some id) h (inr next) = inr (
  same_last (λ q. has_id t.ids q) (λ q. passes takes_turns (kept_at es q)) (Some from) None h.ids next.0,
  same_last (λ q. has_id t.ids q) (λ q. passes takes_turns (kept_at es q)) None (Some id) h.ids next.1,
)
