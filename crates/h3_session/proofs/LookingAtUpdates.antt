-- The updates that wait are looked at one after the other: what was done of a front of them.
use Rattle.std.proofs.Common.{◌≡◌, ℕ, zero, suc, ◌+◌, ◌<◌, ◌≤◌, Bool, true, false, if◌then◌else◌, List, [], ◌∷◌, ◌++◌, length, drop, take, Option, Some, None, Ok, Err, refl, ap, sym, subst, ◌∙◌, inl, inr, arith, append_assoc, append-nil, length-append}
use Rattle.std.proofs.lemmas.Bool.{cases_eq}
use Rattle.std.specs.Prelude.{◌≢◌, ◌⊎◌, not, filter, is_some, remove, slice_get, IfSome}
use Rattle.h3_priority.specs.Priority.{PriorityParameters}
use Rattle.h3_connection.specs.Endpoint.{EndpointHistory}
use Rattle.h3_connection.specs.Outgoing.{Outgoing}
use Rattle.h3_connection.specs.PeerReading.{Peer}
use Rattle.h3_connection.specs.Prioritizing.{is_sent, is_unopened, said, saying, use_updates, used, used_at, waiting_behind, with_waiting, UsesUpdates, WantsMemory}
use Rattle.h3_connection.specs.Sending.{is_open, outgoing_at}
use Rattle.h3_connection.specs.State.{EndpointState, StandsFor}
use Rattle.h3_connection.specs.StreamSets.{Streams, set_stream, stream_at}
use Rattle.h3_connection.specs.StreamSetLaws.{other_id, set-here, set-other}
use Rattle.h3_connection.specs.declared.event.Refusal.{Refusal}
use Rattle.h3_connection.specs.declared.order.PrioritySource.TheVariants.{Update}
use Rattle.h3_session.proofs.Opened.{stands_same}
use Rattle.h3_session.specs.Prioritized.{having_waiting, looked_at, ChangesTurns, LooksAt, UsesOne}

-- Other updates wait in both.
pub stands_waiting : (s : EndpointState) (e : EndpointHistory) (waiting : Streams PriorityParameters) → StandsFor s e → StandsFor (having_waiting s waiting) (with_waiting e waiting)
stands_waiting s e waiting h =
    record {
      side = h.side;
      announced = h.announced;
      closed = h.closed;
      next_id = h.next_id;
      incoming = h.incoming;
      outgoing = h.outgoing;
      unidirectional = h.unidirectional;
      distinct = h.distinct;
      control_on = h.control_on;
      encoder_on = h.encoder_on;
      decoder_on = h.decoder_on;
      peer = ap (λ (p : Peer). record p { updates = record p.updates { waiting = waiting } }) h.peer;
      decoding = h.decoding;
      encoder = h.encoder;
      decoder_unread = h.decoder_unread;
      own = record {
        control = h.own.control;
        encoder = h.own.encoder;
        decoder = h.own.decoder;
        taken = record { control = h.own.taken.control; encoder = h.own.taken.encoder; decoder = h.own.taken.decoder };
      };
      last_goaway = h.last_goaway;
      kept = h.kept;
      sent = h.sent;
      order = h.order;
      reached = record {
        unlearned = h.reached.unlearned;
        control = h.reached.control;
        encoder = h.reached.encoder;
        decoder = h.reached.decoder;
        told_control = h.reached.told_control;
        told_encoder = h.reached.told_encoder;
        told_decoder = h.reached.told_decoder;
        kept = h.reached.kept;
        own_updates = h.reached.own_updates;
      };
    }

waiting_same : (s : EndpointState) (e : EndpointHistory) → StandsFor s e → s.peer.updates.waiting ≡ e.peer.updates.waiting
waiting_same s e h = ap (λ (p : Peer). p.updates.waiting) h.peer

wait_in : (s n : EndpointState) → ChangesTurns s n → n.peer.updates.waiting ≡ s.peer.updates.waiting
wait_in s n rest = ap (λ (v : EndpointState). v.peer.updates.waiting) rest

pub still_within : (s n : EndpointState) (place : ℕ) → ChangesTurns s n → place < length s.peer.updates.waiting → place < length n.peer.updates.waiting
still_within s n place rest within = subst (λ l. place < length l) (sym (wait_in s n rest)) within

-- One update is looked at
shorter : {X : Type 0} (xs : List X) (place : ℕ) → place < length xs → length (remove xs place) + 1 ≡ length xs
shorter [] place h = absurd (omega (arith, h))
shorter (x ∷ xs) zero h = omega arith
shorter (x ∷ xs) (suc place) h = let rest = shorter xs place (omega (arith, h)) in omega (arith, rest)

-- and waits no longer,
looks_used : (s n m : EndpointState) (id place : ℕ) (p : PriorityParameters) → Some (id, p) ≡ slice_get s.peer.updates.waiting place → place < length s.peer.updates.waiting
    → UsesOne s n id p (Ok true) → ChangesTurns s n → m ≡ having_waiting n (remove n.peer.updates.waiting place) → LooksAt s m place (Ok place)
looks_used s n m id place p at within uses rest now =
    record {
      stands = λ e h.
          let u = uses e h in
          let same : n.peer.updates.waiting ≡ e.peer.updates.waiting = wait_in s n rest ∙ waiting_same s e h in
          let stands : StandsFor m (with_waiting (used_at e id p (stream_at e.outgoing id)) (remove e.peer.updates.waiting place))
          = subst (λ v. StandsFor v (with_waiting (used_at e id p (stream_at e.outgoing id)) (remove e.peer.updates.waiting place))) (sym now)
          (subst (λ w. StandsFor (having_waiting n w) (with_waiting (used_at e id p (stream_at e.outgoing id)) (remove e.peer.updates.waiting place))) (sym (ap (λ w. remove w place) same))
          (stands_waiting n (used_at e id p (stream_at e.outgoing id)) (remove e.peer.updates.waiting place) u.0)) in
          subst (λ o. IfSome o (λ u. StandsFor m (looked_at e place u) × (place ≡ (if is_open e u.0 then place else place + 1)))) (at ∙ ap (λ w. slice_get w place) (waiting_same s e h))
          (subst (λ is. StandsFor m (with_waiting (used_at e id p (stream_at e.outgoing id)) (if is then remove e.peer.updates.waiting place else e.peer.updates.waiting)) × (place ≡ (if is then place else place + 1))) u.1 (stands, refl));
      left = omega (arith, shorter s.peer.updates.waiting place within, ap (λ (v : EndpointState). length v.peer.updates.waiting) now, ap (λ w. length (remove w place)) (wait_in s n rest));
      near = omega arith;
    }

-- or waits on,
looks_past : (s n : EndpointState) (id place next : ℕ) (p : PriorityParameters) → Some (id, p) ≡ slice_get s.peer.updates.waiting place
    → UsesOne s n id p (Ok false) → ChangesTurns s n → next ≡ place + 1 → LooksAt s n place (Ok next)
looks_past s n id place next p at uses rest is =
    record {
      stands = λ e h.
          let u = uses e h in
          let same : n.peer.updates.waiting ≡ e.peer.updates.waiting = wait_in s n rest ∙ waiting_same s e h in
          let stands : StandsFor n (with_waiting (used_at e id p (stream_at e.outgoing id)) e.peer.updates.waiting)
          = subst (λ w. StandsFor (having_waiting n w) (with_waiting (used_at e id p (stream_at e.outgoing id)) e.peer.updates.waiting)) (sym same)
          (stands_waiting n (used_at e id p (stream_at e.outgoing id)) e.peer.updates.waiting u.0) in
          subst (λ o. IfSome o (λ u. StandsFor n (looked_at e place u) × (next ≡ (if is_open e u.0 then place else place + 1)))) (at ∙ ap (λ w. slice_get w place) (waiting_same s e h))
          (subst (λ is. StandsFor n (with_waiting (used_at e id p (stream_at e.outgoing id)) (if is then remove e.peer.updates.waiting place else e.peer.updates.waiting)) × (next ≡ (if is then place else place + 1))) u.1 (stands, is));
      left = omega (arith, ap (λ (v : EndpointState). length v.peer.updates.waiting) rest, is);
      near = omega (arith, is);
    }

-- so as it is used or not,
pub looks_done : (s n m : EndpointState) (id place next : ℕ) (p : PriorityParameters) (is_used : Bool) → Some (id, p) ≡ slice_get s.peer.updates.waiting place → place < length s.peer.updates.waiting
    → UsesOne s n id p (Ok is_used) → ChangesTurns s n → m ≡ (if is_used then having_waiting n (remove n.peer.updates.waiting place) else n) → next ≡ (if is_used then place else place + 1)
    → LooksAt s m place (Ok next)
looks_done s n m id place next p true at within uses rest now is = subst (λ x. LooksAt s m place (Ok x)) (sym is) (looks_used s n m id place p at within uses rest now)
looks_done s n m id place next p false at within uses rest now is = subst (λ v. LooksAt s v place (Ok next)) (sym now) (looks_past s n id place next p at uses rest is)

-- or finds no memory.
pub looks_refused : (s n : EndpointState) (id place : ℕ) (p : PriorityParameters) (r : Refusal) → Some (id, p) ≡ slice_get s.peer.updates.waiting place
    → UsesOne s n id p (Err r) → ChangesTurns s n → LooksAt s n place (Err r)
looks_refused s n id place p r at refused rest e h =
    let same : n ≡ record s { requests = n.requests } = rest ∙ ap (λ o. record s { requests = n.requests; order = o }) refused.0.rest.order in (
      subst (λ v. StandsFor v e) (sym same) (stands_same s e n.requests h refused.0.requests),
      subst (λ o. IfSome o (λ u. is_open e u.0 ≡ true)) (at ∙ ap (λ w. slice_get w place) (waiting_same s e h)) (refused.1 e h),
    )

-- What is written at a place of a list
record Between {X : Type 0} (xs : List X) (place : ℕ) : Type 0 where
  one : X
  got : slice_get xs place ≡ Some one
  front : take (suc place) xs ≡ take place xs ++ one ∷ []
  behind : drop place xs ≡ one ∷ drop (suc place) xs

between : {X : Type 0} (xs : List X) (place : ℕ) → place < length xs → Between xs place
between [] place h = absurd (omega (arith, h))
between (x ∷ xs) zero h = record { one = x; got = refl; front = refl; behind = refl }
between (x ∷ xs) (suc place) h =
    let rest = between xs place (omega (arith, h)) in
    record { one = rest.one; got = rest.got; front = ap (λ l. x ∷ l) rest.front; behind = rest.behind }

pub is_there : {X : Type 0} (xs : List X) (place : ℕ) → place < length xs → slice_get xs place ≢ None
is_there xs place h none = let b = between xs place h in absurd (cc (none, b.got))

none_past : {X : Type 0} (xs : List X) (place : ℕ) → length xs ≤ place → slice_get xs place ≡ None
none_past [] place h = refl
none_past (x ∷ xs) zero h = absurd (omega (arith, h))
none_past (x ∷ xs) (suc place) h = none_past xs place (omega (arith, h))

got_behind : {X : Type 0} (front : List X) (one : X) (behind : List X) → slice_get (front ++ one ∷ behind) (length front) ≡ Some one
got_behind [] one behind = refl
got_behind (x ∷ front) one behind = got_behind front one behind

removed : {X : Type 0} (front : List X) (one : X) (behind : List X) → remove (front ++ one ∷ behind) (length front) ≡ front ++ behind
removed [] one behind = refl
removed (x ∷ front) one behind = ap (λ l. x ∷ l) (removed front one behind)

filtered : {X : Type 0} (is : Bool) (x : X) (l m rest : List X) → l ≡ m ++ rest → (if is then x ∷ l else l) ≡ (if is then x ∷ m else m) ++ rest
filtered true x l m rest same = ap (λ l. x ∷ l) same
filtered false x l m rest same = same

filter_last : {X : Type 0} (test : X → Bool) (xs : List X) (one : X) → filter test (xs ++ one ∷ []) ≡ filter test xs ++ (if test one then one ∷ [] else [])
filter_last test [] one = refl
filter_last test (x ∷ xs) one = filtered (test x) x (filter test (xs ++ one ∷ [])) (filter test xs) (if test one then one ∷ [] else []) (filter_last test xs one)

-- A stream is open as it was, whatever is said of one that is open
open_by : (e : EndpointHistory) (id q : ℕ) (o x : Outgoing) → stream_at e.outgoing id ≡ Some o → q ≡ id ⊎ q ≢ id → is_some (stream_at (set_stream e.outgoing id x) q) ≡ is_open e q
open_by e id q o x was (inl same) =
    subst (λ n. is_some (stream_at (set_stream e.outgoing id x) n) ≡ is_open e n) (sym same)
    (ap is_some (set-here e.outgoing id x) ∙ sym (ap is_some was))
open_by e id q o x was (inr differs) = ap is_some (set-other e.outgoing id q x (other_id q id differs))

open_if : (sent : Bool) (e : EndpointHistory) (id q : ℕ) (p : PriorityParameters) (o : Outgoing) → stream_at e.outgoing id ≡ Some o
    → is_open (if sent then e else saying e id Update p) q ≡ is_open e q
open_if true e id q p o was = refl
open_if false e id q p o was = open_by e id q o (said Update p (outgoing_at e id)) was (cases_eq q id)

still_open : (e : EndpointHistory) (id q : ℕ) (p : PriorityParameters) (there : Option Outgoing) → stream_at e.outgoing id ≡ there → is_open (used_at e id p there) q ≡ is_open e q
still_open e id q p None was = refl
still_open e id q p (Some o) was = open_if (is_sent o) e id q p o was

used_open : (e : EndpointHistory) (updates : Streams PriorityParameters) (q : ℕ) → is_open (used e updates) q ≡ is_open e q
used_open e [] q = refl
used_open e ((id, p) ∷ updates) q = used_open (used_at e id p (stream_at e.outgoing id)) updates q ∙ still_open e id q p (stream_at e.outgoing id) refl

-- One more is used
used_more : (e : EndpointHistory) (updates : Streams PriorityParameters) (u : ℕ × PriorityParameters)
    → used e (updates ++ u ∷ []) ≡ used_at (used e updates) u.0 u.1 (stream_at (used e updates).outgoing u.0)
used_more e [] (id, p) = refl
used_more e ((id, p) ∷ updates) u = used_more (used_at e id p (stream_at e.outgoing id)) updates u

waiting_if : (sent : Bool) (e : EndpointHistory) (waiting : Streams PriorityParameters) (id : ℕ) (p : PriorityParameters)
    → (if sent then with_waiting e waiting else saying (with_waiting e waiting) id Update p) ≡ with_waiting (if sent then e else saying e id Update p) waiting
waiting_if true e waiting id p = refl
waiting_if false e waiting id p = refl

-- whatever waits
used_waiting : (e : EndpointHistory) (waiting : Streams PriorityParameters) (id : ℕ) (p : PriorityParameters) (there : Option Outgoing)
    → used_at (with_waiting e waiting) id p there ≡ with_waiting (used_at e id p there) waiting
used_waiting e waiting id p None = refl
used_waiting e waiting id p (Some o) = waiting_if (is_sent o) e waiting id p

-- what waits then
left_if : (opened : Bool) (front : Streams PriorityParameters) (u : ℕ × PriorityParameters) (behind : Streams PriorityParameters)
    → (if opened then remove (front ++ u ∷ behind) (length front) else front ++ u ∷ behind) ≡ (front ++ (if not opened then u ∷ [] else [])) ++ behind
left_if true front u behind = removed front u behind ∙ ap (λ l. l ++ behind) (sym (append-nil front))
left_if false front u behind = sym (append_assoc front (u ∷ []) behind)

-- those of the first updates that wait on
abbrev waiting_on : EndpointHistory → ℕ → Streams PriorityParameters
waiting_on e count = filter (is_unopened e) (take count e.peer.updates.waiting)

left_waiting : (e : EndpointHistory) (count : ℕ) (b : Between e.peer.updates.waiting count)
    → (if is_open (used e (take count e.peer.updates.waiting)) b.one.0 then remove (waiting_behind e count) (length (waiting_on e count)) else waiting_behind e count) ≡ waiting_behind e (suc count)
left_waiting e count b =
    let front = waiting_on e count in
    let behind = drop (suc count) e.peer.updates.waiting in
    ap (λ is. if is then remove (waiting_behind e count) (length front) else waiting_behind e count) (used_open e (take count e.peer.updates.waiting) b.one.0)
    ∙ ap (λ l. if is_open e b.one.0 then remove (front ++ l) (length front) else front ++ l) b.behind
    ∙ left_if (is_open e b.one.0) front b.one behind
    ∙ ap (λ l. l ++ behind) (sym (filter_last (is_unopened e) (take count e.peer.updates.waiting) b.one) ∙ ap (filter (is_unopened e)) (sym b.front))

looked_next : (e : EndpointHistory) (count : ℕ) (b : Between e.peer.updates.waiting count)
    → looked_at (use_updates e count) (length (waiting_on e count)) b.one ≡ use_updates e (suc count)
looked_next e count b =
    let f : EndpointHistory = used e (take count e.peer.updates.waiting) in
    let left = (if is_open f b.one.0 then remove (waiting_behind e count) (length (waiting_on e count)) else waiting_behind e count) in
    ap (λ x. with_waiting x left) (used_waiting f (waiting_behind e count) b.one.0 b.one.1 (stream_at f.outgoing b.one.0))
    ∙ ap (λ x. with_waiting x left) (sym (used_more e (take count e.peer.updates.waiting) b.one) ∙ ap (used e) (sym b.front))
    ∙ ap (λ l. with_waiting (used e (take (suc count) e.peer.updates.waiting)) l) (left_waiting e count b)

-- and where the next one stands
place_if : (opened : Bool) (front : Streams PriorityParameters) (u : ℕ × PriorityParameters)
    → (if opened then length front else length front + 1) ≡ length (front ++ (if not opened then u ∷ [] else []))
place_if true front u = ap length (sym (append-nil front))
place_if false front u = omega (arith, length-append front (u ∷ []))

next_place : (e : EndpointHistory) (count : ℕ) (b : Between e.peer.updates.waiting count)
    → (if is_open (use_updates e count) b.one.0 then length (waiting_on e count) else length (waiting_on e count) + 1) ≡ length (waiting_on e (suc count))
next_place e count b =
    ap (λ is. if is then length (waiting_on e count) else length (waiting_on e count) + 1) (used_open e (take count e.peer.updates.waiting) b.one.0)
    ∙ place_if (is_open e b.one.0) (waiting_on e count) b.one
    ∙ ap length (sym (filter_last (is_unopened e) (take count e.peer.updates.waiting) b.one) ∙ ap (filter (is_unopened e)) (sym b.front))

-- So many updates were looked at, and this is the place of the next one.
pub record Looked (old now : EndpointState) (count place : ℕ) : Type 0 where
  pub within : count ≤ length old.peer.updates.waiting
  pub near : place ≤ count
  pub left : count + length now.peer.updates.waiting ≡ place + length old.peer.updates.waiting
  pub stands : (e : EndpointHistory) → StandsFor old e → StandsFor now (use_updates e count)
  pub front : (e : EndpointHistory) → StandsFor old e → place ≡ length (waiting_on e count)

pub looked_none : (s : EndpointState) → Looked s s 0 0
looked_none s = record { within = omega arith; near = omega arith; left = omega arith; stands = λ e h. h; front = λ e h. refl }

-- what is at the place of the next one
at_place : (e : EndpointHistory) (count place : ℕ) (b : Between e.peer.updates.waiting count) → place ≡ length (waiting_on e count) → slice_get (waiting_behind e count) place ≡ Some b.one
at_place e count place b is =
    ap (slice_get (waiting_behind e count)) is ∙ ap (λ l. slice_get (waiting_on e count ++ l) (length (waiting_on e count))) b.behind
    ∙ got_behind (waiting_on e count) b.one (drop (suc count) e.peer.updates.waiting)

there_is : (s : EndpointState) (e : EndpointHistory) (count : ℕ) → StandsFor s e → count < length s.peer.updates.waiting → count < length e.peer.updates.waiting
there_is s e count h within = subst (λ l. count < length l) (waiting_same s e h) within

pub looked_more : (s n m : EndpointState) (count place next : ℕ) → Looked s n count place → count < length s.peer.updates.waiting → LooksAt n m place (Ok next) → Looked s m (count + 1) next
looked_more s n m count place next l within looks =
    let one_more : suc count ≡ count + 1 = omega arith in
    subst (λ k. Looked s m k next) one_more (record {
      within = omega (arith, within);
      near = omega (arith, l.near, looks.near);
      left = omega (arith, l.left, looks.left);
      stands = λ e h.
          let b = between e.peer.updates.waiting count (there_is s e count h within) in
          let now = looks.stands (use_updates e count) (l.stands e h) in
          let here : StandsFor m (looked_at (use_updates e count) place b.one)
          = (subst (λ o. IfSome o (λ u. StandsFor m (looked_at (use_updates e count) place u) × (next ≡ (if is_open (use_updates e count) u.0 then place else place + 1)))) (at_place e count place b (l.front e h)) now).0 in
          subst (StandsFor m) (ap (λ at. looked_at (use_updates e count) at b.one) (l.front e h) ∙ looked_next e count b) here;
      front = λ e h.
          let b = between e.peer.updates.waiting count (there_is s e count h within) in
          let now = looks.stands (use_updates e count) (l.stands e h) in
          let here : next ≡ (if is_open (use_updates e count) b.one.0 then place else place + 1)
          = (subst (λ o. IfSome o (λ u. StandsFor m (looked_at (use_updates e count) place u) × (next ≡ (if is_open (use_updates e count) u.0 then place else place + 1)))) (at_place e count place b (l.front e h)) now).1 in
          here ∙ ap (λ at. if is_open (use_updates e count) b.one.0 then at else at + 1) (l.front e h) ∙ next_place e count b;
    })

pub room_left : (s n : EndpointState) (count place most : ℕ) → Looked s n count place → most ≡ length s.peer.updates.waiting → count < most → place < length n.peer.updates.waiting
room_left s n count place most l all within = omega (arith, l.left, l.near, all, within)

-- One finds no memory, and the others wait with it.
pub looked_part : (s n m : EndpointState) (count place : ℕ) → Looked s n count place → count < length s.peer.updates.waiting
    → ((e : EndpointHistory) → StandsFor n e → StandsFor m e × WantsMemory e place) → UsesUpdates s m
looked_part s n m count place l within looks =
    record {
      count = count;
      stops = λ e h.
          let b = between e.peer.updates.waiting count (there_is s e count h within) in
          let wants = (looks (use_updates e count) (l.stands e h)).1 in
          let here : is_open (use_updates e count) b.one.0 ≡ true = subst (λ o. IfSome o (λ u. is_open (use_updates e count) u.0 ≡ true)) (at_place e count place b (l.front e h)) wants in
          subst (λ o. IfSome o (λ u. is_open e u.0 ≡ true)) (sym b.got) (sym (used_open e (take count e.peer.updates.waiting) b.one.0) ∙ here);
      stands = λ e h. (looks (use_updates e count) (l.stands e h)).0;
    }

-- All were looked at.
pub looked_all : (s n : EndpointState) (count place : ℕ) → Looked s n count place → length s.peer.updates.waiting ≤ count → UsesUpdates s n
looked_all s n count place l all =
    record {
      count = count;
      stops = λ e h. subst (λ o. IfSome o (λ u. is_open e u.0 ≡ true)) (sym (none_past e.peer.updates.waiting count (subst (λ l. length l ≤ count) (waiting_same s e h) all))) tt;
      stands = l.stands;
    }

pub none_waits : (s : EndpointState) → length s.peer.updates.waiting ≤ 0 → UsesUpdates s s
none_waits s none = looked_all s s 0 0 (looked_none s) none
