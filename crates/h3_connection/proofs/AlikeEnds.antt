-- Endpoints that differ in cuts alone: each stream beside its counterpart.
use Rattle.std.proofs.Common.{arith, ◌≡◌, ℕ, zero, suc, ◌+◌, Bool, true, false, if◌then◌else◌, List, [], ◌∷◌, ◌++◌, refl, ap, sym, ◌∙◌, subst, append-nil, append_assoc, Option, Some, None}
use Rattle.std.specs.Prelude.{◌==◌, nat_lt, unwrap_or}
use Rattle.std.proofs.lemmas.Grind.{common_steps}
use Rattle.h3_field.specs.Instruction.{DecoderInstruction}
use Rattle.h3_field.specs.Instruction.DecoderInstruction.{Acknowledge, CancelStream, Increment}
use Rattle.h3_connection.specs.CallCuts.{with_increment, joined_increments, SessionsDifferInCuts, EachStream, with_streams, DifferInCutsAlone}
use Rattle.h3_connection.specs.Control.{increment}
use Rattle.h3_connection.specs.Endpoint.{EndpointHistory, replied}
use Rattle.h3_connection.specs.Incoming.{Incoming, nothing_came}
use Rattle.h3_connection.specs.PullCuts.{DifferInCuts}
use Rattle.h3_connection.specs.StreamSets.{Streams, stream_at, set_stream}
use Rattle.h3_connection.specs.Unidirectional.{Unidirectional, untold}
use Rattle.h3_connection.proofs.WaitingCounts.{waiting_above, one_if, count_more}

-- increments
twice_increment : (n m : ℕ) (replies : List DecoderInstruction) → with_increment n (with_increment m replies) ≡ with_increment (n + m) replies
twice_increment n m [] = refl
twice_increment n m (Increment k ∷ replies) = ap (λ sum. Increment sum ∷ replies) (omega arith)
twice_increment n m (Acknowledge id ∷ replies) = refl
twice_increment n m (CancelStream id ∷ replies) = refl

joined_front : (n : ℕ) (replies more : List DecoderInstruction) → joined_increments (with_increment n replies ++ more) ≡ with_increment n (joined_increments (replies ++ more))
joined_front n [] more = refl
joined_front n (Increment m ∷ replies) more = sym (twice_increment n m (joined_increments (replies ++ more)))
joined_front n (Acknowledge id ∷ replies) more = refl
joined_front n (CancelStream id ∷ replies) more = refl

joined_behind : (replies more : List DecoderInstruction) → joined_increments (joined_increments replies ++ more) ≡ joined_increments (replies ++ more)
joined_behind [] more = refl
joined_behind (Increment n ∷ replies) more = joined_front n (joined_increments replies) more ∙ ap (with_increment n) (joined_behind replies more)
joined_behind (Acknowledge id ∷ replies) more = ap (λ l. Acknowledge id ∷ l) (joined_behind replies more)
joined_behind (CancelStream id ∷ replies) more = ap (λ l. CancelStream id ∷ l) (joined_behind replies more)

pub joined_more : (one two more : List DecoderInstruction) → joined_increments two ≡ joined_increments one → joined_increments (two ++ more) ≡ joined_increments (one ++ more)
joined_more one two more same = sym (joined_behind two more) ∙ ap (λ l. joined_increments (l ++ more)) same ∙ joined_behind one more

-- streams beside one another
abbrev pub OfBoth : {X : Type 0} → (X → X → Type 0) → Option X → Option X → Type 0
OfBoth P None None = Unit {0}
OfBoth P (Some x) (Some y) = P x y
OfBoth P _ _ = ⊥

both_if : {X : Type 0} (P : X → X → Type 0) (b : Bool) (x y : X) (one two : Option X) → P x y → OfBoth P one two → OfBoth P (if b then Some x else one) (if b then Some y else two)
both_if P true x y one two p q = p
both_if P false x y one two p q = q

pub at_both : {X : Type 0} (P : X → X → Type 0) (one two : Streams X) (id : ℕ) → EachStream P one two → OfBoth P (stream_at one id) (stream_at two id)
at_both P [] [] id h = tt
at_both P [] ((q, y) ∷ two) id h = absurd h
at_both P ((p, x) ∷ one) [] id h = absurd h
at_both P ((p, x) ∷ one) ((q, y) ∷ two) id h =
    subst (λ n. OfBoth P (if p == id then Some x else stream_at one id) (if n == id then Some y else stream_at two id)) (sym h.0)
    (both_if P (p == id) x y (stream_at one id) (stream_at two id) h.1 (at_both P one two id h.2))

each_if : {X : Type 0} (P : X → X → Type 0) (b : Bool) (one two three four : Streams X) → EachStream P one two → EachStream P three four → EachStream P (if b then one else three) (if b then two else four)
each_if P true one two three four p q = p
each_if P false one two three four p q = q

pub set_both : {X : Type 0} (P : X → X → Type 0) (one two : Streams X) (id : ℕ) (x y : X) → EachStream P one two → P x y → EachStream P (set_stream one id x) (set_stream two id y)
set_both P [] [] id x y h p = (refl, p, tt)
set_both P [] ((q, b) ∷ two) id x y h p = absurd h
set_both P ((n, a) ∷ one) [] id x y h p = absurd h
set_both P ((n, a) ∷ one) ((q, b) ∷ two) id x y h p =
    subst (λ m. EachStream P (if n == id then (id, x) ∷ one else (n, a) ∷ set_stream one id x) (if m == id then (id, y) ∷ two else (m, b) ∷ set_stream two id y)) (sym h.0)
    (each_if P (n == id) _ _ _ _ (refl, p, h.2) (refl, h.1, set_both P one two id x y h.2 p))

pub each_sym : {X : Type 0} (P : X → X → Type 0) → ((x y : X) → P x y → P y x) → (one two : Streams X) → EachStream P one two → EachStream P two one
each_sym P turn [] [] h = tt
each_sym P turn [] ((q, y) ∷ two) h = absurd h
each_sym P turn ((p, x) ∷ one) [] h = absurd h
each_sym P turn ((p, x) ∷ one) ((q, y) ∷ two) h = (sym h.0, turn x y h.1, each_sym P turn one two h.2)

pub each_trans : {X : Type 0} (P : X → X → Type 0) → ((x y z : X) → P x y → P y z → P x z) → (one two three : Streams X) → EachStream P one two → EachStream P two three → EachStream P one three
each_trans P chain [] [] [] h k = tt
each_trans P chain [] ((q, y) ∷ two) three h k = absurd h
each_trans P chain ((p, x) ∷ one) [] three h k = absurd h
each_trans P chain [] [] ((r, z) ∷ three) h k = absurd k
each_trans P chain ((p, x) ∷ one) ((q, y) ∷ two) [] h k = absurd k
each_trans P chain ((p, x) ∷ one) ((q, y) ∷ two) ((r, z) ∷ three) h k = (k.0 ∙ h.0, chain x y z h.1 k.1, each_trans P chain one two three h.2 k.2)

-- receivers and sessions
pub cuts_sym : (i j : Incoming) → DifferInCuts i j → DifferInCuts j i
cuts_sym i j d = record { bytes = sym d.bytes; same = sym (ap (λ (x : Incoming). record x { unread = i.unread }) d.same); first = d.second; second = d.first }

pub cuts_trans : (i j k : Incoming) → DifferInCuts i j → DifferInCuts j k → DifferInCuts i k
cuts_trans i j k d g = record {
  bytes = g.bytes ∙ d.bytes;
  same = g.same ∙ ap (λ (x : Incoming). record x { unread = k.unread }) d.same;
  first = d.first;
  second = g.second;
}

pub sessions_sym : (o p : Unidirectional) → SessionsDifferInCuts o p → SessionsDifferInCuts p o
sessions_sym o p d = record { bytes = sym d.bytes; same = sym (ap (λ (x : Unidirectional). record x { unread = o.unread }) d.same); first = d.second; second = d.first }

pub sessions_trans : (o p q : Unidirectional) → SessionsDifferInCuts o p → SessionsDifferInCuts p q → SessionsDifferInCuts o q
sessions_trans o p q d g = record {
  bytes = g.bytes ∙ d.bytes;
  same = g.same ∙ ap (λ (x : Unidirectional). record x { unread = q.unread }) d.same;
  first = d.first;
  second = g.second;
}

pub or_nothing : (x y : Option Incoming) → OfBoth DifferInCuts x y → DifferInCuts (unwrap_or x nothing_came) (unwrap_or y nothing_came)
or_nothing None None h = record { bytes = refl; same = refl; first = tt; second = tt }
or_nothing None (Some j) h = absurd h
or_nothing (Some i) None h = absurd h
or_nothing (Some i) (Some j) h = h

pub or_untold : (x y : Option Unidirectional) → OfBoth SessionsDifferInCuts x y → SessionsDifferInCuts (unwrap_or x untold) (unwrap_or y untold)
or_untold None None h = record { bytes = refl; same = refl; first = tt; second = tt }
or_untold None (Some p) h = absurd h
or_untold (Some o) None h = absurd h
or_untold (Some o) (Some p) h = h

-- as many streams wait
abbrev pub SameWaits : Incoming → Incoming → Type 0
SameWaits i j = j.waits_for ≡ i.waits_for

pub counts_alike : (n : ℕ) (one two : Streams Incoming) → EachStream SameWaits one two → waiting_above n one ≡ waiting_above n two
counts_alike n [] [] h = refl
counts_alike n [] ((q, j) ∷ two) h = absurd h
counts_alike n ((p, i) ∷ one) [] h = absurd h
counts_alike n ((p, i) ∷ one) ((q, j) ∷ two) h =
    count_more n p i one ∙ ap (λ k. one_if (nat_lt n i.waits_for) + k) (counts_alike n one two h.2)
    ∙ ap (λ k. one_if (nat_lt n k) + waiting_above n two) (sym h.1) ∙ sym (count_more n q j two)

pub same_waits : (one two : Streams Incoming) → EachStream DifferInCuts one two → EachStream SameWaits one two
same_waits [] [] h = tt
same_waits [] ((q, j) ∷ two) h = absurd h
same_waits ((p, i) ∷ one) [] h = absurd h
same_waits ((p, i) ∷ one) ((q, j) ∷ two) h = (h.0, ap (λ (x : Incoming). x.waits_for) h.1.same, same_waits one two h.2)

-- endpoints
pub ends_sym : (e f : EndpointHistory) → DifferInCutsAlone e f → DifferInCutsAlone f e
ends_sym e f d = record {
  incoming = each_sym DifferInCuts cuts_sym e.incoming f.incoming d.incoming;
  unidirectional = each_sym SessionsDifferInCuts sessions_sym e.unidirectional f.unidirectional d.unidirectional;
  replies = sym d.replies;
  same = sym (ap (λ x. with_streams x e.incoming e.unidirectional e.own.replies) d.same);
}

pub ends_trans : (e f g : EndpointHistory) → DifferInCutsAlone e f → DifferInCutsAlone f g → DifferInCutsAlone e g
ends_trans e f g d k = record {
  incoming = each_trans DifferInCuts cuts_trans e.incoming f.incoming g.incoming d.incoming k.incoming;
  unidirectional = each_trans SessionsDifferInCuts sessions_trans e.unidirectional f.unidirectional g.unidirectional d.unidirectional k.unidirectional;
  replies = k.replies ∙ d.replies;
  same = k.same ∙ ap (λ x. with_streams x g.incoming g.unidirectional g.own.replies) d.same;
}

pub ends_first : (e f : EndpointHistory) → DifferInCutsAlone e f → DifferInCutsAlone e e
ends_first e f d = ends_trans e f e d (ends_sym e f d)

pub replied_alike : (e f : EndpointHistory) (more : List DecoderInstruction) → DifferInCutsAlone e f → DifferInCutsAlone (replied e more) (replied f more)
replied_alike e f more d = record {
  incoming = d.incoming;
  unidirectional = d.unidirectional;
  replies = joined_more e.own.replies f.own.replies more d.replies;
  same = ap (λ x. replied (with_streams x f.incoming f.unidirectional f.own.replies) more) d.same;
}

-- one increment as two
some_increment : (n : ℕ) → increment (suc n) ≡ Increment (suc n) ∷ []
some_increment n = let some : (suc n == 0) ≡ false = grind (arith, common_steps) in ap (λ b. if b then [] else Increment (suc n) ∷ []) some

increment_sum : (m n : ℕ) → joined_increments (increment m ++ increment n) ≡ joined_increments (increment (m + n))
increment_sum zero n = let sum : n ≡ 0 + n = omega arith in ap (λ k. joined_increments (increment k)) sum
increment_sum (suc m) zero =
    let sum : suc m ≡ suc m + 0 = omega arith in
    ap joined_increments (append-nil (increment (suc m))) ∙ ap (λ k. joined_increments (increment k)) sum
increment_sum (suc m) (suc n) =
    let sum : suc m + suc n ≡ suc (m + suc n) = omega arith in
    ap (λ l. joined_increments (l ++ increment (suc n))) (some_increment m) ∙ ap (λ l. with_increment (suc m) (joined_increments l)) (some_increment n)
    ∙ ap (λ k. Increment k ∷ []) sum ∙ sym (ap joined_increments (some_increment (m + suc n))) ∙ sym (ap (λ k. joined_increments (increment k)) sum)

pub increments_alike : (before : List DecoderInstruction) (m n : ℕ) → joined_increments ((before ++ increment m) ++ increment n) ≡ joined_increments (before ++ increment (m + n))
increments_alike before m n = ap joined_increments (append_assoc before (increment m) (increment n)) ∙ before_both before
  where
    before_both : (l : List DecoderInstruction) → joined_increments (l ++ (increment m ++ increment n)) ≡ joined_increments (l ++ increment (m + n))
    before_both [] = increment_sum m n
    before_both (Increment k ∷ l) = ap (with_increment k) (before_both l)
    before_both (Acknowledge id ∷ l) = ap (λ r. Acknowledge id ∷ r) (before_both l)
    before_both (CancelStream id ∷ l) = ap (λ r. CancelStream id ∷ r) (before_both l)
