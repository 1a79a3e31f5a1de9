-- A request stream that is opened before what is kept is read: the same is read of all streams, and that one is open beside.
use Rattle.std.proofs.Common.{◌≡◌, ℕ, true, false, List, [], ◌∷◌, ◌++◌, Option, Some, None, refl, ap, sym, subst, ◌∙◌, inl, inr, append-nil}
use Rattle.std.specs.Prelude.{◌≢◌, ◌⊎◌, All, is_some, unwrap_or, fold}
use Rattle.std.proofs.lemmas.Bool.{cases_eq}
use Rattle.std.proofs.lemmas.List.Elements.{All-head, All-tail}
use Rattle.h3_field.specs.Instruction.{DecoderInstruction}
use Rattle.h3_connection.specs.Arrivals.{stream_of}
use Rattle.h3_connection.specs.Control.{Found}
use Rattle.h3_connection.specs.Delivering.{with_incoming, incoming_at, opened, opened_at}
use Rattle.h3_connection.specs.Endpoint.{EndpointHistory, Kind, kind_of, replied}
use Rattle.h3_connection.specs.Endpoint.Kind.{Request, ServerOpened, OwnUnidirectional, PeerUnidirectional}
use Rattle.h3_connection.specs.Incoming.{Incoming, nothing_came}
use Rattle.h3_connection.specs.Keeping.{read_arrival, read_all, unless_faulty, opened_by, opened_as}
use Rattle.h3_connection.specs.Outgoing.{Outgoing, nothing_sent}
use Rattle.h3_connection.specs.Sending.{outgoing_at}
use Rattle.h3_connection.specs.StreamSets.{HaveDistinctIds, stream_at, set_stream}
use Rattle.h3_connection.specs.StreamSetLaws.{other_id, set-here, set-other, set-set, set-same, set-distinct}
use Rattle.h3_connection.specs.declared.arrival.Arrival.{Arrival}
use Rattle.h3_session.specs.Arriving.{received, replies_to}
use Rattle.h3_session.specs.Reading.{read_at}
use Rattle.h3_session.proofs.OpeningElsewhere.{with_requests, LooksElsewhere, read_elsewhere}
use Rattle.h3_session.proofs.ReceivingRequests.{receiving, read_as}
use Rattle.h3_session.proofs.ReceivingReading.{read_is}

-- They differ in this request stream alone, which is open in the second.
pub record OpenBeside (id : ℕ) (e f : EndpointHistory) : Type 0 where
  pub rest : f ≡ with_requests e f.incoming f.outgoing
  pub here_in : stream_at f.incoming id ≡ Some (incoming_at e id)
  pub here_out : stream_at f.outgoing id ≡ Some (outgoing_at e id)
  pub other_in : (q : ℕ) → q ≢ id → stream_at f.incoming q ≡ stream_at e.incoming q
  pub other_out : (q : ℕ) → q ≢ id → stream_at f.outgoing q ≡ stream_at e.outgoing q
  -- it is open both ways, or neither
  pub both : is_some (stream_at e.outgoing id) ≡ is_some (stream_at e.incoming id)
  pub distinct : HaveDistinctIds e.incoming

-- A reading that looks elsewhere.
pub beside_elsewhere : (id : ℕ) (e f g : EndpointHistory) → OpenBeside id e f → g.incoming ≡ e.incoming → g.outgoing ≡ e.outgoing → OpenBeside id g (with_requests g f.incoming f.outgoing)
beside_elsewhere id e f g b ins outs = record {
  rest = refl;
  here_in = b.here_in ∙ ap (λ l. Some (unwrap_or (stream_at l id) nothing_came)) (sym ins);
  here_out = b.here_out ∙ ap (λ l. Some (unwrap_or (stream_at l id) nothing_sent)) (sym outs);
  other_in = λ q differs. b.other_in q differs ∙ ap (λ l. stream_at l q) (sym ins);
  other_out = λ q differs. b.other_out q differs ∙ ap (λ l. stream_at l q) (sym outs);
  both = ap (λ l. is_some (stream_at l id)) outs ∙ b.both ∙ ap (λ l. is_some (stream_at l id)) (sym ins);
  distinct = subst HaveDistinctIds (sym ins) b.distinct;
}

-- What both find.
pub record FindBoth (id : ℕ) (found other : Found) : Type 0 where
  pub beside : OpenBeside id found.0 other.0
  pub fault : other.1 ≡ found.1

pub find_elsewhere : (id : ℕ) (e f : EndpointHistory) (find : EndpointHistory → Found) → OpenBeside id e f → LooksElsewhere e (find e) (λ ins outs. find (with_requests e ins outs)) → FindBoth id (find e) (find f)
find_elsewhere id e f find b h =
    let own : find e ≡ (with_requests (find e).0 e.incoming e.outgoing, (find e).1) = h.apart e.incoming e.outgoing in
    let other : find f ≡ (with_requests (find e).0 f.incoming f.outgoing, (find e).1) = ap find b.rest ∙ h.apart f.incoming f.outgoing in
    subst (FindBoth id (find e)) (sym other) (record {
      beside = beside_elsewhere id e f (find e).0 b (ap (λ (x : Found). x.0.incoming) own) (ap (λ (x : Found). x.0.outgoing) own);
      fault = refl;
    })

-- A request stream is opened, and then is this.
abbrev pub put_at : EndpointHistory → ℕ → Incoming → List DecoderInstruction → Option Incoming → EndpointHistory
put_at e q i replies at = replied (with_incoming (opened_at e q at) q i) replies

abbrev pub put : EndpointHistory → ℕ → Incoming → List DecoderInstruction → EndpointHistory
put e q i replies = put_at e q i replies (stream_at e.incoming q)

put_here : (e : EndpointHistory) (q : ℕ) (i : Incoming) (replies : List DecoderInstruction) (at : Option Incoming) → stream_at (put_at e q i replies at).incoming q ≡ Some i
put_here e q i replies (Some j) = set-here e.incoming q i
put_here e q i replies None = set-here (set_stream e.incoming q nothing_came) q i

put_other_in : (e : EndpointHistory) (q r : ℕ) (i : Incoming) (replies : List DecoderInstruction) (at : Option Incoming) → r ≢ q → stream_at (put_at e q i replies at).incoming r ≡ stream_at e.incoming r
put_other_in e q r i replies (Some j) differs = set-other e.incoming q r i (other_id r q differs)
put_other_in e q r i replies None differs = set-other (set_stream e.incoming q nothing_came) q r i (other_id r q differs) ∙ set-other e.incoming q r nothing_came (other_id r q differs)

put_other_out : (e : EndpointHistory) (q r : ℕ) (i : Incoming) (replies : List DecoderInstruction) (at : Option Incoming) → r ≢ q → stream_at (put_at e q i replies at).outgoing r ≡ stream_at e.outgoing r
put_other_out e q r i replies (Some j) differs = refl
put_other_out e q r i replies None differs = set-other e.outgoing q r nothing_sent (other_id r q differs)

put_distinct : (e : EndpointHistory) (q : ℕ) (i : Incoming) (replies : List DecoderInstruction) (at : Option Incoming) → HaveDistinctIds e.incoming → HaveDistinctIds (put_at e q i replies at).incoming
put_distinct e q i replies (Some j) h = set-distinct e.incoming q i h
put_distinct e q i replies None h = set-distinct (set_stream e.incoming q nothing_came) q i (set-distinct e.incoming q nothing_came h)

-- its sender's part, where that is open with the receiver's
put_out : (e : EndpointHistory) (q : ℕ) (i : Incoming) (replies : List DecoderInstruction) (at : Option Incoming) → is_some (stream_at e.outgoing q) ≡ is_some at → stream_at (put_at e q i replies at).outgoing q ≡ Some (outgoing_at e q)
put_out e q i replies (Some j) both = there (stream_at e.outgoing q) both
  where
    there : (o : Option Outgoing) → is_some o ≡ true → o ≡ Some (unwrap_or o nothing_sent)
    there (Some y) h = refl
    there None h = absurd (cc)
put_out e q i replies None both = set-here e.outgoing q nothing_sent ∙ absent (stream_at e.outgoing q) both
  where
    absent : (o : Option Outgoing) → is_some o ≡ false → Some nothing_sent ≡ Some (unwrap_or o nothing_sent)
    absent (Some y) h = absurd (cc)
    absent None h = refl

-- or not, alike in both
put_out_alike : (e f : EndpointHistory) (q : ℕ) (i : Incoming) (replies : List DecoderInstruction) (at : Option Incoming) → stream_at f.outgoing q ≡ stream_at e.outgoing q
    → stream_at (put_at f q i replies at).outgoing q ≡ stream_at (put_at e q i replies at).outgoing q
put_out_alike e f q i replies (Some j) same = same
put_out_alike e f q i replies None same = set-here f.outgoing q nothing_sent ∙ sym (set-here e.outgoing q nothing_sent)

put_rest : (e f : EndpointHistory) (q : ℕ) (i : Incoming) (replies : List DecoderInstruction) (at to : Option Incoming) → f ≡ with_requests e f.incoming f.outgoing
    → put_at f q i replies to ≡ with_requests (put_at e q i replies at) (put_at f q i replies to).incoming (put_at f q i replies to).outgoing
put_rest e f q i replies at to is =
    subst (λ g. put_at g q i replies to ≡ with_requests (put_at e q i replies at) (put_at g q i replies to).incoming (put_at g q i replies to).outgoing) (sym is) (by at to)
  where
    g : EndpointHistory
    g = with_requests e f.incoming f.outgoing

    by : (at to : Option Incoming) → put_at g q i replies to ≡ with_requests (put_at e q i replies at) (put_at g q i replies to).incoming (put_at g q i replies to).outgoing
    by (Some j) (Some k) = refl
    by (Some j) None = refl
    by None (Some k) = refl
    by None None = refl

abbrev Put : ℕ → EndpointHistory → EndpointHistory → ℕ → Incoming → List DecoderInstruction → Type 0
Put id e f q i replies = OpenBeside id (put e q i replies) (put f q i replies)

put_this : (id : ℕ) (e f : EndpointHistory) (i : Incoming) (replies : List DecoderInstruction) → OpenBeside id e f → Put id e f id i replies
put_this id e f i replies b =
    let at = stream_at e.incoming id in
    let to = stream_at f.incoming id in
    let here : stream_at (put e id i replies).incoming id ≡ Some i = put_here e id i replies at in
    let out : stream_at (put e id i replies).outgoing id ≡ Some (outgoing_at e id) = put_out e id i replies at b.both in
    let some : is_some (stream_at f.outgoing id) ≡ is_some to = ap is_some b.here_out ∙ sym (ap is_some b.here_in) in
    record {
      rest = put_rest e f id i replies at to b.rest;
      here_in = put_here f id i replies to ∙ ap (λ o. Some (unwrap_or o nothing_came)) (sym here);
      here_out = put_out f id i replies to some ∙ ap (λ o. Some (unwrap_or o nothing_sent)) b.here_out ∙ ap (λ o. Some (unwrap_or o nothing_sent)) (sym out);
      other_in = λ q differs. put_other_in f id q i replies to differs ∙ b.other_in q differs ∙ sym (put_other_in e id q i replies at differs);
      other_out = λ q differs. put_other_out f id q i replies to differs ∙ b.other_out q differs ∙ sym (put_other_out e id q i replies at differs);
      both = ap is_some out ∙ sym (ap is_some here);
      distinct = put_distinct e id i replies at b.distinct;
    }

put_that : (id : ℕ) (e f : EndpointHistory) (q : ℕ) (i : Incoming) (replies : List DecoderInstruction) → q ≢ id → OpenBeside id e f → Put id e f q i replies
put_that id e f q i replies differs b =
    let at = stream_at e.incoming q in
    let to = stream_at f.incoming q in
    let apart : id ≢ q = λ same. differs (sym same) in
    let in_here : stream_at (put e q i replies).incoming id ≡ stream_at e.incoming id = put_other_in e q id i replies at apart in
    let out_here : stream_at (put e q i replies).outgoing id ≡ stream_at e.outgoing id = put_other_out e q id i replies at apart in
    record {
      rest = put_rest e f q i replies at to b.rest;
      here_in = put_other_in f q id i replies to apart ∙ b.here_in ∙ ap (λ o. Some (unwrap_or o nothing_came)) (sym in_here);
      here_out = put_other_out f q id i replies to apart ∙ b.here_out ∙ ap (λ o. Some (unwrap_or o nothing_sent)) (sym out_here);
      other_in = λ r other. elim (cases_eq r q) [
        | inl same ↦ rw same (put_here f q i replies to ∙ sym (put_here e q i replies at))
        | inr else_ ↦ put_other_in f q r i replies to else_ ∙ b.other_in r other ∙ sym (put_other_in e q r i replies at else_)
      ];
      other_out = λ r other. elim (cases_eq r q) [
        | inl same ↦
            rw same (ap (λ o. stream_at (put_at f q i replies o).outgoing q) (b.other_in q differs) ∙ put_out_alike e f q i replies at (b.other_out q differs))
        | inr else_ ↦ put_other_out f q r i replies to else_ ∙ b.other_out r other ∙ sym (put_other_out e q r i replies at else_)
      ];
      both = ap is_some out_here ∙ b.both ∙ sym (ap is_some in_here);
      distinct = put_distinct e q i replies at b.distinct;
    }

pub put_beside : (id : ℕ) (e f : EndpointHistory) (q : ℕ) (i : Incoming) (replies : List DecoderInstruction) → OpenBeside id e f → Put id e f q i replies
put_beside id e f q i replies b = elim (cases_eq q id) [
  | inl same ↦ subst (λ n. Put id e f n i replies) (sym same) (put_this id e f i replies b)
  | inr differs ↦ put_that id e f q i replies differs b
]

-- both have the same receiver, or none came
pub same_receiver : (id : ℕ) (e f : EndpointHistory) (q : ℕ) → OpenBeside id e f → incoming_at f q ≡ incoming_at e q
same_receiver id e f q b = elim (cases_eq q id) [
  | inl same ↦ rw same (ap (λ o. unwrap_or o nothing_came) b.here_in)
  | inr differs ↦ ap (λ o. unwrap_or o nothing_came) (b.other_in q differs)
]

same_side : (id : ℕ) (e f : EndpointHistory) → OpenBeside id e f → f.side ≡ e.side
same_side id e f b = ap (λ (g : EndpointHistory). g.side) b.rest

-- What one arrival does, by the kind of its stream.
receiving_both : (id : ℕ) (e f : EndpointHistory) (a : Arrival) → OpenBeside id e f → OpenBeside id (receiving e a) (receiving f a)
receiving_both id e f a b =
    let q = stream_of a in
    subst (λ i. OpenBeside id (receiving e a) (put f q (received a i) (replies_to a i))) (sym (same_receiver id e f q b))
    (put_beside id e f q (received a (incoming_at e q)) (replies_to a (incoming_at e q)) b)

step_else : (id : ℕ) (e f : EndpointHistory) (a : Arrival) (k : Kind) → k ≢ Request → kind_of e.side (stream_of a) ≡ k → OpenBeside id e f → FindBoth id (read_arrival e a) (read_arrival f a)
step_else id e f a k none kind b =
    let there : kind_of f.side (stream_of a) ≡ k = ap (λ side. kind_of side (stream_of a)) (same_side id e f b) ∙ kind in
    subst (λ x. FindBoth id x (read_arrival f a)) (sym (read_is e a ∙ ap (read_at e a) kind)) (subst (FindBoth id (read_at e a k)) (sym (read_is f a ∙ ap (read_at f a) there))
    (find_elsewhere id e f (λ x. read_at x a k) b (read_elsewhere e a k none)))

step_at : (id : ℕ) (e f : EndpointHistory) (a : Arrival) (k : Kind) → kind_of e.side (stream_of a) ≡ k → OpenBeside id e f → FindBoth id (read_arrival e a) (read_arrival f a)
step_at id e f a Request kind b =
    let there : kind_of f.side (stream_of a) ≡ Request = ap (λ side. kind_of side (stream_of a)) (same_side id e f b) ∙ kind in
    subst (λ x. FindBoth id x (read_arrival f a)) (sym (read_as e a kind)) (subst (FindBoth id (receiving e a, None)) (sym (read_as f a there))
    (record { beside = receiving_both id e f a b; fault = refl }))
step_at id e f a ServerOpened kind b = step_else id e f a ServerOpened (λ is. cc) kind b
step_at id e f a OwnUnidirectional kind b = step_else id e f a OwnUnidirectional (λ is. cc) kind b
step_at id e f a PeerUnidirectional kind b = step_else id e f a PeerUnidirectional (λ is. cc) kind b

pub step : (id : ℕ) (e f : EndpointHistory) (a : Arrival) → OpenBeside id e f → FindBoth id (read_arrival e a) (read_arrival f a)
step id e f a b = step_at id e f a (kind_of e.side (stream_of a)) refl b

-- All that is kept.
goes_on : (id : ℕ) (rest : List Arrival) (found other : Found) → ((e f : EndpointHistory) → OpenBeside id e f → FindBoth id (read_all rest e) (read_all rest f)) → FindBoth id found other
    → FindBoth id (unless_faulty (read_all rest) found) (unless_faulty (read_all rest) other)
goes_on id rest (e, None) (f, None) all b = all e f b.beside
goes_on id rest (e, Some code) (f, Some again) all b = b
goes_on id rest (e, None) (f, Some again) all b = let wrong : Some again ≡ None = b.fault in absurd (cc)
goes_on id rest (e, Some code) (f, None) all b = let wrong : None ≡ Some code = b.fault in absurd (cc)

pub all_beside : (id : ℕ) (arrivals : List Arrival) (e f : EndpointHistory) → OpenBeside id e f → FindBoth id (read_all arrivals e) (read_all arrivals f)
all_beside id [] e f b = record { beside = b; fault = refl }
all_beside id (a ∷ arrivals) e f b = goes_on id arrivals (read_arrival e a) (read_arrival f a) (all_beside id arrivals) (step id e f a b)

-- What one arrival leaves: the other request streams are there or not as before.
pub record LeavesOthers (e : EndpointHistory) (a : Arrival) (found : Found) : Type 0 where
  pub side : found.0.side ≡ e.side
  pub kept : found.0.kept ≡ e.kept
  pub others : (q : ℕ) → q ≢ stream_of a → stream_at found.0.incoming q ≡ stream_at e.incoming q
  pub stays : (q : ℕ) → is_some (stream_at e.incoming q) ≡ true → is_some (stream_at found.0.incoming q) ≡ true
  -- a request stream is open then, and has no fault of the connection
  pub opens : kind_of e.side (stream_of a) ≡ Request → (found.1 ≡ None) × (is_some (stream_at found.0.incoming (stream_of a)) ≡ true)

put_side : (e : EndpointHistory) (q : ℕ) (i : Incoming) (replies : List DecoderInstruction) (at : Option Incoming) → ((put_at e q i replies at).side ≡ e.side) × ((put_at e q i replies at).kept ≡ e.kept)
put_side e q i replies (Some j) = (refl, refl)
put_side e q i replies None = (refl, refl)

request_leaves : (e : EndpointHistory) (a : Arrival) → LeavesOthers e a (receiving e a, None)
request_leaves e a =
    let q = stream_of a in
    let i = received a (incoming_at e q) in
    let replies = replies_to a (incoming_at e q) in
    let at = stream_at e.incoming q in
    record {
      side = (put_side e q i replies at).0;
      kept = (put_side e q i replies at).1;
      others = λ r differs. put_other_in e q r i replies at differs;
      stays = λ r there. elim (cases_eq r q) [
        | inl same ↦ rw same (ap is_some (put_here e q i replies at))
        | inr differs ↦ ap is_some (put_other_in e q r i replies at differs) ∙ there
      ];
      opens = λ is. (refl, ap is_some (put_here e q i replies at));
    }

else_leaves : (e : EndpointHistory) (a : Arrival) (k : Kind) → k ≢ Request → kind_of e.side (stream_of a) ≡ k → LeavesOthers e a (read_at e a k)
else_leaves e a k none kind =
    let h = read_elsewhere e a k none in
    let ins : (read_at e a k).0.incoming ≡ e.incoming = ap (λ (x : Found). x.0.incoming) (h.apart e.incoming e.outgoing) in
    record {
      side = h.side;
      kept = h.kept;
      others = λ q differs. ap (λ l. stream_at l q) ins;
      stays = λ q there. ap (λ l. is_some (stream_at l q)) ins ∙ there;
      opens = λ is. absurd (none (sym kind ∙ is));
    }

leaves_at : (e : EndpointHistory) (a : Arrival) (k : Kind) → kind_of e.side (stream_of a) ≡ k → LeavesOthers e a (read_arrival e a)
leaves_at e a Request kind = subst (LeavesOthers e a) (sym (read_as e a kind)) (request_leaves e a)
leaves_at e a ServerOpened kind = subst (LeavesOthers e a) (sym (read_is e a ∙ ap (read_at e a) kind)) (else_leaves e a ServerOpened (λ is. cc) kind)
leaves_at e a OwnUnidirectional kind = subst (LeavesOthers e a) (sym (read_is e a ∙ ap (read_at e a) kind)) (else_leaves e a OwnUnidirectional (λ is. cc) kind)
leaves_at e a PeerUnidirectional kind = subst (LeavesOthers e a) (sym (read_is e a ∙ ap (read_at e a) kind)) (else_leaves e a PeerUnidirectional (λ is. cc) kind)

pub leaves_others : (e : EndpointHistory) (a : Arrival) → LeavesOthers e a (read_arrival e a)
leaves_others e a = leaves_at e a (kind_of e.side (stream_of a)) refl

-- the kept arrivals stay, and reading takes none in
after_one : (P : Found → Type 0) (rest : List Arrival) (found : Found) → (found.1 ≡ None → P (read_all rest found.0)) → ((code : ℕ) → found.1 ≡ Some code → P found) → P (unless_faulty (read_all rest) found)
after_one P rest (e, None) whole faulty = whole refl
after_one P rest (e, Some code) whole faulty = faulty code refl

pub kept_after : (arrivals : List Arrival) (e : EndpointHistory) → (read_all arrivals e).0.kept ≡ e.kept
kept_after [] e = refl
kept_after (a ∷ arrivals) e =
    let h = leaves_others e a in
    after_one (λ x. x.0.kept ≡ e.kept) arrivals (read_arrival e a) (λ none. kept_after arrivals (read_arrival e a).0 ∙ h.kept) (λ code is. h.kept)

-- A request stream is open, or something of it comes.
abbrev pub ComesOn : ℕ → List Arrival → Type 0
ComesOn id [] = ⊥
ComesOn id (a ∷ rest) = (stream_of a ≡ id) ⊎ ComesOn id rest

abbrev pub IsOrComes : ℕ → EndpointHistory → List Arrival → Type 0
IsOrComes id e rest = (is_some (stream_at e.incoming id) ≡ true) ⊎ ComesOn id rest

pub still_or_comes : (id : ℕ) (e : EndpointHistory) (a : Arrival) (rest : List Arrival) → kind_of e.side id ≡ Request → IsOrComes id e (a ∷ rest) → IsOrComes id (read_arrival e a).0 rest
still_or_comes id e a rest kind (inl there) = inl ((leaves_others e a).stays id there)
still_or_comes id e a rest kind (inr (inl same)) =
    inl (subst (λ n. is_some (stream_at (read_arrival e a).0.incoming n) ≡ true) same ((leaves_others e a).opens (ap (kind_of e.side) same ∙ kind)).1)
still_or_comes id e a rest kind (inr (inr later)) = inr later

pub open_after : (id : ℕ) (arrivals : List Arrival) (e : EndpointHistory) → kind_of e.side id ≡ Request → IsOrComes id e arrivals → (read_all arrivals e).1 ≡ None → is_some (stream_at (read_all arrivals e).0.incoming id) ≡ true
open_after id [] e kind (inl there) none = there
open_after id [] e kind (inr never) none = absurd never
open_after id (a ∷ arrivals) e kind some none =
    let h = leaves_others e a in
    let kind_then : kind_of (read_arrival e a).0.side id ≡ Request = ap (λ side. kind_of side id) h.side ∙ kind in
    after_one (λ x. x.1 ≡ None → is_some (stream_at x.0.incoming id) ≡ true) arrivals (read_arrival e a)
    (λ goes. open_after id arrivals (read_arrival e a).0 kind_then (still_or_comes id e a arrivals kind some))
    (λ code is no_code. let wrong : Some code ≡ None = sym is ∙ no_code in absurd (cc)) none

-- Where what is read before has a fault, a stream is not opened that is not among it.
pub absent_after : (front : List Arrival) (a : Arrival) (e : EndpointHistory) (code : ℕ) → All (λ b. stream_of b ≢ stream_of a) front → kind_of e.side (stream_of a) ≡ Request → stream_at e.incoming (stream_of a) ≡ None
    → (read_all (front ++ a ∷ []) e).1 ≡ Some code → stream_at (read_all (front ++ a ∷ []) e).0.incoming (stream_of a) ≡ None
absent_after [] a e code apart kind absent is =
    let opens = (leaves_others e a).opens kind in
    after_one (λ x. x.1 ≡ Some code → stream_at x.0.incoming (stream_of a) ≡ None) [] (read_arrival e a)
    (λ none found. let wrong : None ≡ Some code = found in absurd (cc))
    (λ other found again. let wrong : None ≡ Some other = sym opens.0 ∙ found in absurd (cc)) is
absent_after (b ∷ front) a e code apart kind absent is =
    let h = leaves_others e b in
    let still : stream_at (read_arrival e b).0.incoming (stream_of a) ≡ None =
    h.others (stream_of a) (λ same. All-head (λ b. stream_of b ≢ stream_of a) b front apart (sym same)) ∙ absent in
    after_one (λ x. x.1 ≡ Some code → stream_at x.0.incoming (stream_of a) ≡ None) (front ++ a ∷ []) (read_arrival e b)
    (λ none. absent_after front a (read_arrival e b).0 code (All-tail (λ b. stream_of b ≢ stream_of a) b front apart) (ap (λ side. kind_of side (stream_of a)) h.side ∙ kind) still)
    (λ other found again. still) is

-- A stream of which something is kept is opened, alike in both.
opened_put : (e : EndpointHistory) (q : ℕ) (at : Option Incoming) → stream_at e.incoming q ≡ at → opened_at e q at ≡ put_at e q (unwrap_or at nothing_came) [] at
opened_put e q (Some i) is =
    ap (λ l. record e { incoming = l }) (sym (set-same e.incoming q i is)) ∙ ap (λ r. record (with_incoming e q i) { own = record e.own { replies = r } }) (sym (append-nil e.own.replies))
opened_put e q None is =
    ap (λ l. record (opened_at e q None) { incoming = l }) (sym (set-set e.incoming q nothing_came nothing_came))
    ∙ ap (λ r. record (with_incoming (opened_at e q None) q nothing_came) { own = record e.own { replies = r } }) (sym (append-nil e.own.replies))

opened_beside : (id : ℕ) (e f : EndpointHistory) (q : ℕ) → OpenBeside id e f → OpenBeside id (opened e q) (opened f q)
opened_beside id e f q b =
    subst (λ x. OpenBeside id x (opened f q)) (sym (opened_put e q (stream_at e.incoming q) refl))
    (subst (OpenBeside id (put e q (incoming_at e q) [])) (sym (opened_put f q (stream_at f.incoming q) refl))
    (subst (λ i. OpenBeside id (put e q (incoming_at e q) []) (put f q i [])) (sym (same_receiver id e f q b)) (put_beside id e f q (incoming_at e q) [] b)))

opened_for_both : (id : ℕ) (e f : EndpointHistory) (q : ℕ) (k : Kind) → OpenBeside id e f → OpenBeside id (opened_as k e q) (opened_as k f q)
opened_for_both id e f q Request b = opened_beside id e f q b
opened_for_both id e f q ServerOpened b = b
opened_for_both id e f q OwnUnidirectional b = b
opened_for_both id e f q PeerUnidirectional b = b

opened_by_both : (id : ℕ) (e f : EndpointHistory) (a : Arrival) → OpenBeside id e f → OpenBeside id (opened_by e a) (opened_by f a)
opened_by_both id e f a b =
    subst (λ k. OpenBeside id (opened_by e a) (opened_as k f (stream_of a))) (ap (λ side. kind_of side (stream_of a)) (sym (same_side id e f b)))
    (opened_for_both id e f (stream_of a) (kind_of e.side (stream_of a)) b)

pub fold_beside : (id : ℕ) (arrivals : List Arrival) (e f : EndpointHistory) → OpenBeside id e f → OpenBeside id (fold opened_by e arrivals) (fold opened_by f arrivals)
fold_beside id [] e f b = b
fold_beside id (a ∷ arrivals) e f b = fold_beside id arrivals (opened_by e a) (opened_by f a) (opened_by_both id e f a b)

-- and is open then
opened_stays : (e : EndpointHistory) (q id : ℕ) (at : Option Incoming) → is_some (stream_at e.incoming id) ≡ true → is_some (stream_at (opened_at e q at).incoming id) ≡ true
opened_stays e q id (Some i) there = there
opened_stays e q id None there = elim (cases_eq id q) [
  | inl same ↦ rw same (ap is_some (set-here e.incoming q nothing_came))
  | inr differs ↦ ap is_some (set-other e.incoming q id nothing_came (other_id id q differs)) ∙ there
]

opened_is : (e : EndpointHistory) (q : ℕ) (at : Option Incoming) → stream_at e.incoming q ≡ at → is_some (stream_at (opened_at e q at).incoming q) ≡ true
opened_is e q (Some i) is = ap is_some is
opened_is e q None is = ap is_some (set-here e.incoming q nothing_came)

opened_side : (e : EndpointHistory) (q : ℕ) (at : Option Incoming) → (opened_at e q at).side ≡ e.side
opened_side e q (Some i) = refl
opened_side e q None = refl

side_by : (e : EndpointHistory) (q : ℕ) (k : Kind) → (opened_as k e q).side ≡ e.side
side_by e q Request = opened_side e q (stream_at e.incoming q)
side_by e q ServerOpened = refl
side_by e q OwnUnidirectional = refl
side_by e q PeerUnidirectional = refl

stays_by : (e : EndpointHistory) (q id : ℕ) (k : Kind) → is_some (stream_at e.incoming id) ≡ true → is_some (stream_at (opened_as k e q).incoming id) ≡ true
stays_by e q id Request there = opened_stays e q id (stream_at e.incoming q) there
stays_by e q id ServerOpened there = there
stays_by e q id OwnUnidirectional there = there
stays_by e q id PeerUnidirectional there = there

opens_by : (id : ℕ) (e : EndpointHistory) (a : Arrival) (rest : List Arrival) → kind_of e.side id ≡ Request → IsOrComes id e (a ∷ rest) → IsOrComes id (opened_by e a) rest
opens_by id e a rest kind (inl there) = inl (stays_by e (stream_of a) id (kind_of e.side (stream_of a)) there)
opens_by id e a rest kind (inr (inl same)) =
    let here : kind_of e.side (stream_of a) ≡ Request = ap (kind_of e.side) same ∙ kind in
    inl (subst (λ k. is_some (stream_at (opened_as k e (stream_of a)).incoming id) ≡ true) (sym here)
    (subst (λ n. is_some (stream_at (opened e (stream_of a)).incoming n) ≡ true) same (opened_is e (stream_of a) (stream_at e.incoming (stream_of a)) refl)))
opens_by id e a rest kind (inr (inr later)) = inr later

pub fold_opens : (id : ℕ) (arrivals : List Arrival) (e : EndpointHistory) → kind_of e.side id ≡ Request → IsOrComes id e arrivals → is_some (stream_at (fold opened_by e arrivals).incoming id) ≡ true
fold_opens id [] e kind (inl there) = there
fold_opens id [] e kind (inr never) = absurd never
fold_opens id (a ∷ arrivals) e kind some =
    fold_opens id arrivals (opened_by e a) (ap (λ side. kind_of side id) (side_by e (stream_of a) (kind_of e.side (stream_of a))) ∙ kind) (opens_by id e a arrivals kind some)
