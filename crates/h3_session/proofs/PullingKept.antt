-- What a pull answers and leaves, behind what is kept.
use Rattle.std.proofs.Common.{◌≡◌, ℕ, true, false, if◌then◌else◌, List, [], ◌∷◌, Option, Some, None, refl, ap, sym, subst, ◌∙◌, inl, inr}
use Rattle.std.specs.Prelude.{◌≢◌, ◌⊎◌, All, Result, Ok, Err}
use Rattle.std.proofs.lemmas.List.Elements.{All-nil}
use Rattle.h3_connection.specs.Control.{Found}
use Rattle.h3_connection.specs.Endpoint.{EndpointHistory, kind_of}
use Rattle.h3_connection.specs.Keeping.{read_arrival, read_all, unless_faulty, unkept, settles, pulls_behind, pulled_after}
use Rattle.h3_connection.specs.PartReading.{ReadsPart, StandsAsked}
use Rattle.h3_connection.specs.PartReading.ReadsOn.{ReadsWhole}
use Rattle.h3_connection.specs.PartReading.ReadsPart.{Stops, Goes}
use Rattle.h3_connection.specs.ReceivingContracts.{PullsNext, LosesNothing}
use Rattle.h3_connection.specs.Sending.{pull_at, pull_unless}
use Rattle.h3_connection.specs.State.{EndpointState, StandsFor, KeepsOpen}
use Rattle.h3_connection.specs.declared.arrival.Arrival.{Arrival}
use Rattle.h3_connection.specs.declared.event.Pull.{Pull}
use Rattle.h3_connection.specs.declared.event.Pull.TheVariants as answer
use Rattle.h3_connection.specs.declared.event.Fault.TheVariants as fault
use Rattle.h3_session.proofs.Opened.{stands_closed, stands_keeping}
use Rattle.h3_session.specs.Pulling.{PullsItem, ReadsKept}
use Rattle.h3_session.specs.Reading.{Finds, KeepsRest, ReadsEvery}
use Rattle.h3_session.proofs.ReceivingArrives.{ReadsFrom, KeepsFrom}
use Rattle.h3_session.proofs.ReceivingKept.{keeping_open}
use Rattle.h3_session.proofs.ReceivingReading.{found_none, finds_by}

-- All that is kept is read.
unkept_stands : (s : EndpointState) (e : EndpointHistory) → StandsFor s e → StandsFor (record s { kept = [] }) (unkept e)
unkept_stands s e h = stands_keeping s e [] h (All-nil (KeepsOpen e.side e.incoming))

still_open : (s : EndpointState) (e : EndpointHistory) → StandsFor s e → All (KeepsOpen e.side e.incoming) s.kept
still_open s e h = subst (All (KeepsOpen e.side e.incoming)) (sym h.kept) h.reached.kept

-- it was read up to the first fault
kept_read : (s s0 new : EndpointState) (all : List Arrival) (found : Option ℕ) → s0 ≡ record s { kept = [] } → all ≡ s.kept → ReadsFrom s0 all found new
    → (e : EndpointHistory) → StandsFor s e → Finds found new (read_all e.kept (unkept e))
kept_read s s0 new all found empty is reads e h =
    let from : ReadsFrom (record s { kept = [] }) s.kept found new = subst (λ k. ReadsFrom k s.kept found new) empty (subst (λ l. ReadsFrom s0 l found new) is reads) in
    subst (λ k. Finds found new (read_all k (unkept e))) h.kept (from (unkept e) (unkept_stands s e h) (still_open s e h))

-- or a part of it
kept_left : (s s0 new : EndpointState) (all : List Arrival) → s0 ≡ record s { kept = [] } → all ≡ s.kept → KeepsFrom s0 all new → (e : EndpointHistory) → StandsFor s e → KeepsRest (unkept e) e.kept new
kept_left s s0 new all empty is reads e h =
    let from : KeepsFrom (record s { kept = [] }) s.kept new = subst (λ k. KeepsFrom k s.kept new) empty (subst (λ l. KeepsFrom s0 l new) is reads) in
    subst (λ k. KeepsRest (unkept e) k new) h.kept (from (unkept e) (unkept_stands s e h) (still_open s e h))

pub reads_kept : {E : Type 0} (s s0 new : EndpointState) (all : List Arrival) (result : Result (Option ℕ) E) → s0 ≡ record s { kept = [] } → all ≡ s.kept → ReadsEvery s0 all result new
    → (e : EndpointHistory) → StandsFor s e → ReadsKept e result new
reads_kept s s0 new all (Ok found) empty is reads e h = kept_read s s0 new all found empty is reads e h
reads_kept s s0 new all (Err refused) empty is reads e h = kept_left s s0 new all empty is reads e h

-- or nothing
pub kept_same : (s : EndpointState) (e : EndpointHistory) → StandsFor s e → KeepsRest (unkept e) e.kept s
kept_same s e h = record {
  after = e;
  read = subst (λ f. ReadsPart (unkept e) e.kept f) (keeping_open (unkept e) e.kept h.reached.kept) Stops;
  stands = h;
}

-- what was read whole was read up to its end
reads_next : (a : Arrival) (rest : List Arrival) (e f : EndpointHistory) (found : Found) → read_arrival e a ≡ found → unless_faulty (read_all rest) found ≡ (f, None)
    → ((g : EndpointHistory) → read_all rest g ≡ (f, None) → ReadsPart g rest (record f { kept = [] })) → ReadsPart e (a ∷ rest) (record f { kept = [] })
reads_next a rest e f (g, Some code) one is go = let wrong : Some code ≡ None = ap (λ (x : Found). x.1) is in cc
reads_next a rest e f (g, None) one is go = Goes (ReadsWhole one) (go g is)

reads_whole : (arrivals : List Arrival) (e f : EndpointHistory) → read_all arrivals e ≡ (f, None) → ReadsPart e arrivals (record f { kept = [] })
reads_whole [] e f is = subst (λ (g : EndpointHistory). ReadsPart e [] (record g { kept = [] })) (ap (λ (x : Found). x.0) is) Stops
reads_whole (a ∷ rest) e f is = reads_next a rest e f (read_arrival e a) refl is (λ g h. reads_whole rest g f h)

-- With nothing kept, or where the answer is settled, the stream is pulled.
pulled_plainly : (kept : List Arrival) (e : EndpointHistory) (id : ℕ) → e.closed ≡ None → kept ≡ [] ⊎ settles e id ≡ true → pulls_behind kept e id ≡ pull_at e id (kind_of e.side id)
pulled_plainly [] e id open_still h = ap (λ c. pull_unless c e (pull_at e id (kind_of e.side id))) open_still
pulled_plainly (k ∷ kept) e id open_still (inl h) = cc
pulled_plainly (k ∷ kept) e id open_still (inr h) =
    let found = read_all (k ∷ kept) (unkept e) in
    ap (λ c. pull_unless c e (if settles e id then pull_at e id (kind_of e.side id) else pulled_after found id)) open_still
    ∙ ap (λ b. if b then pull_at e id (kind_of e.side id) else pulled_after found id) h

-- behind what is kept
pulled_behind : (kept : List Arrival) (e : EndpointHistory) (id : ℕ) → e.closed ≡ None → kept ≢ [] → settles e id ≡ false → pulls_behind kept e id ≡ pulled_after (read_all kept (unkept e)) id
pulled_behind [] e id open_still some h = absurd (some refl)
pulled_behind (k ∷ kept) e id open_still some h =
    let found = read_all (k ∷ kept) (unkept e) in
    ap (λ c. pull_unless c e (if settles e id then pull_at e id (kind_of e.side id) else pulled_after found id)) open_still
    ∙ ap (λ b. if b then pull_at e id (kind_of e.side id) else pulled_after found id) h

closed_pull : (kept : List Arrival) (e : EndpointHistory) (id code : ℕ) → e.closed ≡ Some code → pulls_behind kept e id ≡ (answer.Fault (fault.Connection code), e)
closed_pull [] e id code h = ap (λ c. pull_unless c e (pull_at e id (kind_of e.side id))) h
closed_pull (k ∷ kept) e id code h =
    ap (λ c. pull_unless c e (if settles e id then pull_at e id (kind_of e.side id) else pulled_after (read_all (k ∷ kept) (unkept e)) id)) h

-- The connection was closed.
pub pull_closed : (s : EndpointState) (id code : ℕ) → s.closed ≡ Some code → PullsNext s s id (answer.Fault (fault.Connection code))
pull_closed s id code is = record {
  done = λ e h memory. rw (closed_pull e.kept e id code (sym h.closed ∙ is)) (refl, h);
  memory = λ e h memory. cc;
  settled = λ e h memory. cc;
}

-- With nothing kept.
nothing_lost : (e : EndpointHistory) (id : ℕ) (new : EndpointState) → e.kept ≡ [] → StandsAsked new e id → LosesNothing e id new
nothing_lost e id new none asked = record {
  after = e;
  read = subst (λ k. ReadsPart (unkept e) k e) (sym none) (subst (λ k. ReadsPart (unkept e) [] (record e { kept = k })) (sym none) Stops);
  stands = inr (none, asked);
}

pub pull_alone : (s new : EndpointState) (id : ℕ) (a : Pull) → s.closed ≡ None → s.kept ≡ [] → PullsItem s new id a → PullsNext s new id a
pull_alone s new id a open_still none item = record {
  done = λ e h memory. rw (pulled_plainly e.kept e id (sym h.closed ∙ open_still) (inl (sym h.kept ∙ none))) (item.done e h memory);
  memory = λ e h memory. nothing_lost e id new (sym h.kept ∙ none) (item.memory e h memory);
  settled = λ e h memory. (sym h.closed ∙ open_still, item.settled e h memory);
}

-- Where the answer is settled.
pub pull_settled : (s new : EndpointState) (id : ℕ) (a : Pull) → s.closed ≡ None → ((e : EndpointHistory) → StandsFor s e → true ≡ settles e id) → PullsItem s new id a → PullsNext s new id a
pull_settled s new id a open_still is item = record {
  done = λ e h memory. rw (pulled_plainly e.kept e id (sym h.closed ∙ open_still) (inr (sym (is e h)))) (item.done e h memory);
  memory = λ e h memory. let wrong : true ≡ false = is e h ∙ item.settled e h memory in cc;
  settled = λ e h memory. (sym h.closed ∙ open_still, item.settled e h memory);
}

-- Once all that is kept was read.
pub pull_behind : (s mid new : EndpointState) (id : ℕ) (a : Pull) → s.closed ≡ None → s.kept ≢ [] → mid.kept ≡ [] → ((e : EndpointHistory) → StandsFor s e → false ≡ settles e id)
    → ((e : EndpointHistory) → StandsFor s e → Finds None mid (read_all e.kept (unkept e))) → PullsItem mid new id a → PullsNext s new id a
pull_behind s mid new id a open_still some none is reads item = record {
  done = λ e h memory.
      let found : Found = read_all e.kept (unkept e) in
      let whole : read_all e.kept (unkept e) ≡ (found.0, None) = found_none mid None found (reads e h) in
      rw (pulled_behind e.kept e id (sym h.closed ∙ open_still) (λ k. some (h.kept ∙ k)) (sym (is e h)) ∙ ap (λ x. pulled_after x id) whole)
      (item.done found.0 (finds_by mid None found (reads e h)) memory);
  memory = λ e h memory.
      let found : Found = read_all e.kept (unkept e) in
      let whole : read_all e.kept (unkept e) ≡ (found.0, None) = found_none mid None found (reads e h) in
      let stands : StandsFor mid found.0 = finds_by mid None found (reads e h) in
      let empty : found.0.kept ≡ [] = sym stands.kept ∙ none in
      record {
        after = found.0;
        read = subst (λ k. ReadsPart (unkept e) e.kept (record found.0 { kept = k })) (sym empty) (reads_whole e.kept (unkept e) found.0 whole);
        stands = inr (empty, item.memory found.0 stands memory);
      };
  settled = λ e h memory. (sym h.closed ∙ open_still, sym (is e h));
}

-- A fault was found in what is kept.
pub pull_faulty : (s mid : EndpointState) (id code : ℕ) → s.closed ≡ None → s.kept ≢ [] → ((e : EndpointHistory) → StandsFor s e → false ≡ settles e id)
    → ((e : EndpointHistory) → StandsFor s e → Finds (Some code) mid (read_all e.kept (unkept e))) → PullsNext s (record mid { closed = Some code }) id (answer.Fault (fault.Connection code))
pull_faulty s mid id code open_still some is reads = record {
  done = λ e h memory.
      let found : Found = read_all e.kept (unkept e) in
      rw (pulled_behind e.kept e id (sym h.closed ∙ open_still) (λ k. some (h.kept ∙ k)) (sym (is e h)) ∙ ap (λ x. pulled_after x id) (found_none mid (Some code) found (reads e h)))
      (refl, stands_closed mid found.0 code (finds_by mid (Some code) found (reads e h)));
  memory = λ e h memory. cc;
  settled = λ e h memory. cc;
}

-- Memory was refused in reading it.
pub pull_lacked : (s mid : EndpointState) (id : ℕ) → s.closed ≡ None → ((e : EndpointHistory) → StandsFor s e → false ≡ settles e id) → ((e : EndpointHistory) → StandsFor s e → KeepsRest (unkept e) e.kept mid)
    → PullsNext s mid id (answer.Fault fault.Memory)
pull_lacked s mid id open_still is keeps = record {
  done = λ e h memory. cc;
  memory = λ e h memory. let rest : KeepsRest (unkept e) e.kept mid = keeps e h in record { after = rest.after; read = rest.read; stands = inl rest.stands };
  settled = λ e h memory. (sym h.closed ∙ open_still, sym (is e h));
}
