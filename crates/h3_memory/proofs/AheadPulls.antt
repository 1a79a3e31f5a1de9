-- A pull of an endpoint that is ahead answers as that of the one behind, where all that was kept has been read.
use Rattle.std.proofs.Common.{◌≡◌, inr, ℕ, Bool, true, false, List, [], ◌∷◌, refl, sym, ap, ◌∙◌, subst, arith, if◌then◌else◌, Option, Some, None, nat_lt}
use Rattle.std.specs.Prelude.{◌==◌, ◌||◌, is_some}
use Rattle.std.proofs.lemmas.List.Sums.{sum_by-cons}
use Rattle.h3_qpack.specs.DecoderState.{DecoderState}
use Rattle.h3_proto.specs.declared.stream.Side.{Side}
use Rattle.h3_connection.specs.declared.arrival.Arrival.{Arrival}
use Rattle.h3_connection.specs.declared.setup.Announced.{Announced}
use Rattle.h3_connection.specs.declared.event.Pull.{Pull}
use Rattle.h3_connection.specs.declared.event.Pull.TheVariants as answer
use Rattle.h3_connection.specs.declared.event.Fault.TheVariants as fault
use Rattle.h3_connection.specs.Delivering.{with_incoming}
use Rattle.h3_connection.specs.Endpoint.{EndpointHistory, Kind, heads_waiting, kind_of, replied}
use Rattle.h3_connection.specs.Endpoint.Kind.{Request, ServerOpened, OwnUnidirectional, PeerUnidirectional}
use Rattle.h3_connection.specs.Incoming.{Incoming}
use Rattle.h3_connection.specs.Keeping.{is_settled_request, pulled_after, pulls, pulls_behind, read_all, settles, settles_at, unkept}
use Rattle.h3_connection.specs.PartReading.{Resumes}
use Rattle.h3_connection.specs.Pulling.{Pulled, pull_stream}
use Rattle.h3_connection.specs.Sending.{pull_at, pull_peer, pull_request, pull_unless, pulled, within_limit, if_too_many, after_answer}
use Rattle.h3_connection.specs.StreamSets.{Streams, stream_at, set_stream}
use Rattle.h3_connection.specs.Unidirectional.{Unidirectional}
use Rattle.h3_headline.specs.FlowLaws.{same_number}
use Rattle.h3_memory.specs.Kept.{Delivery}
use Rattle.h3_memory.specs.Keeping.{Held, ahead, EachResumes}

module _ (side : Side) (own : Announced) where
  pub resumes_itself : (id : ℕ) (i : Incoming) → Resumes side own id i i
  resumes_itself id i = record { same = refl; pulls = λ r pieces ended. refl; lists = λ r pieces ended. inr refl; next = λ between. (between, λ more. refl) }

  abbrev pub ResumesAt : ℕ → Option Incoming → Option Incoming → Type 0
  ResumesAt id None None = Unit {0}
  ResumesAt id (Some old) (Some new) = Resumes side own id old new
  ResumesAt id None (Some new) = ⊥
  ResumesAt id (Some old) None = ⊥

  -- of each stream
  pub at_resumed : (olds news : Streams Incoming) (id : ℕ) → EachResumes side own olds news → ResumesAt id (stream_at olds id) (stream_at news id)
  at_resumed [] [] id h = tt
  at_resumed [] (new ∷ news) id h = absurd h
  at_resumed (old ∷ olds) [] id h = absurd h
  at_resumed ((p, old) ∷ olds) ((q, new) ∷ news) id h =
      subst (λ n. ResumesAt id (if p == id then Some old else stream_at olds id) (if n == id then Some new else stream_at news id)) (sym h.0)
      (by_test (p == id) refl (at_resumed olds news id h.2))
    where
      by_test : (b : Bool) → (p == id) ≡ b → ResumesAt id (stream_at olds id) (stream_at news id)
          → ResumesAt id (if b then Some old else stream_at olds id) (if b then Some new else stream_at news id)
      by_test true e rest = subst (λ n. Resumes side own n old new) (same_number p id e) h.1
      by_test false e rest = rest

  pub set_resumed : (olds news : Streams Incoming) (id : ℕ) (i j : Incoming) → EachResumes side own olds news → Resumes side own id i j → EachResumes side own (set_stream olds id i) (set_stream news id j)
  set_resumed [] [] id i j h new = (refl, new, tt)
  set_resumed [] (other ∷ news) id i j h new = absurd h
  set_resumed (other ∷ olds) [] id i j h new = absurd h
  set_resumed ((p, old) ∷ olds) ((q, was) ∷ news) id i j h new =
      subst (λ n. EachResumes side own (if p == id then (id, i) ∷ olds else (p, old) ∷ set_stream olds id i) (if n == id then (id, j) ∷ news else (n, was) ∷ set_stream news id j)) (sym h.0)
      (by_test (p == id) (set_resumed olds news id i j h.2 new))
    where
      by_test : (b : Bool) → EachResumes side own (set_stream olds id i) (set_stream news id j)
          → EachResumes side own (if b then (id, i) ∷ olds else (p, old) ∷ set_stream olds id i) (if b then (id, j) ∷ news else (p, was) ∷ set_stream news id j)
      by_test true rest = (refl, new, h.2)
      by_test false rest = (refl, h.1, rest)

  -- as many streams wait
  abbrev waiting_of : DecoderState → Incoming → ℕ
  waiting_of r i = if nat_lt r.table.inserted i.waits_for then 1 else 0

  pub waits_same : (r : DecoderState) (olds news : Streams Incoming) → EachResumes side own olds news → heads_waiting r news ≡ heads_waiting r olds
  waits_same r [] [] h = refl
  waits_same r [] (new ∷ news) h = absurd h
  waits_same r (old ∷ olds) [] h = absurd h
  waits_same r ((p, old) ∷ olds) ((q, new) ∷ news) h =
      let one : waiting_of r new ≡ waiting_of r old = ap (waiting_of r) h.1.same in
      omega (
        arith,
        one,
        waits_same r olds news h.2,
        sum_by-cons (λ (s : ℕ × Incoming). waiting_of r s.1) (q, new) news,
        sum_by-cons (λ (s : ℕ × Incoming). waiting_of r s.1) (p, old) olds,
      )

-- **The answer is the same, and what is left stands ahead of what is left there.**
pub record PullsAhead (mine : List Delivery) (held : Held) (kept : List Arrival) (behind : EndpointHistory) (olds news : Streams Incoming) (x y : Pull × EndpointHistory) : Type 0 where
  pub incoming : Streams Incoming
  pub is : y ≡ (x.0, ahead x.1 mine held incoming kept)
  pub resumes : EachResumes behind.side behind.announced x.1.incoming incoming

pub pull_ahead : (mine : List Delivery) (held : Held) (kept : List Arrival) (behind : EndpointHistory) (news : Streams Incoming) (id : ℕ) → EachResumes behind.side behind.announced behind.incoming news
    → PullsAhead mine held kept behind behind.incoming news (pull_request behind id (stream_at behind.incoming id)) (pull_request (ahead behind mine held news kept) id (stream_at news id))
pull_ahead mine held kept behind news id h = by_stream (stream_at behind.incoming id) (stream_at news id) (at_resumed behind.side behind.announced behind.incoming news id h)
  where
    f : EndpointHistory
    f = ahead behind mine held news kept

    -- what a pull answers is written back alike
    back : (p : Pulled) → pulled f id p ≡ ((pulled behind id p).0, ahead (pulled behind id p).1 mine held (set_stream news id p.incoming) kept)
    back p = by_answer p.answer
      where
        e : EndpointHistory
        e = replied (with_incoming behind id p.incoming) p.replies

        g : EndpointHistory
        g = replied (with_incoming f id p.incoming) p.replies

        by_answer : (a : Pull) → after_answer a g ≡ ((after_answer a e).0, ahead (after_answer a e).1 mine held (set_stream news id p.incoming) kept)
        by_answer (answer.Item i) = refl
        by_answer answer.Pending = refl
        by_answer (answer.Waiting count) = refl
        by_answer (answer.Fault (fault.Connection code)) = refl
        by_answer (answer.Fault (fault.Stream why)) = refl
        by_answer (answer.Fault fault.Memory) = refl
        by_answer answer.NoMessages = refl

    left : (p : Pulled) → (pulled behind id p).1.incoming ≡ set_stream behind.incoming id p.incoming
    left p = by_answer p.answer
      where
        e : EndpointHistory
        e = replied (with_incoming behind id p.incoming) p.replies

        by_answer : (a : Pull) → (after_answer a e).1.incoming ≡ set_stream behind.incoming id p.incoming
        by_answer (answer.Item i) = refl
        by_answer answer.Pending = refl
        by_answer (answer.Waiting count) = refl
        by_answer (answer.Fault (fault.Connection code)) = refl
        by_answer (answer.Fault (fault.Stream why)) = refl
        by_answer (answer.Fault fault.Memory) = refl
        by_answer answer.NoMessages = refl

    by_stream : (o n : Option Incoming) → ResumesAt behind.side behind.announced id o n → PullsAhead mine held kept behind behind.incoming news (pull_request behind id o) (pull_request f id n)
    by_stream None None r = record { incoming = news; is = refl; resumes = h }
    by_stream None (Some new) r = absurd r
    by_stream (Some old) None r = absurd r
    by_stream (Some old) (Some new) r =
        let p : Pulled = pull_stream behind.side behind.announced id behind.decoding.decoder old in
        let same : pull_stream behind.side behind.announced id behind.decoding.decoder new ≡ p = sym (r.pulls behind.decoding.decoder [] false) in
        let q : Pulled = within_limit behind id p in
        let many : within_limit f id p ≡ q =
        ap (λ n. if_too_many (nat_lt behind.announced.limits.blocked n) p)
        (waits_same behind.side behind.announced behind.decoding.decoder (set_stream behind.incoming id p.incoming) (set_stream news id p.incoming)
        (set_resumed behind.side behind.announced behind.incoming news id p.incoming p.incoming h (resumes_itself behind.side behind.announced id p.incoming))) in
        record {
          incoming = set_stream news id q.incoming;
          is = ap (λ x. pulled f id (within_limit f id x)) same ∙ ap (pulled f id) many ∙ back q;
          resumes = subst (λ l. EachResumes behind.side behind.announced l (set_stream news id q.incoming)) (sym (left q))
              (set_resumed behind.side behind.announced behind.incoming news id q.incoming q.incoming h (resumes_itself behind.side behind.announced id q.incoming));
        }

-- on any stream
pub pull_at_ahead : (mine : List Delivery) (held : Held) (kept : List Arrival) (behind : EndpointHistory) (news : Streams Incoming) (id : ℕ) (kind : Kind) → EachResumes behind.side behind.announced behind.incoming news
    → PullsAhead mine held kept behind behind.incoming news (pull_at behind id kind) (pull_at (ahead behind mine held news kept) id kind)
pull_at_ahead mine held kept behind news id Request h = pull_ahead mine held kept behind news id h
pull_at_ahead mine held kept behind news id ServerOpened h = record { incoming = news; is = refl; resumes = h }
pull_at_ahead mine held kept behind news id OwnUnidirectional h = record { incoming = news; is = refl; resumes = h }
pull_at_ahead mine held kept behind news id PeerUnidirectional h = by_stream (stream_at behind.unidirectional id)
  where
    by_stream : (o : Option Unidirectional) → PullsAhead mine held kept behind behind.incoming news (pull_peer behind id o) (pull_peer (ahead behind mine held news kept) id o)
    by_stream None = record { incoming = news; is = refl; resumes = h }
    by_stream (Some o) = record { incoming = news; is = refl; resumes = h }

unless_ahead : (mine : List Delivery) (held : Held) (kept : List Arrival) (behind : EndpointHistory) (news : Streams Incoming) (id : ℕ) → EachResumes behind.side behind.announced behind.incoming news
    → PullsAhead mine held kept behind behind.incoming news (pull_unless behind.closed behind (pull_at behind id (kind_of behind.side id)))
    (pull_unless behind.closed (ahead behind mine held news kept) (pull_at (ahead behind mine held news kept) id (kind_of behind.side id)))
unless_ahead mine held kept behind news id h = by_closed behind.closed
  where
    by_closed : (c : Option ℕ) → PullsAhead mine held kept behind behind.incoming news (pull_unless c behind (pull_at behind id (kind_of behind.side id)))
        (pull_unless c (ahead behind mine held news kept) (pull_at (ahead behind mine held news kept) id (kind_of behind.side id)))
    by_closed (Some code) = record { incoming = news; is = refl; resumes = h }
    by_closed None = pull_at_ahead mine held kept behind news id (kind_of behind.side id) h

-- **What is pulled where nothing is kept any more.**
pub pulls_ahead : (mine : List Delivery) (held : Held) (behind : EndpointHistory) (news : Streams Incoming) (id : ℕ) → behind.kept ≡ [] → EachResumes behind.side behind.announced behind.incoming news
    → PullsAhead mine held [] behind behind.incoming news (pulls behind id) (pulls (ahead behind mine held news []) id)
pulls_ahead mine held behind news id none h =
    subst (λ l. PullsAhead mine held [] behind behind.incoming news (pulls_behind l behind id) (pulls (ahead behind mine held news []) id)) (sym none) (unless_ahead mine held [] behind news id h)

-- Its answer is settled where that of the one behind is.
pub settles_ahead : (mine : List Delivery) (held : Held) (kept : List Arrival) (behind : EndpointHistory) (news : Streams Incoming) (id : ℕ) → EachResumes behind.side behind.announced behind.incoming news
    → settles (ahead behind mine held news kept) id ≡ settles behind id
settles_ahead mine held kept behind news id h = by_kind (kind_of behind.side id)
  where
    by_stream : (o n : Option Incoming) → ResumesAt behind.side behind.announced id o n → is_settled_request n ≡ is_settled_request o
    by_stream None None r = refl
    by_stream None (Some new) r = absurd r
    by_stream (Some old) None r = absurd r
    by_stream (Some old) (Some new) r = ap (λ (x : Incoming). is_some x.fault || x.is_over) r.same

    by_kind : (kind : Kind) → settles_at (ahead behind mine held news kept) id kind ≡ settles_at behind id kind
    by_kind Request = by_stream (stream_at behind.incoming id) (stream_at news id) (at_resumed behind.side behind.announced behind.incoming news id h)
    by_kind ServerOpened = refl
    by_kind OwnUnidirectional = refl
    by_kind PeerUnidirectional = refl

-- **What is pulled where the answer is settled, and something is kept.**
pub settled_ahead : (mine : List Delivery) (held : Held) (kept : List Arrival) (behind : EndpointHistory) (news : Streams Incoming) (id : ℕ) → behind.kept ≡ [] → settles behind id ≡ true
    → EachResumes behind.side behind.announced behind.incoming news → PullsAhead mine held kept behind behind.incoming news (pulls behind id) (pulls (ahead behind mine held news kept) id)
settled_ahead mine held [] behind news id none settled h = pulls_ahead mine held behind news id none h
settled_ahead mine held (a ∷ kept) behind news id none settled h =
    let f = ahead behind mine held news (a ∷ kept) in
    subst (λ l. PullsAhead mine held (a ∷ kept) behind behind.incoming news (pulls_behind l behind id) (pulls f id)) (sym none)
    (subst (λ b. PullsAhead mine held (a ∷ kept) behind behind.incoming news (pull_unless behind.closed behind (pull_at behind id (kind_of behind.side id)))
    (pull_unless behind.closed f (if b then pull_at f id (kind_of behind.side id) else pulled_after (read_all (a ∷ kept) (unkept f)) id)))
    (sym (settles_ahead mine held (a ∷ kept) behind news id h ∙ settled)) (unless_ahead mine held (a ∷ kept) behind news id h))
