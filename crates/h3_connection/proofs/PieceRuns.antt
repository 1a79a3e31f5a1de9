-- Pulls that hand out pieces: those that hand out as many bytes hand out the same bytes, and leave what differs in cuts alone.
use Rattle.std.proofs.Common.{◌≡◌, ℕ, zero, suc, ◌+◌, ◌-◌, ◌<◌, ◌≤◌, List, [], ◌∷◌, ◌++◌, length, refl, ap, sym, ◌∙◌, subst, arith, inl, inr, append_assoc, append-nil, length-append, Option, Some}
use Rattle.std.specs.List.{concat}
use Rattle.std.proofs.lemmas.Bool.{cases_lt}
use Rattle.std.proofs.lemmas.List.{append_cancel_left, nil_from_length}
use Rattle.h3_qpack.specs.DecoderState.{DecoderState}
use Rattle.h3_proto.specs.declared.stream.Side.{Side}
use Rattle.h3_frames.specs.Pieces.{chunk_of, first_of}
use Rattle.h3_connection.specs.declared.setup.Announced.{Announced}
use Rattle.h3_connection.specs.Incoming.{Incoming}
use Rattle.h3_connection.specs.Pulling.{Pulled, body_of, raw_of, pull_stream}
use Rattle.h3_connection.specs.PullCuts.{piece_in, HaveBytes, DifferInCuts}
use Rattle.h3_connection.proofs.AlikeEnds.{cuts_sym}
use Rattle.h3_connection.proofs.AlikePulls.{not_none}
use Rattle.h3_connection.proofs.JoinedPulls.{whole_on, no_difference, raw_ends, pull_of_payload, pull_of_session, session_too}
use Rattle.h3_connection.proofs.PullCuts.{Payload, InASession, Pulls, Other, OfPayload, OfSession, chunk, two_fronts, in_chunk, payload_too, cut_pulls}

-- some bytes of what waits, and what is behind them
pub record InFront (more : List ℕ) (i j : Incoming) : Type 0 where
  pub bytes : concat j.unread ≡ more ++ concat i.unread
  pub first : HaveBytes i.unread
  pub second : HaveBytes j.unread

-- The second receiver still has to hand out these bytes to be where the first is.
pub data Behind (more : List ℕ) (i j : Incoming) : Type 0 where
  Level : more ≡ [] → DifferInCuts i j → Behind more i j
  InPayload : 0 < length more → Payload j → j.body_left ≡ length more + i.body_left → InFront more i j → i ≡ record j { unread = i.unread; body_left = i.body_left } → Behind more i j
  InSession : 0 < length more → InASession j → InFront more i j → i ≡ record j { unread = i.unread } → Behind more i j

-- a payload at another place
payload_at : (j : Incoming) (unread : List (List ℕ)) (left : ℕ) → Payload j → 0 < left → (j.body_left ≤ length (concat j.unread) → left ≤ length (concat unread)) → Payload (record j { unread = unread; body_left = left })
payload_at j unread left h some enough = record {
  no_fault = h.no_fault;
  not_over = h.not_over;
  message = h.message;
  no_section = h.no_section;
  some = some;
  within = h.within;
  whole = whole_on j.ended (length (concat j.unread)) j.body_left (length (concat unread)) left h.whole enough;
}

session_at : (j : Incoming) (unread : List (List ℕ)) → InASession j → InASession (record j { unread = unread })
session_at j unread h = record { no_fault = h.no_fault; not_over = h.not_over; session = h.session }

the_same : {X : Type 0} (o : Option X) (x y : X) → o ≡ Some x → o ≡ Some y → x ≡ y
the_same o x y e f = let same : Some x ≡ Some y = sym e ∙ f in cc

module _ (side : Side) (own : Announced) (id : ℕ) (r : DecoderState) where
  abbrev pub RunsOf : (Incoming → List ℕ → Incoming → Type 0) → Pulled → List ℕ → Incoming → Type 0
  RunsOf go p bytes j = (front : List ℕ) × (more : List ℕ) × (piece_in p.answer ≡ Some front) × (bytes ≡ front ++ more) × go p.incoming more j

  -- So many pulls hand out a piece each, these bytes in all, and leave this.
  abbrev pub Runs : ℕ → Incoming → List ℕ → Incoming → Type 0
  Runs zero i bytes j = (bytes ≡ []) × (j ≡ i)
  Runs (suc n) i bytes j = RunsOf (Runs n) (pull_stream side own id r i) bytes j

  -- one pull hands out a piece
  record Hands (j : Incoming) (front : List ℕ) (q : Incoming) : Type 0 where
    answer : piece_in (pull_stream side own id r j).answer ≡ Some front
    left : (pull_stream side own id r j).incoming ≡ q
    some : 0 < length front
    bytes : front ++ concat q.unread ≡ concat j.unread
    have : HaveBytes q.unread

  runs_on : (n : ℕ) (j q last : Incoming) (front bytes : List ℕ) → Hands j front q → Runs (suc n) j bytes last → (more : List ℕ) × (bytes ≡ front ++ more) × Runs n q more last
  runs_on n j q last front bytes h runs =
      let same : runs.0 ≡ front = the_same (piece_in (pull_stream side own id r j).answer) runs.0 front runs.2 h.answer in
      (runs.1, runs.3 ∙ ap (λ l. l ++ runs.1) same, subst (λ i. Runs n i runs.1 last) h.left runs.4)

  record HandsBody (j : Incoming) : Type 0 where
    front : List ℕ
    others : List (List ℕ)
    few : length front ≤ j.body_left
    hands : Hands j front (record j { unread = others; body_left = j.body_left - length front })

  payload_hands : (j : Incoming) → Payload j → HaveBytes j.unread → 0 < length (concat j.unread) → HandsBody j
  payload_hands j h have there = by_pieces j.unread refl
    where
      by_pieces : (pieces : List (List ℕ)) → j.unread ≡ pieces → HandsBody j
      by_pieces [] is = absurd (omega (arith, there, ap (λ l. length (concat l)) is))
      by_pieces (p ∷ t) is =
          let c = chunk j.body_left p t (subst HaveBytes is have) in
          let at : pull_stream side own id r j ≡ body_of j (Some c.front, c.others) =
          pull_of_payload side own id r j h ∙ in_chunk j h ∙ ap (body_of j) (ap (chunk_of j.body_left) is ∙ c.is) in
          record {
            front = c.front;
            others = c.others;
            few = c.few;
            hands = record {
              answer = ap (λ (x : Pulled). piece_in x.answer) at;
              left = ap (λ (x : Pulled). x.incoming) at;
              some = c.some h.some;
              bytes = c.bytes ∙ sym (ap concat is);
              have = c.have;
            };
          }

  record HandsRaw (j : Incoming) : Type 0 where
    front : List ℕ
    others : List (List ℕ)
    hands : Hands j front (record j { unread = others })

  session_hands : (j : Incoming) → InASession j → HaveBytes j.unread → 0 < length (concat j.unread) → HandsRaw j
  session_hands j h have there = by_pieces j.unread refl
    where
      by_pieces : (pieces : List (List ℕ)) → j.unread ≡ pieces → HandsRaw j
      by_pieces [] is = absurd (omega (arith, there, ap (λ l. length (concat l)) is))
      by_pieces (p ∷ t) is =
          let at : pull_stream side own id r j ≡ raw_of j (Some p, t) = pull_of_session side own id r j h ∙ ap (λ l. raw_of j (first_of l)) is in
          let full : HaveBytes (p ∷ t) = subst HaveBytes is have in
          record {
            front = p;
            others = t;
            hands = record {
              answer = ap (λ (x : Pulled). piece_in x.answer) at;
              left = ap (λ (x : Pulled). x.incoming) at;
              some = full.0;
              bytes = sym (ap concat is);
              have = full.1;
            };
          }

  abbrev Meets : ℕ → ℕ → Incoming → Incoming → List ℕ → Type 0
  Meets m n i j more =
      (x y : List ℕ) (first second : Incoming) → Runs m i x first → Runs n j y second → length more + length x ≡ length y → (more ++ x ≡ y) × DifferInCuts first second

  -- the second receiver goes on, and is still behind or in front
  step : (m n : ℕ) (i j q : Incoming) (more front : List ℕ) → Hands j front q → concat j.unread ≡ more ++ concat i.unread
      → ((rest : List ℕ) → more ≡ front ++ rest → Meets m n i q rest) → ((rest : List ℕ) → 0 < length rest → front ≡ more ++ rest → Meets n m q i rest) → Meets m (suc n) i j more
  step m n i j q more front h is after before x y first second runs later size =
      elim (two_fronts front more (concat q.unread) (concat i.unread) (h.bytes ∙ is)) [
        | inl f ↦ behind f.0 f.1
        | inr f ↦ elim (cases_lt 0 (length f.0)) [
          | inl some ↦
              let g = before f.0 some f.1 l.0 x second first l.2 runs (omega (arith, size, ap length f.1, length-append more f.0, ap length l.1, length-append front l.0)) in
              (ap (λ z. more ++ z) (sym g.0) ∙ sym (append_assoc more f.0 l.0) ∙ ap (λ z. z ++ l.0) (sym f.1) ∙ sym l.1, cuts_sym second first g.1)
          | inr none ↦
              let empty : f.0 ≡ [] = nil_from_length f.0 (omega (arith, none)) in
              behind [] (sym (f.1 ∙ ap (λ z. more ++ z) empty ∙ append-nil more) ∙ sym (append-nil front))
        ]
      ]
    where
      l : (rest : List ℕ) × (y ≡ front ++ rest) × Runs n q rest second
      l = runs_on n j q second front y h later

      behind : (rest : List ℕ) → more ≡ front ++ rest → (more ++ x ≡ y) × DifferInCuts first second
      behind rest e =
          let g = after rest e x l.0 first second runs l.2 (omega (arith, size, ap length e, length-append front rest, ap length l.1, length-append front l.0)) in
          (ap (λ z. z ++ x) e ∙ append_assoc front rest x ∙ ap (λ z. front ++ z) g.0 ∙ sym l.1, g.1)

  abbrev IsMet : ℕ → Type 0
  IsMet k = (m n : ℕ) (i j : Incoming) (more : List ℕ) → m + n ≤ k → Behind more i j → Meets m n i j more

  level_or : (rest : List ℕ) (P : Type 0) → (rest ≡ [] → P) → (0 < length rest → P) → P
  level_or rest P none some = elim (cases_lt 0 (length rest)) [
    | inl h ↦ some h
    | inr h ↦ none (nil_from_length rest (omega (arith, h)))
  ]

  step_payload : (k m n : ℕ) (i j : Incoming) (more : List ℕ) → IsMet k → m + n ≤ k → 0 < length more → Payload j → j.body_left ≡ length more + i.body_left → InFront more i j
      → i ≡ record j { unread = i.unread; body_left = i.body_left } → Meets m (suc n) i j more
  step_payload k m n i j more met few some h left f same = step m n i j q more c.front c.hands f.bytes after before
    where
      all : length (concat j.unread) ≡ length more + length (concat i.unread)
      all = ap length f.bytes ∙ length-append more (concat i.unread)

      c : HandsBody j
      c = payload_hands j h f.second (omega (arith, all, some))

      q : Incoming
      q = record j { unread = c.others; body_left = j.body_left - length c.front }

      both : length (concat j.unread) ≡ length c.front + length (concat c.others)
      both = ap length (sym c.hands.bytes) ∙ length-append c.front (concat c.others)

      after : (rest : List ℕ) → more ≡ c.front ++ rest → Meets m n i q rest
      after rest e = met m n i q rest few (level_or rest (Behind rest i q)
          (λ none. Level none (record {
            bytes = behind rest e ∙ ap (λ l. l ++ concat i.unread) none;
            same = ap (λ b. let z : Incoming = record j { unread = c.others; body_left = b } in z) (omega (arith, left, size, ap length none)) ∙ sym (ap (λ (z : Incoming). let y : Incoming = record z { unread = c.others } in y) same);
            first = f.first;
            second = c.hands.have;
          }))
          (λ further. InPayload further (payload_at j c.others (j.body_left - length c.front) h (omega (arith, left, size, further)) (λ enough. omega (arith, enough, both))) (omega (arith, left, size))
          (record { bytes = behind rest e; first = f.first; second = c.hands.have }) same))
        where
          size : length more ≡ length c.front + length rest
          size = ap length e ∙ length-append c.front rest

          behind : (rest : List ℕ) → more ≡ c.front ++ rest → concat c.others ≡ rest ++ concat i.unread
          behind rest e = append_cancel_left c.front (concat c.others) (rest ++ concat i.unread) (c.hands.bytes ∙ f.bytes ∙ ap (λ l. l ++ concat i.unread) e ∙ append_assoc c.front rest (concat i.unread))

      before : (rest : List ℕ) → 0 < length rest → c.front ≡ more ++ rest → Meets n m q i rest
      before rest further e = met n m q i rest (omega (arith, few)) (InPayload further at (omega (arith, left, size, c.few))
          (record {
            bytes = append_cancel_left more (concat i.unread) (rest ++ concat c.others) (sym f.bytes ∙ sym c.hands.bytes ∙ ap (λ l. l ++ concat c.others) e ∙ append_assoc more rest (concat c.others));
            first = c.hands.have;
            second = f.first;
          })
          (sym (ap (λ (z : Incoming). let y : Incoming = record z { unread = c.others; body_left = j.body_left - length c.front } in y) same)))
        where
          size : length c.front ≡ length more + length rest
          size = ap length e ∙ length-append more rest

          at : Payload i
          at = subst Payload (sym same) (payload_at j i.unread i.body_left h (omega (arith, left, size, c.few, further)) (λ enough. omega (arith, enough, all, left)))

  step_session : (k m n : ℕ) (i j : Incoming) (more : List ℕ) → IsMet k → m + n ≤ k → 0 < length more → InASession j → InFront more i j → i ≡ record j { unread = i.unread } → Meets m (suc n) i j more
  step_session k m n i j more met few some h f same = step m n i j q more c.front c.hands f.bytes after before
    where
      c : HandsRaw j
      c = session_hands j h f.second (omega (arith, some, ap length f.bytes, length-append more (concat i.unread)))

      q : Incoming
      q = record j { unread = c.others }

      behind : (rest : List ℕ) → more ≡ c.front ++ rest → concat c.others ≡ rest ++ concat i.unread
      behind rest e = append_cancel_left c.front (concat c.others) (rest ++ concat i.unread) (c.hands.bytes ∙ f.bytes ∙ ap (λ l. l ++ concat i.unread) e ∙ append_assoc c.front rest (concat i.unread))

      after : (rest : List ℕ) → more ≡ c.front ++ rest → Meets m n i q rest
      after rest e = met m n i q rest few (level_or rest (Behind rest i q)
          (λ none. Level none (record {
            bytes = behind rest e ∙ ap (λ l. l ++ concat i.unread) none;
            same = sym (ap (λ (z : Incoming). let y : Incoming = record z { unread = c.others } in y) same);
            first = f.first;
            second = c.hands.have;
          }))
          (λ further. InSession further (session_at j c.others h) (record { bytes = behind rest e; first = f.first; second = c.hands.have }) same))

      before : (rest : List ℕ) → 0 < length rest → c.front ≡ more ++ rest → Meets n m q i rest
      before rest further e = met n m q i rest (omega (arith, few)) (InSession further (subst InASession (sym same) (session_at j i.unread h))
          (record {
            bytes = append_cancel_left more (concat i.unread) (rest ++ concat c.others) (sym f.bytes ∙ sym c.hands.bytes ∙ ap (λ l. l ++ concat c.others) e ∙ append_assoc more rest (concat c.others));
            first = c.hands.have;
            second = f.first;
          })
          (sym (ap (λ (z : Incoming). let y : Incoming = record z { unread = c.others } in y) same)))

  -- a session that hands out a piece has bytes
  raw_some : {bytes : List ℕ} (i : Incoming) → InASession i → HaveBytes i.unread → piece_in (pull_stream side own id r i).answer ≡ Some bytes → 0 < length (concat i.unread)
  raw_some {bytes} i h have is = by_pieces i.unread refl have
    where
      by_pieces : (pieces : List (List ℕ)) → i.unread ≡ pieces → HaveBytes pieces → 0 < length (concat i.unread)
      by_pieces [] e full =
          absurd (not_none (piece_in (pull_stream side own id r i).answer) bytes (ap (λ (p : Pulled). piece_in p.answer) (pull_of_session side own id r i h ∙ ap (λ l. raw_of i (first_of l)) e) ∙ raw_ends i.ended i) is)
      by_pieces (p ∷ t) e full = omega (arith, full.0, ap (λ l. length (concat l)) e, length-append p (concat t))

  -- what one pull does, the others are as before
  pulled_as : (n : ℕ) (i j : Incoming) (bytes : List ℕ) (last : Incoming) → pull_stream side own id r i ≡ pull_stream side own id r j → Runs (suc n) i bytes last → Runs (suc n) j bytes last
  pulled_as n i j bytes last e runs = subst (λ p. RunsOf (Runs n) p bytes last) e runs

  -- a piece has a byte or more
  runs_some : (n : ℕ) (j : Incoming) (bytes : List ℕ) (last : Incoming) → HaveBytes j.unread → Runs (suc n) j bytes last → 0 < length bytes
  runs_some n j bytes last have runs = by_pull (cut_pulls side own id r j j (no_difference j have))
    where
      counted : (i : Incoming) (front : List ℕ) (q : Incoming) → Hands i front q → Runs (suc n) i bytes last → 0 < length bytes
      counted i front q h there = let l = runs_on n i q last front bytes h there in omega (arith, h.some, ap length l.1, length-append front l.0)

      by_pull : {size : ℕ} → Pulls size (pull_stream side own id r j) (pull_stream side own id r j) → 0 < length bytes
      by_pull (Other none same replies d) = absurd (not_none (piece_in (pull_stream side own id r j).answer) runs.0 none runs.2)
      by_pull (OfPayload i k h d some few e f) =
          let c = payload_hands i h d.first some in
          counted i c.front _ c.hands (pulled_as n j i bytes last (e ∙ sym (pull_of_payload side own id r i h)) runs)
      by_pull (OfSession i k h d few e f) =
          let is : pull_stream side own id r j ≡ pull_stream side own id r i = e ∙ sym (pull_of_session side own id r i h) in
          let c = session_hands i h d.first (raw_some i h d.first (ap (λ (p : Pulled). piece_in p.answer) (sym is) ∙ runs.2)) in
          counted i c.front _ c.hands (pulled_as n j i bytes last is runs)

  step_level : (k m n : ℕ) (i j : Incoming) → IsMet k → m + suc n ≤ k → DifferInCuts i j → (x y : List ℕ) (first second : Incoming) → Runs (suc m) i x first → Runs (suc n) j y second → length x ≡ length y → (x ≡ y) × DifferInCuts first second
  step_level k m n i j met few d x y first second runs later size = by_pulls (cut_pulls side own id r i j d)
    where
      by_pulls : {most : ℕ} → Pulls most (pull_stream side own id r i) (pull_stream side own id r j) → (x ≡ y) × DifferInCuts first second
      by_pulls (Other none same replies g) = absurd (not_none (piece_in (pull_stream side own id r i).answer) runs.0 none runs.2)
      by_pulls (OfPayload a b h g some less e f) =
          let c = payload_hands a h g.first some in
          let too = payload_too a b g h in
          let left : b.body_left ≡ a.body_left = ap (λ (z : Incoming). z.body_left) g.same in
          let q : Incoming = record a { unread = c.others; body_left = a.body_left - length c.front } in
          let l = runs_on m a q first c.front x c.hands (pulled_as m i a x first (e ∙ sym (pull_of_payload side own id r a h)) runs) in
          let there = pulled_as n j b y second (f ∙ sym (pull_of_payload side own id r b too)) later in
          let ahead : Behind c.front q b = InPayload c.hands.some too (omega (arith, left, c.few)) (record { bytes = g.bytes ∙ sym c.hands.bytes; first = c.hands.have; second = g.second })
          (sym (ap (λ (z : Incoming). let w : Incoming = record z { unread = c.others; body_left = a.body_left - length c.front } in w) g.same)) in
          let m' = met m (suc n) q b c.front few ahead l.0 y first second l.2 there (omega (arith, size, ap length l.1, length-append c.front l.0)) in
          (l.1 ∙ m'.0, m'.1)
      by_pulls (OfSession a b h g less e f) =
          let is : pull_stream side own id r i ≡ pull_stream side own id r a = e ∙ sym (pull_of_session side own id r a h) in
          let c = session_hands a h g.first (raw_some a h g.first (ap (λ (p : Pulled). piece_in p.answer) (sym is) ∙ runs.2)) in
          let too = session_too side own id r a b g h in
          let q : Incoming = record a { unread = c.others } in
          let l = runs_on m a q first c.front x c.hands (pulled_as m i a x first is runs) in
          let there = pulled_as n j b y second (f ∙ sym (pull_of_session side own id r b too)) later in
          let ahead : Behind c.front q b = InSession c.hands.some too (record { bytes = g.bytes ∙ sym c.hands.bytes; first = c.hands.have; second = g.second })
          (sym (ap (λ (z : Incoming). let w : Incoming = record z { unread = c.others } in w) g.same)) in
          let m' = met m (suc n) q b c.front few ahead l.0 y first second l.2 there (omega (arith, size, ap length l.1, length-append c.front l.0)) in
          (l.1 ∙ m'.0, m'.1)

  -- no pulls
  at_once : (i j : Incoming) (more : List ℕ) → more ≡ [] → DifferInCuts i j → Meets 0 0 i j more
  at_once i j more none d x y first second runs later size =
      (ap (λ l. l ++ x) none ∙ runs.0 ∙ sym later.0, subst (λ z. DifferInCuts first z) (sym later.1) (subst (λ z. DifferInCuts z j) (sym runs.1) d))

  met_level : (k m n : ℕ) (i j : Incoming) (more : List ℕ) → IsMet k → m + n ≤ suc k → more ≡ [] → DifferInCuts i j → Meets m n i j more
  met_level k zero zero i j more met few none d x y first second runs later size = at_once i j more none d x y first second runs later size
  met_level k zero (suc n) i j more met few none d x y first second runs later size =
      absurd (omega (arith, runs_some n j y second d.second later, size, ap length none, ap length runs.0))
  met_level k (suc m) zero i j more met few none d x y first second runs later size =
      absurd (omega (arith, runs_some m i x first d.first runs, size, ap length later.0))
  met_level k (suc m) (suc n) i j more met few none d x y first second runs later size =
      let g = step_level k m n i j met (omega (arith, few)) d x y first second runs later (omega (arith, size, ap length none)) in
      (ap (λ l. l ++ x) none ∙ g.0, g.1)

  met_behind : (k m n : ℕ) (i j : Incoming) (more : List ℕ) → IsMet k → m + n ≤ suc k → Behind more i j → Meets m n i j more
  met_behind k m n i j more met few (Level none d) = met_level k m n i j more met few none d
  met_behind k m zero i j more met few (InPayload some h left f same) = λ x y first second runs later size. absurd (omega (arith, some, size, ap length later.0))
  met_behind k m (suc n) i j more met few (InPayload some h left f same) = step_payload k m n i j more met (omega (arith, few)) some h left f same
  met_behind k m zero i j more met few (InSession some h f same) = λ x y first second runs later size. absurd (omega (arith, some, size, ap length later.0))
  met_behind k m (suc n) i j more met few (InSession some h f same) = step_session k m n i j more met (omega (arith, few)) some h f same

  none_met : (m n : ℕ) (i j : Incoming) (more : List ℕ) → m ≤ 0 → n ≤ 0 → Behind more i j → Meets m n i j more
  none_met (suc m) n i j more few less b = absurd (omega (arith, few))
  none_met zero (suc n) i j more few less b = absurd (omega (arith, less))
  none_met zero zero i j more few less (Level none d) = at_once i j more none d
  none_met zero zero i j more few less (InPayload some h left f same) = λ x y first second runs later size. absurd (omega (arith, some, size, ap length later.0))
  none_met zero zero i j more few less (InSession some h f same) = λ x y first second runs later size. absurd (omega (arith, some, size, ap length later.0))

  met_within : (k : ℕ) → IsMet k
  met_within zero m n i j more few b = none_met m n i j more (omega (arith, few)) (omega (arith, few)) b
  met_within (suc k) m n i j more few b = met_behind k m n i j more (met_within k) few b

  -- As many bytes in pieces are the same bytes.
  pub runs_meet : (m n : ℕ) (i j : Incoming) → DifferInCuts i j → (x y : List ℕ) (first second : Incoming) → Runs m i x first → Runs n j y second → length x ≡ length y → (x ≡ y) × DifferInCuts first second
  runs_meet m n i j d x y first second runs later size = met_within (m + n) m n i j [] (omega arith) (Level refl d) x y first second runs later (omega (arith, size))
