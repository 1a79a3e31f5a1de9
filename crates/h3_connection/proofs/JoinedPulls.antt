-- However what waits was cut, pulls hand out the same bytes in all, and the same behind them.
use Rattle.std.proofs.Common.{◌≡◌, ℕ, zero, suc, ◌+◌, ◌-◌, ◌<◌, ◌≤◌, Bool, true, false, List, [], ◌∷◌, ◌++◌, length, take, drop, refl, ap, sym, ◌∙◌, subst, arith, inl, inr, append_assoc, length-append, take_all}
use Rattle.std.specs.Prelude.{Some, None, if◌then◌else◌, nat_lt, ◌&&◌}
use Rattle.std.specs.List.{concat}
use Rattle.std.proofs.lemmas.Bool.{cases_lt, lt-ltb, le-ltb}
use Rattle.std.proofs.lemmas.List.{length-drop, length-take, take-append-le, nil_from_length}
use Rattle.std.proofs.Math.Seq.{take-append-add}
use Rattle.h3_qpack.specs.DecoderState.{DecoderState}
use Rattle.h3_proto.specs.declared.stream.Side.{Side}
use Rattle.h3_frames.specs.Pieces.{chunk_of, without}
use Rattle.h3_frames.specs.PieceLaws.{concat-without, without-none}
use Rattle.h3_connection.specs.declared.setup.Announced.{Announced}
use Rattle.h3_connection.specs.declared.event.Item.TheVariants as item
use Rattle.h3_connection.specs.declared.event.Malformation.TheVariants as malformation
use Rattle.h3_connection.specs.declared.event.Pull.TheVariants as pull
use Rattle.h3_connection.specs.Incoming.{Incoming}
use Rattle.h3_connection.specs.Pulling.{Pulled, just, malformed, in_payload, at_payload, body_of, raw, between_frames, in_message, next_item, pull_stream}
use Rattle.h3_connection.specs.PullCuts.{piece_in, HaveBytes, DifferInCuts}
use Rattle.h3_connection.specs.JoinedPulls.{Joined, behind, join_piece, joined_within, joined_pulls, JoinedAlike}
use Rattle.h3_connection.proofs.UnknownFrames.{by_place, pull_next}
use Rattle.h3_connection.proofs.PullCuts.{Payload, InASession, Pulls, Other, OfPayload, OfSession, passed_within, passed_whole, chunk_cut, chunk_whole, in_chunk, payload_too, have_without, cut_pulls}

-- the bytes of a payload that came are handed out
abbrev past : Incoming → Incoming
past i = record i { unread = without i.body_left i.unread; body_left = i.body_left - length (concat i.unread) }

past_differ : (i j : Incoming) → DifferInCuts i j → DifferInCuts (past i) (past j)
past_differ i j d = subst (λ x. DifferInCuts (past i) (past x)) (sym d.same) (record {
  bytes = concat-without i.body_left j.unread ∙ ap (drop i.body_left) d.bytes ∙ sym (concat-without i.body_left i.unread);
  same = ap (λ (l : List ℕ). let x : Incoming = record i { unread = without i.body_left j.unread; body_left = i.body_left - length l } in x) d.bytes;
  first = have_without i.body_left i.unread d.first;
  second = have_without i.body_left j.unread d.second;
})

behind_alike : (x y : List ℕ) (a b : Joined) → x ≡ y → JoinedAlike a b → JoinedAlike (behind x a) (behind y b)
behind_alike x y a b same h = record { bytes = ap (λ l. l ++ a.bytes) same ∙ ap (λ l. y ++ l) h.bytes; ends = h.ends; answer = h.answer; replies = h.replies; left = h.left }

joined_as : (x y a b : Joined) → x ≡ a → y ≡ b → JoinedAlike a b → JoinedAlike x y
joined_as x y a b e f h = subst (λ z. JoinedAlike z y) (sym e) (subst (λ z. JoinedAlike a z) (sym f) h)

take_none : (n : ℕ) → take {A = ℕ} n [] ≡ []
take_none n = let none : List ℕ = [] in nil_from_length (take n none) (omega (arith, length-take n none))

-- a front that goes past its first part
past_first : (n : ℕ) (xs ys : List ℕ) → length xs ≤ n → take n (xs ++ ys) ≡ xs ++ take (n - length xs) ys
past_first n xs ys h =
    let sum : n ≡ length xs + (n - length xs) = omega arith in
    ap (λ m. take m (xs ++ ys)) sum ∙ take-append-add xs ys (n - length xs)

behind_behind : (x y : List ℕ) (a : Joined) → behind x (behind y a) ≡ behind (x ++ y) a
behind_behind x y a = ap (λ l. let j : Joined = record { bytes = l; last = a.last } in j) (sym (append_assoc x y a.bytes))

-- a payload that is whole is so behind some of its bytes
enough : (x k : ℕ) → nat_lt x k ≡ false → k ≤ x
enough x k is = elim (cases_lt x k) [
  | inl less ↦ let wrong : true ≡ false = sym (lt-ltb x k less) ∙ is in absurd (cc)
  | inr h ↦ h
]

pub whole_on : (b : Bool) (x k y l : ℕ) → (b && nat_lt x k) ≡ false → (k ≤ x → l ≤ y) → (b && nat_lt y l) ≡ false
whole_on false x k y l is h = refl
whole_on true x k y l is h = le-ltb y l (h (enough x k is))

payload_on : (i : Incoming) (p : List ℕ) (t : List (List ℕ)) → Payload (record i { unread = p ∷ t }) → 0 < i.body_left - length p → Payload (record i { unread = t; body_left = i.body_left - length p })
payload_on i p t h some = record {
  no_fault = h.no_fault;
  not_over = h.not_over;
  message = h.message;
  no_section = h.no_section;
  some = some;
  within = h.within;
  whole = whole_on i.ended (length (p ++ concat t)) i.body_left (length (concat t)) (i.body_left - length p) h.whole (λ e. omega (arith, e, length-append p (concat t)));
}

pub raw_ends : (b : Bool) (i : Incoming) → piece_in (if b then just (pull.Item item.End) (record i { is_over = true }) else just pull.Pending i).answer ≡ None
raw_ends true i = refl
raw_ends false i = refl

raw_left : (b : Bool) (i : Incoming) → i.unread ≡ [] → (if b then just (pull.Item item.End) (record i { is_over = true }) else just pull.Pending i).incoming.unread ≡ []
raw_left true i e = e
raw_left false i e = e

pub no_difference : (i : Incoming) → HaveBytes i.unread → DifferInCuts i i
no_difference i h = record { bytes = refl; same = refl; first = h; second = h }

abbrev at_pieces : Incoming → List (List ℕ) → Incoming
at_pieces i t = record i { unread = t }

module _ (side : Side) (own : Announced) (id : ℕ) (r : DecoderState) where
  pub pull_of_payload : (i : Incoming) → Payload i → pull_stream side own id r i ≡ in_payload i
  pull_of_payload i h =
      pull_next side own id r i h.no_fault h.not_over ∙ by_place side own id r i i.place h.message ∙ ap (in_message side own id r i) h.no_section
      ∙ ap (λ b. if b then at_payload id i else between_frames side own id r i) (lt-ltb 0 i.body_left h.some)
      ∙ ap (λ b. if b then malformed id malformation.ContentLength i [] else in_payload i) h.within

  pub pull_of_session : (i : Incoming) → InASession i → pull_stream side own id r i ≡ raw i
  pull_of_session i h = pull_next side own id r i h.no_fault h.not_over ∙ ap (next_item side own id r i) h.session

  joins_alike : (m : ℕ) (i j : Incoming) → pull_stream side own id r i ≡ pull_stream side own id r j → joined_within side own id r m i ≡ joined_within side own id r m j
  joins_alike zero i j e = ap (λ p. let x : Joined = record { bytes = []; last = p } in x) e
  joins_alike (suc m) i j e = ap (λ (p : Pulled). join_piece side own id r (joined_within side own id r m) p (piece_in p.answer)) e

  no_piece : (m : ℕ) (i : Incoming) → piece_in (pull_stream side own id r i).answer ≡ None → joined_within side own id r m i ≡ record { bytes = []; last = pull_stream side own id r i }
  no_piece zero i e = refl
  no_piece (suc m) i e = ap (join_piece side own id r (joined_within side own id r m) (pull_stream side own id r i)) e

  a_piece : (m : ℕ) (i next : Incoming) (bytes : List ℕ) (p : Pulled) → pull_stream side own id r i ≡ p → piece_in p.answer ≡ Some bytes → p.incoming ≡ next
      → joined_within side own id r (suc m) i ≡ behind bytes (joined_within side own id r m next)
  a_piece m i next bytes p e is there =
      ap (λ (x : Pulled). join_piece side own id r (joined_within side own id r m) x (piece_in x.answer)) e
      ∙ ap (join_piece side own id r (joined_within side own id r m) p) is ∙ ap (λ x. behind bytes (joined_within side own id r m x)) there

  -- A payload: its bytes that came are handed out, and what goes on has enough steps.
  record Ends (m : ℕ) (i : Incoming) : Type 0 where
    steps : ℕ
    enough_steps : length (concat (past i).unread) ≤ steps
    is : joined_within side own id r m i ≡ behind (take i.body_left (concat i.unread)) (joined_within side own id r steps (past i))

  payload_ends : (m : ℕ) (t : List (List ℕ)) (i : Incoming) → Payload (at_pieces i t) → HaveBytes t → length (concat t) ≤ m → Ends m (at_pieces i t)
  payload_ends m [] i h have few =
      let k = i.body_left in
      let none : k - 0 ≡ k = omega arith in
      let same : past (at_pieces i []) ≡ at_pieces i [] = ap (λ n. let x : Incoming = record i { unread = []; body_left = n } in x) none in
      record {
        steps = m;
        enough_steps = few;
        is = sym (ap (λ l. behind l (joined_within side own id r m (past (at_pieces i [])))) (take_none k) ∙ ap (joined_within side own id r m) same);
      }
  payload_ends zero (p ∷ t) i h have few = absurd (omega (arith, few, have.0, length-append p (concat t)))
  payload_ends (suc m) (p ∷ t) i h have few = elim (cases_lt i.body_left (length p)) [
    | inl more ↦ cut_inside more
    | inr all ↦ elim (cases_lt 0 (i.body_left - length p)) [
      | inl some ↦ goes_on all (payload_ends m t (record i { body_left = i.body_left - length p }) (payload_on i p t h some) have.1 (omega (arith, few, length-append p (concat t), have.0)))
      | inr none ↦ ends_here all none
    ]
  ]
    where
      k : ℕ
      k = i.body_left

      j : Incoming
      j = at_pieces i (p ∷ t)

      there : pull_stream side own id r j ≡ body_of j (chunk_of k (p ∷ t))
      there = pull_of_payload j h ∙ in_chunk j h

      size : length (p ++ concat t) ≡ length p + length (concat t)
      size = length-append p (concat t)

      cut_inside : k < length p → Ends (suc m) j
      cut_inside more =
          let next : Incoming = record i { unread = drop k p ∷ t; body_left = 0 } in
          let c : chunk_of k (p ∷ t) ≡ (Some (take k p), drop k p ∷ t) = chunk_cut k p t more in
          let taken : k - length (take k p) ≡ 0 = omega (arith, length-take k p, more) in
          let left : k - length (p ++ concat t) ≡ 0 = omega (arith, size, more) in
          let same : past j ≡ next =
          ap (λ u. let x : Incoming = record i { unread = u; body_left = k - length (p ++ concat t) } in x) (passed_within k p t h.some more)
          ∙ ap (λ n. let x : Incoming = record i { unread = drop k p ∷ t; body_left = n } in x) left in
          let fewer : length (drop k p ++ concat t) ≤ m = omega (arith, few, size, length-append (drop k p) (concat t), length-drop k p, h.some, more) in
          record {
            steps = m;
            enough_steps = subst (λ (x : Incoming). length (concat x.unread) ≤ m) (sym same) fewer;
            is =
                a_piece m j next (take k p) _ (there ∙ ap (body_of j) c) refl (ap (λ n. let x : Incoming = record i { unread = drop k p ∷ t; body_left = n } in x) taken)
                ∙ ap (λ l. behind l (joined_within side own id r m next)) (sym (take-append-le k p (concat t) (omega (arith, more))))
                ∙ ap (λ x. behind (take k (p ++ concat t)) (joined_within side own id r m x)) (sym same);
          }

      next_is : length p ≤ k → joined_within side own id r (suc m) j ≡ behind p (joined_within side own id r m (record i { unread = t; body_left = k - length p }))
      next_is all = a_piece m j (record i { unread = t; body_left = k - length p }) p _ (there ∙ ap (body_of j) (chunk_whole k p t all)) refl refl

      ends_here : length p ≤ k → k - length p ≤ 0 → Ends (suc m) j
      ends_here all none =
          let next : Incoming = record i { unread = t; body_left = k - length p } in
          let nothing : k - length p ≡ 0 = omega (arith, none) in
          let left : k - length (p ++ concat t) ≡ k - length p = omega (arith, size, nothing) in
          let same : past j ≡ next =
          ap (λ u. let x : Incoming = record i { unread = u; body_left = k - length (p ++ concat t) } in x) (passed_whole k p t h.some all ∙ ap (λ n. without n t) nothing ∙ without-none t)
          ∙ ap (λ n. let x : Incoming = record i { unread = t; body_left = n } in x) left in
          let bytes : take k (p ++ concat t) ≡ p = take-append-le k p (concat t) (omega (arith, nothing, all)) ∙ take_all k p (omega (arith, nothing, all)) in
          record {
            steps = m;
            enough_steps = subst (λ (x : Incoming). length (concat x.unread) ≤ m) (sym same) (omega (arith, few, size, have.0));
            is = next_is all ∙ ap (λ l. behind l (joined_within side own id r m next)) (sym bytes) ∙ ap (λ x. behind (take k (p ++ concat t)) (joined_within side own id r m x)) (sym same);
          }

      goes_on : length p ≤ k → Ends m (record i { unread = t; body_left = k - length p }) → Ends (suc m) j
      goes_on all later =
          let i' : Incoming = record i { body_left = k - length p } in
          let left : k - length (p ++ concat t) ≡ (k - length p) - length (concat t) = omega (arith, size) in
          let same : past j ≡ past (at_pieces i' t) =
          ap (λ u. let x : Incoming = record i { unread = u; body_left = k - length (p ++ concat t) } in x) (passed_whole k p t h.some all)
          ∙ ap (λ n. let x : Incoming = record i { unread = without (k - length p) t; body_left = n } in x) left in
          record {
            steps = later.steps;
            enough_steps = subst (λ (x : Incoming). length (concat x.unread) ≤ later.steps) (sym same) later.enough_steps;
            is =
                next_is all ∙ ap (behind p) later.is
                ∙ behind_behind p (take (k - length p) (concat t)) (joined_within side own id r later.steps (past (at_pieces i' t)))
                ∙ ap (λ l. behind l (joined_within side own id r later.steps (past (at_pieces i' t)))) (sym (past_first k p (concat t) all))
                ∙ ap (λ x. behind (take k (p ++ concat t)) (joined_within side own id r later.steps x)) (sym same);
          }

  -- a session: all that came is handed out
  session_ends : (m : ℕ) (t : List (List ℕ)) (i : Incoming) → InASession (at_pieces i t) → HaveBytes t → length (concat t) ≤ m
      → joined_within side own id r m (at_pieces i t) ≡ record { bytes = concat t; last = raw (at_pieces i []) }
  session_ends m [] i h have few =
      let is = pull_of_session (at_pieces i []) h in
      no_piece m (at_pieces i []) (ap (λ p. piece_in p.answer) is ∙ raw_ends i.ended (at_pieces i [])) ∙ ap (λ p. let x : Joined = record { bytes = []; last = p } in x) is
  session_ends zero (p ∷ t) i h have few = absurd (omega (arith, few, have.0, length-append p (concat t)))
  session_ends (suc m) (p ∷ t) i h have few =
      a_piece m (at_pieces i (p ∷ t)) (at_pieces i t) p _ (pull_of_session (at_pieces i (p ∷ t)) h) refl refl
      ∙ ap (behind p) (session_ends m t i (record { no_fault = h.no_fault; not_over = h.not_over; session = h.session }) have.1 (omega (arith, few, have.0, length-append p (concat t))))

  pub session_too : (i j : Incoming) → DifferInCuts i j → InASession i → InASession j
  session_too i j d h = subst InASession (sym d.same) (record { no_fault = h.no_fault; not_over = h.not_over; session = h.session })

  sessions_alike : (m n : ℕ) (i j : Incoming) → InASession i → DifferInCuts i j → length (concat i.unread) ≤ m → length (concat i.unread) ≤ n → JoinedAlike (joined_within side own id r m i) (joined_within side own id r n j)
  sessions_alike m n i j h d few fewer =
      let last = raw (at_pieces i []) in
      let same : raw (at_pieces j []) ≡ last = ap (λ x. raw (at_pieces x [])) d.same in
      let nothing : last.incoming.unread ≡ [] = raw_left i.ended (at_pieces i []) refl in
      joined_as _ _ (record { bytes = concat i.unread; last = last }) (record { bytes = concat j.unread; last = last })
      (session_ends m i.unread i h d.first few)
      (session_ends n j.unread j (session_too i j d h) d.second (omega (arith, fewer, ap length d.bytes)) ∙ ap (λ p. let x : Joined = record { bytes = concat j.unread; last = p } in x) same)
      (record { bytes = sym d.bytes; ends = raw_ends i.ended (at_pieces i []); answer = refl; replies = refl; left = no_difference last.incoming (subst HaveBytes (sym nothing) tt) })

  by_pulls : (most m n : ℕ) (i j : Incoming) → length (concat i.unread) ≤ most → length (concat i.unread) ≤ m → length (concat i.unread) ≤ n
      → ((m n : ℕ) (x y : Incoming) → DifferInCuts x y → length (concat x.unread) < most → length (concat x.unread) ≤ m → length (concat x.unread) ≤ n → JoinedAlike (joined_within side own id r m x) (joined_within side own id r n y))
      → Pulls (length (concat i.unread)) (pull_stream side own id r i) (pull_stream side own id r j) → JoinedAlike (joined_within side own id r m i) (joined_within side own id r n j)
  by_pulls most m n i j a b c go (Other none answer replies d) =
      joined_as _ _ _ _ (no_piece m i none) (no_piece n j (ap piece_in (sym answer) ∙ none)) (record { bytes = refl; ends = none; answer = answer; replies = replies; left = d })
  by_pulls most m n i j a b c go (OfSession x y h d few e f) =
      joined_as _ _ _ _ (joins_alike m i x (e ∙ sym (pull_of_session x h))) (joins_alike n j y (f ∙ sym (pull_of_session y (session_too x y d h))))
      (sessions_alike m n x y h d (omega (arith, few, b)) (omega (arith, few, c)))
  by_pulls most m n i j a b c go (OfPayload x y h d some few e f) =
      let too = payload_too x y d h in
      let first = payload_ends m x.unread x h d.first (omega (arith, few, b)) in
      let second = payload_ends n y.unread y too d.second (omega (arith, few, c, ap length d.bytes)) in
      let behind_both = past_differ x y d in
      let fewer : length (concat (past x).unread) < most = omega (arith, a, few, some, h.some, ap length (concat-without x.body_left x.unread), length-drop x.body_left (concat x.unread)) in
      let left : y.body_left ≡ x.body_left = ap (λ (z : Incoming). z.body_left) d.same in
      let bytes : take x.body_left (concat x.unread) ≡ take y.body_left (concat y.unread) = ap (λ k. take k (concat x.unread)) (sym left) ∙ ap (take y.body_left) (sym d.bytes) in
      let steps : length (concat (past x).unread) ≤ second.steps = omega (arith, second.enough_steps, ap length behind_both.bytes) in
      joined_as _ _ _ _ (joins_alike m i x (e ∙ sym (pull_of_payload x h)) ∙ first.is) (joins_alike n j y (f ∙ sym (pull_of_payload y too)) ∙ second.is)
      (behind_alike _ _ _ _ bytes (go first.steps second.steps (past x) (past y) behind_both fewer first.enough_steps steps))

  alike_within : (most m n : ℕ) (i j : Incoming) → DifferInCuts i j → length (concat i.unread) ≤ most → length (concat i.unread) ≤ m → length (concat i.unread) ≤ n
      → JoinedAlike (joined_within side own id r m i) (joined_within side own id r n j)
  alike_within zero m n i j d a b c = by_pulls 0 m n i j a b c (λ p q x y e less f g. absurd (omega (arith, less))) (cut_pulls side own id r i j d)
  alike_within (suc most) m n i j d a b c = by_pulls (suc most) m n i j a b c (λ p q x y e less f g. alike_within most p q x y e (omega (arith, less)) f g) (cut_pulls side own id r i j d)

  pub joined_alike : (i j : Incoming) → DifferInCuts i j → JoinedAlike (joined_pulls side own id r i) (joined_pulls side own id r j)
  unfolding joined_pulls
  joined_alike i j d =
      alike_within (length (concat i.unread)) (length (concat i.unread)) (length (concat j.unread)) i j d (omega arith) (omega arith) (omega (arith, ap length d.bytes))
