-- What holds of pieces that wait, whose first bytes are taken.
use Rattle.std.proofs.Common.{◌≡◌, ℕ, zero, suc, ◌+◌, ◌-◌, ◌<◌, ◌≤◌, List, [], ◌∷◌, ◌++◌, length, drop, arith, refl, sym, ◌∙◌, ap, inl, inr, length-append, if◌then◌else◌}
use Rattle.std.proofs.lemmas.List.{drop-append-le, drop_all, drop-drop, length-drop}
use Rattle.std.proofs.lemmas.Bool.{cases_lt, lt-ltb, le-ltb}
use Rattle.std.proofs.Math.Seq.{drop-append-add}
use Rattle.h3_frames.specs.Outgoing.{Outgoing as Piece, all_of}
use Rattle.h3_connection.specs.WaitingPieces.{bytes_of, without_first, without_front}

pub without-none : (pieces : List Piece) → without_front 0 pieces ≡ pieces
without-none [] = refl
without-none (p ∷ pieces) = refl

-- within the first piece
pub without-within : (n : ℕ) (p : Piece) (pieces : List Piece) → 0 < n → n < length (all_of p) → without_front n (p ∷ pieces) ≡ without_first n p ∷ pieces
without-within zero p pieces some h = absurd (omega (arith, some))
without-within (suc n) p pieces some h = ap (λ b. if b then without_first (suc n) p ∷ pieces else without_front (suc n - length (all_of p)) pieces) (lt-ltb (suc n) (length (all_of p)) h)

-- and past it
pub without-past : (n : ℕ) (p : Piece) (pieces : List Piece) → 0 < n → length (all_of p) ≤ n → without_front n (p ∷ pieces) ≡ without_front (n - length (all_of p)) pieces
without-past zero p pieces some h = absurd (omega (arith, some))
without-past (suc n) p pieces some h = ap (λ b. if b then without_first (suc n) p ∷ pieces else without_front (suc n - length (all_of p)) pieces) (le-ltb (suc n) (length (all_of p)) h)

-- the bytes of a piece without its first ones
pub first-bytes : (n : ℕ) (p : Piece) → all_of (without_first n p) ≡ drop n (all_of p)
first-bytes n p = elim (cases_lt n (length p.head)) [
  | inl h ↦
      let none : n - length p.head ≡ 0 = omega (arith, h) in
      ap (λ k. drop n p.head ++ drop k p.payload) none ∙ sym (drop-append-le n p.head p.payload (omega (arith, h)))
  | inr h ↦
      let k = n - length p.head in
      let sum : n ≡ length p.head + k = omega (arith, h) in
      ap (λ l. l ++ drop k p.payload) (drop_all n p.head (omega (arith, h)))
      ∙ sym (ap (λ m. drop m (p.head ++ p.payload)) sum ∙ drop-append-add p.head p.payload k)
]

-- the bytes of what is left
pub bytes-without : (n : ℕ) (pieces : List Piece) → bytes_of (without_front n pieces) ≡ drop n (bytes_of pieces)
bytes-without n [] = sym (drop_all n [] (omega arith))
bytes-without zero (p ∷ pieces) = refl
bytes-without (suc n) (p ∷ pieces) = elim (cases_lt (suc n) (length (all_of p))) [
  | inl h ↦
      ap bytes_of (without-within (suc n) p pieces (omega arith) h) ∙ ap (λ l. l ++ bytes_of pieces) (first-bytes (suc n) p)
      ∙ sym (drop-append-le (suc n) (all_of p) (bytes_of pieces) (omega (arith, h)))
  | inr h ↦
      let k = suc n - length (all_of p) in
      let sum : suc n ≡ length (all_of p) + k = omega (arith, h) in
      ap bytes_of (without-past (suc n) p pieces (omega arith) h) ∙ bytes-without k pieces
      ∙ sym (ap (λ m. drop m (all_of p ++ bytes_of pieces)) sum ∙ drop-append-add (all_of p) (bytes_of pieces) k)
]

-- pieces behind those that are taken stay
pub without-append : (n : ℕ) (pieces others : List Piece) → n ≤ length (bytes_of pieces) → without_front n (pieces ++ others) ≡ without_front n pieces ++ others
without-append n [] others h = ap (λ m. without_front m others) (omega (arith, h)) ∙ without-none others
without-append zero (p ∷ pieces) others h = refl
without-append (suc n) (p ∷ pieces) others h = elim (cases_lt (suc n) (length (all_of p))) [
  | inl less ↦ without-within (suc n) p (pieces ++ others) (omega arith) less ∙ sym (ap (λ l. l ++ others) (without-within (suc n) p pieces (omega arith) less))
  | inr past ↦
      let few : suc n - length (all_of p) ≤ length (bytes_of pieces) = omega (arith, h, length-append (all_of p) (bytes_of pieces)) in
      without-past (suc n) p (pieces ++ others) (omega arith) past ∙ without-append (suc n - length (all_of p)) pieces others few ∙ sym (ap (λ l. l ++ others) (without-past (suc n) p pieces (omega arith) past))
]

-- some bytes of a piece are taken, and then more
first-first : (m n : ℕ) (p : Piece) → without_first m (without_first n p) ≡ without_first (n + m) p
first-first m n p =
    let heads : drop m (drop n p.head) ≡ drop (n + m) p.head = drop-drop m n p.head in
    let sum : (n - length p.head) + (m - length (drop n p.head)) ≡ n + m - length p.head = omega (arith, length-drop n p.head) in
    let payloads : drop (m - length (drop n p.head)) (drop (n - length p.head) p.payload) ≡ drop (n + m - length p.head) p.payload =
    drop-drop (m - length (drop n p.head)) (n - length p.head) p.payload ∙ ap (λ k. drop k p.payload) sum in
    ap (λ l. record { head = l; payload = drop (m - length (drop n p.head)) (drop (n - length p.head) p.payload) }) heads
    ∙ ap (λ l. record { head = drop (n + m) p.head; payload = l }) payloads

length-first : (n : ℕ) (p : Piece) → length (all_of (without_first n p)) ≡ length (all_of p) - n
length-first n p = ap length (first-bytes n p) ∙ length-drop n (all_of p)

within-within : (m n : ℕ) (p : Piece) (pieces : List Piece) → 0 < m → 0 < n → n < length (all_of p) → without_front m (without_first n p ∷ pieces) ≡ without_front (n + m) (p ∷ pieces)
within-within m n p pieces some first inside = elim (cases_lt m (length (all_of (without_first n p)))) [
  | inl h ↦
      without-within m (without_first n p) pieces some h ∙ ap (λ l. l ∷ pieces) (first-first m n p)
      ∙ sym (without-within (n + m) p pieces (omega (arith, some)) (omega (arith, h, length-first n p)))
  | inr h ↦
      without-past m (without_first n p) pieces some h ∙ ap (λ k. without_front k pieces) (omega (arith, length-first n p, inside, h))
      ∙ sym (without-past (n + m) p pieces (omega (arith, some)) (omega (arith, h, length-first n p)))
]

pub without-without : (m n : ℕ) (pieces : List Piece) → without_front m (without_front n pieces) ≡ without_front (n + m) pieces
without-without m n [] = refl
without-without m zero (p ∷ pieces) = ap (λ k. without_front k (p ∷ pieces)) (omega arith)
without-without zero (suc n) (p ∷ pieces) =
    let sum : suc n ≡ suc n + 0 = omega arith in
    without-none (without_front (suc n) (p ∷ pieces)) ∙ ap (λ k. without_front k (p ∷ pieces)) sum
without-without (suc m) (suc n) (p ∷ pieces) = elim (cases_lt (suc n) (length (all_of p))) [
  | inl h ↦ ap (without_front (suc m)) (without-within (suc n) p pieces (omega arith) h) ∙ within-within (suc m) (suc n) p pieces (omega arith) (omega arith) h
  | inr h ↦
      let sum : (suc n - length (all_of p)) + suc m ≡ suc n + suc m - length (all_of p) = omega (arith, h) in
      ap (without_front (suc m)) (without-past (suc n) p pieces (omega arith) h) ∙ without-without (suc m) (suc n - length (all_of p)) pieces
      ∙ ap (λ k. without_front k pieces) sum ∙ sym (without-past (suc n + suc m) p pieces (omega arith) (omega (arith, h)))
]
