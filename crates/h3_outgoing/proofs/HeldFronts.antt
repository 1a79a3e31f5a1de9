-- What is copied of frames of which the caller may hold a payload.
use Rattle.std.proofs.Common.{arith, ◌≡◌, ◌≤◌, ◌<◌, ◌⊎◌, inl, inr, ℕ, zero, suc, ◌+◌, ◌-◌, Bool, true, false, List, [], ◌∷◌, ◌++◌, length, take, drop, min, refl, sym, ap, subst, ◌∙◌, length-append, append-nil, append_assoc}
use Rattle.std.specs.Prelude.{◌==◌, nat_eq, nat_lt, slice_index_or, Option}
use Rattle.std.specs.List.{AllByRecursion}
use Rattle.std.proofs.lemmas.Bool.{cases_Bool, cases_lt, eqb-true, eqb-false, lt-ltb}
use Rattle.std.proofs.lemmas.Grind.{common_steps, flat_map-append}
use Rattle.std.proofs.lemmas.List.{drop-append-le, drop-drop, drop-replicate, drop_all, length-drop, length-take-le, take-append-drop}
use Rattle.h3_coding.specs.Encodings.{IsByte}
use Rattle.h3_frames.specs.Outgoing.{Outgoing as Piece, all_of, first_of_both}
use Rattle.h3_connection.specs.WaitingPieces.{bytes_of, without_first}
use Rattle.h3_outgoing.specs.Copied.{put, Filled, Puts}
use Rattle.h3_outgoing.specs.Held.{held, front_of, past_of, Fronts, FrontsAt, AreApart}
use Rattle.h3_outgoing.specs.HeldLaws.{front_in, front_out, past_in, past_out, front_bytes, bytes_front, held_front, held_past, front_within, cut}
use Rattle.h3_outgoing.specs.Queue.{at_most_one, frames_in}
use Rattle.h3_outgoing.proofs.Filling.{behind, full, length_put, next_bytes, put_nothing}

past_bytes : (n : ℕ) (xs rest : List ℕ) → AllByRecursion IsByte xs → n < length xs → past_of (drop n (xs ++ rest)) ≡ 0
past_bytes n [] rest h inside = absurd (omega (arith, inside))
past_bytes zero (x ∷ xs) rest h inside = past_in x (xs ++ rest) (lt-ltb x 256 h.0)
past_bytes (suc n) (x ∷ xs) rest h inside = past_bytes n xs rest h.1 (omega (arith, inside))

-- behind all of them comes a payload that the caller holds
drop_whole : (xs rest : List ℕ) → drop (length xs) (xs ++ rest) ≡ rest
drop_whole [] rest = refl
drop_whole (x ∷ xs) rest = drop_whole xs rest

past_behind : (n left : ℕ) (xs : List ℕ) → n ≡ length xs → past_of (drop n (xs ++ held left)) ≡ left
past_behind n left xs is = ap (λ k. past_of (drop k (xs ++ held left))) is ∙ ap past_of (drop_whole xs (held left)) ∙ held_past left

fills_front : (head before out : List ℕ) (left count : ℕ) → AllByRecursion IsByte head → Filled head before out count → Filled (front_of (head ++ held left)) before out count
fills_front head before out left count h f = subst (λ l. Filled l before out count) (sym (bytes_front head (held left) h ∙ ap (λ l. head ++ l) (held_front left) ∙ append-nil head)) f

pub head_cut : (head before out : List ℕ) (left count : ℕ) → AllByRecursion IsByte head → Filled head before out count → count < length head → Fronts (head ++ held left) before out count 0
head_cut head before out left count h f inside = record { copied = fills_front head before out left count h f; past = sym (past_bytes count head (held left) h inside) }

pub head_whole : (head before out : List ℕ) (left count : ℕ) → AllByRecursion IsByte head → Filled head before out count → length head ≤ count → Fronts (head ++ held left) before out count left
head_whole head before out left count h f all =
    record { copied = fills_front head before out left count h f; past = sym (past_behind count left head (omega (arith, f.place, all))) }

-- no place follows all bytes in front of the first one: there is none
exhausted : (w : List ℕ) → past_of (drop (length (front_of w)) w) ≡ 0 → front_of w ≡ w
exhausted [] none = refl
exhausted (b ∷ w) none = elim (cases_Bool (nat_lt b 256)) [
  | inl e ↦ front_in b w e ∙ ap (λ l. b ∷ l) (exhausted w (sym (ap (λ l. past_of (drop (length l) (b ∷ w))) (front_in b w e)) ∙ none))
  | inr e ↦ absurd (omega (arith, sym (ap (λ l. past_of (drop (length l) (b ∷ w))) (front_out b w e)) ∙ none, past_out b w e))
]

not_empty : (b : ℕ) (w : List ℕ) → [] ≡ b ∷ w → ⊥
not_empty b w e = omega (arith, ap length e)

tail_same : (b : ℕ) (v w : List ℕ) → b ∷ v ≡ b ∷ w → v ≡ w
tail_same b v w e = ap (drop 1) e

whole_front : (xs ys : List ℕ) → front_of xs ≡ xs → front_of (xs ++ ys) ≡ xs ++ front_of ys
whole_front [] ys h = refl
whole_front (x ∷ xs) ys h = elim (cases_Bool (nat_lt x 256)) [
  | inl e ↦ front_in x (xs ++ ys) e ∙ ap (λ l. x ∷ l) (whole_front xs ys (tail_same x (front_of xs) xs (sym (front_in x xs e) ∙ h)))
  | inr e ↦ absurd (not_empty x xs (sym (front_out x xs e) ∙ h))
]

has_place : (n : ℕ) (w ys : List ℕ) → 0 < past_of (drop n w) → front_of (w ++ ys) ≡ front_of w
has_place zero [] ys some = absurd (omega (arith, some))
has_place (suc n) [] ys some = absurd (omega (arith, some))
has_place zero (b ∷ w) ys some = elim (cases_Bool (nat_lt b 256)) [
  | inl e ↦ absurd (omega (arith, some, past_in b w e))
  | inr e ↦ front_out b (w ++ ys) e ∙ sym (front_out b w e)
]
has_place (suc n) (b ∷ w) ys some = elim (cases_Bool (nat_lt b 256)) [
  | inl e ↦ front_in b (w ++ ys) e ∙ ap (λ l. b ∷ l) (has_place n w ys some) ∙ sym (front_in b w e)
  | inr e ↦ front_out b (w ++ ys) e ∙ sym (front_out b w e)
]

past_apart : (zs ys : List ℕ) → past_of ys ≡ 0 → past_of (zs ++ ys) ≡ past_of zs
past_apart [] ys none = none
past_apart (z ∷ zs) ys none = elim (cases_Bool (nat_lt z 256)) [
  | inl e ↦ past_in z (zs ++ ys) e ∙ sym (past_in z zs e)
  | inr e ↦ past_out z (zs ++ ys) e ∙ ap (λ n. suc n) (past_apart zs ys none) ∙ sym (past_out z zs e)
]

-- nothing more is copied
abbrev pub IsLast : ℕ → ℕ → List ℕ → Type 0
IsLast past next out = (0 < past) ⊎ (next ≡ length out)

pub last_filled : (w ys before out : List ℕ) (next past : ℕ) → Fronts w before out next past → IsLast past next out → Filled (front_of (w ++ ys)) before out next
last_filled w ys before out next past f (inl some) = subst (λ l. Filled l before out next) (sym (has_place next w ys (subst (λ n. 0 < n) f.past some))) f.copied
last_filled w ys before out next past f (inr is) = elim (cut w ys) [
  | inl same ↦ subst (λ l. Filled l before out next) (sym same) f.copied
  | inr more ↦ subst (λ l. Filled l before out next) (sym more) (full (front_of w) (front_of ys) before out next is f.copied)
]

pub last_one : (w ys before out : List ℕ) (next past : ℕ) → Fronts w before out next past → IsLast past next out → past_of ys ≡ 0 → Fronts (w ++ ys) before out next past
last_one w ys before out next past f is none =
    record {
      copied = last_filled w ys before out next past f is;
      past = f.past ∙ sym (ap past_of (drop-append-le next w ys (omega (arith, f.copied.place, front_within w))) ∙ past_apart (drop next w) ys none);
    }

-- a frame more behind bytes of which all were copied
drop_behind : (n : ℕ) (xs ys : List ℕ) → length xs ≤ n → drop n (xs ++ ys) ≡ drop (n - length xs) ys
drop_behind n [] ys h = let none : n ≡ n - 0 = omega arith in ap (λ k. drop k ys) none
drop_behind zero (x ∷ xs) ys h = absurd (omega (arith, h))
drop_behind (suc n) (x ∷ xs) ys h =
    let fewer : n - length xs ≡ suc n - suc (length xs) = omega arith in
    drop_behind n xs ys (omega (arith, h)) ∙ ap (λ k. drop k ys) fewer

-- so many bytes were copied, and they are all of these
pub record Done (w before out : List ℕ) (at : ℕ) : Type 0 where
  pub filled : Filled w before out at
  pub whole : front_of w ≡ w
  pub all : at ≡ length w

pub done_none : (before : List ℕ) → Done [] before before 0
done_none before = record { filled = record { filled = sym (put_nothing before); place = omega arith }; whole = refl; all = refl }

pub step : (xs zs before mid out : List ℕ) (at next past : ℕ) (is_last : Bool) → Done xs before mid at → FrontsAt zs at mid next past is_last out → Fronts (xs ++ zs) before out next past
step xs zs before mid out at next past is_last d f =
    record {
      copied = subst (λ l. Filled l before out next) (sym (whole_front xs zs d.whole)) (behind xs (front_of zs) before mid out at next d.filled f.copied);
      past = f.past ∙ ap (λ n. past_of (drop (next - n) zs)) d.all ∙ sym (ap past_of (drop_behind next xs zs (omega (arith, f.copied.place, d.all))));
    }

pub done_more : (xs zs before mid out : List ℕ) (at next past : ℕ) (is_last : Bool) → Done xs before mid at → FrontsAt zs at mid next past is_last out → is_last ≡ false → Done (xs ++ zs) before out next
done_more xs zs before mid out at next past is_last d f on =
    let w = f.whole on in
    let same : front_of (xs ++ zs) ≡ xs ++ zs = whole_front xs zs d.whole ∙ ap (λ l. xs ++ l) w.0 in
    record {
      filled = subst (λ l. Filled l before out next) same (step xs zs before mid out at next past is_last d f).copied;
      whole = same;
      all = w.1 ∙ ap (λ n. n + length zs) d.all ∙ sym (length-append xs zs);
    }

-- the buffer has the length that it had
pub same_length : (bytes before out : List ℕ) (at next : ℕ) → at ≤ length before → Puts bytes at before next out → length out ≡ length before
same_length bytes before out at next fits p =
    ap length p.front ∙ length-append (take at before) (put bytes (drop at before)) ∙ ap (λ n. length (take at before) + n) (length_put bytes (drop at before))
    ∙ sym (length-append (take at before) (drop at before)) ∙ ap length (take-append-drop at before)

-- the frames behind some that are not empty are apart from them
pub apart_behind : (front : List Piece) (rest : List Piece) → 0 < length front → AreApart (front ++ rest) → past_of (bytes_of rest) ≡ 0
apart_behind [] rest some h = absurd (omega (arith, some))
apart_behind (p ∷ []) rest some h = h.0
apart_behind (p ∷ q ∷ front) rest some h = apart_behind (q ∷ front) rest (omega arith) h.1

pub apart_later : (front rest : List Piece) → AreApart (front ++ rest) → AreApart rest
apart_later [] rest h = h
apart_later (p ∷ front) rest h = apart_later front rest h.1

-- what a step that is the last one says of all that waits
pub last_step : (xs zs before mid out : List ℕ) (at next past : ℕ) (is_last : Bool) → Done xs before mid at → FrontsAt zs at mid next past is_last out → is_last ≡ true → IsLast past next out
last_step xs zs before mid out at next past is_last d f on =
    let within : at ≤ length mid = omega (arith, d.filled.place, ap length d.filled.filled, length_put xs before) in
    let size = same_length (front_of zs) mid out at next within f.copied in
    elim (f.last on) [ inl some ↦ inl some | inr is ↦ inr (is ∙ sym size) ]

pub last_copied : (xs zs ys before mid out : List ℕ) (at next past : ℕ) (is_last : Bool) → Done xs before mid at → FrontsAt zs at mid next past is_last out → is_last ≡ true
    → Filled (front_of ((xs ++ zs) ++ ys)) before out next
last_copied xs zs ys before mid out at next past is_last d f on =
    last_filled (xs ++ zs) ys before out next past (step xs zs before mid out at next past is_last d f) (last_step xs zs before mid out at next past is_last d f on)

pub last_past : (xs zs ys before mid out : List ℕ) (at next past : ℕ) (is_last : Bool) → Done xs before mid at → FrontsAt zs at mid next past is_last out → is_last ≡ true → past_of ys ≡ 0
    → past ≡ past_of (drop next ((xs ++ zs) ++ ys))
last_past xs zs ys before mid out at next past is_last d f on none =
    (last_one (xs ++ zs) ys before out next past (step xs zs before mid out at next past is_last d f) (last_step xs zs before mid out at next past is_last d f on) none).past

-- the frames of a queue
in_queue : (frames : List Piece) (i : ℕ) (p : Piece) → i < length frames → p ≡ slice_index_or frames i p → (bytes_of (take i frames) ++ all_of p) ++ bytes_of (drop (i + 1) frames) ≡ bytes_of frames
in_queue frames i p inside is =
    ap (λ l. l ++ bytes_of (drop (i + 1) frames)) (next_bytes frames i p inside is) ∙ sym (flat_map-append all_of (take (i + 1) frames) (drop (i + 1) frames)) ∙ ap bytes_of (take-append-drop (i + 1) frames)

pub queue_copied : (frames : List Piece) (i : ℕ) (p : Piece) (before mid out : List ℕ) (at next past : ℕ) (is_last : Bool) → i < length frames → p ≡ slice_index_or frames i p
    → Done (bytes_of (take i frames)) before mid at → FrontsAt (all_of p) at mid next past is_last out → is_last ≡ true → Filled (front_of (bytes_of frames)) before out next
queue_copied frames i p before mid out at next past is_last inside is d f on =
    subst (λ l. Filled (front_of l) before out next) (in_queue frames i p inside is)
    (last_copied (bytes_of (take i frames)) (all_of p) (bytes_of (drop (i + 1) frames)) before mid out at next past is_last d f on)

apart_in_queue : (frames : List Piece) (i : ℕ) → i < length frames → AreApart frames → past_of (bytes_of (drop (i + 1) frames)) ≡ 0
apart_in_queue frames i inside apart =
    apart_behind (take (i + 1) frames) (drop (i + 1) frames) (omega (arith, length-take-le (i + 1) frames (omega (arith, inside)))) (subst AreApart (sym (take-append-drop (i + 1) frames)) apart)

pub queue_past : (frames : List Piece) (i : ℕ) (p : Piece) (before mid out : List ℕ) (at next past : ℕ) (is_last : Bool) → i < length frames → p ≡ slice_index_or frames i p
    → Done (bytes_of (take i frames)) before mid at → FrontsAt (all_of p) at mid next past is_last out → is_last ≡ true → AreApart frames → past ≡ past_of (drop next (bytes_of frames))
queue_past frames i p before mid out at next past is_last inside is d f on apart =
    last_past (bytes_of (take i frames)) (all_of p) (bytes_of (drop (i + 1) frames)) before mid out at next past is_last d f on (apart_in_queue frames i inside apart)
    ∙ ap (λ l. past_of (drop next l)) (in_queue frames i p inside is)

pub queue_more : (frames : List Piece) (i : ℕ) (p : Piece) (before mid out : List ℕ) (at next past : ℕ) (is_last : Bool) → i < length frames → p ≡ slice_index_or frames i p
    → Done (bytes_of (take i frames)) before mid at → FrontsAt (all_of p) at mid next past is_last out → is_last ≡ false → Done (bytes_of (take (i + 1) frames)) before out next
queue_more frames i p before mid out at next past is_last inside is d f on =
    subst (λ l. Done l before out next) (next_bytes frames i p inside is) (done_more (bytes_of (take i frames)) (all_of p) before mid out at next past is_last d f on)

-- two places, and behind them a queue
pub of_places : (first second : Option Piece) (later : List Piece) → (bytes_of (at_most_one first) ++ bytes_of (at_most_one second)) ++ bytes_of later ≡ bytes_of (frames_in first second later)
of_places first second later =
    append_assoc (bytes_of (at_most_one first)) (bytes_of (at_most_one second)) (bytes_of later)
    ∙ ap (λ l. bytes_of (at_most_one first) ++ l) (sym (flat_map-append all_of (at_most_one second) later)) ∙ sym (flat_map-append all_of (at_most_one first) (at_most_one second ++ later))

pub of_first : (first second : Option Piece) (later : List Piece) → bytes_of (at_most_one first) ++ bytes_of (at_most_one second ++ later) ≡ bytes_of (frames_in first second later)
of_first first second later = sym (flat_map-append all_of (at_most_one first) (at_most_one second ++ later))

-- a frame that may take the rest behind bytes of which all were copied
pub rest_copied : (xs zs before mid out : List ℕ) (at next : ℕ) → Done xs before mid at → Puts (front_of zs) at mid next out → Filled (front_of (xs ++ zs)) before out next
rest_copied xs zs before mid out at next d p = subst (λ l. Filled l before out next) (sym (whole_front xs zs d.whole)) (behind xs (front_of zs) before mid out at next d.filled p)

pub rest_past : (xs zs before mid out : List ℕ) (at next past : ℕ) → Done xs before mid at → Puts (front_of zs) at mid next out → past ≡ past_of (drop (next - at) zs) → past ≡ past_of (drop next (xs ++ zs))
rest_past xs zs before mid out at next past d p is =
    is ∙ ap (λ n. past_of (drop (next - n) zs)) d.all ∙ sym (ap past_of (drop_behind next xs zs (omega (arith, p.place, d.all))))

below : (a b : ℕ) → a ≤ b → (a ≡ b → ⊥) → a < b
below a b h other = elim (cases_lt a b) [ inl less ↦ less | inr more ↦ absurd (other (omega (arith, h, more))) ]

-- one frame from a place on
pub put_else : (w before out : List ℕ) (at next follow : ℕ) → at ≤ length before → Puts (front_of w) at before next out → follow ≡ past_of (drop (next - at) w) → follow ≡ 0
    → FrontsAt w at before next follow (nat_eq next (length out)) out
put_else w before out at next follow within p is none =
    let size = same_length (front_of w) before out at next within p in
    record {
      copied = p;
      past = is;
      last = λ e. inr (eqb-true next (length out) e ∙ size);
      whole = λ e.
          let room : next < length before = below next (length before) (omega (arith, p.place, within)) (λ same. eqb-false next (length out) e (same ∙ sym size)) in
          let count : next - at ≡ length (front_of w) = omega (arith, p.place, room, within) in
          let same : front_of w ≡ w = exhausted w (sym (ap (λ n. past_of (drop n w)) count) ∙ sym is ∙ none) in
          (same, (let sum : next ≡ at + length (front_of w) = omega (arith, p.place, room, within) in sum ∙ ap (λ l. at + length l) same));
    }

-- a whole buffer
none : (xs : List ℕ) → take 0 xs ≡ []
none [] = refl
none (x ∷ xs) = refl

front_take : (n : ℕ) (w : List ℕ) → n ≤ length (front_of w) → take n (front_of w) ≡ take n w
front_take zero [] h = refl
front_take (suc n) [] h = refl
front_take zero (b ∷ w) h = none (front_of (b ∷ w))
front_take (suc n) (b ∷ w) h = elim (cases_Bool (nat_lt b 256)) [
  | inl e ↦ ap (take (suc n)) (front_in b w e) ∙ ap (λ l. b ∷ l) (front_take n w (omega (arith, h, ap length (front_in b w e))))
  | inr e ↦ absurd (omega (arith, h, ap length (front_out b w e)))
]

pub full_put : (w before out : List ℕ) (n : ℕ) → Filled (front_of w) before out n → length out ≤ n → out ≡ put w before
full_put w before out n f full =
    let fits : length before ≤ length (front_of w) = omega (arith, f.place, full, ap length f.filled, length_put (front_of w) before) in
    let long : length before ≤ length w = omega (arith, fits, front_within w) in
    f.filled
    ∙ ap (λ l. l ++ drop (length (front_of w)) before) (front_take (length before) w fits)
    ∙ ap (λ l. take (length before) w ++ l) (drop_all (length (front_of w)) before fits ∙ sym (drop_all (length w) before long))

-- a payload that the caller holds, and what is left of its frame
head_fewer : (head : List ℕ) (start count of_head : ℕ) → length head ≡ 16 → start ≤ 16 → of_head ≡ min count (16 - start) → drop (start + of_head) head ≡ drop count (drop start head)
head_fewer head start count of_head size within is = elim (cases_lt (16 - start) count) [
  | inl more ↦ drop_all (start + of_head) head (omega (arith, size, within, is, more)) ∙ sym (drop_all count (drop start head) (omega (arith, length-drop start head, size, more)))
  | inr few ↦ (let all : of_head ≡ count = omega (arith, is, few) in ap (λ n. drop (start + n) head) all ∙ sym (drop-drop count start head))
]

pub held_fewer : (head : List ℕ) (start left count of_head : ℕ) → length head ≡ 16 → start ≤ 16 → of_head ≡ min count (16 - start)
    → ◌≡◌ {A = Piece} (record { head = drop (start + of_head) head; payload = held (left - (count - of_head)) }) (without_first count (record { head = drop start head; payload = held left }))
held_fewer head start left count of_head size within is =
    let heads : drop (start + of_head) head ≡ drop count (drop start head) = head_fewer head start count of_head size within is in
    let few : count - length (drop start head) ≡ count - of_head = omega (arith, length-drop start head, size, is) in
    let places : held (left - (count - of_head)) ≡ drop (count - length (drop start head)) (held left) = sym (drop-replicate (count - length (drop start head)) left 256 ∙ ap (λ n. held (left - n)) few) in
    ap (λ (l : List ℕ). record { head = l; payload = held (left - (count - of_head)) }) heads ∙ ap (λ (l : List ℕ). record { head = drop count (drop start head); payload = l }) places

-- what is lent of a frame whose payload the caller holds
pub lent_head : (head : List ℕ) (left : ℕ) → AllByRecursion IsByte head → head ≡ front_of (first_of_both head (held left))
lent_head [] left h = sym (held_front left)
lent_head (b ∷ head) left h = sym (front_bytes (b ∷ head) h)

pub bytes_append : (xs ys : List ℕ) → AllByRecursion IsByte xs → AllByRecursion IsByte ys → AllByRecursion IsByte (xs ++ ys)
bytes_append [] ys h k = k
bytes_append (x ∷ xs) ys h k = (h.0, bytes_append xs ys h.1 k)

no_later : (later : List Piece) → (length later == 0) ≡ true → later ≡ []
no_later [] none = refl
no_later (p ∷ later) none =
    let no : (length (p ∷ later) == 0) ≡ false = grind (arith, common_steps) in
    absurd (let never : false ≡ true = sym no ∙ none in cc)

-- two places, and an empty queue
pub places_copied : (first second : Option Piece) (later : List Piece) (before mid out : List ℕ) (at next past : ℕ) (is_last : Bool) → Done (bytes_of (at_most_one first)) before mid at
    → FrontsAt (bytes_of (at_most_one second)) at mid next past is_last out → (length later == 0) ≡ true → Filled (front_of (bytes_of (frames_in first second later))) before out next
places_copied first second later before mid out at next past is_last d f none =
    let all = ap (λ l. (bytes_of (at_most_one first) ++ bytes_of (at_most_one second)) ++ bytes_of l) (no_later later none) ∙ append-nil (bytes_of (at_most_one first) ++ bytes_of (at_most_one second)) in
    subst (λ l. Filled (front_of l) before out next) (sym all ∙ of_places first second later) (step (bytes_of (at_most_one first)) (bytes_of (at_most_one second)) before mid out at next past is_last d f).copied

pub places_past : (first second : Option Piece) (later : List Piece) (before mid out : List ℕ) (at next past : ℕ) (is_last : Bool) → Done (bytes_of (at_most_one first)) before mid at
    → FrontsAt (bytes_of (at_most_one second)) at mid next past is_last out → (length later == 0) ≡ true → past ≡ past_of (drop next (bytes_of (frames_in first second later)))
places_past first second later before mid out at next past is_last d f none =
    let all = ap (λ l. (bytes_of (at_most_one first) ++ bytes_of (at_most_one second)) ++ bytes_of l) (no_later later none) ∙ append-nil (bytes_of (at_most_one first) ++ bytes_of (at_most_one second)) in
    (step (bytes_of (at_most_one first)) (bytes_of (at_most_one second)) before mid out at next past is_last d f).past ∙ ap (λ l. past_of (drop next l)) (sym all ∙ of_places first second later)
