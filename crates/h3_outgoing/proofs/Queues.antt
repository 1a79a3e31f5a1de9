-- Frames that wait: one more, and some bytes fewer.
use Rattle.std.proofs.Common.{arith, ◌≡◌, ◌≤◌, ◌<◌, ◌^◌, ℕ, zero, suc, ◌+◌, ◌-◌, true, false, List, [], ◌∷◌, ◌++◌, length, min, refl, sym, ap, subst, ◌∙◌, inl, inr, length-append, append_assoc, Option, Some, None}
use Rattle.std.specs.Prelude.{All, is_some, ◌==◌}
use Rattle.std.proofs.lemmas.Bool.{cases_lt}
use Rattle.std.proofs.lemmas.Grind.{common_steps, flat_map-append}
use Rattle.std.proofs.lemmas.List.{length-drop}
use Rattle.std.proofs.lemmas.List.Elements.{All-cons, All-nil, All-push}
use Rattle.h3_coding.specs.Encodings.{encoding}
use Rattle.h3_coding.specs.EncodingLaws.{opened, encoding_is_valid}
use Rattle.h3_coding.specs.Opened.{Opened}
use Rattle.h3_connection.specs.WaitingPieces.{bytes_of, frame_piece, without_first, without_front}
use Rattle.h3_connection.specs.WaitingPieceLaws.{bytes-without, first-bytes, without-append, without-none, without-within, without-past}
use Rattle.h3_frames.specs.Outgoing.{Outgoing as Piece, all_of}
use Rattle.h3_outgoing.specs.Queue.{at_most_one, frames_in, has_own_place}

-- no frame is empty
abbrev EachHas : List Piece → Type 0
EachHas frames = All (λ f. 0 < length (all_of f)) frames

-- how many bytes wait, and that no frame is empty
abbrev Counted : ℕ → List Piece → Type 0
Counted waiting frames = (waiting ≡ length (bytes_of frames)) × EachHas frames

-- a frame has a type, whatever its payload
pub framed : (kind : ℕ) (payload : List ℕ) → kind < 2 ^ 62 → 0 < length (all_of (frame_piece kind payload))
framed kind payload small =
    let o : Opened kind (encoding kind) = opened kind (encoding kind) (encoding_is_valid kind small) in
    omega (arith, ap length o.is, length-append (encoding kind) (encoding (length payload)), length-append (encoding kind ++ encoding (length payload)) payload)

not_none : (n m : ℕ) → 0 < n → (n == 0) ≡ (suc m == 0)
not_none zero m some = absurd (omega (arith, some))
not_none (suc n) m some =
    let left : (suc n == 0) ≡ false = grind (arith, common_steps) in
    let right : (suc m == 0) ≡ false = grind (arith, common_steps) in
    left ∙ sym right

-- none wait exactly where no bytes wait
pub none_wait : (waiting : ℕ) (frames : List Piece) → Counted waiting frames → (waiting == 0) ≡ (length frames == 0)
none_wait waiting [] h = ap (λ n. n == 0) h.0
none_wait waiting (f ∷ frames) h =
    let some : 0 < length (all_of f) = h.1 0 f (omega arith) in
    let all : waiting ≡ length (all_of f) + length (bytes_of frames) = h.0 ∙ length-append (all_of f) (bytes_of frames) in
    not_none waiting (length frames) (omega (arith, some, all))

-- one frame more
pub one_more : (frames all : List Piece) (f : Piece) (waiting more : ℕ) → all ≡ frames ++ f ∷ [] → Counted waiting frames → more ≡ length (all_of f) → 0 < length (all_of f) → Counted (waiting + more) all
one_more frames all f waiting more is h adds some =
    let bytes : bytes_of all ≡ bytes_of frames ++ (all_of f ++ []) = ap bytes_of is ∙ flat_map-append all_of frames (f ∷ []) in (
      omega (arith, ap length bytes, h.0, adds, length-append (bytes_of frames) (all_of f ++ []), length-append (all_of f) []),
      subst (All (λ g. 0 < length (all_of g))) (sym is) (All-push (λ g. 0 < length (all_of g)) frames f h.1 some),
    )

pub behind_queue : (first second : Option Piece) (later all : List Piece) (f : Piece) → all ≡ later ++ f ∷ [] → frames_in first second all ≡ frames_in first second later ++ f ∷ []
behind_queue first second later all f is =
    ap (frames_in first second) is ∙ ap (λ l. at_most_one first ++ l) (sym (append_assoc (at_most_one second) later (f ∷ []))) ∙ sym (append_assoc (at_most_one first) (at_most_one second ++ later) (f ∷ []))

pub in_second : (first second : Option Piece) (later : List Piece) (f : Piece) → has_own_place second later ≡ true → is_some first ≡ true → frames_in first (Some f) later ≡ frames_in first second later ++ f ∷ []
in_second None second later f own some = absurd (let never : false ≡ true = some in cc)
in_second (Some g) (Some h) later f own some = absurd (let never : false ≡ true = own in cc)
in_second (Some g) None [] f own some = refl
in_second (Some g) None (h ∷ later) f own some =
    let no : (length (h ∷ later) == 0) ≡ false = grind (arith, common_steps) in
    absurd (let never : false ≡ true = sym no ∙ own in cc)

-- some bytes fewer
fewer_by : (n : ℕ) (f : Piece) (frames : List Piece) → 0 < n → EachHas (f ∷ frames) → EachHas (without_front (n - length (all_of f)) frames) → EachHas (without_front n (f ∷ frames))
fewer_by n f frames more some rest = elim (cases_lt n (length (all_of f))) [
  | inl h ↦
      let left : 0 < length (all_of (without_first n f)) = omega (arith, h, ap length (first-bytes n f), length-drop n (all_of f)) in
      subst EachHas (sym (without-within n f frames more h)) (All-cons (λ g. 0 < length (all_of g)) (without_first n f) frames left (λ k d within. some (suc k) d (omega (arith, within))))
  | inr h ↦ subst EachHas (sym (without-past n f frames more h)) rest
]

some_fewer : (n : ℕ) (frames : List Piece) → EachHas frames → EachHas (without_front n frames)
some_fewer n [] h = h
some_fewer zero (f ∷ frames) h = h
some_fewer (suc n) (f ∷ frames) h =
    fewer_by (suc n) f frames (omega arith) h (some_fewer (suc n - length (all_of f)) frames (λ k d within. h (suc k) d (omega (arith, within))))

pub counted_fewer : (n waiting : ℕ) (frames all : List Piece) → all ≡ without_front n frames → Counted waiting frames → Counted (waiting - n) all
counted_fewer n waiting frames all is h = (
  omega (arith, h.0, ap (λ l. length (bytes_of l)) is, ap length (bytes-without n frames), length-drop n (bytes_of frames)),
  subst EachHas (sym is) (some_fewer n frames h.1),
)

-- those in front go first
past_front : (n : ℕ) (xs ys : List Piece) → length (bytes_of xs) ≤ n → without_front n (xs ++ ys) ≡ without_front n xs ++ without_front (n - length (bytes_of xs)) ys
past_front n [] ys past =
    let all : n ≡ n - length (bytes_of []) = omega arith in
    ap (λ k. without_front k ys) all
past_front zero (x ∷ xs) ys past =
    let none : 0 - length (bytes_of (x ∷ xs)) ≡ 0 = omega arith in
    ap (λ l. x ∷ (xs ++ l)) (sym (without-none ys)) ∙ ap (λ k. x ∷ (xs ++ without_front k ys)) (sym none)
past_front (suc n) (x ∷ xs) ys past =
    let sum = length-append (all_of x) (bytes_of xs) in
    let here : length (all_of x) ≤ suc n = omega (arith, sum, past) in
    let left = suc n - length (all_of x) in
    let rest : left - length (bytes_of xs) ≡ suc n - length (bytes_of (x ∷ xs)) = omega (arith, sum) in
    without-past (suc n) x (xs ++ ys) (omega arith) here ∙ past_front left xs ys (omega (arith, sum, past))
    ∙ ap (λ l. l ++ without_front (left - length (bytes_of xs)) ys) (sym (without-past (suc n) x xs (omega arith) here))
    ∙ ap (λ k. without_front (suc n) (x ∷ xs) ++ without_front k ys) rest

front_first : (n taken : ℕ) (xs ys : List Piece) → taken ≡ min n (length (bytes_of xs)) → without_front n (xs ++ ys) ≡ without_front n xs ++ without_front (n - taken) ys
front_first n taken xs ys is = elim (cases_lt n (length (bytes_of xs))) [
  | inl h ↦
      let none : n - taken ≡ 0 = omega (arith, is, h) in
      without-append n xs ys (omega (arith, h)) ∙ ap (λ l. without_front n xs ++ l) (sym (without-none ys)) ∙ ap (λ k. without_front n xs ++ without_front k ys) (sym none)
  | inr h ↦
      let all : n - length (bytes_of xs) ≡ n - taken = omega (arith, is, h) in
      past_front n xs ys h ∙ ap (λ k. without_front n xs ++ without_front k ys) all
]

pub places_fewer : (n a b : ℕ) (first second first2 second2 : Option Piece) (later later2 : List Piece) → a ≡ min n (length (bytes_of (at_most_one first))) → at_most_one first2 ≡ without_front n (at_most_one first)
    → b ≡ min (n - a) (length (bytes_of (at_most_one second))) → at_most_one second2 ≡ without_front (n - a) (at_most_one second) → later2 ≡ without_front ((n - a) - b) later
    → frames_in first2 second2 later2 ≡ without_front n (frames_in first second later)
places_fewer n a b first second first2 second2 later later2 is_a first_is is_b second_is later_is =
    ap (λ l. l ++ (at_most_one second2 ++ later2)) first_is ∙ ap (λ l. without_front n (at_most_one first) ++ (l ++ later2)) second_is
    ∙ ap (λ l. without_front n (at_most_one first) ++ (without_front (n - a) (at_most_one second) ++ l)) later_is
    ∙ ap (λ l. without_front n (at_most_one first) ++ l) (sym (front_first (n - a) b (at_most_one second) later is_b))
    ∙ sym (front_first n a (at_most_one first) (at_most_one second ++ later) is_a)

-- where nothing is left to be taken
pub later_same : (n : ℕ) (later : List Piece) → (0 < n → ⊥) → later ≡ without_front n later
later_same zero later none = sym (without-none later)
later_same (suc n) later none = absurd (none (omega arith))

-- each of them has bytes
pub first_some : (first second : Option Piece) (later : List Piece) → EachHas (frames_in first second later) → EachHas (at_most_one first)
first_some None second later h = All-nil (λ f. 0 < length (all_of f))
first_some (Some f) second later h = All-cons (λ g. 0 < length (all_of g)) f [] (h 0 f (omega arith)) (All-nil (λ g. 0 < length (all_of g)))

behind_first : (first second : Option Piece) (later : List Piece) → EachHas (frames_in first second later) → EachHas (at_most_one second ++ later)
behind_first None second later h = h
behind_first (Some f) second later h = λ k d within. h (suc k) d (omega (arith, within))

pub second_some : (first second : Option Piece) (later : List Piece) → EachHas (frames_in first second later) → EachHas (at_most_one second)
second_some first second later h = first_some second None later (behind_first first second later h)

pub later_some : (first second : Option Piece) (later : List Piece) → EachHas (frames_in first second later) → EachHas later
later_some first second later h = behind_first second None later (behind_first first second later h)
