-- What the elements of a list of pieces stand for, one more, one less, and one that was changed.
use Rattle.std.proofs.Common.{◌≡◌, ℕ, zero, suc, ◌+◌, ◌-◌, ◌<◌, ◌≤◌, true, false, nat_le, List, [], ◌∷◌, ◌++◌, length, take, drop, get_or, append-nil, append_assoc, length-append, ap, ap₂, sym, refl, subst, ◌∙◌, arith, Some}
use Rattle.std.specs.Prelude.{map, slice_set, slice_range, All}
use Rattle.std.specs.List.{concat, range_with_len}
use Rattle.std.proofs.lemmas.Grind.{flat_map-append}
use Rattle.std.proofs.lemmas.List.{drop_more, drop_at}
use Rattle.std.proofs.lemmas.List.FromFn.{get_or-map-range_with_len}
use Rattle.std.proofs.lemmas.List.Folds.{concat-append}
use Rattle.std.proofs.lemmas.List.Elements.{All-rest, All-set}
use Rattle.std.proofs.lemmas.Bool.{lt-leb}
use Rattle.bytes.specs.Unread.{IsChunkOf}
use Rattle.std.proofs.lemmas.List.{take-append-le}
use Rattle.h3_frames.specs.declared.buf.element.Element.{Element}
use Rattle.h3_frames.specs.declared.buf.element.Element.TheVariants as element
use Rattle.h3_frames.specs.Elements.{all_cuts, all_of, cuts, each}
use Rattle.h3_frames.specs.Pieces.{chunk_of, first_bytes, first_size, joined, without}
use Rattle.h3_frames.proofs.PieceLemmas.{length-joined-push}
use Rattle.h3_frames.specs.PieceLaws.{without-none, without-past, without-append}

concat-each : (bytes : List ℕ) → concat (each bytes) ≡ bytes
concat-each [] = refl
concat-each (b ∷ bytes) = ap (λ l. b ∷ l) (concat-each bytes)

-- the bytes of an element's pieces
pub concat-cuts : {T : Type 0} (unread : T → List ℕ) (e : Element T) → concat (cuts unread e) ≡ all_of unread e
concat-cuts unread (element.Whole p) = append-nil (unread p)
concat-cuts unread (element.Shared p) = append-nil p
concat-cuts unread (element.Singles run) = concat-each run

pub concat-all_cuts : {T : Type 0} (unread : T → List ℕ) (es : List (Element T)) → concat (all_cuts unread es) ≡ joined (all_of unread) es
concat-all_cuts unread [] = refl
concat-all_cuts unread (e ∷ es) = concat-append (cuts unread e) (all_cuts unread es) ∙ ap₂ (λ x y. x ++ y) (concat-cuts unread e) (concat-all_cuts unread es)

-- one more
pub cuts-push : {T : Type 0} (unread : T → List ℕ) (es : List (Element T)) (e : Element T) → all_cuts unread (es ++ e ∷ []) ≡ all_cuts unread es ++ cuts unread e
cuts-push unread es e = flat_map-append (cuts unread) es (e ∷ []) ∙ ap (λ l. all_cuts unread es ++ l) (append-nil (cuts unread e))

-- the first, and the others
pub first_behind : {T : Type 0} (es : List (Element T)) (e : Element T) → 0 < length es → e ≡ get_or es 0 e → es ≡ e ∷ drop 1 es
first_behind [] e some is = absurd (omega (arith, some))
first_behind (x ∷ es) e some is = ap (λ y. y ∷ es) (sym is)

pub first_set : {T : Type 0} (es : List (Element T)) (f : Element T) → 0 < length es → slice_set es 0 f ≡ f ∷ drop 1 es
first_set [] f some = absurd (omega (arith, some))
first_set (x ∷ es) f some = refl

pub set_same : {T : Type 0} (es : List (Element T)) (e f : Element T) → 0 < length es → e ≡ get_or es 0 e → f ≡ e → slice_set es 0 f ≡ es
set_same es e f some is same = first_set es f some ∙ ap (λ x. x ∷ drop 1 es) same ∙ sym (first_behind es e some is)

-- the last
pub last_behind : {T : Type 0} (es : List (Element T)) → 0 < length es → (front : List (Element T)) × (x : Element T) × (es ≡ front ++ x ∷ [])
last_behind [] some = absurd (omega (arith, some))
last_behind (x ∷ []) some = ([], x, refl)
last_behind (x ∷ y ∷ es) some = let h = last_behind (y ∷ es) (omega arith) in (x ∷ h.0, h.1, ap (λ l. x ∷ l) h.2)

set_last : {T : Type 0} (front : List (Element T)) (x f : Element T) → slice_set (front ++ x ∷ []) (length front) f ≡ front ++ f ∷ []
set_last [] x f = refl
set_last (y ∷ front) x f = ap (λ l. y ∷ l) (set_last front x f)

get_last : {T : Type 0} (front : List (Element T)) (x d : Element T) → get_or (front ++ x ∷ []) (length front) d ≡ x
get_last [] x d = refl
get_last (y ∷ front) x d = get_last front x d

-- What was done to the last element: it is changed in its place.
pub last_set : {T : Type 0} (es : List (Element T)) (k : ℕ) (e f : Element T) → 0 < length es → k + 1 ≡ length es → e ≡ get_or es k e
    → (front : List (Element T)) × (es ≡ front ++ e ∷ []) × (slice_set es k f ≡ front ++ f ∷ [])
last_set es k e f some last is =
    let h = last_behind es some in
    let size : length es ≡ length h.0 + 1 = ap length h.2 ∙ length-append h.0 (h.1 ∷ []) in
    let at : k ≡ length h.0 = omega (arith, last, size) in
    let same : e ≡ h.1 = is ∙ ap₂ (λ l i. get_or l i e) h.2 at ∙ get_last h.0 h.1 e in
    (h.0, h.2 ∙ ap (λ x. h.0 ++ x ∷ []) (sym same), ap₂ (λ l i. slice_set l i f) h.2 at ∙ set_last h.0 h.1 f)

-- a piece of one byte is added to the last element
pub byte_behind : {T : Type 0} (unread : T → List ℕ) (es : List (Element T)) (k : ℕ) (e f : Element T) (b : ℕ) → 0 < length es → k + 1 ≡ length es → e ≡ get_or es k e → cuts unread f ≡ cuts unread e ++ (b ∷ []) ∷ []
    → all_cuts unread (slice_set es k f) ≡ all_cuts unread es ++ (b ∷ []) ∷ []
byte_behind unread es k e f b some last is more =
    let h = last_set es k e f some last is in
    ap (all_cuts unread) h.2 ∙ cuts-push unread h.0 f ∙ ap (λ l. all_cuts unread h.0 ++ l) more ∙ sym (append_assoc (all_cuts unread h.0) (cuts unread e) ((b ∷ []) ∷ []))
    ∙ sym (ap (λ l. l ++ (b ∷ []) ∷ []) (ap (all_cuts unread) h.1 ∙ cuts-push unread h.0 e))

-- Passing bytes of the first element.
pub each-without : (n : ℕ) (bytes : List ℕ) → without n (each bytes) ≡ each (drop n bytes)
each-without zero bytes = without-none (each bytes)
each-without (suc n) [] = refl
each-without (suc n) (b ∷ bytes) =
    let less : suc n - 1 ≡ n = omega arith in
    without-past (suc n) (b ∷ []) (each bytes) (omega arith) (omega arith) ∙ ap (λ k. without k (each bytes)) less ∙ each-without n bytes

passed_each : (n : ℕ) (bytes : List ℕ) (pieces : List (List ℕ)) → length bytes ≤ n → without n (each bytes ++ pieces) ≡ without (n - length bytes) pieces
passed_each n [] pieces h = let e : n ≡ n - 0 = omega arith in ap (λ k. without k pieces) e
passed_each n (b ∷ bytes) pieces h =
    let sum : n - 1 - length bytes ≡ n - length (b ∷ bytes) = omega (arith, h) in
    without-past n (b ∷ []) (each bytes ++ pieces) (omega (arith, h)) (omega (arith, h)) ∙ passed_each (n - 1) bytes pieces (omega (arith, h)) ∙ ap (λ k. without k pieces) sum

pub passed : {T : Type 0} (unread : T → List ℕ) (n : ℕ) (e : Element T) (pieces : List (List ℕ)) → 0 < length (all_of unread e) → length (all_of unread e) ≤ n → without n (cuts unread e ++ pieces) ≡ without (n - length (all_of unread e)) pieces
passed unread n (element.Whole p) pieces some h = without-past n (unread p) pieces (omega (arith, some, h)) h
passed unread n (element.Shared p) pieces some h = without-past n p pieces (omega (arith, some, h)) h
passed unread n (element.Singles run) pieces some h = passed_each n run pieces h

pub within : {T : Type 0} (unread : T → List ℕ) (n : ℕ) (e : Element T) (pieces : List (List ℕ)) → n < length (all_of unread e) → without n (cuts unread e ++ pieces) ≡ without n (cuts unread e) ++ pieces
within unread n e pieces h = without-append n (cuts unread e) pieces (let size = ap length (concat-cuts unread e) in omega (arith, h, size))

-- The first piece of all is that of the first element.
pub first_bytes-behind : {T : Type 0} (unread : T → List ℕ) (e : Element T) (pieces : List (List ℕ)) → 0 < length (all_of unread e) → first_bytes (cuts unread e ++ pieces) ≡ first_bytes (cuts unread e)
first_bytes-behind unread (element.Whole p) pieces some = refl
first_bytes-behind unread (element.Shared p) pieces some = refl
first_bytes-behind unread (element.Singles []) pieces some = absurd (omega (arith, some))
first_bytes-behind unread (element.Singles (b ∷ run)) pieces some = refl

pub first_size-is : (pieces : List (List ℕ)) → first_size pieces ≡ length (first_bytes pieces)
first_size-is [] = refl
first_size-is (p ∷ pieces) = refl

first_within : {T : Type 0} (unread : T → List ℕ) (e : Element T) → length (first_bytes (cuts unread e)) ≤ length (all_of unread e)
first_within unread (element.Whole p) = omega arith
first_within unread (element.Shared p) = omega arith
first_within unread (element.Singles []) = omega arith
first_within unread (element.Singles (b ∷ run)) = omega arith

pub first_size-within : {T : Type 0} (unread : T → List ℕ) (e : Element T) (pieces : List (List ℕ)) → 0 < length (all_of unread e) → first_size (cuts unread e ++ pieces) ≤ length (all_of unread e)
first_size-within unread e pieces some =
    let same = first_size-is (cuts unread e ++ pieces) ∙ ap length (first_bytes-behind unread e pieces some) in
    let less = first_within unread e in
    omega (arith, same, less)

each-size : (bytes : List ℕ) → length (each bytes) ≡ length bytes
each-size [] = refl
each-size (b ∷ bytes) = let rest = each-size bytes in omega (arith, rest)

-- an element has a piece
cuts_some : {T : Type 0} (unread : T → List ℕ) (e : Element T) → 0 < length (all_of unread e) → 0 < length (cuts unread e)
cuts_some unread (element.Whole p) some = omega arith
cuts_some unread (element.Shared p) some = omega arith
cuts_some unread (element.Singles run) some = let size = each-size run in omega (arith, some, size)

-- Whether there is one piece.
pub none_is_one : {T : Type 0} (unread : T → List ℕ) (es : List (Element T)) → (0 < length es → false ≡ true) → nat_le (length (all_cuts unread es)) 1 ≡ true
none_is_one unread [] none = refl
none_is_one unread (x ∷ es) none = let some = none (omega arith) in absurd (cc)

pub one_is : {T : Type 0} (unread : T → List ℕ) (es : List (Element T)) (e : Element T) → length es ≡ 1 → e ≡ get_or es 0 e → nat_le (length (cuts unread e)) 1 ≡ nat_le (length (all_cuts unread es)) 1
one_is unread [] e one is = absurd (omega (arith, one))
one_is unread (x ∷ []) e one is = ap (λ l. nat_le (length l) 1) (ap (cuts unread) is ∙ sym (append-nil (cuts unread x)))
one_is unread (x ∷ y ∷ es) e one is = absurd (omega (arith, one))

pub several : {T : Type 0} (unread : T → List ℕ) (es : List (Element T)) → 1 < length es → All (λ e. 0 < length (all_of unread e)) es → nat_le (length (all_cuts unread es)) 1 ≡ false
several unread [] more filled = absurd (omega (arith, more))
several unread (x ∷ []) more filled = absurd (omega (arith, more))
several unread (x ∷ y ∷ es) more filled =
    let first = cuts_some unread x (filled 0 x (omega arith)) in
    let second = cuts_some unread y (filled 1 y (omega arith)) in
    let size = length-append (cuts unread x) (cuts unread y ++ all_cuts unread es) in
    let others = length-append (cuts unread y) (all_cuts unread es) in
    lt-leb (length (all_cuts unread (x ∷ y ∷ es))) 1 (omega (arith, first, second, size, others))

-- a front of the bytes that lie together
pub chunk_more : (c all more : List ℕ) → 0 < length all → IsChunkOf c all → IsChunkOf c (all ++ more)
chunk_more c all more some h = record {
  front = take-append-le (length c) all more h.fits ∙ h.front;
  fits = let size = length-append all more in omega (arith, h.fits, size);
  some = λ _. h.some some;
}

pub none_chunk : {T : Type 0} (unread : T → List ℕ) (es : List (Element T)) → (0 < length es → false ≡ true) → IsChunkOf [] (concat (all_cuts unread es))
none_chunk unread [] none = record { front = refl; fits = omega arith; some = λ h. h }
none_chunk unread (x ∷ es) none = let some = none (omega arith) in absurd (cc)

-- no bytes of a piece of one byte
pub no_bytes : (max : ℕ) (run : List ℕ) → max < first_size (each run) → max ≡ 0
no_bytes max [] h = absurd (omega (arith, h))
no_bytes max (b ∷ run) h = omega (arith, h)

pub none_cut : (max : ℕ) (run : List ℕ) → max < first_size (each run) → (Some [], each run) ≡ chunk_of max (each run)
none_cut max [] h = absurd (omega (arith, h))
none_cut max (b ∷ run) h =
    let none : 0 ≡ max = omega (arith, h) in
    subst (λ m. (Some [], each (b ∷ run)) ≡ chunk_of m (each (b ∷ run))) none refl

abbrev pub AreFilled : {T : Type 0} (unread : T → List ℕ) → List (Element T) → Type 0
AreFilled unread es = All (λ e. 0 < length (all_of unread e)) es

-- The first element has bytes, and the pieces and bytes of all are its own, and those behind it.
pub first_filled : {T : Type 0} (unread : T → List ℕ) (es : List (Element T)) (e : Element T) → 0 < length es → e ≡ get_or es 0 e → AreFilled unread es → 0 < length (all_of unread e)
first_filled unread es e some is filled = subst (λ x. 0 < length (all_of unread x)) (sym is) (filled 0 e some)

pub split_cuts : {T : Type 0} (unread : T → List ℕ) (es : List (Element T)) (e : Element T) → 0 < length es → e ≡ get_or es 0 e → all_cuts unread es ≡ cuts unread e ++ all_cuts unread (drop 1 es)
split_cuts unread es e some is = ap (all_cuts unread) (first_behind es e some is)

pub split_bytes : {T : Type 0} (unread : T → List ℕ) (es : List (Element T)) (e : Element T) → 0 < length es → e ≡ get_or es 0 e → concat (all_cuts unread es) ≡ all_of unread e ++ concat (all_cuts unread (drop 1 es))
split_bytes unread es e some is =
    ap concat (split_cuts unread es e some is) ∙ concat-append (cuts unread e) (all_cuts unread (drop 1 es)) ∙ ap (λ l. l ++ concat (all_cuts unread (drop 1 es))) (concat-cuts unread e)

pub split_size : {T : Type 0} (unread : T → List ℕ) (es : List (Element T)) (e : Element T) → 0 < length es → e ≡ get_or es 0 e → length (joined (all_of unread) es) ≡ length (all_of unread e) + length (joined (all_of unread) (drop 1 es))
split_size unread es e some is = ap (λ l. length (joined (all_of unread) l)) (first_behind es e some is) ∙ length-append (all_of unread e) (joined (all_of unread) (drop 1 es))

pub filled_behind : {T : Type 0} (unread : T → List ℕ) (es : List (Element T)) (e : Element T) → 0 < length es → e ≡ get_or es 0 e → AreFilled unread es → AreFilled unread (drop 1 es)
filled_behind unread es e some is filled = All-rest (λ x. 0 < length (all_of unread x)) e (drop 1 es) es (first_behind es e some is) filled

pub at_first : {T : Type 0} (unread : T → List ℕ) (es : List (Element T)) (e : Element T) → 0 < length es → e ≡ get_or es 0 e → AreFilled unread es → first_bytes (cuts unread e) ≡ first_bytes (all_cuts unread es)
at_first unread es e some is filled =
    sym (ap first_bytes (split_cuts unread es e some is) ∙ first_bytes-behind unread e (all_cuts unread (drop 1 es)) (first_filled unread es e some is filled))

-- some bytes of the first element are passed
pub pass_within : {T : Type 0} (unread : T → List ℕ) (n : ℕ) (es : List (Element T)) (e f : Element T) → 0 < length es → e ≡ get_or es 0 e → n < length (all_of unread e) → cuts unread f ≡ without n (cuts unread e)
    → all_cuts unread (slice_set es 0 f) ≡ without n (all_cuts unread es)
pass_within unread n es e f some is less h =
    ap (all_cuts unread) (first_set es f some) ∙ ap (λ l. l ++ all_cuts unread (drop 1 es)) h
    ∙ sym (ap (without n) (split_cuts unread es e some is) ∙ within unread n e (all_cuts unread (drop 1 es)) less)

-- or all of them
pub pass_all : {T : Type 0} (unread : T → List ℕ) (n : ℕ) (es : List (Element T)) (e : Element T) → 0 < length es → e ≡ get_or es 0 e → 0 < length (all_of unread e) → length (all_of unread e) ≤ n
    → without n (all_cuts unread es) ≡ without (n - length (all_of unread e)) (all_cuts unread (drop 1 es))
pass_all unread n es e some is filled most = ap (without n) (split_cuts unread es e some is) ∙ passed unread n e (all_cuts unread (drop 1 es)) filled most

pub rest_bytes : {T : Type 0} (unread : T → List ℕ) (es : List (Element T)) (e : Element T) → 0 < length es → e ≡ get_or es 0 e → drop (length (all_of unread e)) (concat (all_cuts unread es)) ≡ concat (all_cuts unread (drop 1 es))
rest_bytes unread es e some is = ap (drop (length (all_of unread e))) (split_bytes unread es e some is) ∙ drop_at (all_of unread e) (concat (all_cuts unread (drop 1 es))) (length (all_of unread e)) refl

pub rest_set : {T : Type 0} (es : List (Element T)) (f : Element T) → drop 1 (slice_set es 0 f) ≡ drop 1 es
rest_set [] f = refl
rest_set (x ∷ es) f = refl

pub first_size-all : {T : Type 0} (unread : T → List ℕ) (es : List (Element T)) (e : Element T) → 0 < length es → e ≡ get_or es 0 e → 0 < length (all_of unread e) → first_size (all_cuts unread es) ≤ length (all_of unread e)
first_size-all unread es e some is filled =
    let size = ap first_size (split_cuts unread es e some is) in
    let less = first_size-within unread e (all_cuts unread (drop 1 es)) filled in
    omega (arith, size, less)

-- the bytes with one more behind the last element
pub byte_more : {T : Type 0} (unread : T → List ℕ) (es : List (Element T)) (k : ℕ) (e f : Element T) (b : ℕ) → 0 < length es → k + 1 ≡ length es → e ≡ get_or es k e → all_of unread f ≡ all_of unread e ++ b ∷ []
    → length (joined (all_of unread) (slice_set es k f)) ≡ length (joined (all_of unread) es) + 1
byte_more unread es k e f b some last is more =
    let h = last_set es k e f some last is in
    let new = ap (λ l. length (joined (all_of unread) l)) h.2 ∙ length-joined-push (all_of unread) h.0 f in
    let old = ap (λ l. length (joined (all_of unread) l)) h.1 ∙ length-joined-push (all_of unread) h.0 e in
    let size = ap length more ∙ length-append (all_of unread e) (b ∷ []) in
    omega (arith, new, old, size)

pub byte_filled : {T : Type 0} (unread : T → List ℕ) (es : List (Element T)) (k : ℕ) (e f : Element T) (b : ℕ) → all_of unread f ≡ all_of unread e ++ b ∷ [] → AreFilled unread es → AreFilled unread (slice_set es k f)
byte_filled unread es k e f b more filled =
    let size = ap length more ∙ length-append (all_of unread e) (b ∷ []) in
    All-set (λ x. 0 < length (all_of unread x)) es k f (omega (arith, size)) filled

-- The table has each byte at its place.
abbrev pub IsEachByte : List ℕ → Type 0
IsEachByte table = table ≡ map (λ b. b) (range_with_len 0 256)

pub one_byte : (table : List ℕ) (at : ℕ) → IsEachByte table → at < 256 → at < length table → slice_range table at (at + 1) ≡ at ∷ []
one_byte table at is less inside =
    let one : at + 1 - at ≡ 1 = omega arith in
    let byte : get_or table at at ≡ at = ap (λ t. get_or t at at) is ∙ get_or-map-range_with_len (λ b. b) 0 256 at at at less (omega arith) in
    ap₂ take one (drop_more table at at inside) ∙ ap (λ b. b ∷ []) byte

-- whether no element is left
pub none_left : {T : Type 0} (unread : T → List ℕ) (es : List (Element T)) → length (joined (all_of unread) es) ≡ 0 → AreFilled unread es → all_cuts unread es ≡ []
none_left unread [] none filled = refl
none_left unread (x ∷ es) none filled =
    let first = filled 0 x (omega arith) in
    let size = length-append (all_of unread x) (joined (all_of unread) es) in
    absurd (omega (arith, none, first, size))

pub some_left : {T : Type 0} (unread : T → List ℕ) (es : List (Element T)) → 0 < length (joined (all_of unread) es) → AreFilled unread es → 0 < length (all_cuts unread es)
some_left unread [] some filled = absurd (omega (arith, some))
some_left unread (x ∷ es) some filled =
    let first = cuts_some unread x (filled 0 x (omega arith)) in
    let size = length-append (cuts unread x) (all_cuts unread es) in
    omega (arith, first, size)
