-- What waits, copied into a buffer one behind the other.
use Rattle.std.proofs.Common.{◌≡◌, ◌<◌, ℕ, zero, suc, ◌+◌, ◌-◌, List, [], ◌∷◌, ◌++◌, length, take, drop, min, refl, sym, ap, ◌∙◌, arith, length-append}
use Rattle.std.specs.Prelude.{slice_index_or}
use Rattle.std.proofs.lemmas.List.{take_min, drop_min, take_more, take_all, append-nil, flat_map_more}
use Rattle.std.proofs.Math.ListN.{drop_of_length-le}
use Rattle.h3_frames.specs.Outgoing.{Outgoing as Piece, all_of}
use Rattle.h3_connection.specs.WaitingPieces.{bytes_of}
use Rattle.h3_outgoing.specs.Copied.{put, Filled, Puts}

nothing_taken : (n : ℕ) → take {A = ℕ} n [] ≡ []
nothing_taken zero = refl
nothing_taken (suc n) = refl

nothing_dropped : (n : ℕ) → drop {A = ℕ} n [] ≡ []
nothing_dropped zero = refl
nothing_dropped (suc n) = refl

pub put_nothing : (before : List ℕ) → put [] before ≡ before
put_nothing before = ap (λ l. l ++ before) (nothing_taken (length before))

pub length_put : (bytes before : List ℕ) → length (put bytes before) ≡ length before
length_put [] before = ap length (put_nothing before)
length_put (x ∷ bytes) [] = refl
length_put (x ∷ bytes) (b ∷ before) = ap (λ n. suc n) (length_put bytes before)

-- bytes behind those that were put before
put_more : (xs ys before : List ℕ) → put (xs ++ ys) before ≡ take (length xs) (put xs before) ++ put ys (drop (length xs) (put xs before))
put_more [] ys before = ap (put ys) (sym (put_nothing before))
put_more (x ∷ xs) ys [] = sym (nothing_dropped (length ys))
put_more (x ∷ xs) ys (b ∷ before) = ap (λ l. x ∷ l) (put_more xs ys before)

-- the place behind so many bytes of a buffer is its end where they do not fit
same_front : (n at : ℕ) (out before : List ℕ) → length out ≡ length before → at ≡ min n (length before) → take at out ≡ take n out
same_front n at out before is place = ap (λ k. take k out) (place ∙ ap (min n) (sym is)) ∙ take_min n out

same_rest : (n at : ℕ) (out before : List ℕ) → length out ≡ length before → at ≡ min n (length before) → drop at out ≡ drop n out
same_rest n at out before is place = ap (λ k. drop k out) (place ∙ ap (min n) (sym is)) ∙ drop_min n out

put_behind : (xs bytes before out new : List ℕ) (at : ℕ) → out ≡ put xs before → at ≡ min (length xs) (length before) → new ≡ take at out ++ put bytes (drop at out)
    → new ≡ put (xs ++ bytes) before
put_behind xs bytes before out new at was place is =
    let size : length out ≡ length before = ap length was ∙ length_put xs before in
    is ∙ ap (λ l. l ++ put bytes (drop at out)) (same_front (length xs) at out before size place)
    ∙ ap (λ l. take (length xs) out ++ put bytes l) (same_rest (length xs) at out before size place)
    ∙ ap (λ l. take (length xs) l ++ put bytes (drop (length xs) l)) was
    ∙ sym (put_more xs bytes before)

place_behind : (xs bytes before out : List ℕ) (at next : ℕ) → out ≡ put xs before → at ≡ min (length xs) (length before) → next ≡ at + min (length bytes) (length out - at)
    → next ≡ min (length (xs ++ bytes)) (length before)
place_behind xs bytes before out at next was place is =
    let size : length out ≡ length before = ap length was ∙ length_put xs before in
    omega (arith, size, place, is, length-append xs bytes)

pub behind : (xs bytes before out new : List ℕ) (at next : ℕ) → Filled xs before out at → Puts bytes at out next new → Filled (xs ++ bytes) before new next
behind xs bytes before out new at next f p = record {
  filled = put_behind xs bytes before out new at f.filled f.place p.front;
  place = place_behind xs bytes before out at next f.filled f.place p.place;
}

-- a buffer that is full takes no more
pub full : (xs ys before out : List ℕ) (at : ℕ) → at ≡ length out → Filled xs before out at → Filled (xs ++ ys) before out at
full xs ys before out at is f =
    let whole : take at out ≡ out = take_all at out (omega (arith, is)) in
    let none : drop at out ≡ [] = drop_of_length-le out (omega (arith, is)) in
    let same : take at out ++ put ys (drop at out) ≡ out = ap (λ l. l ++ put ys (drop at out)) whole ∙ ap (λ l. out ++ put ys l) none ∙ ap (λ l. out ++ l) (nothing_dropped (length ys)) ∙ append-nil out in
    let left : length out - at ≡ 0 = omega (arith, is) in
    behind xs ys before out out at at f (record { place = omega (arith, left); front = sym same })

-- the frames of a queue
pub next_bytes : (frames : List Piece) (i : ℕ) (p : Piece) → i < length frames → p ≡ slice_index_or frames i p → bytes_of (take i frames) ++ all_of p ≡ bytes_of (take (i + 1) frames)
next_bytes frames i p inside is =
    flat_map_more all_of [] (take i frames) p ∙ ap (λ q. bytes_of (take i frames ++ q ∷ [])) is ∙ ap bytes_of (sym (take_more frames i p inside))
