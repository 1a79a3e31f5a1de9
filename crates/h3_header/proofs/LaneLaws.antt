-- A load of bytes of which no lane is marked.
use Rattle.std.proofs.Common.{◌≡◌, ℕ, ◌+◌, ◌%◌, ◌^◌, ◌≤◌, ◌==◌, ◌||◌, Bool, true, List, map, length, get_or, Fits, w8, refl, subst}
use Rattle.std.proofs.lemmas.Bool.{agree_below, cond-true}
use lib.Lanes.{chunk, mask_l, top}
use Rattle.httparse.specs.Pieces.{AllPassBetween, first_set}
use Rattle.httparse.proofs.LaneLemmas.{passes_in}

-- each of its bytes passes a test, where every byte that a lane does not mark does
pub none_marked : (q : ℕ → Bool) (d : List ℕ) (i n : ℕ) (z : List ℕ) → i + n ≤ length d → n ≤ 64 → ((k : ℕ) → Fits w8 (get_or d k 0))
    → (f : ℕ → ℕ) → z ≡ map f (chunk i n d) → agree_below (λ x. top 7 (f x) || q x) (λ _. true) 256 ≡ true
    → (mask_l (map (top 7) z) % 2 ^ 64 == 0) ≡ true → AllPassBetween q d i (i + n)
none_marked q d i n z room few fits f lanes all none =
    let mask = mask_l (map (top 7) z) % 2 ^ 64 in
    let run = passes_in q d i n (first_set mask n) z room few fits refl f lanes all in
    subst (λ r. AllPassBetween q d i (i + r)) (cond-true _ _ _ none) run.1
