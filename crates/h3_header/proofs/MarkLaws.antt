-- Tables that have 1 at each byte of a class, and what a loop over a text makes of their entries.
use Rattle.std.proofs.Common.{◌≡◌, ℕ, ◌+◌, ◌<◌, Bool, true, false, ◌&&◌, cond, bit_and, List, length, map, take, get_or, refl, ap, ap₂, sym, ◌∙◌, arith}
use Rattle.std.specs.List.{list_all, range_with_len}
use Rattle.std.proofs.lemmas.List.FromFn.{get_or-map-range_with_len}
use Rattle.std.proofs.lemmas.List.Folds.{list_all_more}

-- 1 for a byte of the class
abbrev pub mark : (ℕ → Bool) → ℕ → ℕ
mark test b = cond (test b) 1 0

-- 1 for a text of such bytes
abbrev pub marked : (ℕ → Bool) → List ℕ → ℕ
marked test text = cond (list_all test text) 1 0

-- the table of a class
abbrev pub IsTable : (ℕ → Bool) → List ℕ → Type 0
IsTable test table = table ≡ map (mark test) (range_with_len 0 256)

both : (a b : Bool) → bit_and (cond a 1 0) (cond b 1 0) ≡ cond (a && b) 1 0
both true true = refl
both true false = refl
both false true = refl
both false false = refl

pub entry : (test : ℕ → Bool) (table : List ℕ) (b d : ℕ) → IsTable test table → b < 256 → get_or table b d ≡ mark test b
entry test table b d is inside = ap (λ t. get_or t b d) is ∙ get_or-map-range_with_len (mark test) 0 256 b b d inside (omega arith)

-- one byte more
pub marked_more : (test : ℕ → Bool) (text : List ℕ) (i d all one : ℕ) → i < length text → all ≡ marked test (take i text) → one ≡ mark test (get_or text i d)
    → bit_and all one ≡ marked test (take (i + 1) text)
marked_more test text i d all one inside before is =
    ap₂ bit_and before is ∙ both (list_all test (take i text)) (test (get_or text i d)) ∙ ap (λ b. cond b 1 0) (sym (list_all_more test text i d inside))
