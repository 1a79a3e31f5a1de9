-- How an index goes with the entries that it is of.
use Rattle.std.proofs.Common.{◌≡◌, ◌<◌, ◌≤◌, ℕ, zero, suc, ◌+◌, List, [], ◌∷◌, ◌++◌, length, take, drop, replicate, slice_get, get_or, refl, sym, ◌∙◌, ap, arith, length-drop}
use Rattle.h3_table.specs.declared.index.Index.{Index}
use Rattle.h3_table.specs.Index.{IsNewestBelow, IsIndexed}
use Rattle.std.proofs.lemmas.List.{get_or-drop}

zeros : (k i : ℕ) → ◌≡◌ {A = ℕ} (get_or (replicate k 0) i 0) 0
zeros zero i = refl
zeros (suc k) zero = refl
zeros (suc k) (suc i) = zeros k i

-- Zeros at the end say what is said where there is no item.
pub filled : (n k : ℕ) (xs : List ℕ) (i : ℕ) → i < n → get_or (take n xs ++ replicate k 0) i 0 ≡ get_or xs i 0
filled zero k xs i lt = absurd (omega (arith, lt))
filled (suc n) k [] i lt = zeros k i
filled (suc n) k (x ∷ xs) zero lt = refl
filled (suc n) k (x ∷ xs) (suc i) lt = filled n k xs i (omega (arith, lt))

pub still_indexed : (old new : Index) (evicted : ℕ) (slots : List ℕ) → new.links.items ≡ old.links.items
    → ((slot : ℕ) → slot < 256 → get_or new.heads.items slot 0 ≡ get_or old.heads.items slot 0) → IsIndexed old evicted slots → IsIndexed new evicted slots
still_indexed old new evicted slots links heads i =
    record {
      len = ap length links ∙ i.len;
      heads = λ slot lt. rw (heads slot lt) (i.heads slot lt);
      links = λ place slot at. rw links (i.links place slot at);
    }

slice_get-drop : (n : ℕ) (xs : List ℕ) (i : ℕ) → slice_get (drop n xs) i ≡ slice_get xs (n + i)
slice_get-drop zero xs i = let e : 0 + i ≡ i = omega arith in rw e refl
slice_get-drop (suc n) [] i = refl
slice_get-drop (suc n) (x ∷ xs) i = let e : suc n + i ≡ suc (n + i) = omega arith in rw e (slice_get-drop n xs i)

-- the same of the entries that are left
left : (count evicted : ℕ) (slots : List ℕ) (slot bound number : ℕ) → IsNewestBelow evicted slots slot bound number → IsNewestBelow (evicted + count) (drop count slots) slot bound number
left count evicted slots slot bound number h =
    record {
      below = h.below;
      newest = λ i at lt. omega (arith, h.newest (count + i) (sym (slice_get-drop count slots i) ∙ at) (omega (arith, lt)));
      here = λ i e. slice_get-drop count slots i ∙ h.here (count + i) (omega (arith, e));
    }

pub indexed_later : (old new : Index) (count evicted : ℕ) (slots : List ℕ) → new.heads.items ≡ old.heads.items → new.links.items ≡ drop count old.links.items
    → count ≤ length slots → IsIndexed old evicted slots → IsIndexed new (evicted + count) (drop count slots)
indexed_later old new count evicted slots heads links le i =
    let bound : evicted + count + 1 + length (drop count slots) ≡ evicted + 1 + length slots = omega (arith, le, length-drop count slots) in
    record {
      len = ap length links ∙ omega (arith, i.len, length-drop count slots, length-drop count old.links.items);
      heads = λ slot lt. rw (heads, bound) (left count evicted slots slot _ _ (i.heads slot lt));
      links = λ place slot at.
          let same : evicted + count + 1 + place ≡ evicted + 1 + (count + place) = omega arith in
          rw (links, get_or-drop count old.links.items place 0, same) (left count evicted slots slot _ _ (i.links (count + place) slot (sym (slice_get-drop count slots place) ∙ at)));
    }
