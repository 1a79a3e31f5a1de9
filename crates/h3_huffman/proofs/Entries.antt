-- What an entry of the table says of its index.
use Rattle.std.proofs.Common.{◌≡◌, ℕ, zero, suc, ◌+◌, ◌<◌, Bool, true, List, [], ◌∷◌, length, get_or, arith}
use Rattle.std.proofs.lemmas.Bool.{and_parts, leb-true}
use Rattle.h3_huffman.specs.Tables.{is_entry, IsEntry, all_entries}
use Rattle.h3_huffman.specs.declared.tables.TheConstants.{ENTRIES}
use Rattle.h3_huffman.proofs.Computed.{entries_hold}
use Rattle.h3_huffman.specs.PayloadLaws.{bytes_same}

pub all_entries_at : (p : ℕ → ℕ → Bool) (first : ℕ) (xs : List ℕ) (k : ℕ) → all_entries p first xs ≡ true → k < length xs → p (first + k) (get_or xs k 0) ≡ true
all_entries_at p first [] k h lt = absurd (omega arith)
all_entries_at p first (x ∷ xs) zero h lt =
    let parts = and_parts (p first x) (all_entries p (first + 1) xs) h in
    let e : first + 0 ≡ first = omega arith in
    rw e parts.0
all_entries_at p first (x ∷ xs) (suc k) h lt =
    let parts = and_parts (p first x) (all_entries p (first + 1) xs) h in
    let e : first + suc k ≡ first + 1 + k = omega arith in
    rw e (all_entries_at p (first + 1) xs k parts.1 (omega arith))

pub entry_from : (index e : ℕ) → is_entry index e ≡ true → IsEntry index e
entry_from index e t =
    let h = and_parts _ _ t in
    let g = and_parts _ _ h.0 in
    let f = and_parts _ _ g.0 in
    let d = and_parts _ _ f.0 in
    let c = and_parts _ _ d.0 in
    let b = and_parts _ _ c.0 in
    let a = and_parts _ _ b.0 in
    record {
      words = bytes_same _ _ a.0;
      word = bytes_same _ _ a.1;
      some = leb-true _ _ b.1;
      few = leb-true _ _ c.1;
      spare = leb-true _ _ d.1;
      most = leb-true _ _ f.1;
      first_least = leb-true _ _ g.1;
      first_most = leb-true _ _ h.1;
    }

pub entry_is : (index e : ℕ) → index < 4092 → e ≡ get_or ENTRIES index 0 → IsEntry index e
entry_is index e lt h =
    let at = all_entries_at is_entry 0 ENTRIES index entries_hold lt in
    let z : 0 + index ≡ index = omega arith in
    rw h (entry_from index (get_or ENTRIES index 0) (rw z at at))
