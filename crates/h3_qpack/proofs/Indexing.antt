-- How an index goes with the table as entries are inserted and are evicted.
use Rattle.std.proofs.Common.{◌≡◌, ◌≤◌, ℕ, ◌+◌, ◌-◌, List, [], ◌∷◌, ◌++◌, length, map, drop, sym, ◌∙◌, ap, arith, length-append}
use Rattle.std.proofs.lemmas.List.{map-append, drop-map, length-map}
use Rattle.h3_field.specs.Field.{Field}
use Rattle.h3_table.specs.Table.{table, evictions}
use Rattle.h3_table.specs.TableState.{TableState, evicted, with_entry, with_capacity}
use Rattle.h3_table.specs.Slots.{slot_of}
use Rattle.h3_table.specs.Index.{IsIndexed}
use Rattle.h3_qpack.specs.TableInside.{IsIndexedBy}
use Rattle.h3_table.specs.declared.index.Index.{Index}
use Rattle.h3_table.specs.declared.entries.Match.{Match}
use Rattle.h3_qpack.proofs.TableStates.{table-end}
use Rattle.h3_table.specs.TableLaws.{length-table}

-- `old` with the oldest of its entries dropped, so many, is `new`.
abbrev pub IsDropped : Index → Index → ℕ → Type 0
IsDropped old new count = (evicted : ℕ) (slots : List ℕ) → IsIndexed old evicted slots → count ≤ length slots → IsIndexed new (evicted + count) (drop count slots)

-- the slots of what is left of some fields
slots_left : (what : Match) (capacity count : ℕ) (fs : List Field) → count ≡ evictions capacity fs → drop count (map (slot_of what) fs) ≡ map (slot_of what) (table capacity fs)
slots_left what capacity count fs is =
    drop-map (slot_of what) count fs ∙ ap (λ n. map (slot_of what) (drop n fs)) is ∙ ap (map (slot_of what)) (sym (table-end capacity fs))

pub indexed_with_capacity : (h : TableState) (what : Match) (capacity after before : ℕ) (old new : Index) → length h.entries ≤ h.inserted → before ≡ evicted h
    → after ≡ h.inserted - length (table capacity h.entries) → before ≤ after → IsIndexedBy old what h → IsDropped old new (after - before) → IsIndexedBy new what (with_capacity h capacity)
indexed_with_capacity h what capacity after before old new made before_is is low i step =
    let less = length-table capacity h.entries in
    let count_is : after - before ≡ evictions capacity h.entries = omega (arith, is, made, less, low, before_is) in
    let slots = slots_left what capacity (after - before) h.entries count_is in
    let evicted_is : evicted h + (after - before) ≡ evicted (with_capacity h capacity) = omega (arith, is, low, before_is) in
    let short : after - before ≤ length (map (slot_of what) h.entries) = omega (arith, count_is, length-map h.entries (slot_of what)) in
    rw (← slots, ← evicted_is) (step (evicted h) (map (slot_of what) h.entries) i short)

pub indexed_with_entry : (h : TableState) (what : Match) (f : Field) (slot number after before : ℕ) (old added new : Index) → length h.entries ≤ h.inserted → before ≡ evicted h → slot ≡ slot_of what f
    → number ≡ h.inserted + 1 → after ≡ evicted (with_entry h f) → evicted h ≤ after → IsIndexedBy old what h
    → ((evicted : ℕ) (slots : List ℕ) → IsIndexed old evicted slots → number ≡ evicted + 1 + length slots → IsIndexed added evicted (slots ++ slot ∷ []))
    → IsDropped added new (after - before) → IsIndexedBy new what (with_entry h f)
indexed_with_entry h what f slot number after before old added new made before_is slot_is number_is is low i add step =
    let fs = h.entries ++ f ∷ [] in
    let one = length-append h.entries (f ∷ []) in
    let len = length-map h.entries (slot_of what) in
    let less = length-table h.capacity fs in
    let count_is : after - before ≡ evictions h.capacity fs = omega (arith, is, made, less, low, one, before_is) in
    let all : map (slot_of what) h.entries ++ slot ∷ [] ≡ map (slot_of what) fs = ap (λ n. map (slot_of what) h.entries ++ n ∷ []) slot_is ∙ sym (map-append (slot_of what) h.entries (f ∷ [])) in
    let slots = slots_left what h.capacity (after - before) fs count_is in
    let evicted_is : evicted h + (after - before) ≡ evicted (with_entry h f) = omega (arith, is, low, before_is) in
    let short : after - before ≤ length (map (slot_of what) fs) = omega (arith, count_is, length-map fs (slot_of what)) in
    let further : IsIndexed added (evicted h) (map (slot_of what) fs) = rw (← all) (add (evicted h) (map (slot_of what) h.entries) i (omega (arith, number_is, len, made))) in
    rw (← slots, ← evicted_is) (step (evicted h) (map (slot_of what) fs) further short)
