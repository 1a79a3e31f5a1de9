-- An index of the entries of a dynamic table: those of one slot in a chain, the newest first. Entries have numbers, the
-- first that is there `evicted + 1`; what the index keeps of entries that are evicted says nothing.
use Rattle.std.specs.Prelude.{◌≡◌, ◌<◌, ◌≤◌, ℕ, ◌+◌, List, length, slice_get, slice_index_or, Some}
use Rattle.std.specs.VecDeque.{deque_capacity, deque_len}
use Rattle.h3_table.specs.declared.index.Index.{Index}

-- The number is that of the newest entry of the slot, of those below a bound, or that of no entry that is there.
pub record IsNewestBelow (evicted : ℕ) (slots : List ℕ) (slot bound number : ℕ) : Type 0 where
  pub below : number < bound
  pub newest : (i : ℕ) → slice_get slots i ≡ Some slot → evicted + 1 + i < bound → evicted + 1 + i ≤ number
  pub here : (i : ℕ) → number ≡ evicted + 1 + i → slice_get slots i ≡ Some slot

-- The chains are those of entries with these slots.
pub record IsIndexed (index : Index) (evicted : ℕ) (slots : List ℕ) : Type 0 where
  pub len : length index.links.items ≡ length slots
  pub heads : (slot : ℕ) → slot < 256 → IsNewestBelow evicted slots slot (evicted + 1 + length slots) (slice_index_or index.heads.items slot 0)
  pub links : (i slot : ℕ) → slice_get slots i ≡ Some slot → IsNewestBelow evicted slots slot (evicted + 1 + i) (slice_index_or index.links.items i 0)

-- There is memory for one entry more.
pub record HasRoom (index : Index) : Type 0 where
  pub heads : length index.heads.items ≡ 256
  pub links : deque_len index.links < deque_capacity index.links
