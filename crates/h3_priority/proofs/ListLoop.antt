-- The loop over the items of an inner list: what is left reads as the whole does.
use Rattle.std.proofs.Common.{◌≡◌, ℕ, ◌<◌, ◌≤◌, ◌||◌, true, false, List, [], ◌∷◌, length, Some, arith}
use Rattle.h3_priority.specs.declared.characters.Class.TheVariants.{Space}
use Rattle.h3_priority.specs.declared.item.Item.{Item}
use Rattle.h3_priority.specs.Characters.{is_in}
use Rattle.h3_priority.specs.Items.{item_at}
use Rattle.h3_priority.specs.Dictionary.{listed_from, listed_at}
use Rattle.h3_priority.specs.Reading.{begins_with, after, go_on}
use Rattle.h3_priority.proofs.Shorter.{after_le}
use Rattle.h3_priority.proofs.ListsShorter.{item_shorter, listed_next}

-- an item was read, and what may stand behind it comes next
pub record IsListed (text rest next : List ℕ) (item : Item) : Type 0 where
  pub begins : begins_with 41 text ≡ false
  pub read : item_at text ≡ Some (item, rest)
  pub over : begins_with 32 rest || begins_with 41 rest ≡ true
  pub next_is : next ≡ after (is_in Space) rest

pub same : (text rest next : List ℕ) (item : Item) → IsListed text rest next item → go_on (listed_from text) listed_at ≡ go_on (listed_from next) listed_at
same text rest next item p = rw (p.begins, p.read, p.over, p.next_is) (listed_next rest)

some : (b c : ℕ) (text : List ℕ) → begins_with b text || begins_with c text ≡ true → 0 < length text
some b c [] h = absurd (cc)
some b c (x ∷ text) h = omega arith

pub shorter : (text rest next : List ℕ) (item : Item) → IsListed text rest next item → length next < length text
shorter text rest next item p =
    let left = rw p.read at (item_shorter text) in
    let fewer : length next ≤ length rest = rw p.next_is (after_le (is_in Space) rest) in
    omega (arith, left, fewer, some 32 41 rest p.over)
