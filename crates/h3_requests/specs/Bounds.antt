-- Between which numbers the words stand on whose streams something waits.
use Rattle.std.specs.Prelude.{◌≡◌, ◌<◌, ℕ}
use Rattle.h3_requests.specs.declared.waiting.bounds.Bounds.{Bounds}
use Rattle.h3_requests.specs.declared.waiting.word.Word.{Word}

-- on no stream of a word outside of them something waits
pub record AreWithin (b : Bounds) (words : ℕ → Word) : Type 0 where
  pub below : (q : ℕ) → q < b.lowest → (words q).waiting ≡ 0
  pub above : (q : ℕ) → b.highest < q → (words q).waiting ≡ 0
