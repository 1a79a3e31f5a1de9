-- The steps of writing the groups of an integer, and how many bytes one takes.
use Rattle.std.proofs.Common.{◌≡◌, ℕ, zero, suc, ◌+◌, ◌-◌, ◌*◌, ◌/◌, ◌%◌, ◌^◌, ◌<◌, ◌≤◌, List, [], ◌∷◌, ◌++◌, length, refl, arith, append_assoc, ◌∙◌, inl, inr}
use Rattle.std.proofs.lemmas.Bool.{lt-ltb, le-ltb, cases_lt}
use Rattle.std.proofs.lemmas.Grind.{pow_more}
use Rattle.h3_field.specs.Integer.{groups, ones, prefixed}
use Rattle.h3_field.specs.IntegerSteps.{Left}

pub groups_next : (k n : ℕ) → 128 ≤ n → groups (suc k) n ≡ (128 + n % 128) ∷ groups k (n / 128)
groups_next k n h = rw (le-ltb n 128 h) refl

left_step : (k : ℕ) (start front items new : List ℕ) (first all rest : ℕ) → items ≡ start ++ front → rest < 128 ^ suc k → items ++ groups (suc k) rest ≡ start ++ first ∷ groups 9 all → 128 ≤ rest → new ≡ items ++ (128 + rest % 128) ∷ [] → Left start new first all (rest / 128)
left_step zero start front items new first all rest f b s large e = absurd (omega arith)
left_step (suc k) start front items new first all rest f b s large e =
    let power : 128 ^ (suc k + 1) ≡ 128 ^ suc k * 128 = pow_more 128 (suc k) in
    let next : suc k + 1 ≡ suc (suc k) = omega arith in
    let below' : rest / 128 < 128 ^ suc k = omega (arith, rw next at power, b) in
    let joined = rw (groups_next (suc k) rest large) at s in
    record {
      front = front ++ (128 + rest % 128) ∷ [];
      kept = rw (e, f) (append_assoc start front ((128 + rest % 128) ∷ []));
      most = k;
      below = below';
      same = rw e (append_assoc items ((128 + rest % 128) ∷ []) (groups (suc k) (rest / 128)) ∙ joined);
    }

pub left_more : (start items new : List ℕ) (first all rest : ℕ) → Left start items first all rest → 128 ≤ rest → new ≡ items ++ (128 + rest % 128) ∷ [] → Left start new first all (rest / 128)
left_more start items new first all rest l large e = left_step l.most start l.front items new first all rest l.kept l.below l.same large e

-- there is at least one group, and of numbers below a power of 128 at most so many
pub groups_some : (most n : ℕ) → 0 < length (groups (suc most) n)
groups_some most n =
    elim (cases_lt n 128) [
      | inl small ↦ rw (lt-ltb n 128 small) (omega arith)
      | inr large ↦ rw (le-ltb n 128 large) (omega arith)
    ]

pub groups_short : (most count n : ℕ) → 0 < count → n < 128 ^ count → length (groups most n) ≤ count
groups_short zero count n above below = omega arith
groups_short (suc most) zero n above below = absurd (omega (arith, above))
groups_short (suc most) (suc zero) n above below =
    let small : n < 128 = omega (arith, below) in
    rw (lt-ltb n 128 small) (omega arith)
groups_short (suc most) (suc (suc count)) n above below =
    elim (cases_lt n 128) [
      | inl small ↦ rw (lt-ltb n 128 small) (omega arith)
      | inr large ↦
          let power : 128 ^ (suc count + 1) ≡ 128 ^ suc count * 128 = pow_more 128 (suc count) in
          let next : suc count + 1 ≡ suc (suc count) = omega arith in
          let fewer : n / 128 < 128 ^ suc count = omega (arith, rw next at power, below) in
          let rest = groups_short most (suc count) (n / 128) (omega arith) fewer in
          rw (le-ltb n 128 large) (omega (arith, rest))
    ]

-- a number below a power of 128 takes at most a byte more than it has groups
pub prefixed_short : (size flags count n : ℕ) → 0 < count → n < 128 ^ count → length (prefixed size flags n) ≤ suc count
prefixed_short size flags count n above below =
    elim (cases_lt n (ones size)) [
      | inl small ↦ rw (lt-ltb n (ones size) small) (omega (arith, above))
      | inr large ↦
          let rest = groups_short 9 count (n - ones size) above (omega (arith, below)) in
          rw (le-ltb n (ones size) large) (omega (arith, rest))
    ]
