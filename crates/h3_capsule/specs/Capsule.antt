-- Capsules (RFC 9297, section 3.2): a type and a length, and so many bytes of a value.
use Rattle.std.specs.Prelude.{ℕ, ◌+◌, ◌-◌, Bool, false, ◌==◌, List, [], ◌∷◌, ◌++◌, length, min, Option, Some, None, if◌then◌else◌}
use Rattle.h3_coding.specs.Varint.{varint_at}
use Rattle.h3_coding.specs.Encodings.{encoding}
use Rattle.h3_capsule.specs.declared.capsule.Capsule.{Capsule}
use Rattle.h3_capsule.specs.declared.capsule.Capsule.TheVariants.{Head, Value, End, Pending}

-- a type and a length in front of bytes; none where they are not whole
abbrev pub length_of : ℕ → Option (ℕ × List ℕ) → Option (ℕ × ℕ)
length_of kind None = None
length_of kind (Some p) = Some (kind, p.0)

abbrev pub head_behind : Option (ℕ × List ℕ) → Option (ℕ × ℕ)
head_behind None = None
head_behind (Some p) = length_of p.0 (varint_at p.1)

unfoldable pub head_of : List ℕ → Option (ℕ × ℕ)
head_of bytes = head_behind (varint_at bytes)

-- what stands in front of a value
abbrev pub capsule_head : ℕ → ℕ → List ℕ
capsule_head kind len = encoding kind ++ encoding len

-- where a reader stands: in a head, of which these bytes came; in a value, of which so many bytes are to come, one at least; at the end of
-- a capsule, of which its caller does not know yet
pub data Place : Type 0 where
  InHead : (bytes : List ℕ) → Place
  InValue : (left : ℕ) → Place
  AtEnd : Place

-- the place of a reader's fields
abbrev pub place_of : Bool → ℕ → List ℕ → Place
place_of is_at_end left head = if is_at_end then AtEnd else (if left == 0 then InHead head else InValue left)

-- the place where so many bytes of a value are to come
abbrev pub in_value : ℕ → Place
in_value left = if left == 0 then AtEnd else InValue left

-- how many bytes a call takes, what it answers, and where it leaves the reader
abbrev pub Answer : Type 0
Answer = ℕ × Capsule × Place

abbrev pub one_more : Answer → Answer
one_more a = (a.0 + 1, a.1, a.2)

abbrev pub with_head : Option (ℕ × ℕ) → Answer → Answer
with_head None later = one_more later
with_head (Some head) later = (1, Head head.0 head.1, in_value head.1)

-- a head is whole with the byte that makes it whole
abbrev pub in_head : List ℕ → List ℕ → Answer
in_head front [] = (0, Pending, InHead front)
in_head front (b ∷ bytes) = with_head (head_of (front ++ b ∷ [])) (in_head (front ++ b ∷ []) bytes)

abbrev pub of_value : ℕ → ℕ → Answer
of_value left count = if count == 0 then (0, Pending, InValue left) else (count, Value count, in_value (left - count))

abbrev pub value_on : Place → ℕ → Answer
value_on (InValue left) there = of_value left (min left there)
value_on place there = (0, Pending, place)

abbrev pub IsInValue : Place → Type 0
IsInValue (InValue left) = Unit {0}
IsInValue _ = ⊥

-- what a call answers to bytes that follow
unfoldable pub read_on : Place → List ℕ → Answer
read_on (InHead front) bytes = in_head front bytes
read_on (InValue left) bytes = of_value left (min left (length bytes))
read_on AtEnd bytes = (0, End, InHead [])

-- whether a reader stands between two capsules
abbrev pub is_between : Place → Bool
is_between (InHead front) = length front == 0
is_between (InValue left) = false
is_between AtEnd = false
