-- How long integers and strings are as they are written: with the choice on, a string is never longer than in another way.
use Rattle.std.proofs.Common.{ℕ, zero, suc, ◌+◌, ◌*◌, ◌-◌, ◌/◌, ◌≤◌, Bool, true, false, if◌then◌else◌, List, length, arith, inl, inr, length-append}
use Rattle.std.proofs.lemmas.Bool.{lt-ltb, le-ltb, cases_lt}
use Rattle.h3_huffman.specs.Huffman.{huffman}
use Rattle.h3_field.specs.Integer.{groups, ones, prefixed}
use Rattle.h3_field.specs.StringLiteral.{Text, coded, bit_h, text_bytes, string_literal}

groups_within : (most n : ℕ) → length (groups most n) ≤ most
groups_within zero n = omega arith
groups_within (suc most) n =
    elim (cases_lt n 128) [
      | inl last ↦ rw (lt-ltb n 128 last) (omega arith)
      | inr more ↦ let rest = groups_within most (n / 128) in rw (le-ltb n 128 more) (omega (arith, rest))
    ]

some_group : (most n : ℕ) → 1 ≤ length (groups (suc most) n)
some_group most n =
    elim (cases_lt n 128) [
      | inl last ↦ rw (lt-ltb n 128 last) (omega arith)
      | inr more ↦ rw (le-ltb n 128 more) (omega arith)
    ]

-- a greater number has no fewer groups
groups_longer : (most n m : ℕ) → n ≤ m → length (groups most n) ≤ length (groups most m)
groups_longer zero n m le = omega arith
groups_longer (suc most) n m le =
    elim (cases_lt n 128) [
      | inl last ↦ let some = some_group most m in rw (lt-ltb n 128 last) (omega (arith, some))
      | inr more ↦
          let other : 128 ≤ m = omega (arith, more, le) in
          let rest = groups_longer most (n / 128) (m / 128) (omega (arith, le)) in
          rw (le-ltb n 128 more, le-ltb m 128 other) (omega (arith, rest))
    ]

-- an integer takes ten bytes at most
pub prefixed_within : (size flags n : ℕ) → length (prefixed size flags n) ≤ 10
prefixed_within size flags n =
    elim (cases_lt n (ones size)) [
      | inl small ↦ rw (lt-ltb n (ones size) small) (omega arith)
      | inr large ↦ let rest = groups_within 9 (n - ones size) in rw (le-ltb n (ones size) large) (omega (arith, rest))
    ]

some_prefixed : (size flags n : ℕ) → 1 ≤ length (prefixed size flags n)
some_prefixed size flags n =
    elim (cases_lt n (ones size)) [
      | inl small ↦ rw (lt-ltb n (ones size) small) (omega arith)
      | inr large ↦ rw (le-ltb n (ones size) large) (omega arith)
    ]

-- a greater one takes no fewer, whatever the flags
pub prefixed_longer : (size flags other n m : ℕ) → n ≤ m → length (prefixed size flags n) ≤ length (prefixed size other m)
prefixed_longer size flags other n m le =
    elim (cases_lt n (ones size)) [
      | inl small ↦ let some = some_prefixed size other m in rw (lt-ltb n (ones size) small) (omega (arith, some))
      | inr large ↦
          let more : ones size ≤ m = omega (arith, large, le) in
          let rest = groups_longer 9 (n - ones size) (m - ones size) (omega (arith, le)) in
          rw (le-ltb n (ones size) large, le-ltb m (ones size) more) (omega (arith, rest))
    ]

literal_longer : (size flags : ℕ) (a b : Text) → length (text_bytes a) ≤ length (text_bytes b) → length (string_literal size flags a) ≤ length (string_literal size flags b)
literal_longer size flags a b le =
    let own = 2 * flags + bit_h a.is_huffman in
    let other = 2 * flags + bit_h b.is_huffman in
    let head = prefixed_longer (size - 1) own other (length (text_bytes a)) (length (text_bytes b)) le in
    let first = length-append (prefixed (size - 1) own (length (text_bytes a))) (text_bytes a) in
    let second = length-append (prefixed (size - 1) other (length (text_bytes b))) (text_bytes b) in
    omega (arith, head, le, first, second)

either : (h : Bool) (a b : List ℕ) (n : ℕ) → n ≤ length a → n ≤ length b → n ≤ length (if h then a else b)
either true a b n x y = x
either false a b n x y = y

-- behind the length stand no more bytes than in another way
shortest_bytes : (bytes : List ℕ) (h : Bool) → length (text_bytes (coded true bytes)) ≤ length (if h then huffman bytes else bytes)
shortest_bytes bytes h =
    elim (cases_lt (length (huffman bytes)) (length bytes)) [
      | inl less ↦ rw (lt-ltb (length (huffman bytes)) (length bytes) less) (either h (huffman bytes) bytes (length (huffman bytes)) (omega arith) (omega (arith, less)))
      | inr more ↦ rw (le-ltb (length (huffman bytes)) (length bytes) more) (either h (huffman bytes) bytes (length bytes) (omega (arith, more)) (omega arith))
    ]

-- with the choice on a string is not longer than it is in any other way
pub shortest : (size flags : ℕ) (text : Text) → length (string_literal size flags (coded true text.bytes)) ≤ length (string_literal size flags text)
shortest size flags text = literal_longer size flags (coded true text.bytes) text (shortest_bytes text.bytes text.is_huffman)

-- and at most ten bytes longer than its own
pub shortest_within : (size flags : ℕ) (bytes : List ℕ) → length (string_literal size flags (coded true bytes)) ≤ length bytes + 10
shortest_within size flags bytes =
    let text = coded true bytes in
    let front = prefixed (size - 1) (2 * flags + bit_h text.is_huffman) (length (text_bytes text)) in
    let head = prefixed_within (size - 1) (2 * flags + bit_h text.is_huffman) (length (text_bytes text)) in
    let few = shortest_bytes bytes false in
    omega (arith, head, few, length-append front (text_bytes text))
