-- Heads: how long the bytes of one are that is not whole, and a round of the loop over them.
use Rattle.std.proofs.Common.{◌≡◌, ℕ, ◌+◌, ◌<◌, ◌≤◌, List, [], ◌∷◌, ◌++◌, length, drop, get_or, Some, None, ap, ◌∙◌, sym, arith, lit≤, add_comm, zero-add}
use Rattle.std.proofs.lemmas.List.{drop_more, drop_all}
use Rattle.h3_coding.specs.Encodings.{IsEncoding, one, two, four, eight}
use Rattle.h3_capsule.specs.declared.capsule.Capsule.TheVariants.{Head, Pending}
use Rattle.h3_capsule.specs.Capsule.{Answer, head_of, in_value, in_head, one_more}
use Rattle.h3_capsule.specs.Capsule.Place.{InHead}

pub most : (v : ℕ) (octets : List ℕ) → IsEncoding v octets → length octets ≤ 8
most v octets (one f) = rw f.count (lit≤ tt)
most v octets (two f) = rw f.count (lit≤ tt)
most v octets (four f) = rw f.count (lit≤ tt)
most v octets (eight f) = rw f.count (lit≤ tt)

-- so many bytes were taken before
abbrev pub later : ℕ → Answer → Answer
later n a = (a.0 + n, a.1, a.2)

next : (bytes : List ℕ) (i b : ℕ) → i < length bytes → b ≡ get_or bytes i b → drop i bytes ≡ b ∷ drop (i + 1) bytes
next bytes i b h e = drop_more bytes i b h ∙ ap (λ x. x ∷ drop (i + 1) bytes) (sym e)

shifted : (i : ℕ) (a : Answer) → later i (one_more a) ≡ later (i + 1) a
shifted i a = let sums : a.0 + 1 + i ≡ a.0 + (i + 1) = omega arith in ap (λ n. (n, a.1, a.2)) sums

pub more : (front bytes : List ℕ) (i b : ℕ) → i < length bytes → b ≡ get_or bytes i b → head_of (front ++ b ∷ []) ≡ None → later i (in_head front (drop i bytes)) ≡ later (i + 1) (in_head (front ++ b ∷ []) (drop (i + 1) bytes))
more front bytes i b h e none =
    rw (next bytes i b h e, none) (shifted i (in_head (front ++ b ∷ []) (drop (i + 1) bytes)))

pub whole : (front bytes : List ℕ) (i b kind len : ℕ) → i < length bytes → b ≡ get_or bytes i b → head_of (front ++ b ∷ []) ≡ Some (kind, len) → later i (in_head front (drop i bytes)) ≡ (i + 1, Head kind len, in_value len)
whole front bytes i b kind len h e some = rw (next bytes i b h e, some) (ap (λ n. (n, Head kind len, in_value len)) (add_comm 1 i))

pub done : (front bytes : List ℕ) (i : ℕ) → length bytes ≤ i → later i (in_head front (drop i bytes)) ≡ (i, Pending, InHead front)
done front bytes i h = rw (drop_all i bytes h) (ap (λ n. (n, Pending, InHead front)) (zero-add i))
