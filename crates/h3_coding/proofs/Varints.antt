-- What a read finds at the front of bytes, and what it does not.
use Rattle.std.proofs.Common.{◌≡◌, ℕ, ◌+◌, ◌-◌, ◌/◌, ◌^◌, ◌<◌, ◌≤◌, List, [], ◌∷◌, ◌++◌, length, take, drop, arith, lit<, sym, ◌∙◌, ap, ap₂, refl, subst, zero, suc, length-take, inl, inr, Some, None, Result, Ok, Err}
use Rattle.std.proofs.Math.Seq.{take-append-add, drop-append-add}
use Rattle.std.proofs.lemmas.Nat.{pow_pos}
use Rattle.std.proofs.Math.Nat.{pow-le-pow_right}
use Rattle.std.proofs.lemmas.Bool.{cases_lt}
use Rattle.std.specs.Prelude.{slice_index}
use Rattle.bytes.specs.Unread.{IsChunkOf}
use Rattle.h3_coding.specs.Encodings.{IsEncoding, IsUnfinished, empty, short}
use Rattle.h3_coding.specs.Reading.{Takes}
use Rattle.h3_coding.specs.Varint.{varint_at, ReadsVarint}
use Rattle.h3_coding.specs.declared.coding.UnexpectedEnd.{UnexpectedEnd}
use Rattle.h3_coding.specs.VarintLaws.{enough, fewer, none_at_end, reads_encoding, begins, of_front, used}

pub reads_taken : (v : ℕ) (old new : List ℕ) → Takes (IsEncoding v) old new → varint_at old ≡ Some (v, new)
reads_taken v old new t = ap varint_at t.parts ∙ reads_encoding v t.octets new t.is_encoding

pub reads_none : (old left : List ℕ) (count : ℕ) → IsUnfinished old count left → varint_at old ≡ None
reads_none old left count (empty e k l) = ap varint_at e ∙ none_at_end
reads_none old left count (short first byte e k few) =
    let few' : length old < 2 ^ (first / 64) = subst (λ x. length old < 2 ^ x) k few in
    ap varint_at e ∙ fewer first left (omega (arith, few', ap length e))

-- bytes with no number in front, of which there are some, are fewer than the first one tells
pub unfinished_at : (first count : ℕ) (bytes rest : List ℕ) → first < 256 → bytes ≡ first ∷ rest → varint_at bytes ≡ None → count ≡ first / 64 → IsUnfinished bytes count rest
unfinished_at first count bytes rest byte e none k = elim (cases_lt (length rest) (2 ^ (first / 64) - 1)) [
  | inl few ↦ let power = pow_pos (first / 64) in short first byte e k (rw k (omega (arith, few, power, ap length e)))
  | inr h ↦ let there = enough first rest h in let same = ap varint_at e in absurd (cc)
]

-- bytes without a number are fewer than 8
pub few_unfinished : (old left : List ℕ) (count : ℕ) → IsUnfinished old count left → length old < 8
few_unfinished old left count (empty e k l) = omega (arith, ap length e)
few_unfinished old left count (short first byte e k few) =
    let some : count ≤ 3 = omega arith in
    let most : 2 ^ count ≤ 2 ^ 3 = pow-le-pow_right (lit< tt) some in
    omega (arith, few, most)

-- A number that ends within the first n bytes is read there.
pub within : (v n left : ℕ) (bytes rest : List ℕ) → varint_at bytes ≡ Some (v, rest) → left + length bytes ≡ n + length rest
    → (varint_at (take n bytes) ≡ Some (v, take left rest)) × (drop n bytes ≡ drop left rest)
within v n left bytes rest e count =
    let b = begins v bytes rest e in
    let size = used v bytes rest b in
    let octets = b.first ∷ b.more in
    let sum : n ≡ length octets + left = omega (arith, size) in
    let parts : bytes ≡ octets ++ rest = b.parts in
    let front : take n bytes ≡ octets ++ take left rest = ap₂ (λ k l. take k l) sum parts ∙ take-append-add octets rest left in
    let back : drop n bytes ≡ drop left rest = ap₂ (λ k l. drop k l) sum parts ∙ drop-append-add octets rest left in
    (ap varint_at front ∙ of_front v b.first b.more (take left rest) b.asked b.value, back)

-- a list with a front that is not empty, by its first byte
pub first_of : (chunk all : List ℕ) → IsChunkOf chunk all → 0 < length chunk → all ≡ slice_index chunk 0 ∷ drop 1 all
first_of [] all c h = absurd (omega arith)
first_of (x ∷ xs) [] c h = absurd (omega (arith, c.fits))
first_of (x ∷ xs) (y ∷ ys) c h = let front = c.front in let same : y ≡ x = cc in rw same refl

-- how long a number is, by its first byte
pub sized : (v first : ℕ) (bytes tail rest : List ℕ) → bytes ≡ first ∷ tail → varint_at bytes ≡ Some (v, rest) → length bytes ≡ 2 ^ (first / 64) + length rest
sized v first bytes tail rest is e =
    let b = begins v bytes rest e in
    let joined = sym is ∙ b.parts in
    let same : first ≡ b.first = cc in
    let power = pow_pos (b.first / 64) in
    rw same (omega (arith, used v bytes rest b, b.asked, power))

-- fewer bytes than the first one tells are no number
pub too_few : (n first : ℕ) (bytes tail : List ℕ) → bytes ≡ first ∷ tail → n < 2 ^ (first / 64) → varint_at (take n bytes) ≡ None
too_few zero first bytes tail is h = none_at_end
too_few (suc n) first bytes tail is h = ap (λ l. varint_at (take (suc n) l)) is ∙ fewer first (take n tail) (omega (arith, length-take n tail))

-- each encoding is read as its number, whatever follows it
pub reads_whole : (r : Result ℕ UnexpectedEnd) (n : ℕ) (octets rest old new : List ℕ) → ReadsVarint r old new → IsEncoding n octets → old ≡ octets ++ rest → (r ≡ Ok n) × (new ≡ rest)
reads_whole (Ok v) n octets rest old new e p is =
    let here = ap varint_at is ∙ reads_encoding n octets rest p in
    let pair : (v, new) ≡ (n, rest) = cc in
    let value : v ≡ n = ap (λ (q : ℕ × List ℕ). q.0) pair in
    (ap (λ x. Ok x) value, ap (λ (q : ℕ × List ℕ). q.1) pair)
reads_whole (Err k) n octets rest old new e p is =
    let here = ap varint_at is ∙ reads_encoding n octets rest p in
    absurd (cc)
