-- What holds of the number that bytes begin with.
use Rattle.std.proofs.Common.{◌≡◌, ℕ, suc, ◌+◌, ◌-◌, ◌/◌, ◌^◌, ◌%◌, ◌*◌, ◌<◌, ◌≤◌, List, [], ◌∷◌, ◌++◌, length, take, drop, arith, sym, ◌∙◌, ap, ap₂, refl, ◌⊎◌, subst, length-append, length-take-le, append_assoc, inl, inr, Option, Some, None}
use Rattle.std.proofs.lemmas.List.{take_at, drop_at, take-append-drop}
use Rattle.std.proofs.lemmas.Nat.{mul-add-lt}
use Rattle.std.proofs.lemmas.Bool.{cases_lt, lt-ltb, le-ltb}
use Rattle.std.specs.List.{AllByRecursion}
use Rattle.h3_coding.specs.Encodings.{IsEncoding, encoding, IsByte, big_endian}
use Rattle.h3_coding.specs.EncodingLaws.{opened, encoding_is_valid, big_endian_below, form}
use Rattle.h3_coding.specs.Reading.{Takes}
use Rattle.h3_coding.specs.Varint.{varint_at, varint_of}
use Rattle.h3_coding.specs.Begins.{Begins}

pub enough : (first : ℕ) (rest : List ℕ) → 2 ^ (first / 64) - 1 ≤ length rest → varint_at (first ∷ rest) ≡ Some (varint_of first (take (2 ^ (first / 64) - 1) rest), drop (2 ^ (first / 64) - 1) rest)
unfolding varint_at
enough first rest h = rw (le-ltb (length rest) (2 ^ (first / 64) - 1) h) refl

pub fewer : (first : ℕ) (rest : List ℕ) → length rest < 2 ^ (first / 64) - 1 → varint_at (first ∷ rest) ≡ None
unfolding varint_at
fewer first rest h = rw (lt-ltb (length rest) (2 ^ (first / 64) - 1) h) refl

pub none_at_end : varint_at [] ≡ None
unfolding varint_at
none_at_end = refl

-- an encoding of v in front is read as v
pub reads_encoding : (v : ℕ) (octets rest : List ℕ) → IsEncoding v octets → varint_at (octets ++ rest) ≡ Some (v, rest)
reads_encoding v octets rest p =
    let o = opened v octets p in
    let more = 2 ^ (o.first / 64) - 1 in
    let joined : octets ++ rest ≡ o.first ∷ (o.rest ++ rest) = ap (λ x. x ++ rest) o.is in
    let size : length (o.rest ++ rest) ≡ length o.rest + length rest = length-append o.rest rest in
    let here = enough o.first (o.rest ++ rest) (omega (arith, o.count, size)) in
    let front : take more (o.rest ++ rest) ≡ o.rest = take_at o.rest rest more o.count in
    let back : drop more (o.rest ++ rest) ≡ rest = drop_at o.rest rest more o.count in
    let value : varint_of o.first (take more (o.rest ++ rest)) ≡ v = ap (varint_of o.first) front ∙ sym o.value in
    ap varint_at joined ∙ here ∙ ap₂ (λ x y. Some (x, y)) value back

pub reads_shortest : (v : ℕ) (rest : List ℕ) → v < 2 ^ 62 → varint_at (encoding v ++ rest) ≡ Some (v, rest)
reads_shortest v rest h = reads_encoding v (encoding v) rest (encoding_is_valid v h)

cases_option : (o : Option (ℕ × List ℕ)) → {p : Option (ℕ × List ℕ)} → p ≡ o → (p ≡ None) ⊎ ((v : ℕ) × (rest : List ℕ) × (p ≡ Some (v, rest)))
cases_option None e = inl e
cases_option (Some q) e = inr (q.0, q.1, e)

-- there is a number or none
pub cases_number : (bytes : List ℕ) → (varint_at bytes ≡ None) ⊎ ((v : ℕ) × (rest : List ℕ) × (varint_at bytes ≡ Some (v, rest)))
cases_number bytes = cases_option (varint_at bytes) refl

enough_or : (first : ℕ) (rest : List ℕ) (p : ℕ × List ℕ) → varint_at (first ∷ rest) ≡ Some p → 2 ^ (first / 64) - 1 ≤ length rest
enough_or first rest p e = elim (cases_lt (length rest) (2 ^ (first / 64) - 1)) [
  | inl few ↦ let none = fewer first rest few in absurd (cc)
  | inr h ↦ h
]

pub begins : (v : ℕ) (bytes rest : List ℕ) → varint_at bytes ≡ Some (v, rest) → Begins v bytes rest
begins v [] rest e = let none = none_at_end in absurd (cc)
begins v (first ∷ tail) rest e =
    let count = 2 ^ (first / 64) - 1 in
    let h = enough_or first tail (v, rest) e in
    let here = sym (enough first tail h) ∙ e in
    let pair : (varint_of first (take count tail), drop count tail) ≡ (v, rest) = cc in
    let value : varint_of first (take count tail) ≡ v = ap (λ (p : ℕ × List ℕ). p.0) pair in
    let back : drop count tail ≡ rest = ap (λ (p : ℕ × List ℕ). p.1) pair in
    record {
      first = first;
      more = take count tail;
      asked = length-take-le count tail h;
      parts = ap (λ l. first ∷ l) (sym (take-append-drop count tail) ∙ ap (λ l. take count tail ++ l) back);
      value = sym value;
    }

-- the same front is read as v, whatever follows it
pub of_front : (v first : ℕ) (more rest : List ℕ) → length more ≡ 2 ^ (first / 64) - 1 → v ≡ varint_of first more → varint_at (first ∷ (more ++ rest)) ≡ Some (v, rest)
of_front v first more rest asked value =
    let n = 2 ^ (first / 64) - 1 in
    let here = enough first (more ++ rest) (omega (arith, asked, length-append more rest)) in
    let front : take n (more ++ rest) ≡ more = take_at more rest n asked in
    let back : drop n (more ++ rest) ≡ rest = drop_at more rest n asked in
    here ∙ ap₂ (λ x y. Some (x, y)) (ap (varint_of first) front ∙ sym value) back

-- a number is read as it is, whatever follows the bytes
pub reads_more : (v : ℕ) (bytes rest more : List ℕ) → varint_at bytes ≡ Some (v, rest) → varint_at (bytes ++ more) ≡ Some (v, rest ++ more)
reads_more v bytes rest more e =
    let b = begins v bytes rest e in
    let all : bytes ++ more ≡ b.first ∷ (b.more ++ (rest ++ more)) = ap (λ l. l ++ more) b.parts ∙ ap (λ l. b.first ∷ l) (append_assoc b.more rest more) in
    ap varint_at all ∙ of_front v b.first b.more (rest ++ more) b.asked b.value

-- a number has at least one byte
pub shorter : (v : ℕ) (bytes rest : List ℕ) → varint_at bytes ≡ Some (v, rest) → length rest < length bytes
shorter v bytes rest e =
    let b = begins v bytes rest e in
    omega (arith, ap length b.parts, length-append b.more rest)

each_front : (xs ys : List ℕ) → AllByRecursion IsByte (xs ++ ys) → AllByRecursion IsByte xs
each_front [] ys h = tt
each_front (x ∷ xs) ys h = (h.0, each_front xs ys h.1)

-- the number at the front of bytes is there as one of its encodings
pub is_read : (v : ℕ) (bytes rest : List ℕ) → AllByRecursion IsByte bytes → varint_at bytes ≡ Some (v, rest) → Takes (IsEncoding v) bytes rest
is_read v bytes rest each e =
    let b = begins v bytes rest e in
    let all : AllByRecursion IsByte (b.first ∷ (b.more ++ rest)) = subst (λ l. AllByRecursion IsByte l) b.parts each in
    let more = each_front b.more rest all.1 in
    let low = big_endian_below b.more more in
    let sum = mul-add-lt (b.first % 64) (256 ^ length b.more) (big_endian b.more) 64 (omega arith) low in
    let room : b.first % 64 * 256 ^ length b.more + big_endian b.more < 64 * 256 ^ length b.more = omega (arith, sum) in
    record {
      octets = b.first ∷ b.more;
      is_encoding = subst (λ x. IsEncoding x (b.first ∷ b.more)) (sym b.value) (form (b.first / 64) b.first b.more all.0 refl b.asked more room);
      parts = b.parts;
    }

-- how many bytes a number has
pub used : (v : ℕ) (bytes rest : List ℕ) → (b : Begins v bytes rest) → length bytes ≡ suc (length b.more) + length rest
used v bytes rest b = omega (arith, ap length b.parts, length-append b.more rest)
