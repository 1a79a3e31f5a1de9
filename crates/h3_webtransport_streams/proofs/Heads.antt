-- The front of a stream in any pieces: it is told with its last byte, as the type and length of a capsule are.
use Rattle.std.proofs.Common.{◌≡◌, ℕ, ◌+◌, ◌<◌, inl, inr, List, [], ◌∷◌, ◌++◌, length, Some, None, refl, ap, sym, ◌∙◌, suc, arith, append_assoc, append-nil, length-append}
use Rattle.h3_coding.specs.Varint.{varint_at}
use Rattle.h3_coding.specs.VarintLaws.{reads_more, cases_number}
use Rattle.h3_capsule.specs.Capsule.{head_of, in_head, in_value, one_more}
use Rattle.h3_capsule.specs.Capsule.Place.{InHead}
use Rattle.h3_capsule.specs.declared.capsule.Capsule.TheVariants.{Head, Pending}

-- bytes that are a head, and nothing behind it
pub record IsHead (bytes : List ℕ) (kind len : ℕ) : Type 0 where
  pub behind : List ℕ
  pub kind_is : varint_at bytes ≡ Some (kind, behind)
  pub len_is : varint_at behind ≡ Some (len, [])

head_is : (bytes : List ℕ) (kind len : ℕ) → IsHead bytes kind len → head_of bytes ≡ Some (kind, len)
unfolding head_of
head_is bytes kind len h = rw (h.kind_is, h.len_is) refl

same_rest : (p q : ℕ × List ℕ) → Some p ≡ Some q → p.1 ≡ q.1
same_rest p q e = let pair : p ≡ q = cc in ap (λ (r : ℕ × List ℕ). r.1) pair

-- of a head no beginning is whole
no_length : (front more : List ℕ) (len : ℕ) → varint_at (front ++ more) ≡ Some (len, []) → 0 < length more → varint_at front ≡ None
no_length front more len h some = elim (cases_number front) [
  | inl none ↦ none
  | inr read ↦ let ends = same_rest (read.0, read.1 ++ more) (len, []) (sym (reads_more read.0 front read.1 more read.2) ∙ h) in absurd (omega (arith, ap length ends, length-append read.1 more))
]

no_head : (front more : List ℕ) (kind len : ℕ) → IsHead (front ++ more) kind len → 0 < length more → head_of front ≡ None
unfolding head_of
no_head front more kind len h some = elim (cases_number front) [
  | inl none ↦ rw none refl
  | inr read ↦
      let behind = same_rest (read.0, read.1 ++ more) (kind, h.behind) (sym (reads_more read.0 front read.1 more read.2) ∙ h.kind_is) in
      let none = no_length read.1 more len (rw behind h.len_is) some in
      rw (read.2, none) refl
]

next : (n : ℕ) → n + 1 ≡ suc n
next n = omega arith

-- bytes that do not make it whole
pub pending : (front bytes rest : List ℕ) (kind len : ℕ) → IsHead (front ++ (bytes ++ rest)) kind len → 0 < length rest → in_head front bytes ≡ (length bytes, Pending, InHead (front ++ bytes))
pending front [] rest kind len h some = ap (λ l. (0, Pending, InHead l)) (sym (append-nil front))
pending front (b ∷ bytes) rest kind len h some =
    let parts : (front ++ b ∷ []) ++ (bytes ++ rest) ≡ front ++ ((b ∷ bytes) ++ rest) = append_assoc front (b ∷ []) (bytes ++ rest) in
    let whole : IsHead ((front ++ b ∷ []) ++ (bytes ++ rest)) kind len = rw parts h in
    let none = no_head (front ++ b ∷ []) (bytes ++ rest) kind len whole (omega (arith, some, length-append bytes rest)) in
    rw none (ap one_more (pending (front ++ b ∷ []) bytes rest kind len whole some)
    ∙ ap (λ n. (n, Pending, InHead ((front ++ b ∷ []) ++ bytes))) (next (length bytes))
    ∙ ap (λ l. (suc (length bytes), Pending, InHead l)) (append_assoc front (b ∷ []) bytes))

-- bytes that do, and others behind them
pub told_whole : (front tail more : List ℕ) (kind len : ℕ) → IsHead (front ++ tail) kind len → 0 < length tail → in_head front (tail ++ more) ≡ (length tail, Head kind len, in_value len)
told_whole front [] more kind len h some = absurd (omega (arith, some))
told_whole front (b ∷ []) more kind len h some = rw (head_is (front ++ b ∷ []) kind len h) refl
told_whole front (b ∷ (c ∷ tail)) more kind len h some =
    let parts : (front ++ b ∷ []) ++ (c ∷ tail) ≡ front ++ (b ∷ (c ∷ tail)) = append_assoc front (b ∷ []) (c ∷ tail) in
    let whole : IsHead ((front ++ b ∷ []) ++ (c ∷ tail)) kind len = rw parts h in
    let none = no_head (front ++ b ∷ []) (c ∷ tail) kind len whole (omega arith) in
    rw none (ap one_more (told_whole (front ++ b ∷ []) (c ∷ tail) more kind len whole (omega arith))
    ∙ ap (λ n. (n, Head kind len, in_value len)) (next (length (c ∷ tail))))
