-- A capsule whose type and length stand there in whatever encodings is told as it is, and so is the head of a datagram.
use Rattle.std.proofs.Common.{◌≡◌, ℕ, suc, ◌-◌, ◌*◌, ◌/◌, ◌%◌, ◌^◌, ◌<◌, ◌==◌, inl, inr, List, [], ◌∷◌, ◌++◌, length, map, false, Some, None, refl, ap, sym, ◌∙◌, arith, append_assoc, append-nil, length-append}
use Rattle.std.proofs.lemmas.Bool.{lt-ltb}
use Rattle.std.proofs.lemmas.Bool.Decides.{nat_tests}
use Rattle.h3_coding.specs.Encodings.{IsEncoding, encoding}
use Rattle.h3_coding.specs.EncodingLaws.{encoding_is_valid}
use Rattle.h3_coding.specs.Varint.{varint_at}
use Rattle.h3_coding.specs.VarintLaws.{reads_encoding, reads_shortest, reads_more, cases_number, shorter}
use Rattle.h3_capsule.specs.Capsule.{head_of, capsule_head}
use Rattle.h3_capsule.specs.Capsule.Place.{InHead}
use Rattle.h3_capsule.specs.Datagram.{datagram_of, datagram_head}
use Rattle.h3_capsule.specs.Told.{value_or_end, tell, then_told, told, parts_of_capsule}
use Rattle.h3_capsule.specs.Told.Part.{Begins, Byte, Ends}

-- bytes that are a head, and nothing behind it
record IsHead (bytes : List ℕ) (kind len : ℕ) : Type 0 where
  pub behind : List ℕ
  pub kind_is : varint_at bytes ≡ Some (kind, behind)
  pub len_is : varint_at behind ≡ Some (len, [])

head_is : (bytes : List ℕ) (kind len : ℕ) → IsHead bytes kind len → head_of bytes ≡ Some (kind, len)
unfolding head_of
head_is bytes kind len h = rw (h.kind_is, h.len_is) refl

same_rest : (p q : ℕ × List ℕ) → Some p ≡ Some q → p.1 ≡ q.1
same_rest p q e = let pair : p ≡ q = cc in ap (λ (r : ℕ × List ℕ). r.1) pair

-- of a head no beginning is whole
no_length : (front more : List ℕ) (len : ℕ) → varint_at (front ++ more) ≡ Some (len, []) → 0 < length more → varint_at front ≡ None
no_length front more len h some = elim (cases_number front) [
  | inl none ↦ none
  | inr read ↦ let ends = same_rest (read.0, read.1 ++ more) (len, []) (sym (reads_more read.0 front read.1 more read.2) ∙ h) in absurd (omega (arith, ap length ends, length-append read.1 more))
]

no_head : (front more : List ℕ) (kind len : ℕ) → IsHead (front ++ more) kind len → 0 < length more → head_of front ≡ None
unfolding head_of
no_head front more kind len h some = elim (cases_number front) [
  | inl none ↦ rw none refl
  | inr read ↦
      let behind = same_rest (read.0, read.1 ++ more) (kind, h.behind) (sym (reads_more read.0 front read.1 more read.2) ∙ h.kind_is) in
      let none = no_length read.1 more len (rw behind h.len_is) some in
      rw (read.2, none) refl
]

-- the head is told with its last byte
head_told : (front tail more : List ℕ) (kind len : ℕ) → IsHead (front ++ tail) kind len → 0 < length tail → told (InHead front) (tail ++ more) ≡ then_told (tell (Begins kind len) (value_or_end len)).0 (told (value_or_end len).1 more)
unfolding told
head_told front [] more kind len h some = absurd (omega arith)
head_told front (b ∷ []) more kind len h some = rw (head_is (front ++ b ∷ []) kind len h) refl
head_told front (b ∷ (c ∷ tail)) more kind len h some =
    let parts : (front ++ b ∷ []) ++ (c ∷ tail) ≡ front ++ (b ∷ (c ∷ tail)) = append_assoc front (b ∷ []) (c ∷ tail) in
    let whole : IsHead ((front ++ b ∷ []) ++ (c ∷ tail)) kind len = rw parts h in
    let none = no_head (front ++ b ∷ []) (c ∷ tail) kind len whole (omega arith) in
    rw none (head_told (front ++ b ∷ []) (c ∷ tail) more kind len whole (omega arith))

-- then each byte of the value, and its end
not_zero : (n : ℕ) → (suc n == 0) ≡ false
not_zero n = grind (arith, nat_tests)

value_told : (value more : List ℕ) → then_told (value_or_end (length value)).0 (told (value_or_end (length value)).1 (value ++ more)) ≡ then_told (map Byte value ++ Ends ∷ []) (told (InHead []) more)
unfolding told
value_told [] more = refl
value_told (b ∷ value) more =
    let less : suc (length value) - 1 ≡ length value = omega arith in
    rw (not_zero (length value), less) (ap (λ t. tell (Byte b) t) (value_told value more))

pub capsule_told : (kind : ℕ) (value k l more : List ℕ) → IsEncoding kind k → IsEncoding (length value) l → told (InHead []) ((k ++ l) ++ (value ++ more)) ≡ then_told (parts_of_capsule kind value) (told (InHead []) more)
capsule_told kind value k l more p q =
    let kind_is = reads_encoding kind k l p in
    let whole : IsHead ([] ++ (k ++ l)) kind (length value) = record { behind = l; kind_is = kind_is; len_is = ap varint_at (sym (append-nil l)) ∙ reads_encoding (length value) l [] q } in
    head_told [] (k ++ l) (value ++ more) kind (length value) whole (omega (arith, shorter kind (k ++ l) l kind_is)) ∙ ap (λ t. tell (Begins kind (length value)) t) (value_told value more)

pub written_told : (kind : ℕ) (value more : List ℕ) → kind < 2 ^ 62 → length value < 2 ^ 62 → told (InHead []) (capsule_head kind (length value) ++ (value ++ more)) ≡ then_told (parts_of_capsule kind value) (told (InHead []) more)
written_told kind value more h k = capsule_told kind value (encoding kind) (encoding (length value)) more (encoding_is_valid kind h) (encoding_is_valid (length value) k)

pub datagram_back : (id : ℕ) (payload : List ℕ) → id < 2 ^ 62 → id % 4 ≡ 0 → datagram_of (datagram_head id ++ payload) ≡ Some (id, payload)
unfolding datagram_of
datagram_back id payload below quarter =
    let read = reads_shortest (id / 4) payload (omega arith) in
    let few = lt-ltb (id / 4) (2 ^ 60) (omega arith) in
    let whole : id / 4 * 4 ≡ id = omega arith in
    rw (read, few) (ap (λ n. Some (n, payload)) whole)
