-- The number at the front of bytes that lie together.
use Rattle.std.proofs.Common.{◌≡◌, ℕ, ◌-◌, ◌/◌, ◌^◌, ◌<◌, ◌≤◌, List, [], ◌∷◌, ◌++◌, ◌∙◌, length, take, arith, ap, refl, None, sym, subst}
use Rattle.std.specs.Prelude.{slice_index, bit_and}
use Rattle.std.specs.Int.{w32, w64, from_be_bytes}
use Rattle.std.proofs.lemmas.Nat.{and_mask}
use Rattle.std.proofs.lemmas.List.{take_more}
use Rattle.std.specs.List.{AllByRecursion}
use Rattle.h3_coding.specs.Encodings.{IsByte, IsEncoding, four, eight}
use Rattle.h3_coding.specs.Varint.{varint_at}
use Rattle.h3_coding.specs.VarintLaws.{none_at_end, fewer}

pub none_where_empty : (bytes : List ℕ) → length bytes ≡ 0 → varint_at bytes ≡ None
none_where_empty [] h = none_at_end
none_where_empty (x ∷ xs) h = absurd (omega arith)

pub none_where_short : (k : ℕ) (bytes : List ℕ) → 0 < length bytes → slice_index bytes 0 / 64 ≡ k → length bytes < 2 ^ k → varint_at bytes ≡ None
none_where_short k [] some e h = absurd (omega arith)
none_where_short k (x ∷ xs) some e h = let few : length (x ∷ xs) < 2 ^ (x / 64) = rw e h in fewer x xs (omega arith)

-- four bytes, of which the first tells four
pub four_at : (x n : ℕ) (bytes : List ℕ) → 4 ≤ length bytes → 128 ≤ slice_index bytes 0 → slice_index bytes 0 < 192 → slice_index bytes 1 < 256 → slice_index bytes 2 < 256 → slice_index bytes 3 < 256
    → x ≡ from_be_bytes w32 (slice_index bytes 0 ∷ slice_index bytes 1 ∷ slice_index bytes 2 ∷ slice_index bytes 3 ∷ []) → n ≡ bit_and x (2 ^ 30 - 1) → IsEncoding n (take 4 bytes)
four_at v n (x ∷ y ∷ z ∷ u ∷ xs) some l h b c d sum e =
    let masked = and_mask v 30 in
    four (record { count = refl; each = (omega arith, (b, (c, (d, tt)))); below = omega (arith, e, masked); worth = omega (arith, e, masked, sum) })
four_at v n [] some l h b c d sum e = absurd (omega arith)
four_at v n (x ∷ []) some l h b c d sum e = absurd (omega arith)
four_at v n (x ∷ y ∷ []) some l h b c d sum e = absurd (omega arith)
four_at v n (x ∷ y ∷ z ∷ []) some l h b c d sum e = absurd (omega arith)

take_eight : (bytes : List ℕ) → 8 ≤ length bytes → take 8 bytes ≡ slice_index bytes 0 ∷ slice_index bytes 1 ∷ slice_index bytes 2 ∷ slice_index bytes 3 ∷ slice_index bytes 4 ∷ slice_index bytes 5 ∷ slice_index bytes 6 ∷ slice_index bytes 7 ∷ []
take_eight bytes k = take_more bytes 7 0 k ∙ ap (λ l. l ++ slice_index bytes 7 ∷ []) (take_more bytes 6 0 (omega arith)
    ∙ ap (λ l. l ++ slice_index bytes 6 ∷ []) (take_more bytes 5 0 (omega arith)
    ∙ ap (λ l. l ++ slice_index bytes 5 ∷ []) (take_more bytes 4 0 (omega arith)
    ∙ ap (λ l. l ++ slice_index bytes 4 ∷ []) (take_more bytes 3 0 (omega arith)
    ∙ ap (λ l. l ++ slice_index bytes 3 ∷ []) (take_more bytes 2 0 (omega arith)
    ∙ ap (λ l. l ++ slice_index bytes 2 ∷ []) (take_more bytes 1 0 (omega arith)
    ∙ ap (λ l. l ++ slice_index bytes 1 ∷ []) (take_more bytes 0 0 (omega arith))))))))

-- eight bytes, of which the first tells eight
pub eight_at : (x n : ℕ) (bytes octets : List ℕ) → 8 ≤ length bytes → octets ≡ take 8 bytes → ((i : ℕ) → slice_index bytes i < 256) → 192 ≤ slice_index bytes 0
    → x ≡ from_be_bytes w64 octets → n ≡ bit_and x (2 ^ 62 - 1) → IsEncoding n (take 8 bytes)
eight_at x n bytes octets enough front byte l sum e =
    let s : ℕ → ℕ = λ i. slice_index bytes i in
    let parts : take 8 bytes ≡ s 0 ∷ s 1 ∷ s 2 ∷ s 3 ∷ s 4 ∷ s 5 ∷ s 6 ∷ s 7 ∷ [] = take_eight bytes enough in
    let value : x ≡ from_be_bytes w64 (s 0 ∷ s 1 ∷ s 2 ∷ s 3 ∷ s 4 ∷ s 5 ∷ s 6 ∷ s 7 ∷ []) = sum ∙ ap (λ l. from_be_bytes w64 l) (front ∙ parts) in
    let masked = and_mask x 62 in
    let octet : AllByRecursion IsByte (s 0 ∷ s 1 ∷ s 2 ∷ s 3 ∷ s 4 ∷ s 5 ∷ s 6 ∷ s 7 ∷ []) = (byte 0, (byte 1, (byte 2, (byte 3, (byte 4, (byte 5, (byte 6, (byte 7, tt)))))))) in
    subst (λ l. IsEncoding n l) (sym parts)
    (eight (record { count = refl; each = octet; below = omega (arith, e, masked); worth = omega (arith, e, masked, value, byte 0, byte 1, byte 2, byte 3, byte 4, byte 5, byte 6, byte 7) }))
