-- The symbols of an entry in their places.
use Rattle.std.proofs.Common.{◌≡◌, ℕ, zero, suc, ◌+◌, ◌%◌, ◌/◌, ◌≤◌, List, [], ◌∷◌, ◌++◌, length, take, ap, sym, ◌∙◌, arith}
use Rattle.std.specs.Int.{w16, to_le_bytes}
use Rattle.std.proofs.lemmas.List.{take-take, length-take}
use Rattle.std.proofs.lemmas.Slice.{take-put_mid}
use Rattle.h3_huffman.specs.Tables.{entry_symbols, entry_count, entry_first, entry_second}
use borrow.Rule.Slice.PartMut.{put_mid}

take_behind : (m n : ℕ) (xs ys : List ℕ) → m ≡ length xs + n → take m (xs ++ ys) ≡ xs ++ take n ys
take_behind m n [] ys e = ap (λ k. take k ys) (omega (arith, e))
take_behind zero n (x ∷ xs) ys e = absurd (omega (arith, e))
take_behind (suc m) n (x ∷ xs) ys e = ap (λ l. x ∷ l) (take_behind m n xs ys (omega (arith, e)))

two_bytes : (e : ℕ) → to_le_bytes w16 (e % 65536) ≡ entry_first e ∷ entry_second e ∷ []
two_bytes e =
    let low : e % 65536 % 256 ≡ e % 256 = omega arith in
    let high : e % 65536 / 256 % 256 ≡ e / 256 % 256 = omega arith in
    (λ i. low i ∷ high i ∷ [])

-- both are written, and those that count are taken
pub symbols_put : (out bytes : List ℕ) (place k entry : ℕ) → place + 2 ≤ length out → entry_count entry ≤ 2 → bytes ≡ to_le_bytes w16 (entry % 65536) →
    take (place + entry_count entry) (put_mid place k out bytes) ≡ take place out ++ entry_symbols entry
symbols_put out bytes place k entry room few is =
    let mid = put_mid place k out bytes in
    let count = entry_count entry in
    let front : take (place + 2) mid ≡ take place out ++ bytes = take-put_mid place k out bytes (place + 2) (omega (arith, ap length is)) (omega (arith, room)) in
    let len : place + count ≡ length (take place out) + count = omega (arith, length-take place out, room) in
    sym (take-take (place + count) (place + 2) mid (omega (arith, few)))
    ∙ ap (take (place + count)) front
    ∙ take_behind (place + count) count (take place out) bytes len
    ∙ ap (λ l. take place out ++ take count l) (is ∙ two_bytes entry)
