-- What a row of the long words says of a window.
use Rattle.std.proofs.Common.{◌≡◌, ℕ, ◌+◌, ◌*◌, ◌-◌, ◌/◌, ◌^◌, ◌<◌, ◌≤◌, true, List, ◌++◌, length, get_or, ap, sym, ◌∙◌, arith}
use Rattle.std.proofs.lemmas.Bool.{and_parts, eqb-true, leb-true}
use Rattle.std.proofs.lemmas.Nat.{pow_pos, div_below}
use Rattle.std.proofs.Math.Nat.{mul-add-div_right}
use Rattle.h3_huffman.specs.Huffman.{code_word, bits}
use Rattle.h3_huffman.specs.Tables.{is_row, is_long_word, row_count, all_from}
use Rattle.h3_huffman.specs.declared.tables.TheConstants.{LIMITS, LENGTHS, OFFSETS, SYMBOLS}
use Rattle.h3_huffman.proofs.Computed.{rows_hold}
use Rattle.h3_huffman.specs.PayloadLaws.{all_from_at, bytes_same}
use Rattle.h3_huffman.proofs.Bits.{bits-add}

-- what the test of a row says
pub record Row (symbols : List ℕ) (low high len offset : ℕ) : Type 0 where
  pub least : 13 ≤ len
  pub most : len ≤ 30
  pub begin : low ≡ low / 2 ^ (30 - len) * 2 ^ (30 - len)
  pub end : high ≡ low + row_count low high len * 2 ^ (30 - len)
  pub room : offset + row_count low high len ≤ length symbols
  pub words : all_from (is_long_word symbols low len offset) 0 (row_count low high len) ≡ true

row_from : (symbols : List ℕ) (low high len offset : ℕ) → is_row symbols low high len offset ≡ true → Row symbols low high len offset
row_from symbols low high len offset h =
    let a = and_parts _ _ h in
    let b = and_parts _ _ a.0 in
    let c = and_parts _ _ b.0 in
    let d = and_parts _ _ c.0 in
    let e = and_parts _ _ d.0 in
    record {
      least = leb-true _ _ e.0;
      most = leb-true _ _ e.1;
      begin = eqb-true _ _ d.1;
      end = eqb-true _ _ c.1;
      room = leb-true _ _ b.1;
      words = a.1;
    }

pub row_at : (r : ℕ) → r < 14 → Row SYMBOLS (get_or LIMITS r 0) (get_or LIMITS (r + 1) 0) (get_or LENGTHS r 0) (get_or OFFSETS r 0)
row_at r h = row_from _ _ _ _ _ (all_from_at (λ k. is_row SYMBOLS (get_or LIMITS k 0) (get_or LIMITS (k + 1) 0) (get_or LENGTHS k 0) (get_or OFFSETS k 0)) 0 14 r rows_hold (omega arith) (omega arith))

-- the window's place among the words of a row
pub place_below : (symbols : List ℕ) (low high len offset window : ℕ) → Row symbols low high len offset → low ≤ window → window < high → (window - low) / 2 ^ (30 - len) < row_count low high len
place_below symbols low high len offset window row le lt =
    div_below (window - low) (2 ^ (30 - len)) (row_count low high len) (pow_pos (30 - len)) (omega (arith, row.end))

pub long_found : (symbols : List ℕ) (low high len offset window : ℕ) → Row symbols low high len offset → low ≤ window → window < high →
    (bits 30 window ≡ code_word (get_or symbols (offset + (window - low) / 2 ^ (30 - len)) 0) ++ bits (30 - len) window) × (get_or symbols (offset + (window - low) / 2 ^ (30 - len)) 0 ≤ 256)
long_found symbols low high len offset window row le lt =
    let place = (window - low) / 2 ^ (30 - len) in
    let few = place_below symbols low high len offset window row le lt in
    let test = and_parts _ _ (all_from_at (is_long_word symbols low len offset) 0 (row_count low high len) place row.words (omega arith) (omega (arith, few))) in
    let split : len + (30 - len) ≡ 30 = omega (arith, row.most) in
    let whole : window ≡ low / 2 ^ (30 - len) * 2 ^ (30 - len) + (window - low) = omega (arith, row.begin) in
    let quotient : window / 2 ^ (30 - len) ≡ low / 2 ^ (30 - len) + place =
    ap (λ x. x / 2 ^ (30 - len)) whole ∙ mul-add-div_right (pow_pos (30 - len)) (low / 2 ^ (30 - len)) (window - low) in
    let high_bits : bits len (window / 2 ^ (30 - len)) ≡ code_word (get_or symbols (offset + place) 0) = ap (λ x. bits len x) quotient ∙ bytes_same _ _ test.1 in
    let parts : bits (len + (30 - len)) window ≡ bits len (window / 2 ^ (30 - len)) ++ bits (30 - len) window = bits-add len (30 - len) window in
    (ap (λ x. bits x window) (sym split) ∙ parts ∙ ap (λ x. x ++ bits (30 - len) window) high_bits, leb-true _ _ test.0)
