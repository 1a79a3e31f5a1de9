-- The steps of judging a payload, of whose symbols none is kept.
use Rattle.std.proofs.Common.{◌≡◌, ℕ, ◌+◌, ◌*◌, ◌-◌, ◌/◌, ◌%◌, ◌^◌, ◌<◌, ◌≤◌, true, false, List, [], ◌∷◌, ◌++◌, length, take, get_or, replicate, is_some, refl, ◌∙◌, arith, length-append, bit_or}
use Rattle.std.specs.List.{AllByRecursion}
use Rattle.std.proofs.Math.Seq.{take-length}
use Rattle.h3_huffman.specs.Huffman.{bits, code_word}
use Rattle.h3_huffman.specs.Payload.{IsByte, IsNoPayload}
use Rattle.h3_huffman.specs.Unhuffman.{unhuffman}
use Rattle.h3_huffman.specs.UnhuffmanLaws.{unhuffman_some}
use Rattle.h3_huffman.proofs.NoStrings.{unhuffman_none}
use Rattle.h3_huffman.proofs.Bits.{bits-front}
use Rattle.h3_huffman.proofs.Reading.{Standing}
use Rattle.h3_huffman.proofs.Steps.{stand_begin, stand_byte, stand_step, single_symbol, wide_of, wide_front, all_read}

-- These symbols were read, and the rest is under way or not yet taken.
pub record Judged (payload : List ℕ) (acc count read : ℕ) : Type 0 where
  pub done : List ℕ
  pub standing : Standing payload done acc count read (length done)

pub judged_begin : (p : List ℕ) → Judged p 0 0 0
judged_begin p = record { done = []; standing = stand_begin p [] }

pub judged_byte : (p : List ℕ) (acc count read byte : ℕ) → Judged p acc count read → count ≤ 56 → read < length p → byte < 2 ^ 8 → byte ≡ get_or p read 0 →
    Judged p (bit_or (acc * 2 ^ 8 % 2 ^ 64) byte) (count + 8) (read + 1)
judged_byte p acc count read byte j few there small at =
    record { done = j.done; standing = stand_byte p j.done acc count read (length j.done) byte j.standing few there small at }

-- one symbol more
judged_symbol : (p : List ℕ) (acc count read symbol l : ℕ) → Judged p acc count read → bits count acc ≡ code_word symbol ++ bits (count - l) acc → symbol < 256 → 5 ≤ l → l ≤ count →
    Judged p acc (count - l) read
judged_symbol p acc count read symbol l j front small least few =
    let more = j.done ++ symbol ∷ [] in
    let size : length more ≡ length j.done + 1 = length-append j.done (symbol ∷ []) in
    let put : take (length more) more ≡ take (length j.done) j.done ++ symbol ∷ [] = rw (take-length more, take-length j.done) refl in
    record {
      done = more;
      standing = stand_step p j.done more acc count read (length j.done) (length more) l 1 (symbol ∷ []) j.standing (front ∙ single_symbol symbol (bits (count - l) acc)) put (small, tt) size (omega arith) few;
    }

pub judged_inside : (p : List ℕ) (acc count read symbol l : ℕ) → Judged p acc count read → 30 ≤ count →
    bits 30 (acc / 2 ^ (count - 30) % 1073741824) ≡ code_word symbol ++ bits (30 - l) (acc / 2 ^ (count - 30) % 1073741824) → symbol < 256 → 5 ≤ l → l ≤ 30 → Judged p acc (count - l) read
judged_inside p acc count read symbol l j many word small least most =
    judged_symbol p acc count read symbol l j (bits-front count acc 30 l (code_word symbol) many most word) small least (omega arith)

pub judged_last : (p : List ℕ) (acc count read symbol l : ℕ) → Judged p acc count read → count < 30 →
    bits 30 (wide_of acc / 2 ^ (count + 2) % 1073741824) ≡ code_word symbol ++ bits (30 - l) (wide_of acc / 2 ^ (count + 2) % 1073741824) → symbol < 256 → 5 ≤ l → l ≤ 30 → l ≤ count → Judged p acc (count - l) read
judged_last p acc count read symbol l j few word small least most there =
    judged_symbol p acc count read symbol l j (wide_front count acc (wide_of acc) 30 (count + 2) l (code_word symbol) refl (omega arith) (omega arith) most there word) small least there

pub judged_none : (p : List ℕ) → IsNoPayload p → false ≡ is_some (unhuffman p)
judged_none p none = rw (unhuffman_none p none) refl

pub judged_some : (p : List ℕ) (acc count read : ℕ) → AllByRecursion IsByte p → Judged p acc count read → length p ≤ read → count < 8 → bits count acc ≡ replicate count 1 → true ≡ is_some (unhuffman p)
judged_some p acc count read bytes j all few ones =
    let plain = take (length j.done) j.done in
    rw (all_read p j.done acc count read (length j.done) bytes j.standing all few ones, unhuffman_some plain j.standing.bytes) refl

-- the word of an entry stands in front of a window whose first bits are its index
pub entry_word : (window symbol l : ℕ) → window < 2 ^ 30 → bits 12 (window / 2 ^ 18) ≡ code_word symbol ++ bits (12 - l) (window / 2 ^ 18) → l ≤ 12 → bits 30 window ≡ code_word symbol ++ bits (30 - l) window
entry_word window symbol l below front most =
    let index : window / 2 ^ (30 - 12) % 2 ^ 12 ≡ window / 2 ^ 18 = omega arith in
    bits-front 30 window 12 l (code_word symbol) (omega arith) most (rw index front)
