-- The steps of reading a payload.
use Rattle.std.proofs.Common.{◌≡◌, ℕ, zero, suc, ◌+◌, ◌*◌, ◌-◌, ◌/◌, ◌%◌, ◌^◌, ◌<◌, ◌≤◌, ◌⊎◌, List, [], ◌∷◌, ◌++◌, length, take, drop, get_or, set, replicate, refl, ap, sym, ◌∙◌, arith, append_assoc, append-nil, length-append, flat_map, bit_or, lit<, lit≤, inl, inr}
use Rattle.std.specs.List.{AllByRecursion}
use Rattle.std.proofs.lemmas.List.{length-replicate, append_cancel_right, drop_all, take_more_set}
use Rattle.std.proofs.lemmas.Nat.{field_of, shr-shr}
use Rattle.std.proofs.lemmas.List.Concat.{flat_map-append}
use Rattle.h3_huffman.specs.Huffman.{bits, huffman, code_word}
use Rattle.h3_huffman.specs.Payload.{IsByte, IsNoPayload}
use Rattle.h3_huffman.specs.Tables.{IsEntry, entry_symbols, entry_length, entry_count, entry_first, entry_second, entry_first_length}
use Rattle.h3_huffman.proofs.Bits.{bits-shift_in, length-bits, bits-front, bits_of_ones}
use Rattle.h3_huffman.proofs.Payloads.{next_byte}
use Rattle.h3_huffman.proofs.Reading.{Standing, refused, accepted}
use Rattle.h3_huffman.specs.PayloadLaws.{All-append}

pub stand_begin : (payload out : List ℕ) → Standing payload out 0 0 0 0
unfolding bits
stand_begin payload out = record { parts = refl; room = omega arith; within = omega arith; bytes = tt }

pub stand_word : (p out : List ℕ) (acc count read written word : ℕ) → Standing p out acc count read written → count ≤ 32 → read + 4 ≤ length p → word < 2 ^ 32 →
    flat_map (bits 8) (drop read p) ≡ bits 32 word ++ flat_map (bits 8) (drop (read + 4) p) → Standing p out (bit_or (acc * 2 ^ 32 % 2 ^ 64) word) (count + 32) (read + 4) written
stand_word p out acc count read written word s few there small next =
    let rest = flat_map (bits 8) (drop (read + 4) p) in
    let more : bits (count + 32) (bit_or (acc * 2 ^ 32 % 2 ^ 64) word) ≡ bits count acc ++ bits 32 word = bits-shift_in count 32 acc word small (omega arith) in
    let tail : bits count acc ++ flat_map (bits 8) (drop read p) ≡ bits (count + 32) (bit_or (acc * 2 ^ 32 % 2 ^ 64) word) ++ rest =
    ap (λ x. bits count acc ++ x) next ∙ sym (append_assoc (bits count acc) (bits 32 word) rest) ∙ ap (λ x. x ++ rest) (sym more) in
    record {
      parts = s.parts ∙ ap (λ x. flat_map code_word (take written out) ++ x) tail;
      room = omega (arith, s.room);
      within = there;
      bytes = s.bytes;
    }

pub stand_byte : (p out : List ℕ) (acc count read written byte : ℕ) → Standing p out acc count read written → count ≤ 56 → read < length p → byte < 2 ^ 8 → byte ≡ get_or p read 0 →
    Standing p out (bit_or (acc * 2 ^ 8 % 2 ^ 64) byte) (count + 8) (read + 1) written
stand_byte p out acc count read written byte s few there small at =
    let rest = flat_map (bits 8) (drop (read + 1) p) in
    let next : flat_map (bits 8) (drop read p) ≡ bits 8 byte ++ rest = rw at (next_byte p read there) in
    let more : bits (count + 8) (bit_or (acc * 2 ^ 8 % 2 ^ 64) byte) ≡ bits count acc ++ bits 8 byte = bits-shift_in count 8 acc byte small (omega arith) in
    let tail : bits count acc ++ flat_map (bits 8) (drop read p) ≡ bits (count + 8) (bit_or (acc * 2 ^ 8 % 2 ^ 64) byte) ++ rest =
    ap (λ x. bits count acc ++ x) next ∙ sym (append_assoc (bits count acc) (bits 8 byte) rest) ∙ ap (λ x. x ++ rest) (sym more) in
    record {
      parts = s.parts ∙ ap (λ x. flat_map code_word (take written out) ++ x) tail;
      room = omega (arith, s.room);
      within = omega arith;
      bytes = s.bytes;
    }

-- some symbols more
pub stand_step : (p out new : List ℕ) (acc count read written place l n : ℕ) (symbols : List ℕ) → Standing p out acc count read written →
    bits count acc ≡ flat_map code_word symbols ++ bits (count - l) acc → take place new ≡ take written out ++ symbols → AllByRecursion IsByte symbols → place ≡ written + n → 5 * n ≤ l → l ≤ count →
    Standing p new acc (count - l) read place
stand_step p out new acc count read written place l n symbols s front put small is least few =
    let rest = flat_map (bits 8) (drop read p) in
    let words : flat_map code_word (take place new) ≡ flat_map code_word (take written out) ++ flat_map code_word symbols =
    ap (λ x. flat_map code_word x) put ∙ flat_map-append code_word (take written out) symbols in
    let tail : bits count acc ++ rest ≡ flat_map code_word symbols ++ (bits (count - l) acc ++ rest) = ap (λ x. x ++ rest) front ∙ append_assoc (flat_map code_word symbols) (bits (count - l) acc) rest in
    record {
      parts = s.parts ∙ ap (λ x. flat_map code_word (take written out) ++ x) tail ∙ sym (append_assoc (flat_map code_word (take written out)) (flat_map code_word symbols) (bits (count - l) acc ++ rest)) ∙ ap (λ x. x ++ (bits (count - l) acc ++ rest)) (sym words);
      room = omega (arith, s.room);
      within = s.within;
      bytes = rw put (All-append IsByte (take written out) symbols s.bytes small);
    }

small_take : (k a b : ℕ) → a < 256 → b < 256 → AllByRecursion IsByte (take k (a ∷ b ∷ []))
small_take zero a b p q = tt
small_take (suc zero) a b p q = (p, tt)
small_take (suc (suc zero)) a b p q = (p, (q, tt))
small_take (suc (suc (suc k))) a b p q = (p, (q, tt))

pub small_symbols : (e : ℕ) → AllByRecursion IsByte (entry_symbols e)
small_symbols e = small_take (entry_count e) (entry_first e) (entry_second e) (omega arith) (omega arith)

-- `wide` is `acc` with thirty-two ones behind it
pub wide_bits : (count acc : ℕ) → count ≤ 32 → bits (count + 32) (bit_or (acc * 2 ^ 32 % 2 ^ 64) 4294967295) ≡ bits count acc ++ replicate 32 1
wide_bits count acc few = bits-shift_in count 32 acc 4294967295 (lit< tt) (omega arith) ∙ ap (λ x. bits count acc ++ x) bits_of_ones

pub wide_over : (count acc wide m d l : ℕ) (x : List ℕ) → wide ≡ bit_or (acc * 2 ^ 32 % 2 ^ 64) 4294967295 → count ≤ 32 → d + m ≡ count + 32 → l ≤ m →
    bits m (wide / 2 ^ d % 2 ^ m) ≡ x ++ bits (m - l) (wide / 2 ^ d % 2 ^ m) → bits count acc ++ replicate 32 1 ≡ x ++ bits (count + 32 - l) wide
wide_over count acc wide m d l x is few at within front =
    let d' : count + 32 - m ≡ d = omega arith in
    let step : bits (count + 32) wide ≡ x ++ bits (count + 32 - l) wide = bits-front (count + 32) wide m l x (omega arith) within (rw d' front) in
    let all : bits (count + 32) wide ≡ bits count acc ++ replicate 32 1 = rw is (wide_bits count acc few) in
    sym all ∙ step

pub wide_front : (count acc wide m d l : ℕ) (x : List ℕ) → wide ≡ bit_or (acc * 2 ^ 32 % 2 ^ 64) 4294967295 → count ≤ 32 → d + m ≡ count + 32 → l ≤ m → l ≤ count →
    bits m (wide / 2 ^ d % 2 ^ m) ≡ x ++ bits (m - l) (wide / 2 ^ d % 2 ^ m) → bits count acc ≡ x ++ bits (count - l) acc
wide_front count acc wide m d l x is few at within there front =
    let over = wide_over count acc wide m d l x is few at within front in
    let left : count + 32 - l ≡ (count - l) + 32 = omega arith in
    let after : bits ((count - l) + 32) wide ≡ bits (count - l) acc ++ replicate 32 1 = rw is (wide_bits (count - l) acc (omega arith)) in
    let joined : bits count acc ++ replicate 32 1 ≡ (x ++ bits (count - l) acc) ++ replicate 32 1 =
    over ∙ ap (λ k. x ++ bits k wide) left ∙ ap (λ y. x ++ y) after ∙ sym (append_assoc x (bits (count - l) acc) (replicate 32 1)) in
    append_cancel_right (bits count acc) (x ++ bits (count - l) acc) (replicate 32 1) joined

-- how long a word is, from what the tables say
pub word_length : (m l n symbol : ℕ) → l ≤ m → bits m n ≡ code_word symbol ++ bits (m - l) n → length (code_word symbol) ≡ l
word_length m l n symbol le e =
    omega (arith, length-bits m n, length-bits (m - l) n, simp length-append at (ap length e))

-- the end's word in the midst of a payload
pub end_inside : (p out : List ℕ) (acc count read written l : ℕ) → Standing p out acc count read written → 30 ≤ count → bits count acc ≡ code_word 256 ++ bits (count - l) acc → IsNoPayload p
end_inside p out acc count read written l s many front =
    let rest = flat_map (bits 8) (drop read p) in
    let r = bits count acc ++ rest in
    let begin : r ++ [] ≡ code_word 256 ++ (bits (count - l) acc ++ rest) = append-nil r ∙ ap (λ x. x ++ rest) front ∙ append_assoc (code_word 256) (bits (count - l) acc) rest in
    refused p (take written out) r (bits (count - l) acc ++ rest) [] 256 s.bytes s.parts begin (lit≤ tt) (inl refl)
    (λ j few e. absurd (omega (arith, few, many, length-bits count acc, length-append (bits count acc) rest, length-replicate {A = ℕ} j 1, ap (λ x. length x) e)))

-- all is taken: what is left are the pending bits
pub at_end : (p out : List ℕ) (acc count read written : ℕ) → Standing p out acc count read written → length p ≤ read → flat_map (bits 8) p ≡ flat_map code_word (take written out) ++ bits count acc
at_end p out acc count read written s all =
    let none : drop read p ≡ [] = drop_all read p all in
    s.parts ∙ ap (λ x. flat_map code_word (take written out) ++ (bits count acc ++ flat_map (bits 8) x)) none ∙ ap (λ x. flat_map code_word (take written out) ++ x) (append-nil (bits count acc))

pub stuck : (p out y q : List ℕ) (acc count read written symbol : ℕ) → Standing p out acc count read written → length p ≤ read → bits count acc ++ q ≡ code_word symbol ++ y → symbol ≤ 256 → (symbol ≡ 256) ⊎ (count < length (code_word symbol)) → ((count < 8) × (bits count acc ≡ replicate count 1) → ⊥) → IsNoPayload p
stuck p out y q acc count read written symbol s all front le why nopad =
    let why' : (symbol ≡ 256) ⊎ (length (bits count acc) < length (code_word symbol)) = elim why [ inl end ↦ inl end | inr short ↦ inr (omega (arith, short, length-bits count acc)) ] in
    refused p (take written out) (bits count acc) y q symbol s.bytes (at_end p out acc count read written s all) front le why'
    (λ j few e.
    let same : count ≡ j = sym (length-bits count acc) ∙ ap (λ x. length x) e ∙ length-replicate j 1 in
    nopad (omega (arith, few, same), rw (← same) at e))

pub all_read : (p out : List ℕ) (acc count read written : ℕ) → AllByRecursion IsByte p → Standing p out acc count read written → length p ≤ read → count < 8 → bits count acc ≡ replicate count 1 → p ≡ huffman (take written out)
all_read p out acc count read written bytes s all few ones =
    accepted p (take written out) (bits count acc) count bytes (at_end p out acc count read written s all) ones few

pub stand_entry : (p out new : List ℕ) (acc count read written place e l : ℕ) → Standing p out acc count read written → 30 ≤ count → IsEntry (acc / 2 ^ (count - 12) % 4096) e → l ≡ e / 65536 % 16 → place ≡ written + entry_count e → take place new ≡ take written out ++ entry_symbols e →
    Standing p new acc (count - l) read place
stand_entry p out new acc count read written place e l s many entry is at put =
    let front : bits count acc ≡ flat_map code_word (entry_symbols e) ++ bits (count - entry_length e) acc = bits-front count acc 12 (entry_length e) (flat_map code_word (entry_symbols e)) (omega arith) entry.most entry.words in
    rw is (stand_step p out new acc count read written place (entry_length e) (entry_count e) (entry_symbols e) s front put (small_symbols e) at entry.spare (omega (arith, entry.most)))

-- where twelve bits are high, so are thirty
pub window_high : (n d : ℕ) → 4092 ≤ n / 2 ^ (d + 18) % 4096 → 1072693248 ≤ n / 2 ^ d % 1073741824
window_high n d h =
    let front : n / 2 ^ d % 2 ^ (12 + 18) / 2 ^ 18 ≡ n / 2 ^ d / 2 ^ 18 % 2 ^ 12 = field_of (n / 2 ^ d) 12 18 in
    let far : n / 2 ^ d / 2 ^ 18 ≡ n / 2 ^ (d + 18) = shr-shr n d 18 in
    let at : 4092 ≤ n / 2 ^ d % 2 ^ 30 / 2 ^ 18 = rw (← far, ← front) at h in
    omega arith

pub single_symbol : (symbol : ℕ) (y : List ℕ) → code_word symbol ++ y ≡ flat_map code_word (symbol ∷ []) ++ y
single_symbol symbol y = ap (λ x. x ++ y) (sym (append-nil (code_word symbol)))

pub stand_symbol : (p out : List ℕ) (acc count read written symbol l : ℕ) → Standing p out acc count read written → bits count acc ≡ code_word symbol ++ bits (count - l) acc → symbol < 256 → 5 ≤ l → l ≤ count → written < length out →
    Standing p (set out written symbol) acc (count - l) read (written + 1)
stand_symbol p out acc count read written symbol l s front small least few room =
    stand_step p out (set out written symbol) acc count read written (written + 1) l 1 (symbol ∷ []) s (front ∙ single_symbol symbol (bits (count - l) acc)) (take_more_set out written symbol room) (small, tt) refl (omega arith) few

pub stand_long : (p out : List ℕ) (acc count read written symbol l : ℕ) → Standing p out acc count read written → 30 ≤ count →
    bits 30 (acc / 2 ^ (count - 30) % 1073741824) ≡ code_word symbol ++ bits (30 - l) (acc / 2 ^ (count - 30) % 1073741824) → symbol < 256 → 13 ≤ l → l ≤ 30 → written < length out →
    Standing p (set out written symbol) acc (count - l) read (written + 1)
stand_long p out acc count read written symbol l s many word small least most room =
    stand_symbol p out acc count read written symbol l s (bits-front count acc 30 l (code_word symbol) many most word) small (omega arith) (omega arith) room

pub long_end : (p out : List ℕ) (acc count read written symbol l : ℕ) → Standing p out acc count read written → 30 ≤ count →
    bits 30 (acc / 2 ^ (count - 30) % 1073741824) ≡ code_word symbol ++ bits (30 - l) (acc / 2 ^ (count - 30) % 1073741824) → l ≤ 30 → symbol ≡ 256 → IsNoPayload p
long_end p out acc count read written symbol l s many word most end =
    end_inside p out acc count read written l s many (rw end at (bits-front count acc 30 l (code_word symbol) many most word))

abbrev pub wide_of : ℕ → ℕ
wide_of acc = bit_or (acc * 2 ^ 32 % 2 ^ 64) 4294967295

pub last_entry : (p out new : List ℕ) (acc count read written place e l : ℕ) → Standing p out acc count read written → count < 30 → IsEntry (wide_of acc / 2 ^ (count + 20) % 4096) e → l ≡ e / 65536 % 16 → l ≤ count → place ≡ written + entry_count e → take place new ≡ take written out ++ entry_symbols e →
    Standing p new acc (count - l) read place
last_entry p out new acc count read written place e l s few entry is there at put =
    let front : bits count acc ≡ flat_map code_word (entry_symbols e) ++ bits (count - entry_length e) acc =
    wide_front count acc (wide_of acc) 12 (count + 20) (entry_length e) (flat_map code_word (entry_symbols e)) refl (omega arith) (omega arith) entry.most (omega (arith, is)) entry.words in
    rw is (stand_step p out new acc count read written place (entry_length e) (entry_count e) (entry_symbols e) s front put (small_symbols e) at entry.spare (omega (arith, is)))

pub last_first : (p out : List ℕ) (acc count read written e l : ℕ) → Standing p out acc count read written → count < 30 → IsEntry (wide_of acc / 2 ^ (count + 20) % 4096) e → l ≡ e / 1048576 % 16 → l ≤ count → written < length out →
    Standing p (set out written (e % 256)) acc (count - l) read (written + 1)
last_first p out acc count read written e l s few entry is there room =
    let front : bits count acc ≡ code_word (entry_first e) ++ bits (count - entry_first_length e) acc =
    wide_front count acc (wide_of acc) 12 (count + 20) (entry_first_length e) (code_word (entry_first e)) refl (omega arith) (omega arith) entry.first_most (omega (arith, is)) entry.word in
    rw is (stand_symbol p out acc count read written (entry_first e) (entry_first_length e) s front (omega arith) entry.first_least (omega (arith, is)) room)

pub last_refused : (p out : List ℕ) (acc count read written e l : ℕ) → Standing p out acc count read written → length p ≤ read → count < 30 → IsEntry (wide_of acc / 2 ^ (count + 20) % 4096) e → l ≡ e / 1048576 % 16 → count < l → ((count < 8) × (bits count acc ≡ replicate count 1) → ⊥) → IsNoPayload p
last_refused p out acc count read written e l s all few entry is over nopad =
    let front = wide_over count acc (wide_of acc) 12 (count + 20) (entry_first_length e) (code_word (entry_first e)) refl (omega arith) (omega arith) entry.first_most entry.word in
    let len = word_length 12 (entry_first_length e) (wide_of acc / 2 ^ (count + 20) % 4096) (entry_first e) entry.first_most entry.word in
    stuck p out _ (replicate 32 1) acc count read written (entry_first e) s all front (omega arith) (inr (omega (arith, len, is, over))) nopad

pub last_long : (p out : List ℕ) (acc count read written symbol l : ℕ) → Standing p out acc count read written → count < 30 →
    bits 30 (wide_of acc / 2 ^ (count + 2) % 1073741824) ≡ code_word symbol ++ bits (30 - l) (wide_of acc / 2 ^ (count + 2) % 1073741824) → symbol < 256 → 13 ≤ l → l ≤ 30 → l ≤ count → written < length out →
    Standing p (set out written symbol) acc (count - l) read (written + 1)
last_long p out acc count read written symbol l s few word small least most there room =
    stand_symbol p out acc count read written symbol l s (wide_front count acc (wide_of acc) 30 (count + 2) l (code_word symbol) refl (omega arith) (omega arith) most there word) small (omega arith) there room

pub last_long_refused : (p out : List ℕ) (acc count read written symbol l : ℕ) → Standing p out acc count read written → length p ≤ read → count < 30 →
    bits 30 (wide_of acc / 2 ^ (count + 2) % 1073741824) ≡ code_word symbol ++ bits (30 - l) (wide_of acc / 2 ^ (count + 2) % 1073741824) → symbol ≤ 256 → l ≤ 30 → (symbol ≡ 256) ⊎ (count < l) → ((count < 8) × (bits count acc ≡ replicate count 1) → ⊥) → IsNoPayload p
last_long_refused p out acc count read written symbol l s all few word le most why nopad =
    let front = wide_over count acc (wide_of acc) 30 (count + 2) l (code_word symbol) refl (omega arith) (omega arith) most word in
    let len = word_length 30 l (wide_of acc / 2 ^ (count + 2) % 1073741824) symbol most word in
    let why' : (symbol ≡ 256) ⊎ (count < length (code_word symbol)) = elim why [ inl end ↦ inl end | inr over ↦ inr (omega (arith, len, over)) ] in
    stuck p out _ (replicate 32 1) acc count read written symbol s all front le why' nopad
