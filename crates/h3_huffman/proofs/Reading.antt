-- A payload in the midst of its reading.
use Rattle.std.proofs.Common.{◌≡◌, ℕ, ◌+◌, ◌*◌, ◌<◌, ◌≤◌, ◌⊎◌, true, not, List, [], ◌∷◌, ◌++◌, length, take, drop, replicate, ap, sym, ◌∙◌, arith, append_assoc, length-append, flat_map, inl, inr}
use Rattle.std.specs.List.{AllByRecursion}
use Rattle.std.proofs.lemmas.Bool.{and_parts, not-true}
use Rattle.std.proofs.lemmas.List.{length-replicate, append_cancel_left}
use Rattle.h3_huffman.specs.Huffman.{bits, octets, huffman, code_word}
use Rattle.h3_huffman.specs.Payload.{IsByte, IsNoPayload}
use Rattle.h3_huffman.specs.Tree.{Leaf, walk, code_tree, is_leaf}
use Rattle.h3_huffman.proofs.Computed.{tree_holds}
use Rattle.h3_huffman.specs.PayloadLaws.{all_from_at, words_hold, huffman_bits}
use Rattle.h3_huffman.proofs.Words.{word_front, one_word}
use Rattle.h3_huffman.proofs.Payloads.{octets_pad, payload_octets, length-payload}

-- fewer than eight ones begin with no word
pub pad_no_word : (j symbol : ℕ) (y : List ℕ) → j < 8 → symbol ≤ 256 → replicate j 1 ≡ code_word symbol ++ y → ⊥
pad_no_word j symbol y h le e =
    let none = not-true _ (all_from_at (λ k. not (is_leaf (walk code_tree (replicate k 1)))) 0 8 j (and_parts _ _ words_hold).1 (omega arith) (omega arith)) in
    let leads : walk code_tree (replicate j 1) ≡ Leaf symbol = ap (λ v. walk code_tree v) e ∙ word_front code_tree tree_holds symbol y le in
    let leaf : is_leaf (walk code_tree (replicate j 1)) ≡ true = ap (λ v. is_leaf v) leads in
    cc

-- Bits that some string's words and padding are, past the words of what was read.
pub record Rest (r : List ℕ) : Type 0 where
  pub plain : List ℕ
  pub bytes : AllByRecursion IsByte plain
  pub pad : ℕ
  pub few : pad < 8
  pub is : flat_map code_word plain ++ replicate pad 1 ≡ r

pub rest_of : (done r plain : List ℕ) (pad : ℕ) → AllByRecursion IsByte done → AllByRecursion IsByte plain → pad < 8 → flat_map code_word plain ++ replicate pad 1 ≡ flat_map code_word done ++ r → Rest r
rest_of [] r plain pad p q few e = record { plain = plain; bytes = q; pad = pad; few = few; is = e }
rest_of (b ∷ done) r [] pad p q few e =
    absurd (pad_no_word pad b (flat_map code_word done ++ r) few (omega (arith, p.0)) (e ∙ append_assoc (code_word b) (flat_map code_word done) r))
rest_of (b ∷ done) r (a ∷ plain) pad p q few e =
    let left = append_assoc (code_word a) (flat_map code_word plain) (replicate pad 1) in
    let right = append_assoc (code_word b) (flat_map code_word done) r in
    let joined : code_word a ++ (flat_map code_word plain ++ replicate pad 1) ≡ code_word b ++ (flat_map code_word done ++ r) = sym left ∙ e ∙ right in
    let same = one_word a b _ _ (omega (arith, q.0)) (omega (arith, p.0)) joined in
    let tails = append_cancel_left (code_word b) _ _ (rw same at joined) in
    rest_of done r plain pad p.1 q.1 few tails

-- What was read are the words of the string so far, and the rest is under way or not yet taken.
pub record Standing (payload out : List ℕ) (acc count read written : ℕ) : Type 0 where
  pub parts : flat_map (bits 8) payload ≡ flat_map code_word (take written out) ++ (bits count acc ++ flat_map (bits 8) (drop read payload))
  pub room : 5 * written + count ≤ 8 * read
  pub within : read ≤ length payload
  pub bytes : AllByRecursion IsByte (take written out)

refused_rest : (r y q : List ℕ) (symbol : ℕ) → r ++ q ≡ code_word symbol ++ y → symbol ≤ 256 → (symbol ≡ 256) ⊎ (length r < length (code_word symbol)) → ((j : ℕ) → j < 8 → r ≡ replicate j 1 → ⊥) → (plain : List ℕ) (pad : ℕ) → AllByRecursion IsByte plain → pad < 8 → flat_map code_word plain ++ replicate pad 1 ≡ r → ⊥
refused_rest r y q symbol front le why nopad [] pad bytes few is = nopad pad few (sym is)
refused_rest r y q symbol front le why nopad (b ∷ plain) pad bytes few is =
    let tail = flat_map code_word plain ++ replicate pad 1 in
    let here : code_word b ++ tail ≡ r = sym (append_assoc (code_word b) (flat_map code_word plain) (replicate pad 1)) ∙ is in
    let both : code_word b ++ (tail ++ q) ≡ code_word symbol ++ y = sym (append_assoc (code_word b) tail q) ∙ ap (λ x. x ++ q) here ∙ front in
    let same = one_word b symbol _ _ (omega (arith, bytes.0)) le both in
    let long : length (code_word b) + length tail ≡ length r = sym (length-append (code_word b) tail) ∙ ap (λ x. length x) here in
    elim why [
      | inl end ↦ absurd (omega (arith, bytes.0, same, end))
      | inr short ↦ absurd (omega (arith, long, short, ap (λ s. length (code_word s)) same))
    ]

-- The payload is no string's, where what is left begins with the end's word, or with one that is longer than it.
pub refused : (payload done r y : List ℕ) (q : List ℕ) (symbol : ℕ) → AllByRecursion IsByte done → flat_map (bits 8) payload ≡ flat_map code_word done ++ r → r ++ q ≡ code_word symbol ++ y → symbol ≤ 256 → (symbol ≡ 256) ⊎ (length r < length (code_word symbol)) → ((j : ℕ) → j < 8 → r ≡ replicate j 1 → ⊥) → IsNoPayload payload
refused payload done r y q symbol p parts front le why nopad plain bytes e =
    let whole = huffman_bits plain bytes in
    let begin : flat_map code_word plain ++ replicate whole.0 1 ≡ flat_map code_word done ++ r = sym whole.2 ∙ sym (ap (λ x. flat_map (bits 8) x) e) ∙ parts in
    let rest = rest_of done r plain whole.0 p bytes whole.1 begin in
    refused_rest r y q symbol front le why nopad rest.plain rest.pad rest.bytes rest.few rest.is

-- all was read, and what is left is padding
pub accepted : (payload done r : List ℕ) (count : ℕ) → AllByRecursion IsByte payload → flat_map (bits 8) payload ≡ flat_map code_word done ++ r → r ≡ replicate count 1 → count < 8 → payload ≡ huffman done
unfolding huffman
accepted payload done r count bytes parts is few =
    let whole : flat_map (bits 8) payload ≡ flat_map code_word done ++ replicate count 1 = parts ∙ ap (λ x. flat_map code_word done ++ x) is in
    let sizes : length (flat_map code_word done) + length (replicate count 1) ≡ 8 * length payload = sym (length-append (flat_map code_word done) (replicate count 1)) ∙ sym (ap (λ x. length x) whole) ∙ length-payload payload in
    sym (payload_octets payload bytes) ∙ ap (λ x. octets x) whole ∙ octets_pad (flat_map code_word done) count (length payload) few (omega (arith, sizes, length-replicate {A = ℕ} count 1))
