-- A HEADERS frame in one block: its type and length end with the ninth byte, and its section begins behind it.
use Rattle.std.proofs.Common.{arith, ◌≡◌, ◌≤◌, ◌<◌, ℕ, zero, suc, ◌+◌, ◌-◌, List, [], ◌∷◌, ◌++◌, length, take, drop, max, slice_set, refl, sym, ap, ◌∙◌, inl, inr}
use Rattle.std.specs.Int.{w64, to_be_bytes}
use Rattle.std.proofs.lemmas.List.{drop-append-le, drop-take, length-drop, length-take-le, take-append-drop, take_rest}
use Rattle.std.proofs.lemmas.Bool.{cases_lt}
use Rattle.std.proofs.lemmas.Slice.{take-put_mid}
use Rattle.std.proofs.Math.ListN.{drop_of_length-le}
use borrow.Rule.Slice.PartMut.{put_mid}
use Rattle.h3_coding.specs.Encodings.{encoding}
use Rattle.h3_coding.specs.ShortestLaws.{encoding_one}
use Rattle.h3_frames.specs.Encoded.{head_encoding}
use Rattle.h3_frames.specs.Outgoing.{first_of_both}

-- what is left of the head, and behind it what is left of the section
split_before : (start : ℕ) (block : List ℕ) → 9 ≤ length block → start < 9 → drop start block ≡ drop start (take 9 block) ++ drop (max start 9) block
split_before start block long before =
    let size = length-take-le 9 block long in
    let place : max start 9 ≡ 9 = omega (arith, before) in
    ap (drop start) (sym (take-append-drop 9 block)) ∙ drop-append-le start (take 9 block) (drop 9 block) (omega (arith, size, before))
    ∙ ap (λ n. drop start (take 9 block) ++ drop n block) (sym place)

split_behind : (start : ℕ) (block : List ℕ) → 9 ≤ length block → 9 ≤ start → drop start block ≡ drop start (take 9 block) ++ drop (max start 9) block
split_behind start block long behind =
    let size = length-take-le 9 block long in
    let none : drop start (take 9 block) ≡ [] = drop_of_length-le (take 9 block) (omega (arith, size, behind)) in
    let place : max start 9 ≡ start = omega (arith, behind) in
    ap (λ n. drop n block) (sym place) ∙ ap (λ l. l ++ drop (max start 9) block) (sym none)

split : (start : ℕ) (block : List ℕ) → 9 ≤ length block → drop start block ≡ drop start (take 9 block) ++ drop (max start 9) block
split start block long = elim (cases_lt start 9) [ inl h ↦ split_before start block long h | inr h ↦ split_behind start block long h ]

pub left_is : (start : ℕ) (block bytes : List ℕ) → 9 ≤ length block → bytes ≡ block → take (length bytes - start) (drop start bytes) ≡ drop start (take 9 block) ++ drop (max start 9) block
left_is start block bytes long is = take_rest bytes start ∙ ap (drop start) is ∙ split start block long

-- what is left of the head
first_is : (head payload : List ℕ) → 0 < length head → first_of_both head payload ≡ head
first_is [] payload some = absurd (omega (arith, some))
first_is (byte ∷ head) payload some = refl

pub head_is : (start : ℕ) (block bytes : List ℕ) → 9 ≤ length block → bytes ≡ block → start < 9
    → take (9 - start) (drop start bytes) ≡ first_of_both (drop start (take 9 block)) (drop (max start 9) block)
head_is start block bytes long is before =
    let end : start + (9 - start) ≡ 9 = omega (arith, before) in
    let some : 0 < length (drop start (take 9 block)) = omega (arith, length-drop start (take 9 block), length-take-le 9 block long, before) in
    sym (drop-take start (9 - start) bytes) ∙ ap (λ n. drop start (take n bytes)) end ∙ ap (λ l. drop start (take 9 l)) is ∙ sym (first_is (drop start (take 9 block)) (drop (max start 9) block) some)

-- The type stands right in front of the last bytes of a word.
marked : (at first kind : ℕ) (bytes : List ℕ) → at ≤ length bytes → drop at (slice_set (first ∷ bytes) at kind) ≡ kind ∷ drop at bytes
marked zero first kind bytes fits = refl
marked (suc at) first kind [] fits = absurd (omega (arith, fits))
marked (suc at) first kind (byte ∷ bytes) fits = marked at byte kind bytes (omega (arith, fits))

marked_behind : (at kind : ℕ) (block bytes : List ℕ) → 9 ≤ length block → at ≤ length bytes → drop at (slice_set (take 1 block ++ bytes) at kind) ≡ kind ∷ drop at bytes
marked_behind at kind [] bytes long fits = absurd (omega (arith, long))
marked_behind at kind (first ∷ block) bytes long fits = marked at first kind bytes fits

take_set : (n at kind : ℕ) (xs : List ℕ) → at < n → take n (slice_set xs at kind) ≡ slice_set (take n xs) at kind
take_set zero at kind xs within = absurd (omega (arith, within))
take_set (suc n) zero kind [] within = refl
take_set (suc n) zero kind (x ∷ xs) within = refl
take_set (suc n) (suc at) kind [] within = refl
take_set (suc n) (suc at) kind (x ∷ xs) within = ap (λ l. x ∷ l) (take_set n at kind xs (omega (arith, within)))

pub head_written : (block bytes : List ℕ) (word size kind len : ℕ) → 9 ≤ length block → kind < 64 → bytes ≡ to_be_bytes w64 word → drop (8 - size) (to_be_bytes w64 word) ≡ encoding len
    → drop (8 - size) (take 9 (slice_set (put_mid 1 8 block bytes) (8 - size) kind)) ≡ head_encoding kind len
head_written block bytes word size kind len long small is coded =
    let at = 8 - size in
    let eight : length bytes ≡ 8 = ap length is in
    let mid = put_mid 1 8 block bytes in
    let put : take 9 mid ≡ take 1 block ++ bytes = take-put_mid 1 8 block bytes 9 (omega (arith, eight)) (omega (arith, long)) in
    ap (drop at) (take_set 9 at kind mid (omega arith) ∙ ap (λ l. slice_set l at kind) put)
    ∙ marked_behind at kind block bytes long (omega (arith, eight))
    ∙ ap (λ l. kind ∷ drop at l) is ∙ ap (λ l. kind ∷ l) coded
    ∙ ap (λ l. l ++ encoding len) (sym (encoding_one kind small))
