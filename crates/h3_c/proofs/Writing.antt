-- What `h3_outgoing` shows, and behind it what the program owes, is the front of the text with all that was announced.
use Rattle.std.proofs.Common.{arith, ◌≡◌, ◌≤◌, ℕ, zero, suc, ◌+◌, ◌-◌, Bool, true, false, if◌then◌else◌, List, [], ◌∷◌, ◌++◌, flat_map, length, drop, take, refl, sym, ap, subst, ◌∙◌, nat_lt, drop-drop, length-drop, take-add, take-append-drop}
use Rattle.std.specs.List.{AllByRecursion}
use Rattle.std.proofs.lemmas.Bool.{lt-ltb}
use Rattle.h3_coding.specs.Encodings.{IsByte}
use Rattle.h3_connection.specs.Outgoing.{Outgoing as Out, written_part}
use Rattle.h3_outgoing.specs.Held.{filled_with, past_of}
use Rattle.h3_c.proofs.Filling.{IsOfBytes, bytes_filled, filled_joined, filled_parts, length_filled, no_places, parts_places, parts_written, places, places_joined, places_of}
use Rattle.h3_c.proofs.Grows.{part_bytes}

-- so many bytes are shown of these, and so many places behind them
pub record Fronted (wire buffer : List ℕ) (count past : ℕ) : Type 0 where
  pub bytes : AllByRecursion IsByte (take count wire)
  pub few : count ≤ length wire
  pub copied : take count buffer ≡ take count wire
  pub past_is : past ≡ past_of (drop count wire)

take_within : (k : ℕ) (front more : List ℕ) (past : ℕ) → k ≤ length front + past → take k (front ++ more) ≡ take k (front ++ take past more)
take_within zero front more past few = refl
take_within (suc k) [] [] zero few = refl
take_within (suc k) [] (x ∷ more) zero few = absurd (omega (arith, few))
take_within (suc k) [] [] (suc past) few = refl
take_within (suc k) [] (x ∷ more) (suc past) few = ap (λ l. x ∷ l) (take_within k [] more past (omega (arith, few)))
take_within (suc k) (x ∷ front) more past few = ap (λ l. x ∷ l) (take_within k front more past (omega (arith, few)))

past_filled : (wire owed : List ℕ) → past_of wire ≤ length owed → take (past_of wire) (filled_with wire owed) ≡ take (past_of wire) owed
past_filled [] owed few = refl
past_filled (b ∷ wire) [] few = by (nat_lt b 256) few
  where
    by : (t : Bool) → (if t then 0 else suc (past_of wire)) ≤ 0 → take (if t then 0 else suc (past_of wire)) (b ∷ wire) ≡ take (if t then 0 else suc (past_of wire)) []
    by true few = refl
    by false few = absurd (omega (arith, few))
past_filled (b ∷ wire) (byte ∷ owed) few = by (nat_lt b 256) few (λ less. past_filled wire owed less)
  where
    by : (t : Bool) → (if t then 0 else suc (past_of wire)) ≤ suc (length owed) → (past_of wire ≤ length owed → take (past_of wire) (filled_with wire owed) ≡ take (past_of wire) owed)
        → take (if t then 0 else suc (past_of wire)) (if t then b ∷ filled_with wire (byte ∷ owed) else byte ∷ filled_with wire owed) ≡ take (if t then 0 else suc (past_of wire)) (byte ∷ owed)
    by true few rest = refl
    by false few rest = ap (λ l. byte ∷ l) (rest (omega (arith, few)))

places_past : (wire : List ℕ) (k : ℕ) → k ≤ past_of wire → places (take k wire) ≡ k
places_past wire zero few = refl
places_past [] (suc k) few = absurd (omega (arith, few))
places_past (b ∷ wire) (suc k) few = by (nat_lt b 256) few (λ less. places_past wire k less)
  where
    by : (t : Bool) → suc k ≤ (if t then 0 else suc (past_of wire)) → (k ≤ past_of wire → places (take k wire) ≡ k) → (if t then places (take k wire) else suc (places (take k wire))) ≡ suc k
    by true few rest = absurd (omega (arith, few))
    by false few rest = ap (λ n. suc n) (rest (omega (arith, few)))

places_front : (front rest : List ℕ) (k : ℕ) → AllByRecursion IsByte front → k ≤ length front + past_of rest → places (take k (front ++ rest)) ≡ k - length front
places_front [] rest k bytes few = let there = places_past rest k (omega (arith, few)) in omega (arith, there)
places_front (x ∷ front) rest zero bytes few = omega arith
places_front (x ∷ front) rest (suc k) bytes few =
    let there = places_front front rest k bytes.1 (omega (arith, few)) in
    ap (λ t. if t then places (take k (front ++ rest)) else suc (places (take k (front ++ rest)))) (lt-ltb x 256 bytes.0) ∙ less (places (take k (front ++ rest))) k (length front) there
  where
    less : (a b c : ℕ) → a ≡ b - c → a ≡ suc b - suc c
    less a b c is = omega (arith, is)

few_past : (wire : List ℕ) → past_of wire ≤ places wire
few_past [] = omega arith
few_past (b ∷ wire) = by (nat_lt b 256) (few_past wire)
  where
    by : (t : Bool) → past_of wire ≤ places wire → (if t then 0 else suc (past_of wire)) ≤ (if t then places wire else suc (places wire))
    by true more = omega arith
    by false more = omega (arith, more)

length_take : (n : ℕ) (xs : List ℕ) → n ≤ length xs → length (take n xs) ≡ n
length_take zero xs few = refl
length_take (suc n) [] few = absurd (omega (arith, few))
length_take (suc n) (x ∷ xs) few = ap (λ k. suc k) (length_take n xs (omega (arith, few)))

module _ (wire buffer owed : List ℕ) (count past : ℕ) (f : Fronted wire buffer count past) (enough : places wire ≤ length owed) (bytes : List ℕ) (within : length bytes ≤ count + past)
    (shown : bytes ≡ take (length bytes) (take count buffer ++ take past owed)) where
  abbrev front : List ℕ
  front = take count wire

  abbrev rest : List ℕ
  rest = drop count wire

  cut : front ++ rest ≡ wire
  cut = take-append-drop count wire

  long : length front ≡ count
  long = length_take count wire f.few

  few : past ≤ length owed
  few =
      let split = places_joined front rest in
      let all = ap places cut in
      let there = few_past rest in
      let is = f.past_is in
      omega (arith, split, all, there, is, enough)

  filled : filled_with wire owed ≡ front ++ filled_with rest owed
  filled =
      ap (λ l. filled_with l owed) (sym cut) ∙ filled_joined front rest owed ∙ ap (λ l. l ++ filled_with rest (drop (places front) owed)) (bytes_filled front owed f.bytes)
      ∙ ap (λ n. front ++ filled_with rest (drop n owed)) (no_places front f.bytes)

  fits : length bytes ≤ length front + past
  fits = omega (arith, within, long)

  pub front_filled : bytes ≡ take (length bytes) (filled_with wire owed)
  front_filled =
      shown ∙ ap (λ l. take (length bytes) (l ++ take past owed)) f.copied
      ∙ ap (λ l. take (length bytes) (front ++ l)) (sym (subst (λ n. take n (filled_with rest owed) ≡ take n owed) (sym f.past_is) (past_filled rest owed (subst (λ n. n ≤ length owed) f.past_is few))))
      ∙ sym (take_within (length bytes) front (filled_with rest owed) past fits) ∙ ap (λ l. take (length bytes) l) (sym filled)

  pub places_taken : places (take (length bytes) wire) ≡ length bytes - count
  places_taken =
      ap (λ l. places (take (length bytes) l)) (sym cut)
      ∙ places_front front rest (length bytes) f.bytes (subst (λ n. length bytes ≤ length front + n) f.past_is fits) ∙ ap (λ n. length bytes - n) long

past_short : (wire : List ℕ) → past_of wire ≤ length wire
past_short [] = omega arith
past_short (b ∷ wire) = by (nat_lt b 256) (past_short wire)
  where
    by : (t : Bool) → past_of wire ≤ length wire → (if t then 0 else suc (past_of wire)) ≤ suc (length wire)
    by true more = omega arith
    by false more = omega (arith, more)

-- So many wait.
pub waits_enough : (wire buffer : List ℕ) (count past : ℕ) → Fronted wire buffer count past → (n : ℕ) → n ≤ count + past → n ≤ length wire
waits_enough wire buffer count past f n within =
    let behind = past_short (drop count wire) in let left = length-drop count wire in let few = f.few in let is = f.past_is in omega (arith, behind, left, few, is, within)

-- of a stream: what waits, with what is owed in its places
module _ (o : Out) (said owed : List ℕ) (all : places_of o.parts ≡ length said) (bytes : AllByRecursion IsOfBytes o.parts) (owes : owed ≡ drop (places (take o.taken (part_bytes o))) said) where
  pub enough_owed : places (drop o.taken (part_bytes o)) ≤ length owed
  enough_owed =
      let split = places_joined (take o.taken (part_bytes o)) (drop o.taken (part_bytes o)) in
      let whole = ap places (take-append-drop o.taken (part_bytes o)) in
      let parts = parts_places o.parts bytes in
      let left = ap (λ l. length l) owes ∙ length-drop (places (take o.taken (part_bytes o))) said in
      omega (arith, split, whole, parts, all, left)

  pub owes_behind : (n shown : ℕ) → places (take n (drop o.taken (part_bytes o))) ≡ shown → drop shown owed ≡ drop (places (take (o.taken + n) (part_bytes o))) said
  owes_behind n shown is =
      ap (λ l. drop shown l) owes ∙ drop-drop shown (places (take o.taken (part_bytes o))) said
      ∙ ap (λ k. drop k said) (sym (ap places (take-add o.taken n (part_bytes o)) ∙ places_joined (take o.taken (part_bytes o)) (take n (drop o.taken (part_bytes o))) ∙ ap (λ k. places (take o.taken (part_bytes o)) + k) is))

drop_as_long : (xs ys : List ℕ) (n : ℕ) → length xs ≡ n → drop n (xs ++ ys) ≡ ys
drop_as_long xs ys n long = subst (λ i. drop i (xs ++ ys) ≡ ys) long (by xs)
  where
    by : (zs : List ℕ) → drop (length zs) (zs ++ ys) ≡ ys
    by [] = refl
    by (z ∷ zs) = by zs

-- what waits of it, with all that was announced
pub waits_filled : (o : Out) (said owed : List ℕ) → AllByRecursion IsOfBytes o.parts → o.taken ≤ length (part_bytes o) → owed ≡ drop (places (take o.taken (part_bytes o))) said
    → drop o.taken (flat_map written_part (filled_parts said o.parts)) ≡ filled_with (drop o.taken (part_bytes o)) owed
waits_filled o said owed bytes within owes =
    let front = take o.taken (part_bytes o) in
    let rest = drop o.taken (part_bytes o) in
    ap (λ l. drop o.taken l) (parts_written o.parts said bytes ∙ ap (λ l. filled_with l said) (sym (take-append-drop o.taken (part_bytes o))) ∙ filled_joined front rest said)
    ∙ drop_as_long (filled_with front said) (filled_with rest (drop (places front) said)) o.taken (length_filled front said ∙ length_take o.taken (part_bytes o) within)
    ∙ ap (λ l. filled_with rest l) (sym owes)
