-- A payload in the places that were announced for it.
use Rattle.std.proofs.Common.{arith, ◌≡◌, ◌≤◌, ℕ, zero, suc, ◌+◌, ◌*◌, ◌/◌, ◌^◌, Bool, true, false, if◌then◌else◌, List, [], ◌∷◌, ◌++◌, flat_map, length, drop, refl, sym, ap, ◌∙◌, nat_lt, drop-drop, length-append, lit<}
use Rattle.std.specs.Prelude.{◌&&◌}
use Rattle.std.specs.Int.{bytes_high_first}
use Rattle.std.specs.List.{AllByRecursion, list_all}
use Rattle.std.proofs.lemmas.Bool.{lt-ltb}
use Rattle.std.proofs.lemmas.Nat.{mod_below}
use Rattle.h3_coding.specs.Encodings.{IsByte, encoding}
use Rattle.h3_frames.specs.Encoded.{frame_encoding, head_encoding}
use Rattle.h3_connection.specs.Outgoing.{OwnPart, is_interim_part, is_unsent, last_is_trailer, written_part}
use Rattle.h3_connection.specs.Outgoing.OwnPart.{OwnInterim, OwnHead, OwnBody, OwnTrailer}
use Rattle.h3_outgoing.specs.Held.{filled_with, held}
use Rattle.h3_c.proofs.SectionBytes.{both_bytes}

-- how many places there are
abbrev pub places : List ℕ → ℕ
places [] = 0
places (b ∷ wire) = if nat_lt b 256 then places wire else suc (places wire)

pub filled_none : (wire : List ℕ) → filled_with wire [] ≡ wire
filled_none [] = refl
filled_none (b ∷ wire) = refl

drop_none : (n : ℕ) → drop {A = ℕ} n [] ≡ []
drop_none zero = refl
drop_none (suc n) = refl

-- one list behind another
pub filled_joined : (xs ys bytes : List ℕ) → filled_with (xs ++ ys) bytes ≡ filled_with xs bytes ++ filled_with ys (drop (places xs) bytes)
filled_joined [] ys bytes = refl
filled_joined (b ∷ xs) ys [] = ap (λ l. (b ∷ xs) ++ l) (sym (filled_none ys) ∙ ap (λ l. filled_with ys l) (sym (drop_none (places (b ∷ xs)))))
filled_joined (b ∷ xs) ys (byte ∷ bytes) = by (nat_lt b 256) (filled_joined xs ys (byte ∷ bytes)) (filled_joined xs ys bytes)
  where
    by : (t : Bool) → filled_with (xs ++ ys) (byte ∷ bytes) ≡ filled_with xs (byte ∷ bytes) ++ filled_with ys (drop (places xs) (byte ∷ bytes)) → filled_with (xs ++ ys) bytes ≡ filled_with xs bytes ++ filled_with ys (drop (places xs) bytes)
        → (if t then b ∷ filled_with (xs ++ ys) (byte ∷ bytes) else byte ∷ filled_with (xs ++ ys) bytes)
        ≡ (if t then b ∷ filled_with xs (byte ∷ bytes) else byte ∷ filled_with xs bytes) ++ filled_with ys (drop (if t then places xs else suc (places xs)) (byte ∷ bytes))
    by true all less = ap (λ l. b ∷ l) all
    by false all less = ap (λ l. byte ∷ l) less

pub places_joined : (xs ys : List ℕ) → places (xs ++ ys) ≡ places xs + places ys
places_joined [] ys = omega arith
places_joined (b ∷ xs) ys = by (nat_lt b 256) (places_joined xs ys)
  where
    by : (t : Bool) → places (xs ++ ys) ≡ places xs + places ys → (if t then places (xs ++ ys) else suc (places (xs ++ ys))) ≡ (if t then places xs else suc (places xs)) + places ys
    by true more = more
    by false more = omega (arith, more)

pub length_filled : (wire bytes : List ℕ) → length (filled_with wire bytes) ≡ length wire
length_filled [] bytes = refl
length_filled (b ∷ wire) [] = refl
length_filled (b ∷ wire) (byte ∷ bytes) = by (nat_lt b 256) (length_filled wire (byte ∷ bytes)) (length_filled wire bytes)
  where
    by : (t : Bool) → length (filled_with wire (byte ∷ bytes)) ≡ length wire → length (filled_with wire bytes) ≡ length wire → length (if t then b ∷ filled_with wire (byte ∷ bytes) else byte ∷ filled_with wire bytes) ≡ suc (length wire)
    by true all less = ap (λ n. suc n) all
    by false all less = ap (λ n. suc n) less

-- bytes have no place
pub no_places : (xs : List ℕ) → AllByRecursion IsByte xs → places xs ≡ 0
no_places [] h = refl
no_places (x ∷ xs) h = ap (λ t. if t then places xs else suc (places xs)) (lt-ltb x 256 h.0) ∙ no_places xs h.1

pub bytes_filled : (xs bytes : List ℕ) → AllByRecursion IsByte xs → filled_with xs bytes ≡ xs
bytes_filled [] bytes h = refl
bytes_filled (x ∷ xs) [] h = refl
bytes_filled (x ∷ xs) (byte ∷ bytes) h =
    ap (λ t. if t then x ∷ filled_with xs (byte ∷ bytes) else byte ∷ filled_with xs bytes) (lt-ltb x 256 h.0) ∙ ap (λ l. x ∷ l) (bytes_filled xs (byte ∷ bytes) h.1)

-- the places of a payload
pub held_places : (n : ℕ) → places (held n) ≡ n
held_places zero = refl
held_places (suc n) = ap (λ k. suc k) (held_places n)

pub held_filled : (bytes : List ℕ) → filled_with (held (length bytes)) bytes ≡ bytes
held_filled [] = refl
held_filled (byte ∷ bytes) = ap (λ l. byte ∷ l) (held_filled bytes)

-- Where there is enough, what comes behind it goes into no place.
pub filled_enough : (xs said more : List ℕ) → places xs ≤ length said → filled_with xs (said ++ more) ≡ filled_with xs said
filled_enough [] said more few = refl
filled_enough (x ∷ xs) [] [] few = refl
filled_enough (x ∷ xs) [] (byte ∷ more) few = by (nat_lt x 256) few (λ none. filled_enough xs [] (byte ∷ more) none)
  where
    by : (t : Bool) → (if t then places xs else suc (places xs)) ≤ 0 → (places xs ≤ 0 → filled_with xs (byte ∷ more) ≡ filled_with xs []) → (if t then x ∷ filled_with xs (byte ∷ more) else byte ∷ filled_with xs more) ≡ x ∷ xs
    by true none rest = ap (λ l. x ∷ l) (rest none ∙ filled_none xs)
    by false none rest = absurd (omega (arith, none))
filled_enough (x ∷ xs) (byte ∷ said) more few = by (nat_lt x 256) few (λ all. filled_enough xs (byte ∷ said) more all) (λ less. filled_enough xs said more less)
  where
    by : (t : Bool) → (if t then places xs else suc (places xs)) ≤ suc (length said) → (places xs ≤ suc (length said) → filled_with xs (byte ∷ (said ++ more)) ≡ filled_with xs (byte ∷ said))
        → (places xs ≤ length said → filled_with xs (said ++ more) ≡ filled_with xs said)
        → (if t then x ∷ filled_with xs (byte ∷ (said ++ more)) else byte ∷ filled_with xs (said ++ more)) ≡ (if t then x ∷ filled_with xs (byte ∷ said) else byte ∷ filled_with xs said)
    by true few all less = ap (λ l. x ∷ l) (all few)
    by false few all less = ap (λ l. byte ∷ l) (less (omega (arith, few)))

-- A part, and parts: bodies alone have places.
abbrev pub part_places : OwnPart → ℕ
part_places (OwnBody bytes) = places bytes
part_places _ = 0

abbrev pub filled_part : List ℕ → OwnPart → OwnPart
filled_part said (OwnBody bytes) = OwnBody (filled_with bytes said)
filled_part said part = part

abbrev pub places_of : List OwnPart → ℕ
places_of [] = 0
places_of (part ∷ parts) = part_places part + places_of parts

abbrev pub filled_parts : List ℕ → List OwnPart → List OwnPart
filled_parts said [] = []
filled_parts said (part ∷ parts) = filled_part said part ∷ filled_parts (drop (part_places part) said) parts

pub filled_behind : (said : List ℕ) (parts more : List OwnPart) → filled_parts said (parts ++ more) ≡ filled_parts said parts ++ filled_parts (drop (places_of parts) said) more
filled_behind said [] more = refl
filled_behind said (part ∷ parts) more =
    ap (λ l. filled_part said part ∷ l) (filled_behind (drop (part_places part) said) parts more
    ∙ ap (λ l. filled_parts (drop (part_places part) said) parts ++ filled_parts l more) (drop-drop (places_of parts) (part_places part) said))

pub places_behind : (parts more : List OwnPart) → places_of (parts ++ more) ≡ places_of parts + places_of more
places_behind [] more = omega arith
places_behind (part ∷ parts) more = let rest = places_behind parts more in omega (arith, rest)

part_enough : (part : OwnPart) (said more : List ℕ) → part_places part ≤ length said → filled_part (said ++ more) part ≡ filled_part said part
part_enough (OwnInterim section) said more few = refl
part_enough (OwnHead section) said more few = refl
part_enough (OwnBody bytes) said more few = ap (λ l. OwnBody l) (filled_enough bytes said more few)
part_enough (OwnTrailer section) said more few = refl

drop_behind : (n : ℕ) (xs ys : List ℕ) → n ≤ length xs → drop n (xs ++ ys) ≡ drop n xs ++ ys
drop_behind zero xs ys few = refl
drop_behind (suc n) [] ys few = absurd (omega (arith, few))
drop_behind (suc n) (x ∷ xs) ys few = drop_behind n xs ys (omega (arith, few))

length_left : (n : ℕ) (xs : List ℕ) (m : ℕ) → n + m ≤ length xs → m ≤ length (drop n xs)
length_left zero xs m few = omega (arith, few)
length_left (suc n) [] m few = absurd (omega (arith, few))
length_left (suc n) (x ∷ xs) m few = length_left n xs m (omega (arith, few))

pub parts_enough : (parts : List OwnPart) (said more : List ℕ) → places_of parts ≤ length said → filled_parts (said ++ more) parts ≡ filled_parts said parts
parts_enough [] said more few = refl
parts_enough (part ∷ parts) said more few =
    ap (λ p. p ∷ filled_parts (drop (part_places part) (said ++ more)) parts) (part_enough part said more (omega (arith, few)))
    ∙ ap (λ l. filled_part said part ∷ filled_parts l parts) (drop_behind (part_places part) said more (omega (arith, few)))
    ∙ ap (λ l. filled_part said part ∷ l) (parts_enough parts (drop (part_places part) said) more (length_left (part_places part) said (places_of parts) few))

-- what an endpoint sees of them
interim_stays : (said : List ℕ) (part : OwnPart) → is_interim_part (filled_part said part) ≡ is_interim_part part
interim_stays said (OwnInterim section) = refl
interim_stays said (OwnHead section) = refl
interim_stays said (OwnBody bytes) = refl
interim_stays said (OwnTrailer section) = refl

pub unsent_stays : (said : List ℕ) (parts : List OwnPart) → is_unsent (filled_parts said parts) ≡ is_unsent parts
unsent_stays said [] = refl
unsent_stays said (part ∷ parts) =
    let rest = unsent_stays (drop (part_places part) said) parts in
    ap (λ b. b && list_all is_interim_part (filled_parts (drop (part_places part) said) parts)) (interim_stays said part) ∙ ap (λ b. is_interim_part part && b) rest

pub trailer_stays : (said : List ℕ) (parts : List OwnPart) → last_is_trailer (filled_parts said parts) ≡ last_is_trailer parts
trailer_stays said [] = refl
trailer_stays said (OwnInterim section ∷ []) = refl
trailer_stays said (OwnHead section ∷ []) = refl
trailer_stays said (OwnBody bytes ∷ []) = refl
trailer_stays said (OwnTrailer section ∷ []) = refl
trailer_stays said (part ∷ next ∷ parts) = trailer_stays (drop (part_places part) said) (next ∷ parts)

-- of bytes: no section has a place
abbrev pub IsOfBytes : OwnPart → Type 0
IsOfBytes (OwnInterim section) = AllByRecursion IsByte section
IsOfBytes (OwnHead section) = AllByRecursion IsByte section
IsOfBytes (OwnBody bytes) = Unit {0}
IsOfBytes (OwnTrailer section) = AllByRecursion IsByte section

-- a frame's head
each_byte : (k n : ℕ) → AllByRecursion IsByte (bytes_high_first k n)
each_byte zero n = tt
each_byte (suc zero) n = (omega arith, tt)
each_byte (suc (suc k)) n = (mod_below (n / 256 ^ suc k) 256 (lit< tt), each_byte (suc k) n)

encoding_bytes : (v : ℕ) → AllByRecursion IsByte (encoding v)
unfolding encoding
encoding_bytes v = by (nat_lt v (2 ^ 6)) (nat_lt v (2 ^ 14)) (nat_lt v (2 ^ 30))
  where
    by : (a b c : Bool)
        → AllByRecursion IsByte (if a then bytes_high_first 1 v else (if b then bytes_high_first 2 (2 ^ 14 + v) else (if c then bytes_high_first 4 (2 * 2 ^ 30 + v) else bytes_high_first 8 (3 * 2 ^ 62 + v))))
    by true b c = each_byte 1 v
    by false true c = each_byte 2 (2 ^ 14 + v)
    by false false true = each_byte 4 (2 * 2 ^ 30 + v)
    by false false false = each_byte 8 (3 * 2 ^ 62 + v)

head_bytes : (kind size : ℕ) → AllByRecursion IsByte (head_encoding kind size)
head_bytes kind size = both_bytes (encoding kind) (encoding size) (encoding_bytes kind) (encoding_bytes size)

frame_bytes : (kind : ℕ) (payload : List ℕ) → AllByRecursion IsByte payload → AllByRecursion IsByte (frame_encoding kind payload)
frame_bytes kind payload h = both_bytes (head_encoding kind (length payload)) payload (head_bytes kind (length payload)) h

-- **A part is written with the payload in its places.**
body_written : (bytes said : List ℕ) → frame_encoding 0 (filled_with bytes said) ≡ filled_with (frame_encoding 0 bytes) said
body_written bytes said =
    let head = head_encoding 0 (length bytes) in
    let h = head_bytes 0 (length bytes) in
    ap (λ n. head_encoding 0 n ++ filled_with bytes said) (length_filled bytes said)
    ∙ ap (λ l. head ++ l) (ap (λ n. filled_with bytes (drop n said)) (sym (no_places head h)))
    ∙ ap (λ l. l ++ filled_with bytes (drop (places head) said)) (sym (bytes_filled head said h)) ∙ sym (filled_joined head bytes said)

part_written : (part : OwnPart) (said : List ℕ) → IsOfBytes part → written_part (filled_part said part) ≡ filled_with (written_part part) said
part_written (OwnInterim section) said h = sym (bytes_filled (frame_encoding 1 section) said (frame_bytes 1 section h))
part_written (OwnHead section) said h = sym (bytes_filled (frame_encoding 1 section) said (frame_bytes 1 section h))
part_written (OwnBody bytes) said h = body_written bytes said
part_written (OwnTrailer section) said h = sym (bytes_filled (frame_encoding 1 section) said (frame_bytes 1 section h))

written_places : (part : OwnPart) → IsOfBytes part → places (written_part part) ≡ part_places part
written_places (OwnInterim section) h = no_places (frame_encoding 1 section) (frame_bytes 1 section h)
written_places (OwnHead section) h = no_places (frame_encoding 1 section) (frame_bytes 1 section h)
written_places (OwnBody bytes) h =
    let none = no_places (head_encoding 0 (length bytes)) (head_bytes 0 (length bytes)) in let both = places_joined (head_encoding 0 (length bytes)) bytes in omega (arith, none, both)
written_places (OwnTrailer section) h = no_places (frame_encoding 1 section) (frame_bytes 1 section h)

pub parts_written : (parts : List OwnPart) (said : List ℕ) → AllByRecursion IsOfBytes parts → flat_map written_part (filled_parts said parts) ≡ filled_with (flat_map written_part parts) said
parts_written [] said h = refl
parts_written (part ∷ parts) said h =
    ap (λ l. l ++ flat_map written_part (filled_parts (drop (part_places part) said) parts)) (part_written part said h.0)
    ∙ ap (λ l. filled_with (written_part part) said ++ l) (parts_written parts (drop (part_places part) said) h.1)
    ∙ ap (λ n. filled_with (written_part part) said ++ filled_with (flat_map written_part parts) (drop n said)) (sym (written_places part h.0))
    ∙ sym (filled_joined (written_part part) (flat_map written_part parts) said)

pub parts_places : (parts : List OwnPart) → AllByRecursion IsOfBytes parts → places (flat_map written_part parts) ≡ places_of parts
parts_places [] h = refl
parts_places (part ∷ parts) h =
    let one = written_places part h.0 in
    let rest = parts_places parts h.1 in let both = places_joined (written_part part) (flat_map written_part parts) in omega (arith, one, rest, both)

-- as long as it was
part_as_long : (part : OwnPart) (said : List ℕ) → length (written_part (filled_part said part)) ≡ length (written_part part)
part_as_long (OwnInterim section) said = refl
part_as_long (OwnHead section) said = refl
part_as_long (OwnBody bytes) said =
    let head = head_encoding 0 (length bytes) in
    let one = length-append head (filled_with bytes said) in
    let two = length-append head bytes in
    let same = length_filled bytes said in
    ap (λ n. length (head_encoding 0 n ++ filled_with bytes said)) same ∙ as_long (length (head ++ filled_with bytes said)) (length (head ++ bytes)) (length head) (length (filled_with bytes said)) (length bytes) one two same
  where
    as_long : (a b h f l : ℕ) → a ≡ h + f → b ≡ h + l → f ≡ l → a ≡ b
    as_long a b h f l one two same = omega (arith, one, two, same)
part_as_long (OwnTrailer section) said = refl

pub parts_as_long : (parts : List OwnPart) (said : List ℕ) → length (flat_map written_part (filled_parts said parts)) ≡ length (flat_map written_part parts)
parts_as_long [] said = refl
parts_as_long (part ∷ parts) said =
    let one = part_as_long part said in
    let rest = parts_as_long parts (drop (part_places part) said) in
    let new = length-append (written_part (filled_part said part)) (flat_map written_part (filled_parts (drop (part_places part) said) parts)) in
    let old = length-append (written_part part) (flat_map written_part parts) in
    omega (arith, one, rest, new, old)
