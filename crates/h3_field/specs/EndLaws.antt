-- Every reading leaves an end of the bytes.
use Rattle.std.proofs.Common.{◌≡◌, ℕ, ◌+◌, ◌-◌, ◌*◌, ◌/◌, ◌%◌, ◌^◌, ◌<◌, ◌≤◌, nat_le, nat_lt, Bool, true, false, if◌then◌else◌, List, [], ◌∷◌, ◌++◌, length, take, drop, refl, ap, sym, ◌∙◌, append_assoc, length-append, arith}
use Rattle.std.proofs.lemmas.List.{take-append-drop}
use Rattle.h3_field.specs.Integer.{ones}
use Rattle.h3_field.specs.Reading.{Reading, Whole, Unfinished, Bad, then_read}
use Rattle.h3_field.specs.IntegerReading.{integer, integer_limit, groups_reading}
use Rattle.h3_field.specs.StringReading.{bytes_reading, string}
use Rattle.h3_field.specs.Shapes.{index_and_string, two_strings}
use Rattle.h3_field.specs.LineReading.{indexed, post_base, named, post_base_named, literal, line}
use Rattle.h3_field.specs.InstructionReading.{name_reference, literal_name, capacity, repeat, instruction, acknowledgment, cancellation, increment, decoder_instruction}
use Rattle.h3_field.specs.Ends.{EndsWith, LeavesEnd, LeavesEnds, IsEndOf}

-- an end of an end
pub further : (least : ℕ) (bytes middle rest : List ℕ) → EndsWith least bytes middle → EndsWith 0 middle rest → EndsWith least bytes rest
further least bytes middle rest h k =
    record {
      front = h.front ++ k.front;
      parts = h.parts ∙ ap (λ l. h.front ++ l) k.parts ∙ sym (append_assoc h.front k.front rest);
      some = omega (arith, h.some, length-append h.front k.front);
    }

further_leaves : {A : Type 0} (least : ℕ) (bytes middle : List ℕ) (r : Reading A) → EndsWith least bytes middle → LeavesEnd 0 middle r → LeavesEnd least bytes r
unfolding LeavesEnd
further_leaves least bytes middle (Whole value rest) h k = further least bytes middle rest h k
further_leaves least bytes middle Unfinished h k = tt
further_leaves least bytes middle Bad h k = tt

-- no fewer
leaves_some : {A : Type 0} (least : ℕ) (bytes : List ℕ) (r : Reading A) → LeavesEnd least bytes r → LeavesEnd 0 bytes r
unfolding LeavesEnd
leaves_some least bytes (Whole value rest) h = record { front = h.front; parts = h.parts; some = omega arith }
leaves_some least bytes Unfinished h = tt
leaves_some least bytes Bad h = tt

pub leave_some : {A : Type 0} (least : ℕ) (read : List ℕ → Reading A) → LeavesEnds least read → LeavesEnds 0 read
unfolding LeavesEnds
leave_some least read h bytes = leaves_some least bytes (read bytes) (h bytes)

-- two readings, one behind the other
leaves_then : {A B : Type 0} (least : ℕ) (bytes : List ℕ) (r : Reading A) (next : A → List ℕ → Reading B) → LeavesEnd least bytes r → ((value : A) → LeavesEnds 0 (next value)) → LeavesEnd least bytes (then_read r next)
unfolding LeavesEnd LeavesEnds
leaves_then least bytes (Whole value rest) next h each = further_leaves least bytes rest (next value rest) h (each value rest)
leaves_then least bytes Unfinished next h each = tt
leaves_then least bytes Bad next h each = tt

pub then_leaves : {A B : Type 0} (least : ℕ) (read : List ℕ → Reading A) (next : A → List ℕ → Reading B) → LeavesEnds least read → ((value : A) → LeavesEnds 0 (next value)) → LeavesEnds least (λ bytes. then_read (read bytes) next)
unfolding LeavesEnds
then_leaves least read next first each bytes = leaves_then least bytes (read bytes) next (first bytes) each

-- nothing was read
pub ends_itself : (bytes : List ℕ) → EndsWith 0 bytes bytes
ends_itself bytes = record { front = []; parts = refl; some = omega arith }

pub whole_leaves : {A : Type 0} (value : A) → LeavesEnds 0 (λ rest. Whole value rest)
unfolding LeavesEnds LeavesEnd
whole_leaves value rest = ends_itself rest

leaves_if : {A : Type 0} (least : ℕ) (bytes : List ℕ) (b : Bool) (x y : Reading A) → LeavesEnd least bytes x → LeavesEnd least bytes y → LeavesEnd least bytes (if b then x else y)
leaves_if least bytes true x y p q = p
leaves_if least bytes false x y p q = q

one_taken : (byte : ℕ) (bytes : List ℕ) → EndsWith 1 (byte ∷ bytes) bytes
one_taken byte bytes = record { front = byte ∷ []; parts = refl; some = omega arith }

behind_one : {A : Type 0} (byte : ℕ) (bytes : List ℕ) (r : Reading A) → LeavesEnd 0 bytes r → LeavesEnd 1 (byte ∷ bytes) r
behind_one byte bytes r h = further_leaves 1 (byte ∷ bytes) bytes r (one_taken byte bytes) h

groups_leave : (limit sum place : ℕ) → LeavesEnds 1 (groups_reading limit sum place)
unfolding LeavesEnds LeavesEnd
groups_leave limit sum place [] = tt
groups_leave limit sum place (byte ∷ rest) =
    leaves_if 1 (byte ∷ rest) (nat_le limit (sum + byte % 128 * 128 ^ place)) Bad _ tt
    (leaves_if 1 (byte ∷ rest) (nat_lt byte 128) (Whole (sum + byte % 128 * 128 ^ place) rest) _ (one_taken byte rest)
    (behind_one byte rest _ (leaves_some 1 rest _ (groups_leave limit (sum + byte % 128 * 128 ^ place) (place + 1) rest))))

pub integer_leaves : (size : ℕ) → LeavesEnds 1 (integer size)
unfolding LeavesEnds LeavesEnd
integer_leaves size [] = tt
integer_leaves size (first ∷ rest) =
    leaves_if 1 (first ∷ rest) (nat_lt (first % 2 ^ size) (ones size)) (Whole (first / 2 ^ size, first % 2 ^ size) rest) _ (one_taken first rest)
    (leaves_then 1 (first ∷ rest) (groups_reading (integer_limit size) (ones size) 0 rest) (λ n after. Whole (first / 2 ^ size, n) after)
    (behind_one first rest _ (leaves_some 1 rest _ (groups_leave (integer_limit size) (ones size) 0 rest))) (λ n. whole_leaves {A = ℕ × ℕ} (first / 2 ^ size, n)))

bytes_leave : (count : ℕ) → LeavesEnds 0 (bytes_reading count)
unfolding LeavesEnds LeavesEnd
bytes_leave count bytes =
    leaves_if 0 bytes (nat_le count (length bytes)) (Whole (take count bytes) (drop count bytes)) Unfinished (record { front = take count bytes; parts = sym (take-append-drop count bytes); some = omega arith }) tt

pub string_leaves : (size : ℕ) → LeavesEnds 1 (string size)
string_leaves size = then_leaves 1 (integer (size - 1)) _ (integer_leaves (size - 1)) (λ head. then_leaves 0 (bytes_reading head.1) _ (bytes_leave head.1) (λ payload. whole_leaves _))

value_leaves : LeavesEnds 0 (string 8)
value_leaves = leave_some 1 (string 8) (string_leaves 8)

pub index_and_string_leaves : (size : ℕ) → LeavesEnds 1 (index_and_string size)
index_and_string_leaves size = then_leaves 1 (integer size) _ (integer_leaves size) (λ head. then_leaves 0 (string 8) _ value_leaves (λ value. whole_leaves _))

pub two_strings_leave : (size : ℕ) → LeavesEnds 1 (two_strings size)
two_strings_leave size = then_leaves 1 (string size) _ (string_leaves size) (λ name. then_leaves 0 (string 8) _ value_leaves (λ value. whole_leaves _))

pub indexed_leaves : LeavesEnds 1 indexed
indexed_leaves = then_leaves 1 (integer 6) _ (integer_leaves 6) (λ head. whole_leaves _)

pub post_base_leaves : LeavesEnds 1 post_base
post_base_leaves = then_leaves 1 (integer 4) _ (integer_leaves 4) (λ head. whole_leaves _)

pub named_leaves : LeavesEnds 1 named
named_leaves = then_leaves 1 (index_and_string 4) _ (index_and_string_leaves 4) (λ parts. whole_leaves _)

pub post_base_named_leaves : LeavesEnds 1 post_base_named
post_base_named_leaves = then_leaves 1 (index_and_string 3) _ (index_and_string_leaves 3) (λ parts. whole_leaves _)

pub literal_leaves : LeavesEnds 1 literal
literal_leaves = then_leaves 1 (two_strings 4) _ (two_strings_leave 4) (λ parts. whole_leaves _)

-- what stands behind a line is an end
pub line_leaves : LeavesEnds 1 line
unfolding LeavesEnds LeavesEnd
line_leaves [] = tt
line_leaves (first ∷ rest) =
    leaves_if 1 (first ∷ rest) (nat_le 128 first) _ _ (indexed_leaves (first ∷ rest))
    (leaves_if 1 (first ∷ rest) (nat_le 64 first) _ _ (named_leaves (first ∷ rest))
    (leaves_if 1 (first ∷ rest) (nat_le 32 first) _ _ (literal_leaves (first ∷ rest))
    (leaves_if 1 (first ∷ rest) (nat_le 16 first) _ _ (post_base_leaves (first ∷ rest)) (post_base_named_leaves (first ∷ rest)))))

pub name_reference_leaves : LeavesEnds 1 name_reference
name_reference_leaves = then_leaves 1 (index_and_string 6) _ (index_and_string_leaves 6) (λ parts. whole_leaves _)

pub literal_name_leaves : LeavesEnds 1 literal_name
literal_name_leaves = then_leaves 1 (two_strings 6) _ (two_strings_leave 6) (λ parts. whole_leaves _)

pub capacity_leaves : LeavesEnds 1 capacity
capacity_leaves = then_leaves 1 (integer 5) _ (integer_leaves 5) (λ head. whole_leaves _)

pub repeat_leaves : LeavesEnds 1 repeat
repeat_leaves = then_leaves 1 (integer 5) _ (integer_leaves 5) (λ head. whole_leaves _)

-- what stands behind an encoder instruction is an end
pub instruction_leaves : LeavesEnds 1 instruction
unfolding LeavesEnds LeavesEnd
instruction_leaves [] = tt
instruction_leaves (first ∷ rest) =
    leaves_if 1 (first ∷ rest) (nat_le 128 first) _ _ (name_reference_leaves (first ∷ rest))
    (leaves_if 1 (first ∷ rest) (nat_le 64 first) _ _ (literal_name_leaves (first ∷ rest))
    (leaves_if 1 (first ∷ rest) (nat_le 32 first) _ _ (capacity_leaves (first ∷ rest)) (repeat_leaves (first ∷ rest))))

pub acknowledgment_leaves : LeavesEnds 1 acknowledgment
acknowledgment_leaves = then_leaves 1 (integer 7) _ (integer_leaves 7) (λ head. whole_leaves _)

pub cancellation_leaves : LeavesEnds 1 cancellation
cancellation_leaves = then_leaves 1 (integer 6) _ (integer_leaves 6) (λ head. whole_leaves _)

pub increment_leaves : LeavesEnds 1 increment
increment_leaves = then_leaves 1 (integer 6) _ (integer_leaves 6) (λ head. whole_leaves _)

-- what stands behind a decoder instruction is an end
pub decoder_instruction_leaves : LeavesEnds 1 decoder_instruction
unfolding LeavesEnds LeavesEnd
decoder_instruction_leaves [] = tt
decoder_instruction_leaves (first ∷ rest) =
    leaves_if 1 (first ∷ rest) (nat_le 128 first) _ _ (acknowledgment_leaves (first ∷ rest))
    (leaves_if 1 (first ∷ rest) (nat_le 64 first) _ _ (cancellation_leaves (first ∷ rest)) (increment_leaves (first ∷ rest)))

-- what a whole reading leaves
pub end_of : {A : Type 0} (least : ℕ) (read : List ℕ → Reading A) (bytes rest : List ℕ) (value : A) → LeavesEnds least read → read bytes ≡ Whole value rest → EndsWith least bytes rest
unfolding LeavesEnds LeavesEnd
end_of least read bytes rest value h e = let l = h bytes in rw e at l

-- an end is shorter by what stands before it
pub end_shorter : (least : ℕ) (bytes rest : List ℕ) → EndsWith least bytes rest → least + length rest ≤ length bytes
end_shorter least bytes rest h = omega (arith, h.some, ap length h.parts, length-append h.front rest)

-- and it is the bytes without as many of them as are missing
pub end_dropped : (least : ℕ) (bytes rest : List ℕ) → EndsWith least bytes rest → IsEndOf bytes rest
end_dropped least bytes rest h =
    let sizes : length bytes - length rest ≡ length h.front = omega (arith, ap length h.parts, length-append h.front rest) in
    sym (ap (λ n. drop n bytes) sizes ∙ ap (λ l. drop (length h.front) l) h.parts ∙ drop_front h.front rest)
  where
    drop_front : (xs ys : List ℕ) → drop (length xs) (xs ++ ys) ≡ ys
    drop_front [] ys = refl
    drop_front (x ∷ xs) ys = drop_front xs ys

-- what was not read is an end too
pub none_dropped : (bytes : List ℕ) → IsEndOf bytes bytes
none_dropped bytes = end_dropped 0 bytes bytes (ends_itself bytes)

pub shortens : {A : Type 0} (read : List ℕ → Reading A) (bytes rest : List ℕ) (value : A) → LeavesEnds 1 read → read bytes ≡ Whole value rest → length rest < length bytes
shortens read bytes rest value h e = let less = end_shorter 1 bytes rest (end_of 1 read bytes rest value h e) in omega (arith, less)
