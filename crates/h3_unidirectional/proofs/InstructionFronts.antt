-- What is read of an instruction rests on its own bytes alone, whatever follows.
use Rattle.std.proofs.Common.{◌≡◌, ℕ, ◌+◌, ◌-◌, ◌*◌, ◌/◌, ◌%◌, ◌^◌, ◌≤◌, ◌<◌, ◌⊎◌, inl, inr, nat_le, nat_lt, Bool, true, false, if◌then◌else◌, List, [], ◌∷◌, ◌++◌, length, take, drop, refl, ap, ap₂, sym, ◌∙◌, append_assoc, length-append, length-take-le, arith}
use Rattle.std.proofs.lemmas.List.{take_at, drop_at, take-append-drop}
use Rattle.std.proofs.lemmas.Bool.{cases_lt, le-leb, lt-leb}
use Rattle.h3_field.specs.Integer.{ones}
use Rattle.h3_field.specs.Reading.{Reading, Whole, Unfinished, Bad, then_read}
use Rattle.h3_field.specs.IntegerReading.{integer, integer_limit, groups_reading}
use Rattle.h3_field.specs.StringReading.{bytes_reading, string}
use Rattle.h3_field.specs.Shapes.{index_and_string, two_strings}
use Rattle.h3_field.specs.InstructionReading.{name_reference, literal_name, capacity, repeat, instruction, acknowledgment, cancellation, increment, decoder_instruction}

-- The bytes are a front, read as the value whatever follows, and the rest.
pub record IsFront {A : Type 0} (read : List ℕ → Reading A) (value : A) (bytes rest : List ℕ) : Type 0 where
  pub front : List ℕ
  pub split : bytes ≡ front ++ rest
  pub alike : (more : List ℕ) → read (front ++ more) ≡ Whole value more

-- what is whole has such a front
abbrev pub HasFronts : {A : Type 0} → (List ℕ → Reading A) → Type 0
HasFronts {A} read = (bytes rest : List ℕ) (value : A) → read bytes ≡ Whole value rest → IsFront read value bytes rest

value_same : {A : Type 0} (x y : A) (xs ys : List ℕ) → Whole x xs ≡ Whole y ys → x ≡ y
value_same x y xs ys e = cc

rest_same : {A : Type 0} (x y : A) (xs ys : List ℕ) → Whole x xs ≡ Whole y ys → xs ≡ ys
rest_same x y xs ys e = cc

whole_fronts : {A : Type 0} (v : A) → HasFronts (λ rest. Whole v rest)
whole_fronts v bytes rest value e =
    record { front = []; split = rest_same v value bytes rest e; alike = λ more. ap (λ x. Whole x more) (value_same v value bytes rest e) }

then_fronts : {A B : Type 0} (read : List ℕ → Reading A) (next : A → List ℕ → Reading B) → HasFronts read → ((a : A) → HasFronts (next a)) → HasFronts (λ bytes. then_read (read bytes) next)
then_fronts read next first each bytes rest value = by_first (read bytes) refl
  where
    by_first : (x : Reading _) → read bytes ≡ x → then_read x next ≡ Whole value rest → IsFront (λ l. then_read (read l) next) value bytes rest
    by_first (Whole a mid) is e =
        let f = first bytes mid a is in
        let g = each a mid rest value e in
        record {
          front = f.front ++ g.front;
          split = f.split ∙ ap (λ l. f.front ++ l) g.split ∙ sym (append_assoc f.front g.front rest);
          alike = λ more. ap (λ l. then_read (read l) next) (append_assoc f.front g.front more) ∙ ap (λ x. then_read x next) (f.alike (g.front ++ more)) ∙ g.alike more;
        }
    by_first Unfinished is e = absurd (cc)
    by_first Bad is e = absurd (cc)

pick_fronts : {A : Type 0} (b : Bool) (x y : List ℕ → Reading A) → HasFronts x → HasFronts y → HasFronts (λ bytes. if b then x bytes else y bytes)
pick_fronts true x y p q = p
pick_fronts false x y p q = q

-- one byte more in front
after_byte : {A : Type 0} (read : List ℕ → Reading A) (byte : ℕ) (value : A) (bytes rest : List ℕ) → IsFront (λ l. read (byte ∷ l)) value bytes rest → IsFront read value (byte ∷ bytes) rest
after_byte read byte value bytes rest f = record { front = byte ∷ f.front; split = ap (λ l. byte ∷ l) f.split; alike = f.alike }

head_same : (x y : ℕ) (xs ys : List ℕ) → x ∷ xs ≡ y ∷ ys → x ≡ y
head_same x y xs ys e = cc

tail_same : (x y : ℕ) (xs ys : List ℕ) → x ∷ xs ≡ y ∷ ys → xs ≡ ys
tail_same x y xs ys e = cc

not_whole : {A : Type 0} (x : Reading A) (value : A) (rest : List ℕ) → x ≡ Unfinished → x ≡ Whole value rest → ⊥
not_whole x value rest e f = absurd (cc)

-- and one byte less, where nothing is read of no bytes
without_byte : {A : Type 0} (read : List ℕ → Reading A) (byte : ℕ) (value : A) (bytes rest : List ℕ) → read [] ≡ Unfinished → IsFront read value (byte ∷ bytes) rest → IsFront (λ l. read (byte ∷ l)) value bytes rest
without_byte read byte value bytes rest none f = by_front f.front f.split f.alike
  where
    by_front : (front : List ℕ) → byte ∷ bytes ≡ front ++ rest → ((more : List ℕ) → read (front ++ more) ≡ Whole value more) → IsFront (λ l. read (byte ∷ l)) value bytes rest
    by_front [] split alike = absurd (not_whole (read []) value [] none (alike []))
    by_front (b ∷ front) split alike =
        let same : byte ≡ b = head_same byte b bytes (front ++ rest) split in
        record {
          front = front;
          split = tail_same byte b bytes (front ++ rest) split;
          alike = λ more. ap (λ x. read (x ∷ (front ++ more))) same ∙ alike more;
        }

behind_byte : {A : Type 0} (read : List ℕ → Reading A) (byte : ℕ) → read [] ≡ Unfinished → HasFronts read → HasFronts (λ l. read (byte ∷ l))
behind_byte read byte none h bytes rest value e = without_byte read byte value bytes rest none (h (byte ∷ bytes) rest value e)

group_fronts : (a b : Bool) (sum : ℕ) (go : List ℕ → Reading ℕ) (bytes rest : List ℕ) (value : ℕ) → (go bytes ≡ Whole value rest → IsFront go value bytes rest)
    → (if a then Bad else (if b then Whole sum bytes else go bytes)) ≡ Whole value rest → IsFront (λ l. if a then Bad else (if b then Whole sum l else go l)) value bytes rest
group_fronts true b sum go bytes rest value h e = absurd (cc)
group_fronts false true sum go bytes rest value h e = whole_fronts sum bytes rest value e
group_fronts false false sum go bytes rest value h e = h e

groups_fronts : (limit sum place : ℕ) → HasFronts (groups_reading limit sum place)
groups_fronts limit sum place [] rest value e = absurd (cc)
groups_fronts limit sum place (byte ∷ bytes) rest value e =
    let after = sum + byte % 128 * 128 ^ place in
    after_byte (groups_reading limit sum place) byte value bytes rest
    (group_fronts (nat_le limit after) (nat_lt byte 128) after (groups_reading limit after (place + 1)) bytes rest value (λ f. groups_fronts limit after (place + 1) bytes rest value f) e)

integer_fronts : (size : ℕ) → HasFronts (integer size)
integer_fronts size [] rest value e = absurd (cc)
integer_fronts size (first ∷ bytes) rest value e =
    after_byte (integer size) first value bytes rest
    (pick_fronts (nat_lt (first % 2 ^ size) (ones size)) (λ l. Whole (first / 2 ^ size, first % 2 ^ size) l) (λ l. then_read (groups_reading (integer_limit size) (ones size) 0 l) (λ n after. Whole (first / 2 ^ size, n) after))
    (whole_fronts (first / 2 ^ size, first % 2 ^ size))
    (then_fronts (groups_reading (integer_limit size) (ones size) 0) (λ n after. Whole (first / 2 ^ size, n) after) (groups_fronts (integer_limit size) (ones size) 0) (λ n. whole_fronts (first / 2 ^ size, n)))
    bytes rest value e)

bytes_fronts : (count : ℕ) → HasFronts (bytes_reading count)
bytes_fronts count bytes rest value = by_size (cases_lt (length bytes) count)
  where
    by_size : (length bytes < count) ⊎ (count ≤ length bytes) → bytes_reading count bytes ≡ Whole value rest → IsFront (bytes_reading count) value bytes rest
    by_size (inl few) e =
        let none : bytes_reading count bytes ≡ Unfinished = rw (lt-leb count (length bytes) few) refl in
        absurd (not_whole (bytes_reading count bytes) value rest none e)
    by_size (inr enough) e =
        let here : Whole (take count bytes) (drop count bytes) ≡ Whole value rest = sym (rw (le-leb count (length bytes) enough) refl) ∙ e in
        let size : length (take count bytes) ≡ count = length-take-le count bytes enough in
        let is : take count bytes ≡ value = value_same (take count bytes) value (drop count bytes) rest here in
        record {
          front = take count bytes;
          split = sym (take-append-drop count bytes) ∙ ap (λ l. take count bytes ++ l) (rest_same (take count bytes) value (drop count bytes) rest here);
          alike = λ more.
              let fits : count ≤ length (take count bytes ++ more) = omega (arith, size, length-append (take count bytes) more) in
              let whole : bytes_reading count (take count bytes ++ more) ≡ Whole (take count (take count bytes ++ more)) (drop count (take count bytes ++ more)) = rw (le-leb count (length (take count bytes ++ more)) fits) refl in
              whole ∙ ap₂ (λ x y. Whole x y) (take_at (take count bytes) more count size ∙ is) (drop_at (take count bytes) more count size);
        }

string_fronts : (size : ℕ) → HasFronts (string size)
string_fronts size = then_fronts (integer (size - 1)) _ (integer_fronts (size - 1)) (λ head. then_fronts (bytes_reading head.1) _ (bytes_fronts head.1) (λ payload. whole_fronts _))

named_fronts : (size : ℕ) → HasFronts (index_and_string size)
named_fronts size = then_fronts (integer size) _ (integer_fronts size) (λ head. then_fronts (string 8) _ (string_fronts 8) (λ value. whole_fronts _))

both_fronts : (size : ℕ) → HasFronts (two_strings size)
both_fronts size = then_fronts (string size) _ (string_fronts size) (λ name. then_fronts (string 8) _ (string_fronts 8) (λ value. whole_fronts _))

name_reference_fronts : HasFronts name_reference
name_reference_fronts = then_fronts (index_and_string 6) _ (named_fronts 6) (λ parts. whole_fronts _)

literal_name_fronts : HasFronts literal_name
literal_name_fronts = then_fronts (two_strings 6) _ (both_fronts 6) (λ parts. whole_fronts _)

capacity_fronts : HasFronts capacity
capacity_fronts = then_fronts (integer 5) _ (integer_fronts 5) (λ head. whole_fronts _)

repeat_fronts : HasFronts repeat
repeat_fronts = then_fronts (integer 5) _ (integer_fronts 5) (λ head. whole_fronts _)

pub instruction_fronts : HasFronts instruction
instruction_fronts [] rest value e = absurd (cc)
instruction_fronts (first ∷ bytes) rest value e =
    after_byte instruction first value bytes rest
    (pick_fronts (nat_le 128 first) (λ l. name_reference (first ∷ l)) _ (behind_byte name_reference first refl name_reference_fronts)
    (pick_fronts (nat_le 64 first) (λ l. literal_name (first ∷ l)) _ (behind_byte literal_name first refl literal_name_fronts)
    (pick_fronts (nat_le 32 first) (λ l. capacity (first ∷ l)) (λ l. repeat (first ∷ l)) (behind_byte capacity first refl capacity_fronts) (behind_byte repeat first refl repeat_fronts))) bytes rest value e)

acknowledgment_fronts : HasFronts acknowledgment
acknowledgment_fronts = then_fronts (integer 7) _ (integer_fronts 7) (λ head. whole_fronts _)

cancellation_fronts : HasFronts cancellation
cancellation_fronts = then_fronts (integer 6) _ (integer_fronts 6) (λ head. whole_fronts _)

increment_fronts : HasFronts increment
increment_fronts = then_fronts (integer 6) _ (integer_fronts 6) (λ head. whole_fronts _)

pub decoder_instruction_fronts : HasFronts decoder_instruction
decoder_instruction_fronts [] rest value e = absurd (cc)
decoder_instruction_fronts (first ∷ bytes) rest value e =
    after_byte decoder_instruction first value bytes rest
    (pick_fronts (nat_le 128 first) (λ l. acknowledgment (first ∷ l)) _ (behind_byte acknowledgment first refl acknowledgment_fronts)
    (pick_fronts (nat_le 64 first) (λ l. cancellation (first ∷ l)) (λ l. increment (first ∷ l)) (behind_byte cancellation first refl cancellation_fronts) (behind_byte increment first refl increment_fronts)) bytes rest value e)
