-- What an instruction that is not whole waits for, before it is of use to read it again.
use Rattle.std.specs.Prelude.{◌==◌, ℕ, ◌-◌, Bool, true, false, if◌then◌else◌, nat_lt, nat_le, Option, Some, None, List, [], ◌∷◌, length, drop, ◌≡◌}
use Rattle.std.specs.List.{list_all}
use Rattle.h3_field.specs.Reading.{Reading, Whole, Unfinished, Bad}
use Rattle.h3_field.specs.IntegerReading.{integer}
use Rattle.h3_field.specs.declared.waiting.Wait.{Wait}
use Rattle.h3_field.specs.declared.waiting.Wait.TheVariants as wait

-- Further bytes may make it whole.
abbrev pub is_unfinished : {A : Type 0} → Reading A → Bool
is_unfinished (Whole value rest) = false
is_unfinished Unfinished = true
is_unfinished Bad = false

-- More has to come.
abbrev pub goes_on : Wait → Bool
goes_on wait.Nothing = false
goes_on wait.Integer = true
goes_on (wait.Bytes count) = nat_lt 0 count

-- groups of an integer that are worth nothing, behind each of which another one has to come (RFC 7541, section 5.1)
abbrev pub are_empty_groups : List ℕ → Bool
are_empty_groups bytes = list_all (λ byte. byte == 128) bytes

-- What it waits for behind these bytes. None: they may have brought it.
abbrev pub behind : Wait → List ℕ → Option Wait
behind wait.Nothing more = Some wait.Nothing
behind wait.Integer more = if are_empty_groups more then Some wait.Integer else None
behind (wait.Bytes count) more = if nat_lt (length more) count then Some (wait.Bytes (count - length more)) else None

-- an integer waits for its first byte, and then for its end
abbrev pub unfinished_wait : List ℕ → Wait
unfinished_wait [] = wait.Bytes 1
unfinished_wait (first ∷ rest) = wait.Integer

-- once it is whole what stands behind it waits
abbrev pub behind_integer : Reading (ℕ × ℕ) → Wait → (ℕ → List ℕ → Wait) → Wait
behind_integer (Whole head rest) unfinished next = next head.1 rest
behind_integer Unfinished unfinished next = unfinished
behind_integer Bad unfinished next = wait.Nothing

-- an integer, and what stands behind it
abbrev pub integer_wait : ℕ → (ℕ → List ℕ → Wait) → List ℕ → Wait
integer_wait size next bytes = behind_integer (integer size bytes) (unfinished_wait bytes) next

-- so many bytes, and what stands behind them
abbrev pub bytes_wait : (List ℕ → Wait) → ℕ → List ℕ → Wait
bytes_wait next count bytes = if nat_lt (length bytes) count then wait.Bytes (count - length bytes) else next (drop count bytes)

-- a string literal, and what stands behind it
abbrev pub string_wait : ℕ → (List ℕ → Wait) → List ℕ → Wait
string_wait size next = integer_wait (size - 1) (bytes_wait next)

-- an integer alone
abbrev pub number_wait : ℕ → List ℕ → Wait
number_wait size = integer_wait size (λ n after. wait.Nothing)

-- Insert With Name Reference
abbrev pub name_reference_wait : List ℕ → Wait
name_reference_wait = integer_wait 6 (λ index. string_wait 8 (λ after. wait.Nothing))

-- Insert With Literal Name
abbrev pub literal_name_wait : List ℕ → Wait
literal_name_wait = string_wait 6 (string_wait 8 (λ after. wait.Nothing))

-- An encoder instruction (RFC 9204, section 4.3). One that is whole or bad waits for nothing.
abbrev pub encoder_wait : List ℕ → Wait
encoder_wait [] = wait.Bytes 1
encoder_wait (first ∷ rest) =
    if nat_le 128 first then name_reference_wait (first ∷ rest) else (
    if nat_le 64 first then literal_name_wait (first ∷ rest) else number_wait 5 (first ∷ rest))

-- a decoder instruction (RFC 9204, section 4.4), likewise
abbrev pub decoder_wait : List ℕ → Wait
decoder_wait [] = wait.Bytes 1
decoder_wait (first ∷ rest) = if nat_le 128 first then number_wait 7 (first ∷ rest) else number_wait 6 (first ∷ rest)

-- The wait goes on exactly where the reading is unfinished.
abbrev pub Agrees : {A : Type 0} → Wait → Reading A → Type 0
Agrees w r = goes_on w ≡ is_unfinished r
