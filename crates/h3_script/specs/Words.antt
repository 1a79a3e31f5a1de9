-- The words of a script's line.
use Rattle.std.specs.Prelude.{ℕ, ◌+◌, ◌*◌, ◌-◌, ◌^◌, Bool, ◌&&◌, nat_lt, nat_le, List, length, fold, codes, bytes_eq, if◌then◌else◌, Option, Some, None, option_and_then}
use Rattle.std.specs.List.{list_all}
use Rattle.h3_script.specs.Pieces.{pieces}
use Rattle.h3_proto.specs.declared.stream.Side.{Side}
use Rattle.h3_proto.specs.declared.stream.Side.TheVariants.{Client, Server}

-- the words of a line, which one blank parts
abbrev pub words_of : List ℕ → List (List ℕ)
words_of line = pieces 32 line

abbrev pub is_digit : ℕ → Bool
is_digit b = nat_le 48 b && nat_le b 57

abbrev pub digits_value : List ℕ → ℕ
digits_value digits = fold (λ n d. 10 * n + (d - 48)) 0 digits

-- decimal digits of a value below 2^64
abbrev pub is_number : List ℕ → Bool
is_number word = nat_lt 0 (length word) && (list_all is_digit word && nat_lt (digits_value word) (2 ^ 64))

abbrev pub number_of : List ℕ → Option ℕ
number_of word = if is_number word then Some (digits_value word) else None

abbrev pub below_2_62 : ℕ → Option ℕ
below_2_62 n = if nat_lt n (2 ^ 62) then Some n else None

-- a number below 2^62: a stream id (RFC 9000, section 2.1), or that of a GOAWAY frame (RFC 9114, section 7.2.6)
abbrev pub id_of : List ℕ → Option ℕ
id_of word = option_and_then below_2_62 (number_of word)

abbrev pub side_of : List ℕ → Option Side
side_of word = if bytes_eq word (codes "c") then Some Client else (if bytes_eq word (codes "s") then Some Server else None)
