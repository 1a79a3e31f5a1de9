-- The codes with which an application resets streams of its sessions (draft-ietf-webtrans-http3-02, section 4.3).
use Rattle.std.specs.Prelude.{ℕ, ◌+◌, ◌-◌, ◌/◌, ◌%◌, ◌^◌, ◌||◌, ◌==◌, nat_lt, nat_le, Option, Some, None, if◌then◌else◌}

abbrev pub first_code : ℕ
first_code = 0x52e4a40fa8db

-- each 31st code is a reserved one (RFC 9114, section 8.1), and left out
abbrev pub code_of : ℕ → ℕ
code_of number = first_code + number + number / 30

abbrev pub number_behind : ℕ → Option ℕ
number_behind n = if n % 31 == 30 || nat_le (2 ^ 32) (n - n / 31) then None else Some (n - n / 31)

abbrev pub number_of : ℕ → Option ℕ
number_of code = if nat_lt code first_code then None else number_behind (code - first_code)
