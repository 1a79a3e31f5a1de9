-- The characters of structured fields (RFC 8941, sections 3 and 4.2; RFC 9110, section 5.6.2).
use Rattle.std.specs.Prelude.{ℕ, Bool, ◌&&◌, ◌||◌, ◌==◌, nat_le, List, codes}
use Rattle.std.specs.List.{list_any}
use Rattle.h3_priority.specs.declared.characters.Class.{Class}
use Rattle.h3_priority.specs.declared.characters.Class.TheVariants.{Space, Whitespace, Digit, KeyStart, Key, TokenStart, Token, Base64, Printable}

abbrev pub is_between : ℕ → ℕ → ℕ → Bool
is_between least most b = nat_le least b && nat_le b most

abbrev pub is_digit : ℕ → Bool
is_digit b = is_between 48 57 b

abbrev pub is_lowercase : ℕ → Bool
is_lowercase b = is_between 97 122 b

abbrev pub is_alpha : ℕ → Bool
is_alpha b = is_lowercase b || is_between 65 90 b

abbrev pub is_one_of : List ℕ → ℕ → Bool
is_one_of characters b = list_any (λ c. c == b) characters

-- whether a character belongs to a class
unfoldable pub is_in : Class → ℕ → Bool
is_in Space b = b == 32
is_in Whitespace b = (b == 32) || (b == 9)
is_in Digit b = is_digit b
is_in KeyStart b = is_lowercase b || (b == 42)
is_in Key b = is_lowercase b || is_digit b || is_one_of (codes "_-.*") b
is_in TokenStart b = is_alpha b || (b == 42)
is_in Token b = is_alpha b || is_digit b || is_one_of (codes "!#$%&'*+-.^_`|~:/") b
is_in Base64 b = is_alpha b || is_digit b || is_one_of (codes "+/=") b
is_in Printable b = is_between 32 126 b
