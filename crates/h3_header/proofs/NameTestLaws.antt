-- A name's test is one of each of its bytes, and of its length.
use Rattle.std.proofs.Common.{◌≡◌, ℕ, ◌==◌, ◌<◌, ◌≤◌, nat_le, nat_lt, Bool, true, false, ◌&&◌, List, [], ◌∷◌, length, bytes_eq, refl, ap, ap₂, sym, ◌∙◌}
use Rattle.std.proofs.lemmas.Bool.{le-leb, lt-ltb}
use Rattle.std.specs.Char.{to_ascii_lowercase}
use Rattle.std.specs.List.{list_all}
use Rattle.http_header.specs.Token.{is_token_byte, lowercase}
use Rattle.h3_header.specs.HeadTests.{is_header_name, is_name_byte}

apart : (a b c d : Bool) → ((a && b) && (c && d)) ≡ ((a && c) && (b && d))
apart true true c d = refl
apart true false true d = refl
apart true false false d = refl
apart false b c d = refl

-- no byte is a letter of upper case exactly where lower case changes nothing
names : (text : List ℕ) → list_all is_name_byte text ≡ (list_all is_token_byte text && bytes_eq (lowercase text) text)
names [] = refl
names (b ∷ text) =
    ap (λ rest. (is_token_byte b && (to_ascii_lowercase b == b)) && rest) (names text)
    ∙ apart (is_token_byte b) (to_ascii_lowercase b == b) (list_all is_token_byte text) (bytes_eq (lowercase text) text)

turned : (a b c d : Bool) → (a && (b && (c && d))) ≡ (((a && c) && b) && d)
turned true true true d = refl
turned true true false d = refl
turned true false true d = refl
turned true false false d = refl
turned false b c d = refl

header_name_is : (text : List ℕ) → (nat_lt 0 (length text) && (nat_le (length text) 65535 && list_all is_name_byte text)) ≡ is_header_name text
header_name_is text =
    ap (λ all. nat_lt 0 (length text) && (nat_le (length text) 65535 && all)) (names text)
    ∙ turned (nat_lt 0 (length text)) (nat_le (length text) 65535) (list_all is_token_byte text) (bytes_eq (lowercase text) text)

-- of a length that a name may have, the bytes alone decide
pub bytes_decide : (text : List ℕ) → 0 < length text → length text ≤ 65535 → list_all is_name_byte text ≡ is_header_name text
bytes_decide text some short =
    sym (ap₂ (λ a b. a && (b && list_all is_name_byte text)) (lt-ltb 0 (length text) some) (le-leb (length text) 65535 short)) ∙ header_name_is text
