-- What is seen of a PRIORITY_UPDATE frame (RFC 9218, section 7.2).
use Rattle.std.specs.Prelude.{ℕ, Bool, List, ◌||◌, ◌==◌, if◌then◌else◌}

-- whether it is for a push, the id of the request stream or of the push, and the text of its priority
pub record Update : Type 0 where
  pub is_push : Bool
  pub id : ℕ
  pub value : List ℕ

-- its types: 0xf0700 for a request stream, 0xf0701 for a push
abbrev pub is_update_type : ℕ → Bool
is_update_type kind = (kind == 0xf0700) || (kind == 0xf0701)

abbrev pub type_of_update : Bool → ℕ
type_of_update is_push = if is_push then 0xf0701 else 0xf0700
