-- What is said of heads where any protocol is taken (RFC 8441, section 4).
use Rattle.std.specs.Prelude.{ℕ, Bool, List, [], ◌∷◌, codes, Some}
use Rattle.h3_header.specs.Head.{Head, trailer_head}
use Rattle.h3_header.specs.HeadRead.{HeadRead, head_by}
use Rattle.h3_field.specs.Field.{plain_field}

-- what the list of this `:protocol` alone reads as
abbrev pub asked : Bool → List ℕ → HeadRead
asked any text = head_by any (plain_field (codes ":protocol") text ∷ [])

-- the head with this protocol alone
abbrev pub asking : List ℕ → Head
asking text = record (trailer_head []) { protocol = Some text }
