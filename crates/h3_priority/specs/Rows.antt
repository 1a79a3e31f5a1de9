-- Texts with the priority that each says (RFC 8941, section 4.2; RFC 9218, section 4).
use Rattle.std.specs.Prelude.{◌≡◌, ℕ, Bool, true, false, List, [], ◌∷◌, ◌++◌, codes, Some, None}
use Rattle.std.specs.List.{AllByRecursion}
use Rattle.h3_priority.specs.Priority.{priority_of}

-- a text, the urgency that it says, and whether it says that the response is incremental
abbrev pub Row : Type 0
Row = List ℕ × ℕ × Bool

abbrev pub SaysIt : Row → Type 0
SaysIt row = priority_of row.0 ≡ Some (record { urgency = row.1; incremental = row.2 })

abbrev pub IsRefused : List ℕ → Type 0
IsRefused text = priority_of text ≡ None

-- of the two keys that are known
abbrev pub of_known_keys : List Row
of_known_keys =
    (codes "", 3, false) ∷
    (codes "u=0", 0, false) ∷
    (codes "u=-0", 0, false) ∷
    (codes "u=0001", 1, false) ∷
    (codes "i", 3, true) ∷
    (codes "i=?0", 3, false) ∷
    (codes "i=?1", 3, true) ∷
    (codes "u=5, i", 5, true) ∷
    (codes "u=5,i", 5, true) ∷
    (codes "i,u=5", 5, true) ∷
    (codes "u=5;x=2, i", 5, true) ∷
    (codes "u=8", 3, false) ∷
    (codes "u=-1", 3, false) ∷
    (codes "u=1.0", 3, false) ∷
    (codes "u=\"1\"", 3, false) ∷
    (codes "u", 3, false) ∷
    (codes "u=1,u=7", 7, false) ∷
    (codes "u=1,u=9", 3, false) ∷
    (codes "i=1", 3, false) ∷
    (codes " u=1", 1, false) ∷
    (codes "u=1 ", 1, false) ∷
    (codes "u=1; x", 1, false) ∷
    (codes "u=3,i=?0,i", 3, true) ∷
    (codes "u=1" ++ 9 ∷ [], 1, false) ∷
    (codes "u=1" ++ 9 ∷ codes " ," ++ 9 ∷ codes "i", 1, true) ∷
    []

-- with other keys, whose values are passed over
abbrev pub with_other_keys : List Row
with_other_keys =
    (codes "a=(1 2);q, u=2", 2, false) ∷
    (codes "a=( 1  2 ), u=2", 2, false) ∷
    (codes "a=(), u=2", 2, false) ∷
    (codes "a=:YQ==:, u=2", 2, false) ∷
    (codes "a=\"x,u=1\", u=2", 2, false) ∷
    (codes "*a=b/c:d,u=2", 2, false) ∷
    (codes "a=1.5,u=2", 2, false) ∷
    (codes "a=(1;b=2 c),u=2", 2, false) ∷
    []

-- no dictionaries
abbrev pub refused_texts : List (List ℕ)
refused_texts =
    codes "u=1," ∷
    codes "U=1" ∷
    codes "u = 1" ∷
    codes "u=1 ;x" ∷
    codes "u=1;;" ∷
    codes "u=?2" ∷
    codes "u=1,,i" ∷
    codes "a=(1,2), u=2" ∷
    codes "a=1., u=2" ∷
    codes "a=\"\\q\", u=2" ∷
    codes "u=1234567890123456" ∷
    codes "a=1.2345, u=2" ∷
    codes "a=-, u=2" ∷
    codes "a=@1, u=2" ∷
    codes "a=:%:, u=2" ∷
    codes "a=(u=1),u=2" ∷
    codes "u=%" ∷
    codes "a=1234567890123.1,u=2" ∷
    (9 ∷ codes "u=1") ∷
    []

-- each text says what stands beside it, and a text that is no dictionary says nothing
pub record RowsHold : Type 0 where
  pub known : AllByRecursion SaysIt of_known_keys
  pub other : AllByRecursion SaysIt with_other_keys
  pub refused : AllByRecursion IsRefused refused_texts
