-- Worked examples of capsules and datagrams (RFC 9297, sections 2.1 and 3.2).
use Rattle.std.specs.Prelude.{◌≡◌, ℕ, ◌-◌, ◌^◌, List, [], ◌∷◌, ◌++◌, map, codes, Option, Some, None}
use Rattle.std.specs.List.{AllByRecursion}
use Rattle.h3_capsule.specs.declared.capsule.Capsule.TheVariants.{Head, Value, End, Pending}
use Rattle.h3_capsule.specs.Capsule.{Place, Answer, read_on}
use Rattle.h3_capsule.specs.Capsule.Place.{InHead, InValue, AtEnd}
use Rattle.h3_capsule.specs.Datagram.{datagram_of, datagram_head}
use Rattle.h3_capsule.specs.Told.{Part, told}
use Rattle.h3_capsule.specs.Told.Part.{Begins, Byte, Ends}

-- the bytes of capsules, what they tell, and where they leave a reader that was between two capsules
abbrev pub TellsRow : List ℕ × List Part × Place → Type 0
TellsRow row = told (InHead []) row.0 ≡ (row.1, row.2)

abbrev pub capsules : List (List ℕ × List Part × Place)
capsules =
    ([], [], InHead []) ∷
    (0x00 ∷ 0x02 ∷ codes "hi", (Begins 0 2 ∷ map Byte (codes "hi")) ++ Ends ∷ [], InHead []) ∷
    (0x17 ∷ 0x00 ∷ [], Begins 0x17 0 ∷ Ends ∷ [], InHead []) ∷
    (0x00 ∷ 0x05 ∷ codes "h", Begins 0 5 ∷ Byte 0x68 ∷ [], InValue 4) ∷
    (0x68 ∷ 0x43 ∷ 0x06 ∷ 0 ∷ 0 ∷ 0 ∷ 7 ∷ codes "by", (Begins 0x2843 6 ∷ map Byte (0 ∷ 0 ∷ 0 ∷ 7 ∷ codes "by")) ++ Ends ∷ [], InHead []) ∷
    (0x40 ∷ [], [], InHead (0x40 ∷ [])) ∷
    (0x17 ∷ 0x00 ∷ 0x00 ∷ 0x01 ∷ codes "a" ++ 0x17 ∷ [], Begins 0x17 0 ∷ Ends ∷ Begins 0 1 ∷ Byte 0x61 ∷ Ends ∷ [], InHead (0x17 ∷ [])) ∷
    []

-- single calls: where the reader stands, the bytes that follow, and the answer
abbrev pub AnswersRow : Place × List ℕ × Answer → Type 0
AnswersRow row = read_on row.0 row.1 ≡ row.2

abbrev pub calls : List (Place × List ℕ × Answer)
calls =
    (InHead [], 0x00 ∷ 0x02 ∷ codes "hi", (2, Head 0 2, InValue 2)) ∷
    (InValue 2, codes "hi", (2, Value 2, AtEnd)) ∷
    (AtEnd, [], (0, End, InHead [])) ∷
    (InHead [], [], (0, Pending, InHead [])) ∷
    (InHead [], 0x00 ∷ [], (1, Pending, InHead (0x00 ∷ []))) ∷
    (InHead (0x00 ∷ []), 0x02 ∷ [], (1, Head 0 2, InValue 2)) ∷
    (InValue 2, codes "h", (1, Value 1, InValue 1)) ∷
    (InValue 1, codes "i" ++ 0x17 ∷ [], (1, Value 1, AtEnd)) ∷
    (AtEnd, 0x17 ∷ 0x00 ∷ [], (0, End, InHead [])) ∷
    (InHead [], 0x17 ∷ 0x00 ∷ [], (2, Head 0x17 0, AtEnd)) ∷
    (InValue 5, [], (0, Pending, InValue 5)) ∷
    []

-- datagrams, the ids of their streams and their payloads
abbrev pub IsDatagramRow : List ℕ × Option (ℕ × List ℕ) → Type 0
IsDatagramRow row = datagram_of row.0 ≡ row.1

abbrev pub datagrams : List (List ℕ × Option (ℕ × List ℕ))
datagrams =
    (0x00 ∷ codes "hi", Some (0, codes "hi")) ∷
    (0x40 ∷ 0x00 ∷ codes "h", Some (0, codes "h")) ∷
    (0x40 ∷ 0x40 ∷ codes "h", Some (256, codes "h")) ∷
    (0x01 ∷ [], Some (4, [])) ∷
    ([], None) ∷
    (0x40 ∷ [], None) ∷
    (0x80 ∷ 0x00 ∷ [], None) ∷
    (0xcf ∷ 0xff ∷ 0xff ∷ 0xff ∷ 0xff ∷ 0xff ∷ 0xff ∷ 0xff ∷ [], Some (2 ^ 62 - 4, [])) ∷
    (0xd0 ∷ 0 ∷ 0 ∷ 0 ∷ 0 ∷ 0 ∷ 0 ∷ 0 ∷ [], None) ∷
    []

abbrev pub IsHeadRow : ℕ × List ℕ → Type 0
IsHeadRow row = datagram_head row.0 ≡ row.1

abbrev pub heads : List (ℕ × List ℕ)
heads = (0, 0x00 ∷ []) ∷ (252, 0x3f ∷ []) ∷ (256, 0x40 ∷ 0x40 ∷ []) ∷ (65536, 0x80 ∷ 0x00 ∷ 0x40 ∷ 0x00 ∷ []) ∷ []

-- each of them is so
pub record RowsHold : Type 0 where
  pub capsules_are : AllByRecursion TellsRow capsules
  pub calls_are : AllByRecursion AnswersRow calls
  pub datagrams_are : AllByRecursion IsDatagramRow datagrams
  pub heads_are : AllByRecursion IsHeadRow heads
