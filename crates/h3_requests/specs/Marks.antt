-- A mark for each request stream, by its id.
use Rattle.std.specs.Prelude.{◌≡◌, ◌≢◌, ◌<◌, ℕ, ◌/◌, ◌%◌, Bool, ◌&&◌, List, [], length, nat_lt, ◌==◌, if◌then◌else◌, slice_index_or, Option, Some, None}
use Rattle.std.specs.Ordering.{nat_cmp}
use Rattle.std.specs.BTreeMap.{is_at}
use Rattle.std.specs.Map.{lookup}
use Rattle.std.specs.Global.{Vec}
use Rattle.h3_requests.specs.declared.over.codes.Codes.{Codes}
use Rattle.h3_requests.specs.declared.over.marks.Marks.{Marks}

-- the marks of a page, and none where it is not there
abbrev pub marks_of : Option (Vec ℕ) → List ℕ
marks_of None = []
marks_of (Some page) = page.items

-- whether it is the number of the page that came last
abbrev pub is_last : Marks → ℕ → Bool
is_last m number = (number == m.number) && nat_lt 0 (length m.last.items)

abbrev pub page_marks : Marks → ℕ → List ℕ
page_marks m number = if is_last m number then m.last.items else marks_of (lookup (is_at (nat_cmp number)) m.pages.entries)

-- the mark of a stream, and 0 where none was set
abbrev pub mark_at : Marks → ℕ → ℕ
mark_at m id = if id % 4 == 0 then slice_index_or (page_marks m (id / 512)) (id / 4 % 128) 0 else 0

-- no stream above this id has a mark
abbrev pub AreBelow : Marks → Type 0
AreBelow m = (id : ℕ) → m.top < id → mark_at m id ≡ 0

-- the codes of a page, and none where it is not there
abbrev pub page_codes : Codes → ℕ → List ℕ
page_codes c number = marks_of (lookup (is_at (nat_cmp number)) c.pages.entries)

-- the code of a stream, and 0 where it has none
abbrev pub code_at : Codes → ℕ → ℕ
code_at c id = if id % 4 == 0 then slice_index_or (page_codes c (id / 64)) (id / 4 % 16) 0 else 0

-- Each stream has the same mark, or code.
abbrev pub HaveSameMarks : (ℕ → ℕ) → (ℕ → ℕ) → Type 0
HaveSameMarks before after = (id : ℕ) → after id ≡ before id

-- One stream has this one, and the others have the same.
pub record IsOneMark (id mark : ℕ) (before after : ℕ → ℕ) : Type 0 where
  pub own : after id ≡ mark
  pub others : (other : ℕ) → other ≢ id → after other ≡ before other
