-- What is malformed of a field by itself, whatever stands before it in its list.
use Rattle.std.specs.Prelude.{◌≡◌, ◌<◌, Bool, not, List, length, take, All, if◌then◌else◌, Option, Some, None}
use Rattle.h3_field.specs.Field.{Field}
use Rattle.h3_header.specs.HeadRead.{HeadRefusal, IsNone, Name, Value, head_by, is_name_at, is_value_at}
use Rattle.h3_header.specs.Reads.{kind_of}
use Rattle.h3_header.specs.declared.headers.kind.FieldKind.{FieldKind}
use Rattle.h3_header.specs.declared.headers.judge.BadPart.{BadPart}
use Rattle.h3_header.specs.declared.headers.judge.BadPart.TheVariants as part

-- its name, else its value
abbrev pub bad_part_at : Bool → FieldKind → Field → Option BadPart
bad_part_at any at f = if not (is_name_at at f.name) then Some part.Name else (if not (is_value_at any at f.value) then Some part.Value else None)

-- the same of a field, where any protocol is taken or the two names alone
abbrev pub bad_part : Bool → Field → Option BadPart
bad_part any f = bad_part_at any (kind_of f.name) f

-- the refusal of a list whose first bad field is bad by this
abbrev pub refusal_of : BadPart → HeadRefusal
refusal_of part.Name = Name
refusal_of part.Value = Value

-- Nothing is malformed of the first 24,576 fields: so many names a map has room for.
abbrev pub AreGood : Bool → List Field → Type 0
AreGood any fields = All (λ f. bad_part any f ≡ None) (take 24576 fields)

-- The list is no head only if it has more fields than these.
abbrev pub IsHeadUnlessMany : Bool → List Field → Type 0
IsHeadUnlessMany any fields = (why : HeadRefusal) → head_by any fields ≡ IsNone why → 24576 < length fields
