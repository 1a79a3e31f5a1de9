-- The header that a pull makes of the list that it answers.
use Rattle.std.specs.Prelude.{◌≡◌, Bool, true, false, List, Option, IfSome}
use Rattle.h3_field.specs.Field.{Field}
use Rattle.h3_header.specs.Head.{Head}
use Rattle.h3_header.specs.HeadRead.{IsHead, head_by}
use Rattle.h3_header.specs.Reads.{head_of_fields}
use Rattle.h3_incoming.specs.declared.header_slot.HeaderSlot.{HeaderSlot}
use Rattle.h3_incoming.specs.declared.header_slot.HeaderSlot.TheVariants as slot

-- one is to be made
abbrev pub is_asked : HeaderSlot → Bool
is_asked slot.Asked = true
is_asked _ = false

abbrev pub IsMade : HeaderSlot → Head → Type 0
IsMade (slot.Made made) h = made.value ≡ h
IsMade _ h = ⊥

-- If the answer has a list, its header was made.
abbrev pub IsMadeOf : HeaderSlot → Option (List Field) → Type 0
IsMadeOf header listed = IfSome listed (λ l. IsMade header (head_of_fields l))

-- A header is made of the answer's list if one was asked for.
abbrev pub MakesHeader : HeaderSlot → HeaderSlot → Option (List Field) → Type 0
MakesHeader slot.Unasked new listed = new ≡ slot.Unasked
MakesHeader slot.Asked new listed = IsMadeOf new listed
MakesHeader (slot.Made h) new listed = new ≡ slot.Made h

-- The list reads as a head.
abbrev pub ReadsAsHead : Bool → List Field → Type 0
ReadsAsHead any fields = (h : Head) × (head_by any fields ≡ IsHead h)
