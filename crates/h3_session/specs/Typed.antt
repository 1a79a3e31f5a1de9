-- What the types of an event say of what it sends.
use Rattle.std.specs.Prelude.{◌≡◌, ◌^◌, ◌<◌, Bool, true, false}
use Rattle.std.specs.List.{AllByRecursion}
use Rattle.h3_field.specs.ReadBack.{IsFieldOfBytes}
use Rattle.h3_header.specs.Head.{Head as Fields, head_fields}
use Rattle.h3_header.specs.HeadRead.{IsNone, Value, head_of}
use Rattle.h3_header.specs.HeadTests.{takes_protocol}
use Rattle.h3_header.specs.Reads.{head_of_fields}
use Rattle.h3_header.specs.ReadsBack.{ReadsBackBy, as_read}
use Rattle.h3_world.specs.declared.event.Event.{Event}
use Rattle.h3_world.specs.declared.event.Event.TheVariants as event

-- the fields of a header are of bytes and read back as it
pub record IsHeader (head : Fields) : Type 0 where
  pub of_bytes : AllByRecursion IsFieldOfBytes (head_fields head)
  pub reads_back : (any : Bool) → takes_protocol any head.protocol ≡ true → ReadsBackBy any (head_fields head)
  pub token : takes_protocol true head.protocol ≡ true
  pub untaken : takes_protocol false head.protocol ≡ false → head_of (head_fields head) ≡ IsNone Value
  pub read_as : head_of_fields (head_fields head) ≡ as_read head

-- so is what an event sends, and a number has 62 bits
abbrev pub IsTyped : Event → Type 0
IsTyped (event.Head acting id head) = IsHeader head
IsTyped (event.Fields acting id fields) = AllByRecursion IsFieldOfBytes fields
IsTyped (event.Trailer acting id trailer) = IsHeader trailer
IsTyped (event.TrailerFields acting id fields) = AllByRecursion IsFieldOfBytes fields
IsTyped (event.Goaway acting id) = id < 2 ^ 62
IsTyped _ = Unit {0}
