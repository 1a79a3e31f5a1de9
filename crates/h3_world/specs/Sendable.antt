-- What an event may send.
use Rattle.std.specs.Prelude.{◌≡◌, ◌^◌, ◌<◌, Bool, true, List, codes, length, bytes_eq, IfSome}
use Rattle.std.specs.List.{AllByRecursion}
use Rattle.h3_field.specs.Field.{Field, section_size}
use Rattle.h3_field.specs.ReadBack.{IsFieldOfBytes}
use Rattle.h3_header.specs.Head.{Head as Fields, head_fields}
use Rattle.h3_header.specs.HeadRead.{IsHead, head_by}
use Rattle.h3_header.specs.HeadTests.{takes_protocol}
use Rattle.h3_header.specs.ProtocolText.{IsProtocolBy}
use Rattle.h3_header.specs.Reads.{head_of_fields}
use Rattle.h3_header.specs.ReadsBack.{ReadsBackBy, as_read}
use Rattle.h3_world.specs.declared.event.Event.{Event}
use Rattle.h3_world.specs.declared.event.Event.TheVariants as event
use Rattle.h3_world.specs.Setup.{Setup, both_take_any}

-- a field section that may be sent: its bytes are bytes, and it is below the bound of all sums
pub record IsSendableSection (fields : List Field) : Type 0 where
  pub of_bytes : AllByRecursion IsFieldOfBytes fields
  pub small : section_size fields < 2 ^ 56

-- The section of a header, of a protocol that is taken where any is, or the two names alone. Who takes its protocol reads it back as its
-- fields, and they are read as this head.
pub record IsSendableHead (any : Bool) (head : Fields) : Type 0 where
  pub taken : takes_protocol any head.protocol ≡ true
  pub reads_back : (own : Bool) → takes_protocol own head.protocol ≡ true → ReadsBackBy own (head_fields head)
  pub section : IsSendableSection (head_fields head)
  pub read_as : head_of_fields (head_fields head) ≡ as_read head

-- A list that reads as a header where any protocol is taken reads as that header where any is, or the two names alone. It may read as none:
-- then it is not sent.
pub record IsSendableList (any : Bool) (fields : List Field) : Type 0 where
  pub taken : (head : Fields) → head_by true fields ≡ IsHead head → head_by any fields ≡ IsHead head
  pub section : IsSendableSection fields

-- What the event sends is what its types hold, of a protocol that is taken, and below the bound of all sums.
abbrev pub IsSendableBy : Bool → Event → Type 0
IsSendableBy any (event.Head acting id head) = IsSendableHead any head
IsSendableBy any (event.Fields acting id fields) = IsSendableList any fields
IsSendableBy any (event.Trailer acting id trailer) = IsSendableHead any trailer
IsSendableBy any (event.TrailerFields acting id fields) = IsSendableList any fields
IsSendableBy any (event.Body acting id bytes) = length bytes < 2 ^ 56
IsSendableBy any (event.Goaway acting id) = id < 2 ^ 62
IsSendableBy any _ = Unit {0}

-- the same of a protocol that both sides take
abbrev pub IsSendable : Setup → Event → Type 0
IsSendable setup = IsSendableBy (both_take_any setup)

-- a `:protocol` has a value that is taken
abbrev pub NamesTakenIn : Bool → Field → Type 0
NamesTakenIn any f = bytes_eq f.name (codes ":protocol") ≡ true → IsProtocolBy any f.value

-- The protocol of what the event sends, if it has one, is one that is taken: another one is malformed (RFC 8441, section 4).
abbrev pub NamesTaken : Bool → Event → Type 0
NamesTaken any (event.Head acting id head) = IfSome head.protocol (IsProtocolBy any)
NamesTaken any (event.Fields acting id fields) = AllByRecursion (NamesTakenIn any) fields
NamesTaken any (event.Trailer acting id trailer) = IfSome trailer.protocol (IsProtocolBy any)
NamesTaken any (event.TrailerFields acting id fields) = AllByRecursion (NamesTakenIn any) fields
NamesTaken any _ = Unit {0}
