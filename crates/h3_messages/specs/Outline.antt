-- What tells of a list of fields where it may stand in a message (RFC 9114, sections 4.1 and 4.3), and what the whole list reads as.
use Rattle.std.specs.Prelude.{◌≡◌, ◌<◌, Bool, true, false, ◌&&◌, not, is_some, List, length, Option, Some, None, Result, Ok, Err}
use Rattle.h3_field.specs.Field.{Field}
use Rattle.h3_header.specs.BadPart.{refusal_of}
use Rattle.h3_header.specs.Head.{Head, has_pseudo}
use Rattle.h3_header.specs.HeadRead.{HeadRead, HeadRefusal, IsHead, IsNone, TooMany, head_by}
use Rattle.h3_header.specs.Reads.{kind_of, status_number}
use Rattle.h3_header.specs.declared.headers.kind.FieldKind.{FieldKind}
use Rattle.h3_header.specs.declared.headers.kind.FieldKind.TheVariants.{Method, Scheme, Authority, Path, Status, Protocol, Regular}
use Rattle.h3_messages.specs.declared.outline.Outline.{Outline}
use Rattle.h3_messages.specs.declared.section.Section.{Section}
use Rattle.h3_messages.specs.declared.section.Section.TheVariants.{Request, Response, Trailer}
use Rattle.h3_messages.specs.declared.reading.ListError.{ListError}
use Rattle.h3_messages.specs.declared.reading.ListError.TheVariants as error

-- whether a head has a method, whether any pseudo-header field, and its status
abbrev pub outline_of : Head → Outline
outline_of h = record { method = is_some h.method; pseudo = has_pseudo h; status = h.status }

abbrev pub empty_outline : Outline
empty_outline = record { method = false; pseudo = false; status = None }

-- with a field of that kind
abbrev pub outlined_by : FieldKind → Outline → Field → Outline
outlined_by Method o f = record o { method = true; pseudo = true }
outlined_by Scheme o f = record o { pseudo = true }
outlined_by Authority o f = record o { pseudo = true }
outlined_by Path o f = record o { pseudo = true }
outlined_by Status o f = record o { pseudo = true; status = Some (status_number f.value) }
outlined_by Protocol o f = record o { pseudo = true }
outlined_by Regular o f = o

abbrev pub outlined : Outline → Field → Outline
outlined o f = outlined_by (kind_of f.name) o f

-- that of a request, and of a response
abbrev pub is_request_outline : Outline → Bool
is_request_outline o = o.method && not (is_some o.status)

abbrev pub is_response_outline : Outline → Bool
is_response_outline o = is_some o.status && not o.method

-- that of a section
abbrev pub is_outline_of : Section → Outline → Bool
is_outline_of Request o = is_request_outline o
is_outline_of Response o = is_response_outline o
is_outline_of Trailer o = not o.pseudo

-- what a list reads as is a head with this outline
abbrev pub IsOutlined : HeadRead → Outline → Type 0
IsOutlined (IsHead h) o = o ≡ outline_of h
IsOutlined (IsNone why) o = ⊥

-- why a list is no head, as an error tells it
abbrev pub refusal_by : ListError → Option HeadRefusal
refusal_by (error.Malformed part) = Some (refusal_of part)
refusal_by error.TooMany = Some TooMany
refusal_by error.OutOfMemory = None

-- What a list reads as was told: the outline of its head, or why it is none, or that memory was refused for one of many fields.
abbrev pub IsListRead : Bool → List Field → Result Outline ListError → Type 0
IsListRead any fields (Ok o) = IsOutlined (head_by any fields) o
IsListRead any fields (Err e) = ((why : HeadRefusal) → refusal_by e ≡ Some why → head_by any fields ≡ IsNone why) × (refusal_by e ≡ None → 24576 < length fields)
