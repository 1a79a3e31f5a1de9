-- Lists of fields in the place of headers: why one may not be sent, and how one comes out.
use Rattle.std.specs.Prelude.{Bool, List, map, Option, Some, None}
use Rattle.h3_field.specs.Field.{Field}
use Rattle.h3_field.specs.Secret.{guarded}
use Rattle.h3_header.specs.HeadRead.{HeadRead, IsHead, IsNone, head_by}
use Rattle.h3_connection.specs.Pulling.{malformation_of}
use Rattle.h3_connection.specs.declared.event.Malformation.{Malformation}

-- A list that reads as no header is malformed (RFC 9114, sections 4.1.2, 4.2 and 4.3).
abbrev pub unread_by : HeadRead → Option Malformation
unread_by (IsHead h) = None
unread_by (IsNone why) = Some (malformation_of why)

-- why it is, where any protocol is taken or the two names alone
abbrev pub unreadable : Bool → List Field → Option Malformation
unreadable any fields = unread_by (head_by any fields)

-- the list as it comes out: its encoder flags the secrets that it guards (RFC 9204, section 7.1.3)
abbrev pub as_flagged : Bool → List Field → List Field
as_flagged guards fields = map (guarded guards) fields
