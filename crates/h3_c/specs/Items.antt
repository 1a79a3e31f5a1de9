-- What C gets of the item that was pulled last.
use Rattle.std.specs.Prelude.{ℕ, List, [], length, unwrap_or}
use Rattle.h3_field.specs.Field.{Field}
use Rattle.h3_connection.specs.declared.event.Fault.TheVariants as fault
use Rattle.h3_connection.specs.declared.event.Item.TheVariants as item
use Rattle.h3_connection.specs.declared.event.Malformation.{Malformation}
use Rattle.h3_connection.specs.declared.event.Malformation.TheVariants as malformation
use Rattle.h3_connection.specs.declared.event.Pull.{Pull}
use Rattle.h3_connection.specs.declared.event.Pull.TheVariants as pull
use Rattle.h3_connection.specs.declared.event.StreamFault.{StreamFault}
use Rattle.h3_connection.specs.declared.event.StreamFault.TheVariants as stream_fault
use Rattle.h3_connection.specs.Lists.{list_of, pull_of}
use Rattle.h3_connection.specs.declared.lists.ListItem.TheVariants as listed
use Rattle.h3_connection.specs.declared.lists.ListPull.{ListPull}
use Rattle.h3_connection.specs.declared.lists.ListPull.TheVariants as answer
use Rattle.h3_header.specs.Reads.{head_of_fields}
use Rattle.h3_c.specs.Rows.{row_len}
use Rattle.h3_c.specs.declared.items.PulledItem.{PulledItem}

-- the fields of a header or trailer section, and none of anything else
abbrev pub fields_of : ListPull → List Field
fields_of p = unwrap_or (list_of p) []

-- the bytes of a body or of a session
abbrev pub bytes_in : Pull → List ℕ
bytes_in (pull.Item (item.Body bytes)) = bytes
bytes_in (pull.Item (item.Raw bytes)) = bytes
bytes_in _ = []

abbrev pub bytes_of : ListPull → List ℕ
bytes_of p = bytes_in (pull_of p)

-- `h3_kind` alone, or with a number
abbrev pub plain : ℕ → PulledItem
plain kind = record { kind = kind; status = 0; number = 0; fields = 0; len = 0 }

abbrev pub numbered : ℕ → ℕ → PulledItem
numbered kind n = record { kind = kind; status = 0; number = n; fields = 0; len = 0 }

abbrev pub bytes_shown : ℕ → List ℕ → PulledItem
bytes_shown kind bytes = record { kind = kind; status = 0; number = 0; fields = 0; len = length bytes }

abbrev pub malformation_number : Malformation → ℕ
malformation_number malformation.Name = 0
malformation_number malformation.Value = 1
malformation_number malformation.TooMany = 2
malformation_number malformation.WrongSide = 3
malformation_number malformation.PseudoInTrailer = 4
malformation_number malformation.NoHead = 5
malformation_number malformation.PseudoOrder = 6
malformation_number malformation.WrongPseudo = 7
malformation_number malformation.RepeatedPseudo = 8
malformation_number malformation.ConnectionField = 9
malformation_number malformation.ContentLength = 10
malformation_number malformation.Protocol = 11
malformation_number malformation.Connect = 12
malformation_number malformation.MissingPseudo = 13
malformation_number malformation.Scheme = 14
malformation_number malformation.Authority = 15
malformation_number malformation.Path = 16
malformation_number malformation.Status = 17
malformation_number malformation.TrailerField = 18
malformation_number malformation.TooLong = 19

abbrev pub fault_shown : StreamFault → PulledItem
fault_shown (stream_fault.Malformed why) = numbered 13 (malformation_number why)
fault_shown (stream_fault.Reset code) = numbered 14 code
fault_shown stream_fault.Canceled = plain 15

-- a header or trailer section: its status, and how many fields and how many bytes of names and values it has
abbrev pub list_shown : ℕ → List Field → PulledItem
list_shown kind fields = record { kind = kind; status = unwrap_or (head_of_fields fields).status 0; number = 0; fields = length fields; len = row_len fields }

-- `h3_item`
abbrev pub shown : ListPull → PulledItem
shown (answer.Item (listed.Interim fields)) = list_shown 1 fields
shown (answer.Item (listed.Head fields)) = list_shown 2 fields
shown (answer.Item (listed.Body bytes)) = bytes_shown 3 bytes
shown (answer.Item (listed.Trailer fields)) = list_shown 4 fields
shown (answer.Item (listed.TooLarge size)) = numbered 5 size
shown (answer.Item (listed.Session id)) = numbered 6 id
shown (answer.Item (listed.Raw bytes)) = bytes_shown 7 bytes
shown (answer.Item listed.End) = plain 8
shown answer.Pending = plain 9
shown (answer.Waiting count) = numbered 10 count
shown answer.NoMessages = plain 11
shown (answer.Fault (fault.Connection code)) = numbered 12 code
shown (answer.Fault (fault.Stream f)) = fault_shown f
shown (answer.Fault fault.Memory) = plain 16
