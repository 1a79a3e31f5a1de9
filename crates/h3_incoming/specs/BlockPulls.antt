-- What an answer says whose fields lie in a block: it is the one with lists of fields that it stands for.
use Rattle.std.specs.Prelude.{◌≡◌, List, ⊤}
use Rattle.h3_field.specs.Field.{Field}
use Rattle.h3_header.specs.Reads.{head_of_fields}
use Rattle.h3_connection.specs.Lists.{fields_or_none, list_of}
use Rattle.h3_connection.specs.declared.lists.ListItem.{ListItem}
use Rattle.h3_connection.specs.declared.lists.ListItem.TheVariants as listed
use Rattle.h3_connection.specs.declared.lists.ListPull.{ListPull}
use Rattle.h3_connection.specs.declared.lists.ListPull.TheVariants as answer
use Rattle.h3_incoming.specs.declared.answer.MessageKind.{MessageKind}
use Rattle.h3_incoming.specs.declared.answer.MessageKind.TheVariants as kind
use Rattle.h3_incoming.specs.declared.answer.Plain.{Plain}
use Rattle.h3_incoming.specs.declared.answer.Plain.TheVariants as plain
use Rattle.h3_incoming.specs.declared.block.Told.{Told}
use Rattle.h3_incoming.specs.declared.block.Told.TheVariants as told

-- one that has this list
abbrev pub listed_as : MessageKind → List Field → ListItem
listed_as kind.Interim fields = listed.Interim fields
listed_as kind.Head fields = listed.Head fields
listed_as kind.Trailer fields = listed.Trailer fields

-- one without a head or trailer
abbrev pub plain_answer : Plain → ListPull
plain_answer (plain.Body bytes) = answer.Item (listed.Body bytes)
plain_answer (plain.Raw bytes) = answer.Item (listed.Raw bytes)
plain_answer (plain.Session session) = answer.Item (listed.Session session)
plain_answer (plain.TooLarge size) = answer.Item (listed.TooLarge size)
plain_answer plain.End = answer.Item listed.End
plain_answer plain.Pending = answer.Pending
plain_answer (plain.Waiting count) = answer.Waiting count
plain_answer (plain.Fault fault) = answer.Fault fault
plain_answer plain.NoMessages = answer.NoMessages

-- what is told, with the fields in the block
abbrev pub told_with : Told → List Field → ListPull
told_with (told.Message kind status) fields = answer.Item (listed_as kind fields)
told_with (told.Plain p) fields = plain_answer p

-- The status that is told is that of the fields' header.
abbrev pub HasStatus : Told → List Field → Type 0
HasStatus (told.Message kind status) fields = status ≡ (head_of_fields fields).status
HasStatus (told.Plain p) fields = ⊤

-- the fields of its head or trailer, or none
abbrev pub fields_kept : ListPull → List Field
fields_kept p = fields_or_none (list_of p)
