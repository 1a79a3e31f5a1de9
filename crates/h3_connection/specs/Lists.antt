-- Lists of fields in the place of headers: which answer with headers an answer with lists stands for.
use Rattle.std.specs.Prelude.{◌≡◌, List, [], Option, Some, None, IfSome}
use Rattle.h3_field.specs.Field.{Field}
use Rattle.h3_header.specs.Reads.{head_of_fields}
use Rattle.h3_connection.specs.declared.event.Item.{Item}
use Rattle.h3_connection.specs.declared.event.Item.TheVariants as item
use Rattle.h3_connection.specs.declared.event.Pull.{Pull}
use Rattle.h3_connection.specs.declared.event.Pull.TheVariants as pull
use Rattle.h3_connection.specs.declared.lists.ListItem.{ListItem}
use Rattle.h3_connection.specs.declared.lists.ListItem.TheVariants as listed
use Rattle.h3_connection.specs.declared.lists.ListPull.{ListPull}
use Rattle.h3_connection.specs.declared.lists.ListPull.TheVariants as list

-- the answer with headers: each is what the list reads as
abbrev pub item_of : ListItem → Item
item_of (listed.Interim fields) = item.Interim (head_of_fields fields)
item_of (listed.Head fields) = item.Head (head_of_fields fields)
item_of (listed.Body bytes) = item.Body bytes
item_of (listed.Trailer fields) = item.Trailer (head_of_fields fields)
item_of (listed.TooLarge size) = item.TooLarge size
item_of (listed.Session session) = item.Session session
item_of (listed.Raw bytes) = item.Raw bytes
item_of listed.End = item.End

abbrev pub pull_of : ListPull → Pull
pull_of (list.Item i) = pull.Item (item_of i)
pull_of list.Pending = pull.Pending
pull_of (list.Waiting count) = pull.Waiting count
pull_of (list.Fault fault) = pull.Fault fault
pull_of list.NoMessages = pull.NoMessages

-- its list of fields
abbrev pub list_in : ListItem → Option (List Field)
list_in (listed.Interim fields) = Some fields
list_in (listed.Head fields) = Some fields
list_in (listed.Trailer fields) = Some fields
list_in _ = None

abbrev pub list_of : ListPull → Option (List Field)
list_of (list.Item i) = list_in i
list_of _ = None

-- the answer with this list in the place of a header
abbrev pub item_with : List Field → Item → ListItem
item_with fields (item.Interim head) = listed.Interim fields
item_with fields (item.Head head) = listed.Head fields
item_with fields (item.Body bytes) = listed.Body bytes
item_with fields (item.Trailer head) = listed.Trailer fields
item_with fields (item.TooLarge size) = listed.TooLarge size
item_with fields (item.Session session) = listed.Session session
item_with fields (item.Raw bytes) = listed.Raw bytes
item_with fields item.End = listed.End

abbrev pub pull_with : List Field → Pull → ListPull
pull_with fields (pull.Item i) = list.Item (item_with fields i)
pull_with fields pull.Pending = list.Pending
pull_with fields (pull.Waiting count) = list.Waiting count
pull_with fields (pull.Fault fault) = list.Fault fault
pull_with fields pull.NoMessages = list.NoMessages

-- with the list that is next, where there is one: without one no header comes out
abbrev pub fields_or_none : Option (List Field) → List Field
fields_or_none None = []
fields_or_none (Some fields) = fields

abbrev pub listed_pull : Option (List Field) → Pull → ListPull
listed_pull fields p = pull_with (fields_or_none fields) p

-- The answer with this list stands for that answer, and what it has of the list is the list.
pub record IsListedAs (fields : Option (List Field)) (p : Pull) : Type 0 where
  pub stands : pull_of (listed_pull fields p) ≡ p
  pub has : IfSome (list_of (listed_pull fields p)) (λ l. fields ≡ Some l)
