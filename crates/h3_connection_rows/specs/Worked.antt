-- Values of worked cases: bytes written as digits, heads by their field lists, and plain configurations.
use Rattle.std.specs.Prelude.{true, ℕ, ◌+◌, ◌*◌, ◌-◌, List, [], ◌∷◌, map, if◌then◌else◌, nat_lt, None}
use Rattle.h3_field.specs.Field.{Field, plain_field}
use Rattle.h3_header.specs.Head.{Head, trailer_head, head_fields}
use Rattle.h3_header.specs.HeadRead.{HeadRead, IsHead, IsNone, head_of}
use Rattle.h3_proto.specs.Config.{no_choices}
use Rattle.h3_connection.specs.declared.setup.Announced.{Announced}
use Rattle.h3_connection.specs.declared.event.Item.{Item}
use Rattle.h3_connection.specs.declared.event.Item.TheVariants as item
use Rattle.h3_connection.specs.declared.event.Pull.{Pull}
use Rattle.h3_connection.specs.declared.event.Pull.TheVariants as pulls
use Rattle.h3_connection.specs.CallLists.{Result}
use Rattle.h3_connection.specs.CallLists.Result.{Pulled}

abbrev pub digit : ℕ → ℕ
digit c = if nat_lt c 58 then c - 48 else c - 87

abbrev pub hex : List ℕ → List ℕ
hex [] = []
hex (c ∷ []) = []
hex (c ∷ d ∷ cs) = (16 * digit c + digit d) ∷ hex cs

abbrev pub field : List ℕ → List ℕ → Field
field name value = plain_field name value

abbrev pub read_head : HeadRead → Head
read_head (IsHead h) = h
read_head (IsNone why) = trailer_head []

abbrev pub head : List Field → Head
head fields = read_head (head_of fields)

-- no grease, and the defaults but for the section size and the limits
abbrev pub plain : ℕ → ℕ → ℕ → Announced
plain section capacity blocked =
    record {
      settings = (6, section) ∷ (8, 0) ∷ (0x2b603742, 0) ∷ (0x33, 0) ∷ (0x2b603743, 0) ∷ (1, capacity) ∷ (7, blocked) ∷ [];
      limits = record { table = capacity; blocked = blocked };
      choices = no_choices;
      remembered = None;
    }

-- the same, and strict messages
abbrev pub strict : ℕ → Announced
strict section = record (plain section 0 0) { choices = record no_choices { strict_messages = true } }

-- the same as the plain one, and frames of at most 100 bytes are kept until they are whole
abbrev pub limited : Announced
limited = record (plain 1000 0 0) { choices = record no_choices { unfinished_limit = 100 } }

-- and so are instructions of at most eight bytes, for a table of 220 bytes
abbrev pub limited_shortly : Announced
limited_shortly = record (plain 1000 220 2) { choices = record no_choices { unfinished_limit = 8 } }

-- answers with each head as its field list reads
abbrev pub item_as_list : Item → Item
item_as_list (item.Head h) = item.Head (head (head_fields h))
item_as_list (item.Interim h) = item.Interim (head (head_fields h))
item_as_list (item.Trailer h) = item.Trailer (head (head_fields h))
item_as_list i = i

abbrev pub pull_as_list : Pull → Pull
pull_as_list (pulls.Item i) = pulls.Item (item_as_list i)
pull_as_list p = p

abbrev pub result_as_list : Result → Result
result_as_list (Pulled p) = Pulled (pull_as_list p)
result_as_list r = r

abbrev pub as_lists : List Result → List Result
as_lists results = map result_as_list results
