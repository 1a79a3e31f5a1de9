-- The lines that answers are printed as, without their ends.
use Rattle.std.specs.Prelude.{ℕ, List, [], ◌∷◌, ◌++◌, codes, length, flat_map, encode_utf8_all, ◌==◌, if◌then◌else◌, Option, Some, None}
use Rattle.std.specs.Fmt.{decimal}
use Rattle.bstr.specs.Utf8.{lossy_chars}
use Rattle.h3_field.specs.Field.{Field}
use Rattle.h3_header.specs.Head.{head_fields}
use Rattle.h3_proto.specs.Codes.{code_text}
use Rattle.h3_connection.specs.declared.event.Pull.{Pull}
use Rattle.h3_connection.specs.declared.event.Pull.TheVariants as pull
use Rattle.h3_connection.specs.declared.event.Item.{Item}
use Rattle.h3_connection.specs.declared.event.Item.TheVariants as item
use Rattle.h3_connection.specs.FaultTexts.{fault_text, malformation_name}
use Rattle.h3_connection.specs.declared.event.Refusal.{Refusal}
use Rattle.h3_connection.specs.declared.event.Refusal.TheVariants as refusal
use Rattle.h3_connection.specs.declared.event.PeerLimits.{PeerLimits}
use Rattle.h3_connection.specs.declared.event.TableSizes.{TableSizes}
use Rattle.h3_connection.specs.declared.lists.ListItem.{ListItem}
use Rattle.h3_connection.specs.declared.lists.ListItem.TheVariants as list_item
use Rattle.h3_connection.specs.declared.lists.ListPull.{ListPull}
use Rattle.h3_connection.specs.declared.lists.ListPull.TheVariants as list_pull
use Rattle.h3_script.specs.declared.text.Behind.{Behind}
use Rattle.h3_script.specs.declared.text.Behind.TheVariants as behind
use Rattle.h3_world.specs.declared.event.Answer.{Answer}
use Rattle.h3_world.specs.declared.event.Answer.TheVariants as answer

-- the name of a refusal, with the code, the id, the size or the rule that it carries
abbrev pub refusal_text : Refusal → List ℕ
refusal_text (refusal.Closed code) = codes "Closed " ++ code_text code
refusal_text (refusal.Connection code) = codes "Connection " ++ code_text code
refusal_text refusal.NotReceiving = codes "NotReceiving"
refusal_text refusal.AfterEnd = codes "AfterEnd"
refusal_text refusal.Kept = codes "Kept"
refusal_text refusal.NotClient = codes "NotClient"
refusal_text (refusal.GoingAway id) = codes "GoingAway " ++ decimal id
refusal_text refusal.IdsUsedUp = codes "IdsUsedUp"
refusal_text refusal.NotOpen = codes "NotOpen"
refusal_text refusal.OutOfOrder = codes "OutOfOrder"
refusal_text refusal.WrongSide = codes "WrongSide"
refusal_text refusal.PseudoInTrailer = codes "PseudoInTrailer"
refusal_text (refusal.Malformed why) = codes "Malformed " ++ malformation_name why
refusal_text (refusal.TooLarge size) = codes "TooLarge " ++ decimal size
refusal_text refusal.Critical = codes "Critical"
refusal_text refusal.Ended = codes "Ended"
refusal_text refusal.NotRequestId = codes "NotRequestId"
refusal_text (refusal.Raised id) = codes "Raised " ++ decimal id
refusal_text refusal.OutOfMemory = codes "OutOfMemory"

-- a name, and what stands behind it
abbrev pub with_behind : List ℕ → Behind → List ℕ
with_behind name behind.Nothing = name
with_behind name (behind.Code code) = name ++ (codes " " ++ code_text code)
with_behind name (behind.Number number) = name ++ (codes " " ++ decimal number)
with_behind name (behind.Rule why) = name ++ (codes " " ++ malformation_name why)

-- bytes as text, with U+FFFD for what is no character
abbrev pub lossy : List ℕ → List ℕ
lossy bytes = encode_utf8_all (lossy_chars bytes)

-- a blank, the name and the value
abbrev pub field_word : Field → List ℕ
field_word f = codes " " ++ lossy f.name ++ codes "=" ++ lossy f.value

-- a field section behind its name
abbrev pub section_line : List ℕ → List Field → List ℕ
section_line name fields = if length fields == 0 then name ++ codes " " else name ++ flat_map field_word fields

abbrev pub item_line : Item → List ℕ
item_line (item.Interim head) = section_line (codes "interim") (head_fields head)
item_line (item.Head head) = section_line (codes "head") (head_fields head)
item_line (item.Body bytes) = codes "body " ++ lossy bytes
item_line (item.Trailer trailer) = section_line (codes "trailer") (head_fields trailer)
item_line (item.TooLarge size) = codes "too large " ++ decimal size
item_line (item.Session id) = codes "session " ++ decimal id
item_line (item.Raw bytes) = codes "raw " ++ lossy bytes
item_line item.End = codes "end"

abbrev pub pull_line : Pull → List ℕ
pull_line (pull.Item item) = item_line item
pull_line pull.Pending = codes "pending"
pull_line (pull.Waiting count) = codes "waiting " ++ decimal count
pull_line (pull.Fault fault) = codes "fault " ++ fault_text fault
pull_line pull.NoMessages = codes "no messages"

-- the line of an item with a list: that of an item, with the fields as they came
abbrev pub list_item_line : ListItem → List ℕ
list_item_line (list_item.Interim fields) = section_line (codes "interim") fields
list_item_line (list_item.Head fields) = section_line (codes "head") fields
list_item_line (list_item.Body bytes) = codes "body " ++ lossy bytes
list_item_line (list_item.Trailer fields) = section_line (codes "trailer") fields
list_item_line (list_item.TooLarge size) = codes "too large " ++ decimal size
list_item_line (list_item.Session id) = codes "session " ++ decimal id
list_item_line (list_item.Raw bytes) = codes "raw " ++ lossy bytes
list_item_line list_item.End = codes "end"

abbrev pub list_pull_line : ListPull → List ℕ
list_pull_line (list_pull.Item item) = list_item_line item
list_pull_line list_pull.Pending = codes "pending"
list_pull_line (list_pull.Waiting count) = codes "waiting " ++ decimal count
list_pull_line (list_pull.Fault fault) = codes "fault " ++ fault_text fault
list_pull_line list_pull.NoMessages = codes "no messages"

-- the peer's limits, or a `-` for each of them until its settings came
abbrev pub limits_words : Option PeerLimits → List ℕ
limits_words None = codes "- - -"
limits_words (Some limits) = decimal limits.capacity ++ (codes " " ++ (decimal limits.blocked ++ (codes " " ++ decimal limits.section)))

-- the sizes of both tables, and how many streams wait
abbrev pub tables_words : TableSizes → ℕ → List ℕ
tables_words tables waiting = decimal tables.sending ++ (codes " " ++ (decimal tables.receiving ++ (codes " " ++ decimal waiting)))

abbrev pub shown_line : Option PeerLimits → TableSizes → ℕ → List ℕ
shown_line peer tables waiting = codes "show " ++ (limits_words peer ++ (codes " " ++ tables_words tables waiting))

abbrev pub answer_line : Answer → List ℕ
answer_line (answer.Opened id) = codes "stream " ++ decimal id
answer_line answer.Done = codes "ok"
answer_line (answer.Delivered count) = codes "delivered " ++ decimal count
answer_line (answer.Short waits) = codes "short " ++ decimal waits
answer_line answer.NoStream = codes "no stream"
answer_line answer.Early = codes "early"
answer_line (answer.Pulled pull) = pull_line pull
answer_line (answer.Listed pull) = list_pull_line pull
answer_line (answer.Shown peer tables waiting) = shown_line peer tables waiting
answer_line (answer.Refused refusal) = codes "refused " ++ refusal_text refusal

-- the lines of the answers, each with its end
abbrev pub printed : List Answer → List ℕ
printed answers = flat_map (λ a. answer_line a ++ 10 ∷ []) answers

-- the line that tells which line of a script is refused
abbrev pub refused_line : ℕ → List ℕ
refused_line number = codes "line " ++ decimal number ++ 10 ∷ []
