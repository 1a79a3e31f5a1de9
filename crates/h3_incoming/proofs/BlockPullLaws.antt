-- What is told with the fields in a block.
use Rattle.std.proofs.Common.{◌≡◌, ℕ, Bool, List, Some, refl, ap, sym, ◌∙◌}
use Rattle.std.specs.Prelude.{Option, None, IfSome}
use Rattle.h3_field.specs.Field.{Field}
use Rattle.h3_header.specs.Head.{Head}
use Rattle.h3_header.specs.HeadRead.{IsHead, head_by}
use Rattle.h3_header.specs.Reads.{IsHeadOf, head_of_fields}
use Rattle.h3_messages.specs.Outline.{IsOutlined}
use Rattle.h3_messages.specs.OutlineLaws.{outlined_head}
use Rattle.h3_messages.specs.declared.outline.Outline.{Outline}
use Rattle.h3_connection.specs.Lists.{list_of, pull_of}
use Rattle.h3_connection.specs.declared.event.Fault.{Fault}
use Rattle.h3_connection.specs.declared.event.Pull.TheVariants as pull
use Rattle.h3_connection.specs.declared.lists.ListPull.TheVariants as answer
use Rattle.h3_incoming.specs.Answering.{fault_told, item_of, plain_pull}
use Rattle.h3_incoming.specs.BlockPulls.{fields_kept, listed_as, plain_answer, told_with, HasStatus}
use Rattle.h3_incoming.specs.declared.answer.MessageKind.{MessageKind}
use Rattle.h3_incoming.specs.declared.answer.MessageKind.TheVariants as kind
use Rattle.h3_incoming.specs.declared.answer.Plain.{Plain}
use Rattle.h3_incoming.specs.declared.answer.Plain.TheVariants as plain
use Rattle.h3_incoming.specs.declared.block.Told.{Told}
use Rattle.h3_incoming.specs.declared.block.Told.TheVariants as told

-- what is told of a head or trailer that is kept as its list
pub told_of : (k : MessageKind) (fields : List Field) → pull_of (answer.Item (listed_as k fields)) ≡ pull.Item (item_of k (head_of_fields fields))
told_of kind.Interim fields = refl
told_of kind.Head fields = refl
told_of kind.Trailer fields = refl

pub listed_of : (k : MessageKind) (fields : List Field) → list_of (answer.Item (listed_as k fields)) ≡ Some fields
listed_of kind.Interim fields = refl
listed_of kind.Head fields = refl
listed_of kind.Trailer fields = refl

-- the status of a list that reads as a head of this outline
pub status_is : (any : Bool) (fields : List Field) (o : Outline) → ((fs : List Field) (h : Head) → head_by any fs ≡ IsHead h → IsHeadOf any fs h) → IsOutlined (head_by any fields) o → o.status ≡ (head_of_fields fields).status
status_is any fields o law is =
    outlined_head (head_by any fields) o is _ (λ h head same. ap (λ (p : Outline). p.status) same ∙ ap (λ (q : Head). q.status) (law fields h head).1)

-- and of what has none
pub plain_told : (p : Plain) → pull_of (plain_answer p) ≡ plain_pull p
plain_told (plain.Body bytes) = refl
plain_told (plain.Raw bytes) = refl
plain_told (plain.Session session) = refl
plain_told (plain.TooLarge size) = refl
plain_told plain.End = refl
plain_told plain.Pending = refl
plain_told (plain.Waiting count) = refl
plain_told (plain.Fault fault) = refl
plain_told plain.NoMessages = refl

pub plain_listed : (p : Plain) → list_of (plain_answer p) ≡ None
plain_listed (plain.Body bytes) = refl
plain_listed (plain.Raw bytes) = refl
plain_listed (plain.Session session) = refl
plain_listed (plain.TooLarge size) = refl
plain_listed plain.End = refl
plain_listed plain.Pending = refl
plain_listed (plain.Waiting count) = refl
plain_listed (plain.Fault fault) = refl
plain_listed plain.NoMessages = refl

pub told_kept : (t : Told) (fields : List Field) → told_with t fields ≡ told_with t (fields_kept (told_with t fields))
told_kept (told.Message kind.Interim status) fields = refl
told_kept (told.Message kind.Head status) fields = refl
told_kept (told.Message kind.Trailer status) fields = refl
told_kept (told.Plain p) fields = refl

pub status_held : (t : Told) (fields : List Field) → HasStatus t fields → HasStatus t (fields_kept (told_with t fields))
status_held (told.Message kind.Interim status) fields h = h
status_held (told.Message kind.Head status) fields h = h
status_held (told.Message kind.Trailer status) fields h = h
status_held (told.Plain p) fields h = h

none_listed : (listed : Option (List Field)) (fields : List Field) → listed ≡ None → IfSome listed (λ l. fields ≡ l)
none_listed None fields is = tt
none_listed (Some l) fields is = absurd (cc)

pub block_kept : (t : Told) (fields : List Field) → IfSome (list_of (told_with t fields)) (λ l. fields ≡ l)
block_kept (told.Message kind.Interim status) fields = refl
block_kept (told.Message kind.Head status) fields = refl
block_kept (told.Message kind.Trailer status) fields = refl
block_kept (told.Plain p) fields = none_listed (list_of (plain_answer p)) fields (plain_listed p)

fault_by : (k : MessageKind) (status : Option ℕ) (fields : List Field) → fault_told (pull_of (told_with (told.Message k status) fields)) ≡ None
fault_by kind.Interim status fields = refl
fault_by kind.Head status fields = refl
fault_by kind.Trailer status fields = refl

pub fault_message : (t : Told) (k : MessageKind) (status : Option ℕ) (fields : List Field) → t ≡ told.Message k status → None ≡ fault_told (pull_of (told_with t fields))
fault_message t k status fields is = sym (fault_by k status fields) ∙ ap (λ s. fault_told (pull_of (told_with s fields))) (sym is)

pub fault_plain : (t : Told) (p : Plain) (fields : List Field) (f : Option Fault) → t ≡ told.Plain p → f ≡ fault_told (plain_pull p) → f ≡ fault_told (pull_of (told_with t fields))
fault_plain t p fields f is given = given ∙ ap fault_told (sym (plain_told p)) ∙ ap (λ s. fault_told (pull_of (told_with s fields))) (sym is)
