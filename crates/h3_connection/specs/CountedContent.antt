-- What is handed out of a message whose head says how long its content is (RFC 9114, section 4.1.2).
use Rattle.std.specs.Prelude.{◌≡◌, ℕ, ◌+◌, ◌≤◌, true, false, List, length, Option, None}
use Rattle.h3_field.specs.Field.{Field}
use Rattle.h3_header.specs.HeadRead.{IsHead, head_by}
use Rattle.h3_messages.specs.declared.content.Content.{Content}
use Rattle.h3_messages.specs.declared.content.Content.TheVariants.{Exactly}
use Rattle.h3_proto.specs.declared.stream.Side.{Side}
use Rattle.h3_qpack.specs.DecoderState.{DecoderState}
use Rattle.h3_connection.specs.Delivering.{kept, with_end}
use Rattle.h3_connection.specs.Incoming.{Incoming}
use Rattle.h3_connection.specs.Pulling.{pull_stream}
use Rattle.h3_connection.specs.StrictMessages.{response_of_head, content_read}
use Rattle.h3_connection.specs.declared.event.Item.TheVariants as item
use Rattle.h3_connection.specs.declared.event.Pull.{Pull}
use Rattle.h3_connection.specs.declared.event.Pull.TheVariants as pull
use Rattle.h3_connection.specs.declared.place.Place.TheVariants.{InBody}
use Rattle.h3_connection.specs.declared.setup.Announced.{Announced}

-- A receiver behind a head that says so many bytes, of which none was handed out.
pub record ExpectsContent (all : ℕ) (i : Incoming) : Type 0 where
  pub content : i.content ≡ Exactly all
  pub none : i.body_left ≡ 0
  pub place : i.place ≡ InBody
  pub no_fault : i.fault ≡ None
  pub not_over : i.is_over ≡ false

-- how many bytes of content were handed out, with this answer
abbrev pub counted_with : ℕ → Pull → ℕ
counted_with n (pull.Item (item.Body bytes)) = n + length bytes
counted_with n _ = n

-- So many bytes were handed out behind the head: by pulls with any table, and between them more came.
pub data HandsOut (side : Side) (own : Announced) (id all : ℕ) : ℕ → Incoming → Type 0 where
  Begins : {i : Incoming} → ExpectsContent all i → HandsOut side own id all 0 i
  Comes : {n : ℕ} {i : Incoming} (piece : List ℕ) → HandsOut side own id all n i → HandsOut side own id all n (kept i piece)
  Ends : {n : ℕ} {i : Incoming} → HandsOut side own id all n i → HandsOut side own id all n (with_end i)
  Pulls : {n : ℕ} {i : Incoming} (r : DecoderState) → HandsOut side own id all n i
      → HandsOut side own id all (counted_with n (pull_stream side own id r i).answer) (pull_stream side own id r i).incoming

-- The end, or a trailer, comes behind all of the content.
abbrev pub IsWholeAt : ℕ → ℕ → Pull → Type 0
IsWholeAt all n (pull.Item item.End) = n ≡ all
IsWholeAt all n (pull.Item (item.Trailer h)) = n ≡ all
IsWholeAt all n _ = Unit {0}

abbrev pub CountsContent : Type 0
CountsContent =
    (side : Side) (own : Announced) (id all n : ℕ) (r : DecoderState) (i : Incoming) → HandsOut side own id all n i → (n ≤ all) × IsWholeAt all n (pull_stream side own id r i).answer

-- Behind a head stands the content that its list says, of a response by what its request asked; and behind that of a request, what its
-- response may have.
abbrev pub HasItsContent : Side → Announced → Content → Option Content → Pull → Incoming → Type 0
HasItsContent side own awaited known (pull.Item (item.Head h)) i =
    (fields : List Field) × (head_by own.choices.extensions.any_protocol fields ≡ IsHead h) × (i.content ≡ content_read side awaited fields) × (i.place ≡ InBody) × (i.response ≡ response_of_head side known fields)
HasItsContent side own awaited known _ i = Unit {0}

abbrev pub HeadsHaveTheirContent : Type 0
HeadsHaveTheirContent =
    (side : Side) (own : Announced) (id : ℕ) (r : DecoderState) (i : Incoming) → own.choices.strict_messages ≡ true
    → HasItsContent side own i.content i.response (pull_stream side own id r i).answer (pull_stream side own id r i).incoming
