-- What the head of a response says of the content behind it, whatever its request asked.
use Rattle.std.specs.Prelude.{ℕ, Bool, true, ◌&&◌, List, codes, slice_index, ◌==◌}
use Rattle.h3_field.specs.Field.{Field}
use Rattle.h3_messages.specs.Content.{content_of_status, is_interim_status}
use Rattle.h3_messages.specs.Messages.{holds, value_of}
use Rattle.h3_messages.specs.OwnMessages.{is_reset_content, or_nothing}
use Rattle.h3_messages.specs.declared.response_said.ResponseSaid.{ResponseSaid}

-- By its status and its content-length, where that is there. A sender has none behind 205.
abbrev pub said_by_status : List ℕ → List ℕ → (has_length is_sent : Bool) → ResponseSaid
said_by_status status size has_length is_sent =
    record {
      is_interim = is_interim_status status;
      opens_tunnel = slice_index status 0 == 50;
      says_tunnel_length = (slice_index status 0 == 50) && has_length;
      content = or_nothing (content_of_status status size) (is_sent && is_reset_content status);
    }

-- the head of one that came, or is to be sent
abbrev pub said_of_response : (is_sent : Bool) → List Field → ResponseSaid
said_of_response is_sent fields =
    said_by_status (value_of (codes ":status") fields) (value_of (codes "content-length") fields) (holds (codes "content-length") fields) is_sent

abbrev pub response_said : List Field → ResponseSaid
response_said fields = said_of_response true fields
