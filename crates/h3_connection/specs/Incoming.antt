-- One request stream at its receiver.
use Rattle.std.specs.Prelude.{◌≡◌, ℕ, Bool, true, false, not, ◌&&◌, ◌||◌, List, [], if◌then◌else◌, Option, Some, None, is_some}
use Rattle.h3_messages.specs.declared.content.Content.{Content}
use Rattle.h3_messages.specs.declared.content.Content.TheVariants.{Unsaid}
use Rattle.h3_connection.specs.declared.event.StreamFault.{StreamFault}
use Rattle.h3_connection.specs.declared.place.Place.{Place}
use Rattle.h3_connection.specs.declared.place.Place.TheVariants.{BeforeHead, InBody}
use Rattle.h3_frames.specs.Pieces.{IsRest}
use Rattle.h3_field.specs.Field.{Field}
use Rattle.h3_messages.specs.Content.{answered_by, awaited_by}
use Rattle.h3_proto.specs.declared.stream.Side.{Side}
use Rattle.h3_proto.specs.declared.stream.Side.TheVariants.{Client, Server}

pub record Incoming : Type 0 where
  -- the pieces that were delivered and not read
  pub unread : List (List ℕ)
  -- the field section that is next: its frame was read, and it was not decoded
  pub section : Option (List ℕ)
  -- how much of a begun payload of DATA is still to come out
  pub body_left : ℕ
  -- how much content is left behind that, where the endpoint asks for strict messages: as long as nothing says it, any. In front of the
  -- head of a response it is what the request said of it
  pub content : Content
  -- what a response to it may have as content, as its client awaits it: nothing is known of that where no head of a request was read by a
  -- server that asks for strict messages. It stays known where the stream is given up, since what was asked does not change
  pub response : Option Content
  pub place : Place
  -- the required insert count that the section waited for, or 0
  pub waits_for : ℕ
  -- how often that section was tried, else the last one
  pub tries : ℕ
  pub ended : Bool
  pub was_reset : Bool
  -- its end was handed out
  pub is_over : Bool
  -- why it was given up
  pub fault : Option StreamFault

abbrev pub nothing_came : Incoming
nothing_came =
    record {
      unread = [];
      section = None;
      body_left = 0;
      content = Unsaid;
      response = None;
      place = BeforeHead;
      waits_for = 0;
      tries = 0;
      ended = false;
      was_reset = false;
      is_over = false;
      fault = None;
    }

-- nothing more of it is read, and what is there is thrown away
abbrev pub given_up : Incoming → StreamFault → Incoming
given_up i fault = record i { unread = []; section = None; body_left = 0; content = Unsaid; waits_for = 0; fault = Some fault }

-- some bytes at the front were passed, and nothing else has changed
pub record Passes (old new : Incoming) : Type 0 where
  pub same : new ≡ record old { unread = new.unread }
  pub rest : IsRest old.unread new.unread

abbrev pub is_body : Place → Bool
is_body InBody = true
is_body _ = false

-- its final head is still to come
abbrev pub is_before_head : Place → Bool
is_before_head BeforeHead = true
is_before_head _ = false

-- its end was not handed out, and it was not given up
abbrev pub goes_on : Incoming → Bool
goes_on i = not (i.is_over || is_some i.fault)

abbrev pub awaits_head : Incoming → Bool
awaits_head i = is_before_head i.place && goes_on i

-- this content is awaited of it, until its head comes
abbrev pub awaiting : Incoming → Content → Incoming
awaiting i content = record i { content = if awaits_head i then content else i.content }

-- What an own head of these fields says of what comes. A client awaits by its request what the response may have, until its head comes (RFC 9110,
-- sections 9.3.2 and 9.3.6). A server answers by its final response a CONNECT that it read (RFC 9114, section 4.4)
abbrev pub content_told : Side → (before on : Bool) → Content → List Field → Content
content_told Client before on content fields = if before && on then awaited_by fields else content
content_told Server before on content fields = if on then answered_by content fields else content

abbrev pub having_told : Side → Incoming → List Field → Incoming
having_told side i fields = record i { content = content_told side (is_before_head i.place) (goes_on i) i.content fields }
