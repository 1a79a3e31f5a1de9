-- A receiver that goes on as another one would.
use Rattle.std.specs.Prelude.{◌≡◌, ◌⊎◌, ℕ, Bool, true, false, ◌||◌, List, ◌++◌}
use Rattle.h3_proto.specs.Config.{is_limit}
use Rattle.h3_proto.specs.declared.stream.Side.{Side}
use Rattle.h3_qpack.specs.DecoderState.{DecoderState}
use Rattle.h3_connection.specs.declared.setup.Announced.{Announced}
use Rattle.h3_connection.specs.declared.event.StreamFault.{StreamFault}
use Rattle.h3_connection.specs.declared.place.Place.{Place}
use Rattle.h3_connection.specs.declared.place.Place.TheVariants.{BeforeHead, InBody}
use Rattle.h3_connection.specs.Coming.{fields_next}
use Rattle.h3_connection.specs.Incoming.{Incoming, given_up, is_body}
use Rattle.h3_messages.specs.Content.{takes_trailer}
use Rattle.h3_messages.specs.declared.content.Content.{Content}
use Rattle.h3_frames.specs.declared.proto.frame.PayloadLen.{PayloadLen}
use Rattle.h3_frames.specs.declared.proto.frame.Frame.{Frame}
use Rattle.h3_frames.specs.declared.proto.frame.Frame.TheVariants as frame
use Rattle.h3_connection.specs.PartReading.{CountsOn, HasNoSection, StandsNext, unsaid}
use Rattle.h3_connection.specs.Pulling.{pull_stream, begun_section, begun_payload}
use Rattle.h3_connection.specs.StrictConnection.{kinds_of}

-- further pieces, and the end or no end yet
abbrev pub delivered : Incoming → List (List ℕ) → Bool → Incoming
delivered i pieces ends = record i { unread = i.unread ++ pieces; ended = i.ended || ends }

-- a section may come there, as a head or a trailer; in a tunnel none
abbrev pub permits_section : Place → Content → Bool
permits_section BeforeHead expected = true
permits_section InBody expected = takes_trailer expected
permits_section _ expected = false

-- What a frame gives was begun, and nothing of it was handed out.
abbrev pub Begins : Place → Frame PayloadLen → Incoming → Incoming → Type 0
Begins place (frame.Headers bytes) old new = (permits_section place old.content ≡ true) × (new ≡ begun_section old bytes)
Begins place (frame.Data len) old new = (is_body place ≡ true) × (new ≡ begun_payload old len.0)
Begins place _ old new = ⊥

-- Whatever is delivered later, whatever the table is by then, its pulls answer the same, and leave the same, at an end that announced this. If
-- an answer has a section, the list that came next is the same.
pub record PullsAlike (own : Announced) (old new : Incoming) : Type 0 where
  pub pulls : (side : Side) (id : ℕ) (r : DecoderState) (pieces : List (List ℕ)) (ends : Bool)
      → pull_stream side own id r (delivered new pieces ends) ≡ pull_stream side own id r (delivered old pieces ends)
  pub lists : (side : Side) (id : ℕ) (r : DecoderState) (pieces : List (List ℕ)) (ends : Bool)
      → HasNoSection (pull_stream side own id r (delivered old pieces ends)).answer ⊎ (fields_next own r (delivered new pieces ends) ≡ fields_next own r (delivered old pieces ends))

-- It goes on as the other one, at an end that announced this.
pub record Resumes (own : Announced) (old new : Incoming) : Type 0 where
  pub alike : PullsAlike own old new
  -- and so they do where nothing is known of the content, at each end that limits nothing and knows the same kinds of frames, whatever it judges
  pub plainly : (other : Announced) → kinds_of other ≡ kinds_of own → is_limit other.choices.unfinished_limit ≡ false → PullsAlike other (unsaid old) (unsaid new)
  pub next : StandsNext (kinds_of own) old new
  pub counts : CountsOn old.content new.content
  pub gives_up : (fault : StreamFault) → given_up new fault ≡ given_up old fault
  -- where its message is
  pub place : new.place ≡ old.place
  -- what of the content of its response is known
  pub response : new.response ≡ old.response
  pub is_over : new.is_over ≡ old.is_over
  -- what the endpoint sees of it
  pub waits_for : new.waits_for ≡ old.waits_for
  pub tries : new.tries ≡ old.tries
  pub ended : new.ended ≡ old.ended
  pub was_reset : new.was_reset ≡ old.was_reset
  pub fault : new.fault ≡ old.fault
