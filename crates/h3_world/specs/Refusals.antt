-- Why a call is refused: the first reason that holds, in the order in which an endpoint judges.
use Rattle.std.specs.Prelude.{ℕ, ◌*◌, Bool, false, ◌||◌, List, length, Option, None, is_some}
use Rattle.h3_field.specs.Field.{Field}
use Rattle.h3_header.specs.Head.{Head, head_fields}
use Rattle.h3_header.specs.Reads.{head_of_fields}
use Rattle.h3_proto.specs.declared.stream.Side.{Side}
use Rattle.h3_proto.specs.declared.stream.Side.TheVariants.{Client, Server}
use Rattle.h3_connection.specs.Lasts.{last_id}
use Rattle.h3_connection.specs.OwnIds.{other, is_own}
use Rattle.h3_connection.specs.Refusals.{Sender, SenderStream, seen, refusal_of_head, refusal_of_body, refusal_of_trailer, refusal_of_end, refusal_to_stop, refusal_to_open, refusal_of_goaway}
use Rattle.h3_connection.specs.declared.event.Refusal.{Refusal}
use Rattle.h3_connection.specs.StrictConnection.{begins_none_after}
use Rattle.h3_world.specs.Lists.{unreadable}
use Rattle.h3_world.specs.Setup.{Setup, announced_at, takes_any}
use Rattle.h3_world.specs.World.{World, party}
use Rattle.h3_world.specs.Came.{settings_known, goaways_came}
use Rattle.h3_world.specs.Streams.{flow, is_open}
use Rattle.h3_world.specs.Order.{outgoing_of, is_sent_off, is_over}

-- the id that the next request gets
abbrev pub next_id : World → ℕ
next_id w = 4 * length w.exchanges

-- Only a client opens request streams, none that its server has said it takes no more (RFC 9114, section 5.2), and none from
-- 2 ^ 62 on.
abbrev pub open_refusal : Setup → World → Side → Option Refusal
open_refusal setup w side = refusal_to_open side (last_id (goaways_came setup w (other side))) (next_id w)

-- a stream as its sender sees it, and the sender on it, by what is known of the other side's settings
abbrev pub seen_at : World → Side → ℕ → SenderStream
seen_at w side id = seen (is_open w side id) (outgoing_of (flow w side id))

-- the GOAWAY after which the side begins no message, if it asks for a strict connection (RFC 9114, section 5.2)
abbrev pub none_after : Setup → World → Side → Option ℕ
none_after setup w side = begins_none_after (announced_at setup side) side (last_id (goaways_came setup w (other side)))

abbrev pub sender_at : Setup → World → Side → ℕ → Sender
sender_at setup w side id =
    record {
      side = side;
      stream = seen_at w side id;
      settings = settings_known setup w side;
      going = none_after setup w side;
    }

abbrev pub head_refusal : Setup → World → Side → ℕ → Head → Option Refusal
head_refusal setup w side id head = refusal_of_head (sender_at setup w side id) None None head (head_fields head)

-- a list that goes out as a head is judged as the header that it reads as, unless it reads as none
abbrev pub fields_refusal : Setup → World → Side → ℕ → List Field → Option Refusal
fields_refusal setup w side id fields = refusal_of_head (sender_at setup w side id) (unreadable (takes_any (announced_at setup side)) fields) None (head_of_fields fields) fields

abbrev pub body_refusal : World → Side → ℕ → Option Refusal
body_refusal w side id = refusal_of_body (seen_at w side id) false

abbrev pub trailer_refusal : Setup → World → Side → ℕ → Head → Option Refusal
trailer_refusal setup w side id trailer = refusal_of_trailer (sender_at setup w side id) None None None trailer (head_fields trailer)

-- and so is one that goes out as a trailer
abbrev pub trailer_fields_refusal : Setup → World → Side → ℕ → List Field → Option Refusal
trailer_fields_refusal setup w side id fields = refusal_of_trailer (sender_at setup w side id) (unreadable (takes_any (announced_at setup side)) fields) None None (head_of_fields fields) fields

abbrev pub finish_refusal : World → Side → ℕ → Option Refusal
finish_refusal w side id = refusal_of_end (seen_at w side id) false

-- the six critical streams of both sides (RFC 9114, section 6.2.1, and RFC 9204, section 4.2)
abbrev pub is_critical : ℕ → Bool
is_critical id = is_own Client id || is_own Server id

abbrev pub reset_refusal : World → Side → ℕ → Option Refusal
reset_refusal w side id = refusal_to_stop (is_critical id) (is_open w side id) (is_sent_off (flow w side id))

-- the side gives up what the other side sends
abbrev pub cancel_refusal : World → Side → ℕ → Option Refusal
cancel_refusal w side id =
    let incoming = flow w (other side) id in
    refusal_to_stop (is_critical id) (is_open w side id) (is_over incoming || is_some incoming.fault)

-- a server announces request ids, and a client push ids (RFC 9114, section 5.2), never above an earlier one
abbrev pub goaway_refusal : World → Side → ℕ → Option Refusal
goaway_refusal w side id = refusal_of_goaway side id (last_id (party w side).own.goaways)
