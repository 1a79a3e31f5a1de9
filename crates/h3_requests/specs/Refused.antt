-- Why a call on a request stream is refused, by what is stored of it: by the rules of a sender that stands where the stream does.
use Rattle.std.specs.Prelude.{ℕ, Bool, false, not, ◌||◌, [], Option, Some, None, is_some, option_map}
use Rattle.h3_outgoing.specs.Sent.{takes_head, takes_body, takes_end, is_sent_off}
use Rattle.h3_messages.specs.Content.{may_end}
use Rattle.h3_connection.specs.Refusals.{SenderStream, first_of, not_next, stopped, refusal_of_body, refusal_of_end}
use Rattle.h3_connection.specs.State.{OutgoingState, RequestState, nothing_waits}
use Rattle.h3_connection.specs.StrictSending.{early_trailer, passes_content}
use Rattle.h3_connection.specs.declared.event.Refusal.{Refusal}
use Rattle.h3_connection.specs.declared.event.Refusal.TheVariants as refusal
use Rattle.h3_connection.specs.Sending.{known_of}
use Rattle.h3_messages.specs.declared.content.Content.{Content}

-- the sender's part of a stream, where it is there
abbrev pub outgoing_in : Option RequestState → OutgoingState
outgoing_in None = nothing_waits
outgoing_in (Some r) = r.outgoing

-- a stream as its sender sees it
abbrev pub seen_in : Option RequestState → SenderStream
seen_in r =
    record {
      is_open = is_some r;
      takes_head = takes_head (outgoing_in r);
      takes_body = takes_body (outgoing_in r);
      takes_end = takes_end (outgoing_in r);
    }

-- what is known of what was asked on it
abbrev pub known_in : Option RequestState → Option Content
known_in r = known_of (option_map (λ r. r.incoming) r)

-- The stream takes no head now, or no body and no trailer, whatever is in it.
abbrev pub head_refused_at : Option RequestState → Option Refusal
head_refused_at r = first_of (not_next (seen_in r) (seen_in r).takes_head [])

abbrev pub body_refused_at : Option RequestState → Option Refusal
body_refused_at r = first_of (not_next (seen_in r) (seen_in r).takes_body [])

-- a body of so many bytes
abbrev pub data_refused_at : Option RequestState → ℕ → Option Refusal
data_refused_at r size = refusal_of_body (seen_in r) (passes_content (outgoing_in r).content size)

-- a trailer, in front of which all content was sent
abbrev pub early_trailer_at : Option RequestState → Option Refusal
early_trailer_at r = option_map refusal.Malformed (early_trailer (outgoing_in r).content)

abbrev pub end_refused_at : Option RequestState → Option Refusal
end_refused_at r = refusal_of_end (seen_in r) (not (may_end (outgoing_in r).content))

abbrev pub reset_refused_at : Option RequestState → Option Refusal
reset_refused_at r = first_of (stopped (is_some r) (is_sent_off (outgoing_in r)))

-- what comes on it was handed out to its end, or given up
abbrev pub is_settled_in : Option RequestState → Bool
is_settled_in None = false
is_settled_in (Some r) = r.incoming.is_over || is_some r.incoming.fault

abbrev pub cancel_refused_at : Option RequestState → Option Refusal
cancel_refused_at r = first_of (stopped (is_some r) (is_settled_in r))

-- of a stream that is not under way: this where it is over
abbrev pub refused_over : Option RequestState → Refusal → Refusal
refused_over None r = refusal.NotOpen
refused_over (Some _) r = r
