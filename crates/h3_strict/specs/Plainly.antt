-- What an endpoint that asks for strict messages, limits what is unfinished, or takes two protocols alone is without that: the same endpoint,
-- which does none of it and counts no content.
use Rattle.std.specs.Prelude.{ℕ, Bool, true, false, [], ◌∷◌, Option, Some, None, ◌==◌, ◌||◌, ◌&&◌, ◌^◌, ◌-◌}
use Rattle.h3_proto.specs.Config.{is_limit}
use Rattle.h3_messages.specs.declared.content.Content.TheVariants.{Unsaid}
use Rattle.h3_connection.specs.Codes.{decoder_stream_error, encoder_stream_error, excessive_load, frame_unexpected}
use Rattle.h3_connection.specs.Endpoint.{EndpointHistory, limit_of, Kind, kind_of}
use Rattle.h3_connection.specs.Endpoint.Kind.{Request}
use Rattle.h3_connection.specs.Incoming.{Incoming}
use Rattle.h3_connection.specs.Keeping.{read_all, unkept}
use Rattle.h3_connection.specs.Outgoing.{Outgoing}
use Rattle.h3_connection.specs.Pulling.{pull_stream}
use Rattle.h3_connection.specs.StreamSets.{Streams, stream_at}
use Rattle.h3_connection.specs.StrictConnection.{is_strict}
use Rattle.h3_connection.specs.declared.event.Fault.{Fault}
use Rattle.h3_connection.specs.declared.event.Fault.TheVariants as fault
use Rattle.h3_connection.specs.declared.event.Pull.{Pull}
use Rattle.h3_connection.specs.declared.event.Pull.TheVariants as pull
use Rattle.h3_connection.specs.declared.event.Refusal.{Refusal}
use Rattle.h3_connection.specs.declared.event.Refusal.TheVariants as refusal
use Rattle.h3_connection.specs.declared.event.StreamFault.{StreamFault}
use Rattle.h3_connection.specs.declared.event.StreamFault.TheVariants as stream_fault
use Rattle.h3_connection.specs.declared.setup.Announced.{Announced}

-- it announces the same, asks for no strict messages, has no limit on what is unfinished, and takes any protocol
abbrev pub plain : Announced → Announced
plain a = record a { choices = record a.choices { strict_messages = false; unfinished_limit = 2 ^ 62 - 1; extensions = record a.choices.extensions { any_protocol = true } } }

-- nothing is known of what content there is, nor of what a response may have
abbrev pub plain_incoming : Incoming → Incoming
plain_incoming i = record i { content = Unsaid; response = None }

abbrev pub plain_outgoing : Outgoing → Outgoing
plain_outgoing o = record o { content = Unsaid }

abbrev pub each_stream : {X : Type 0} → (X → X) → Streams X → Streams X
each_stream f [] = []
each_stream f ((id, x) ∷ streams) = (id, f x) ∷ each_stream f streams

abbrev pub plainly : EndpointHistory → EndpointHistory
plainly e = record e { announced = plain e.announced; incoming = each_stream plain_incoming e.incoming; outgoing = each_stream plain_outgoing e.outgoing }

-- The two answers of the rules of strict messages: a send is refused as malformed, and
abbrev pub is_malformed : Refusal → Bool
is_malformed (refusal.Malformed why) = true
is_malformed _ = false

-- a pull finds a message malformed, or a frame at the wrong place, as a trailer in a tunnel is (RFC 9114, section 4.4), or too long a frame.
-- Those answers are more than the rules of strict messages and the limit give: any endpoint has some of them
abbrev pub is_malformation : StreamFault → Bool
is_malformation (stream_fault.Malformed why) = true
is_malformation _ = false

-- the errors of the peer's encoder and decoder streams (RFC 9204, section 6)
abbrev pub is_stream_error : ℕ → Bool
is_stream_error code = (code == encoder_stream_error) || (code == decoder_stream_error)

-- What is read is too long for an endpoint that limits what is unfinished. An instruction that is too long is an error of its stream if the
-- endpoint asks for a strict connection (RFC 9204, section 7.4)
abbrev pub is_excess : Bool → Option ℕ → Bool
is_excess strict None = false
is_excess strict (Some code) = (code == excessive_load) || (strict && is_stream_error code)

abbrev pub faults_message : Bool → Fault → Bool
faults_message strict (fault.Stream f) = is_malformation f
faults_message strict (fault.Connection code) = (code == frame_unexpected) || is_excess strict (Some code)
faults_message strict fault.Memory = false

abbrev pub tells_malformed : Bool → Pull → Bool
tells_malformed strict (pull.Fault f) = faults_message strict f
tells_malformed strict _ = false

-- a pull of this receiver would, which reads no instruction
abbrev pub judged_at : EndpointHistory → ℕ → Option Incoming → Bool
judged_at e id None = false
judged_at e id (Some i) = tells_malformed false (pull_stream e.side e.announced id e.decoding.decoder i).answer

abbrev pub judged_as : EndpointHistory → ℕ → Kind → Bool
judged_as e id Request = judged_at e id (stream_at e.incoming id)
judged_as e id _ = false

abbrev pub judged_open : Option ℕ → EndpointHistory → ℕ → Bool
judged_open (Some code) e id = false
judged_open None e id = judged_as e id (kind_of e.side id)

-- it is too long for this endpoint
abbrev pub exceeds : EndpointHistory → Option ℕ → Bool
exceeds e fault = is_excess (is_strict e.announced) fault && is_limit (limit_of e)

-- A pull of the stream judges the message on it, once all that is kept was read; or what is kept is too long.
abbrev pub is_judged : EndpointHistory → ℕ → Bool
is_judged e id = let x = read_all e.kept (unkept e) in exceeds e x.1 || judged_open e.closed x.0 id
