-- What a delivery changes: how much came, and what the receiver reads of it at once.
use Rattle.std.specs.Prelude.{ℕ, ◌+◌, ◌-◌, min, Bool, true, not, ◌&&◌, ◌||◌, List, [], ◌∷◌, ◌++◌, length, drop, if◌then◌else◌, ◌==◌, nat_lt, is_some}
use Rattle.h3_field.specs.Instruction.{DecoderInstruction}
use Rattle.h3_field.specs.Instruction.EncoderInstruction.{SetCapacity}
use Rattle.h3_qpack.specs.EncoderHistory.{using_table, encoder_after_all}
use Rattle.h3_proto.specs.declared.stream.Side.{Side}
use Rattle.h3_connection.specs.Control.{increment}
use Rattle.h3_connection.specs.OwnIds.{other, is_own}
use Rattle.h3_connection.specs.Sending.{own_advanced}
use Rattle.h3_connection.specs.declared.setup.Limits.{Limits}
use Rattle.h3_connection.specs.declared.event.Refusal.TheVariants as refusal
use Rattle.h3_connection.specs.declared.event.StreamFault.TheVariants as stream_fault
use Rattle.h3_world.specs.declared.event.Answer.{Answer}
use Rattle.h3_world.specs.declared.event.Answer.TheVariants as answer
use Rattle.h3_world.specs.Setup.{Setup, announced_at, has_table}
use Rattle.h3_world.specs.World.{World, Party, party, with_party}
use Rattle.h3_world.specs.Came.{settings_came, insertions_came, replies_read}
use Rattle.h3_world.specs.Streams.{flow, with_flow, has_outgoing, waiting}
use Rattle.h3_world.specs.Order.{is_finished}
use Rattle.h3_world.specs.Sending.{given_up}

-- the side with more of one of its own streams delivered
abbrev pub further : Party → Side → ℕ → ℕ → Party
further p side id count = record p { own = own_advanced p.own side id count }

-- An encoder that learns such limits sets a capacity, and uses the table from then on (RFC 9204, section 4.3.1).
abbrev pub having_learned : Party → Limits → Party
having_learned p limits =
    if has_table p.encoder.most_capacity limits
    then record { own = record p.own { instructions = p.own.instructions ++ SetCapacity (min p.encoder.most_capacity limits.table) ∷ [] }; encoder = using_table p.encoder limits.table limits.blocked }
    else p

-- The receiver, where the settings came from the old world to the new one.
abbrev pub having_settings : Setup → World → World → Side → Party
having_settings setup old new writer =
    let p = party old (other writer) in
    let learns = not (settings_came setup old writer) && settings_came setup new writer in
    if learns then having_learned p (announced_at setup writer).limits else p

-- what its decoder replies to the insertions that came between (RFC 9204, section 4.4.3)
abbrev pub count_of_insertions : World → World → Side → List DecoderInstruction
count_of_insertions old new writer = increment (insertions_came (party new writer) - insertions_came (party old writer))

-- the decoder instructions that came between, which its encoder reads
abbrev pub replies_between : Setup → World → World → Side → List DecoderInstruction
replies_between setup old new writer = drop (length (replies_read setup old writer)) (replies_read setup new writer)

-- The receiver after own streams of the writer got further, from the old world to the new one.
abbrev pub having_listened : Setup → World → World → Side → Party
having_listened setup old new writer =
    let q = having_settings setup old new writer in
    record {
      own = record q.own { replies = q.own.replies ++ count_of_insertions old new writer };
      encoder = encoder_after_all q.encoder (replies_between setup old new writer);
    }

abbrev pub delivered_own : Setup → World → Side → ℕ → ℕ → World
delivered_own setup w writer id count =
    let new = with_party w writer (further (party w writer) writer id count) in
    with_party new (other writer) (having_listened setup w new writer)

abbrev pub delivered_message : World → Side → ℕ → ℕ → World
delivered_message w writer id count =
    let f = flow w writer id in
    with_flow w writer id (record f { delivered = f.delivered + count; seen = true })

abbrev pub delivered : Setup → World → Side → ℕ → ℕ → World
delivered setup w writer id count =
    if is_own writer id then delivered_own setup w writer id count else delivered_message w writer id count

-- its end or its reset has come
abbrev pub is_closed : World → Side → ℕ → Bool
is_closed w writer id = not (is_own writer id) && ((flow w writer id).ended || (flow w writer id).reset_came)

-- the answer and the world after it
abbrev pub delivery : Setup → World → Side → ℕ → ℕ → Answer × World
delivery setup w writer id count =
    if not (has_outgoing w writer id) then (answer.NoStream, w) else (
    if nat_lt (waiting setup w writer id) count then (answer.Short (waiting setup w writer id), w) else (
    if is_closed w writer id then (answer.Refused refusal.AfterEnd, w) else
    (answer.Delivered count, delivered setup w writer id count)))

-- the side has sent all that it will, and all of it was delivered
abbrev pub may_end : Setup → World → Side → ℕ → Bool
may_end setup w writer id =
    not (is_own writer id) && is_finished (flow w writer id) && (waiting setup w writer id == 0)

abbrev pub delivered_end : World → Side → ℕ → World
delivered_end w writer id = with_flow w writer id (record (flow w writer id) { seen = true; ended = true })

abbrev pub end_delivery : Setup → World → Side → ℕ → Answer × World
end_delivery setup w writer id =
    if not (has_outgoing w writer id) then (answer.NoStream, w) else (
    if not (may_end setup w writer id) then (answer.Early, w) else (
    if is_closed w writer id then (answer.Refused refusal.AfterEnd, w) else
    (answer.Done, delivered_end w writer id)))

-- the code that a reset has here: H3_REQUEST_CANCELLED (RFC 9114, section 8.1)
abbrev pub reset_code : ℕ
reset_code = 0x10c

-- the reset came, and the receiver gives the stream up unless it has
abbrev pub delivered_reset : World → Side → ℕ → World
delivered_reset w writer id =
    let new = with_flow w writer id (record (flow w writer id) { seen = true; reset_came = true }) in
    if is_some (flow w writer id).fault then new else given_up new (other writer) id (stream_fault.Reset reset_code)

abbrev pub reset_delivery : World → Side → ℕ → Answer × World
reset_delivery w writer id =
    if not (has_outgoing w writer id) then (answer.NoStream, w) else (
    if is_own writer id || not (flow w writer id).is_reset then (answer.Early, w) else (
    if is_closed w writer id then (answer.Refused refusal.AfterEnd, w) else
    (answer.Done, delivered_reset w writer id)))
