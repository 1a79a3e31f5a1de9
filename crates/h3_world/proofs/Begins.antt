-- The world before anything is sound.
use Rattle.std.proofs.Common.{◌≡◌, inr, ℕ, ◌+◌, Bool, true, false, [], ◌∷◌, ◌++◌, length, min, refl, sym, ap, arith, nat_le, length-append, if◌then◌else◌}
use Rattle.std.specs.Prelude.{is_some, unwrap_or, slice_get, drop}
use Rattle.std.proofs.lemmas.Grind.{common_steps}
use Rattle.h3_coding.specs.Encodings.{encoding}
use Rattle.h3_field.specs.Instruction.{DecoderInstruction}
use Rattle.h3_qpack.specs.Schedule.{beginning, choosing, keeping_canceled}
use Rattle.h3_qpack.specs.Schedule.SessionEvent.{Choose, KeepCanceled}
use Rattle.h3_qpack.specs.Session.{Session}
use Rattle.h3_qpack.specs.WholeInstructions.{decoder_instructions_in}
use Rattle.h3_frames.specs.Encoded.{frame_encoding}
use Rattle.h3_proto.specs.Pairs.{payload_of}
use Rattle.h3_proto.specs.StreamIds.{is_request_stream, index_of}
use Rattle.h3_proto.specs.declared.stream.Side.{Side}
use Rattle.h3_proto.specs.declared.stream.Side.TheVariants.{Client, Server}
use Rattle.h3_connection.specs.Endpoint.{encoder_choices, first_encoder, most_kept}
use Rattle.h3_connection.specs.declared.setup.Announced.{Announced}
use Rattle.h3_world.specs.Setup.{Setup, announced_at}
use Rattle.h3_world.specs.Flow.{unused}
use Rattle.h3_world.specs.World.{Exchange, empty_world, no_exchange, silent}
use Rattle.h3_world.specs.OwnStreams.{settings_bytes}
use Rattle.h3_world.specs.Came.{settings_came}
use Rattle.h3_world.specs.Streams.{exchange, flow}
use Rattle.h3_world.specs.Following.{Follows, HasSession, sections_left, opening, limits_for}
use Rattle.h3_world.specs.Sound.{IsSoundWriter, IsSoundWorld}

one_byte : length (encoding 0) ≡ 1
unfolding encoding
one_byte = refl

not_none : (a b c : ℕ) → a ≡ b + c → b ≡ 1 → nat_le a 0 ≡ false
not_none a b c h e = grind (arith, common_steps, h, e)

-- no settings came
settings_to_come : (setup : Setup) (side : Side) → nat_le (length (settings_bytes (announced_at setup side))) 0 ≡ false
settings_to_come setup side =
    let payload = frame_encoding 4 (payload_of (announced_at setup side).settings) in
    not_none (length (settings_bytes (announced_at setup side))) (length (encoding 0)) (length payload) (length-append (encoding 0) payload) one_byte

exchange-empty : (setup : Setup) (id : ℕ) → exchange (empty_world setup) id ≡ no_exchange
exchange-empty setup id = by_test (is_request_stream id)
  where
    by_test : (b : Bool) → (if b then unwrap_or (slice_get {X = Exchange} [] (index_of id)) no_exchange else no_exchange) ≡ no_exchange
    by_test true = refl
    by_test false = refl

came-empty : (setup : Setup) (side : Side) → settings_came setup (empty_world setup) side ≡ false
came-empty setup Client = settings_to_come setup Client
came-empty setup Server = settings_to_come setup Server

flow-empty : (setup : Setup) (side : Side) (id : ℕ) → flow (empty_world setup) side id ≡ unused
flow-empty setup Client id = ap (λ e. e.request) (exchange-empty setup id)
flow-empty setup Server id = ap (λ e. e.response) (exchange-empty setup id)

-- the session of a side, before its encoder goes by its choices, and before it chose how many canceled streams it keeps
abbrev first : Setup → Side → Session
first setup side = beginning (announced_at setup side).choices.acknowledgments_counted (announced_at setup side).choices.encoder_table 0 0

-- before it chose how many
abbrev chosen : Setup → Side → Session
chosen setup side = choosing (first setup side) (encoder_choices (announced_at setup side).choices)

-- and before anything else
abbrev begun : Setup → Side → Session
begun setup side = keeping_canceled (chosen setup side) (most_kept (announced_at setup side).choices)

-- its encoder has no table
none_used : (announced : Announced)
    → (keeping_canceled (choosing (beginning announced.choices.acknowledgments_counted announced.choices.encoder_table 0 0) (encoder_choices announced.choices)) (most_kept announced.choices)).encoder ≡ (silent announced).encoder
none_used announced = ap (λ c. record (first_encoder announced) { capacity = c }) (least_none announced.choices.encoder_table)
  where
    least_none : (n : ℕ) → min n 0 ≡ 0
    least_none n = grind (arith, common_steps)

follows_empty : (setup : Setup) (side : Side) → Follows setup (empty_world setup) side (begun setup side)
follows_empty setup Client =
    record {
      encoder = none_used setup.client;
      instructions = sym (ap (λ b. (if b then opening (begun setup Client).encoder.most_capacity (limits_for setup Client) else []) ++ (begun setup Client).instructions) (came-empty setup Server));
      received = refl;
      decoder_instructions = sym (ap (λ b. drop (length {A = DecoderInstruction} (if b then decoder_instructions_in 0 [] else [])) ((silent setup.client).own.replies)) (came-empty setup Server));
      canceled = λ id. sym (ap (λ f. is_some f.fault) (flow-empty setup Client id));
      sections = λ id none. sym (ap sections_left (flow-empty setup Client id));
    }
follows_empty setup Server =
    record {
      encoder = none_used setup.server;
      instructions = sym (ap (λ b. (if b then opening (begun setup Server).encoder.most_capacity (limits_for setup Server) else []) ++ (begun setup Server).instructions) (came-empty setup Client));
      received = refl;
      decoder_instructions = sym (ap (λ b. drop (length {A = DecoderInstruction} (if b then decoder_instructions_in 0 [] else [])) ((silent setup.server).own.replies)) (came-empty setup Client));
      canceled = λ id. sym (ap (λ f. is_some f.fault) (flow-empty setup Server id));
      sections = λ id none. sym (ap sections_left (flow-empty setup Server id));
    }

writer_empty : (setup : Setup) (side : Side) (announced : Announced) (knows : Bool) → IsSoundWriter setup side (silent announced) knows
writer_empty setup side announced knows =
    record { control = omega arith; encoder = omega arith; decoder = omega arith; unknown = λ e. ((refl, refl), refl, refl); limit = omega arith; capacity = inr ((refl, refl), refl) }

session_empty : (setup : Setup) (side : Side) → HasSession setup (empty_world setup) side
session_empty setup side = record { counts = (announced_at setup side).choices.acknowledgments_counted; most = (announced_at setup side).choices.encoder_table; events = Choose (encoder_choices (announced_at setup side).choices) ∷ KeepCanceled (most_kept (announced_at setup side).choices) ∷ []; session = begun setup side; run = (chosen setup side, refl, (begun setup side, refl, refl)); follows = follows_empty setup side; guards = (refl, tt) }

pub empty_sound : (setup : Setup) → IsSoundWorld setup (empty_world setup)
empty_sound setup =
    record {
      client = record { writer = writer_empty setup Client setup.client (settings_came setup (empty_world setup) Server); counts = λ most. refl; session = session_empty setup Client };
      server = record { writer = writer_empty setup Server setup.server (settings_came setup (empty_world setup) Client); counts = λ most. refl; session = session_empty setup Server };
      exchanges = tt;
    }
