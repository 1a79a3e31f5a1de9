-- What holds of every world that a run leads to.
use Rattle.std.specs.Prelude.{count_by, sum_by, nat_lt, ◌≡◌, ◌⊎◌, ℕ, ◌+◌, ◌-◌, ◌^◌, ◌<◌, ◌≤◌, true, false, List, [], ◌∷◌, length, take, flat_map, Option, Some, None, Bool}
use Rattle.std.specs.List.{AllByRecursion}
use Rattle.h3_field.specs.Field.{section_size}
use Rattle.h3_field.specs.ReadBack.{IsFieldOfBytes}
use Rattle.h3_qpack.specs.EncoderHistory.{HasNoTable}
use Rattle.h3_qpack.specs.WholeInstructions.{insertions_in}
use Rattle.h3_proto.specs.declared.stream.Side.{Side}
use Rattle.h3_proto.specs.declared.stream.Side.TheVariants.{Client, Server}
use Rattle.h3_connection.specs.OwnIds.{other}
use Rattle.h3_world.specs.Setup.{Setup, announced_at}
use Rattle.h3_world.specs.Flow.{Flow, Part, Section, part_bytes, flow_bytes}
use Rattle.h3_world.specs.Flow.Part.{Interim, Head, Body, Trailer, End}
use Rattle.h3_world.specs.World.{World, Party, Exchange, party}
use Rattle.h3_world.specs.OwnStreams.{control_stream, encoder_stream, decoder_stream}
use Rattle.h3_world.specs.Order.{is_finished, next_part}
use Rattle.h3_world.specs.Came.{settings_came}
use Rattle.h3_world.specs.Following.{HasSession, HasCapacity, limits_for}

-- A section as the side sends it. Once so many bytes of the encoder stream came, the insertions that it needs came.
pub record IsSentSection (p : Party) (s : Section) : Type 0 where
  pub of_bytes : AllByRecursion IsFieldOfBytes s.fields
  pub small : section_size s.fields < 2 ^ 56
  pub has_length : length s.encoded < 2 ^ 62
  pub encoder : s.encoder_length ≤ length (encoder_stream p)
  pub inserted : s.count ≤ insertions_in (s.encoder_length - 1) p.own.instructions

-- The part ends at this length of its stream.
abbrev pub IsSentPart : Party → ℕ → Part → Type 0
IsSentPart p end (Interim s) = IsSentSection p s × (s.own_length ≡ end)
IsSentPart p end (Head s) = IsSentSection p s × (s.own_length ≡ end)
IsSentPart p end (Trailer s) = IsSentSection p s × (s.own_length ≡ end)
IsSentPart p end (Body bytes own) = (0 < length bytes) × (length bytes < 2 ^ 62) × (own ≡ end)
IsSentPart p end End = Unit {0}

-- a head may come next, an interim one too
abbrev pub is_before_head : Option Part → Bool
is_before_head None = true
is_before_head (Some (Interim section)) = true
is_before_head _ = false

-- a piece of the body or the trailer may come next
abbrev pub is_in_body : Option Part → Bool
is_in_body (Some (Head section)) = true
is_in_body (Some (Body bytes own)) = true
is_in_body _ = false

abbrev pub is_trailer : Option Part → Bool
is_trailer (Some (Trailer section)) = true
is_trailer _ = false

-- The part may follow the one before it (RFC 9114, section 4.1).
abbrev pub MayFollow : Option Part → Part → Type 0
MayFollow before (Interim s) = is_before_head before ≡ true
MayFollow before (Head s) = is_before_head before ≡ true
MayFollow before (Body bytes own) = is_in_body before ≡ true
MayFollow before (Trailer s) = is_in_body before ≡ true
MayFollow before End = (is_in_body before ≡ true) ⊎ (is_trailer before ≡ true)

-- The parts follow one another, from this part and this length on.
abbrev pub AreSent : Party → Option Part → ℕ → List Part → Type 0
AreSent p before length_before [] = Unit {0}
AreSent p before length_before (part ∷ parts) =
    MayFollow before part × IsSentPart p (length_before + length (part_bytes part)) part
    × AreSent p (Some part) (length_before + length (part_bytes part)) parts

-- the part is a section whose own bytes came and that needs so many insertions
abbrev pub WaitsBefore : Flow → Section → Type 0
WaitsBefore f s = (f.waits_for ≡ s.count) × (s.own_length ≤ f.delivered)

abbrev pub WaitsForNext : Flow → Option Part → Type 0
WaitsForNext f (Some (Interim s)) = WaitsBefore f s
WaitsForNext f (Some (Head s)) = WaitsBefore f s
WaitsForNext f (Some (Trailer s)) = WaitsBefore f s
WaitsForNext f _ = ⊥

-- bytes are out of a piece of the body alone, and not all of them
abbrev pub OutOfNext : Flow → Option Part → Type 0
OutOfNext f (Some (Body bytes own)) = (f.body_out < length bytes) × (own - length bytes + f.body_out ≤ f.delivered)
OutOfNext f _ = ⊥

-- What the side sends on a request stream, and what its receiver made of it.
pub record IsSoundFlow (p : Party) (f : Flow) : Type 0 where
  pub sent : AreSent p None 0 f.sent
  pub delivered : f.delivered ≤ length (flow_bytes f)
  pub out : f.parts_out ≤ length f.sent
  pub out_delivered : length (flat_map part_bytes (take f.parts_out f.sent)) ≤ f.delivered
  pub body_out : (f.body_out ≡ 0) ⊎ OutOfNext f (next_part f)
  pub waits : (f.waits_for ≡ 0) ⊎ WaitsForNext f (next_part f)
  pub ended : f.ended ≡ true → (is_finished f ≡ true) × (f.delivered ≡ length (flow_bytes f))
  pub reset_came : f.reset_came ≡ true → f.is_reset ≡ true
  pub unseen : f.seen ≡ false → (f.delivered ≡ 0) × (f.parts_out ≡ 0) × (f.ended ≡ false) × (f.reset_came ≡ false)

-- A server sends nothing on a request stream of which it has seen nothing, and doesn't cancel it. The client may.
pub record IsSoundExchange (w : World) (e : Exchange) : Type 0 where
  pub request : IsSoundFlow w.client e.request
  pub response : IsSoundFlow w.server e.response
  pub unsent : e.request.seen ≡ false → (e.response.sent ≡ []) × (e.response.seen ≡ false) × (e.response.is_reset ≡ false)
  pub unread : e.request.seen ≡ false → e.request.fault ≡ None

-- the required insert counts of some parts
abbrev pub counts_in : List Part → List ℕ
counts_in [] = []
counts_in (Interim s ∷ parts) = s.count ∷ counts_in parts
counts_in (Head s ∷ parts) = s.count ∷ counts_in parts
counts_in (Trailer s ∷ parts) = s.count ∷ counts_in parts
counts_in (Body bytes own ∷ parts) = counts_in parts
counts_in (End ∷ parts) = counts_in parts

-- what the side sends of an exchange
abbrev pub outgoing : Side → Exchange → Flow
outgoing Client e = e.request
outgoing Server e = e.response

-- how many of the sections that the side sent need more insertions than that
abbrev pub sections_above : Side → ℕ → Exchange → ℕ
sections_above side most e = count_by (λ count. nat_lt most count) (counts_in (outgoing side e).sent)

-- What a side wrote on its own streams, how much of it was delivered, and what its encoder goes by, where it knows the other
-- side's settings or not.
pub record IsSoundWriter (setup : Setup) (side : Side) (p : Party) (knows : Bool) : Type 0 where
  pub control : p.own.control_taken ≤ length (control_stream (announced_at setup side) p)
  pub encoder : p.own.encoder_taken ≤ length (encoder_stream p)
  pub decoder : p.own.decoder_taken ≤ length (decoder_stream p)
  -- an encoder that doesn't know its peer's limits has no table, and has inserted nothing
  pub unknown : knows ≡ false → HasNoTable p.encoder × (p.encoder.inserted ≡ []) × (p.own.instructions ≡ [])
  -- its limit is at most that of its peer, and its capacity the lesser of the announced one and the most that its table may have
  pub limit : p.encoder.limit ≤ (limits_for setup side).blocked
  pub capacity : HasCapacity (limits_for setup side).table p.encoder

-- The counts that an encoder keeps are those of the sections that its side sent.
abbrev pub HasCounts : World → Side → Type 0
HasCounts w side = (most : ℕ) → count_by (λ count. nat_lt most count) (party w side).encoder.required_insert_counts ≡ sum_by (sections_above side most) w.exchanges

pub record IsSoundParty (setup : Setup) (w : World) (side : Side) : Type 0 where
  pub writer : IsSoundWriter setup side (party w side) (settings_came setup w (other side))
  pub counts : HasCounts w side
  pub session : HasSession setup w side

pub record IsSoundWorld (setup : Setup) (w : World) : Type 0 where
  pub client : IsSoundParty setup w Client
  pub server : IsSoundParty setup w Server
  pub exchanges : AllByRecursion (IsSoundExchange w) w.exchanges
