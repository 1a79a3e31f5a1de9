-- One round of reading frames, and one read of a payload.
use Rattle.std.proofs.Common.{◌≡◌, ℕ, ◌<◌, Bool, inr, ap₂, append_assoc, length-append, true, false, List, [], ◌∷◌, ◌++◌, length, arith, sym, ◌∙◌, ap, subst, refl, Result, Ok, Err, Option, Some, None}
use Rattle.std.specs.List.{concat}
use Rattle.h3_wire.specs.declared.quic.Poll.TheVariants.{Ready, Pending}
use Rattle.h3_frames.specs.declared.proto.frame.PayloadLen.{PayloadLen}
use Rattle.h3_frames.specs.declared.proto.frame.Frame.{Frame}
use Rattle.h3_frames.specs.declared.frame.errors.FrameStreamError.{FrameStreamError}
use Rattle.h3_frames.specs.declared.frame.errors.FrameStreamError.TheVariants as stream
use Rattle.h3_wire.specs.declared.frame.payload_left.PayloadLeft.{PayloadLeft}
use Rattle.h3_wire.specs.declared.stream.Received.{Received}
use Rattle.h3_wire.specs.declared.frame.payload_left.PayloadLeft.TheVariants as payload
use Rattle.h3_wire.specs.declared.stream.Received.TheVariants as received
use Rattle.h3_wire.specs.Source.{Answer, coming}
use Rattle.h3_wire.specs.Streams.{Buffered, Framing, stream_part, is_open, left, Tells, TakesData, TakesPayload, PollsData}
use Rattle.h3_frames.specs.Tries.{Decoding}
use Rattle.h3_wire.specs.Asking.{Asks, Looks, IsRound, Rounds, read_fails, payload_found, at_end_of, ReadsOnce, no_memory, takes, is_short, data_of, TakesFirst}

abbrev pub framed : {S : Type 0} → Buffered S → PayloadLeft → Decoding → Framing S
framed s p d = record { pieces = s.pieces; source = s.source; is_eos = s.is_eos; payload = p; decoder = d }

-- a read, a look, and the payload behind what was found
pub round : {S : Type 0} (answers : S → Answer → S → Type 0) (now inside : Framing S) (told : Received) (read took : Buffered S) (found : Result (Option (Frame PayloadLen)) FrameStreamError) (after : Decoding) (left : PayloadLeft)
    → inside ≡ now → Asks answers (stream_part inside) (Ok told) read → Looks read inside.decoder found took after → left ≡ payload_found found inside.payload
    → IsRound answers now told found (framed took left after)
round answers now inside told read took found after left view asks looks behind =
    subst (λ x. IsRound answers x told found (framed took left after)) view (record { read = read; asks = asks; looks = looks; payload = behind })

pub round_fails : {S : Type 0} (answers : S → Answer → S → Type 0) (now inside : Framing S) (read : Buffered S) (e : FrameStreamError) → inside ≡ now → Asks answers (stream_part inside) (Err e) read
    → Rounds answers now (Ready (Err e)) (framed read inside.payload inside.decoder)
round_fails answers now inside read e view asks =
    subst (λ x. Rounds answers x (Ready (Err e)) (framed read inside.payload inside.decoder)) view (read_fails inside (framed read inside.payload inside.decoder) e asks refl refl)

-- at the end bytes are left, or none
pub some_at_end : (left : List ℕ) → 0 < length left → at_end_of left ≡ Ready (Err stream.UnexpectedEnd)
some_at_end [] h = absurd (omega arith)
some_at_end (byte ∷ bytes) h = refl

pub none_at_end : (left : List ℕ) → length left ≡ 0 → at_end_of left ≡ Ready (Ok None)
none_at_end [] h = refl
none_at_end (byte ∷ bytes) h = absurd (omega arith)

-- whether the end cuts a payload short is told of the payload that the call found
pub short_of : {S : Type 0} {b : Bool} {old now : PayloadLeft} (told : Received) (read : Buffered S) → is_short told now read ≡ b → now ≡ old → is_short told old read ≡ b
short_of {b = b} told read e same = subst (λ p. is_short told p read ≡ b) same e

module _ {S : Type 0} (answers : S → Answer → S → Type 0) (old mid new : Framing S) (told : Received) (under_way : is_open old.payload ≡ true) (asks : Asks answers (stream_part old) (Ok told) (stream_part mid))
    (same_payload : mid.payload ≡ old.payload) (same_decoder : mid.decoder ≡ old.decoder) (whole : is_short told old.payload (stream_part mid) ≡ false) where
  -- bytes of the payload are taken, or none is there
  pub takes_once : (taken : Option (List ℕ)) → TakesFirst (stream_part mid) mid.payload taken new → new.decoder ≡ mid.decoder → ReadsOnce answers old (data_of told taken) new
  takes_once taken first behind =
      takes told (stream_part mid) taken under_way asks whole (subst (λ p. TakesFirst (stream_part mid) p taken new) same_payload first) refl (behind ∙ same_decoder)

  -- there is no memory for a cut
  pub refused_once : (e : FrameStreamError) → e ≡ stream.OutOfMemory → new ≡ mid → ReadsOnce answers old (Ready (Err e)) new
  refused_once e is same =
      subst (λ x. ReadsOnce answers old (Ready (Err e)) x) (sym same)
      (no_memory told under_way asks whole (ap (λ x. Ready (Err x)) is) same_payload same_decoder)

some_taken : {S : Type 0} (rest : S → List ℕ) (old mid new : Framing S) (bytes : List ℕ)
    → left rest mid ≡ left rest old → mid.payload ≡ old.payload → TakesData (Ok (Some bytes)) mid new → new.source ≡ mid.source → new.is_eos ≡ mid.is_eos
    → (0 < length bytes) × (left rest old ≡ bytes ++ left rest new) × TakesPayload (length bytes) old.payload new.payload
some_taken rest old mid new bytes all same took source is_eos =
    let there = coming mid.is_eos (rest mid.source) in (
      took.0,
      sym all ∙ ap (λ b. b ++ there) took.1 ∙ append_assoc bytes (concat new.pieces) there ∙ ap₂ (λ e s. bytes ++ (concat new.pieces ++ coming e (rest s))) (sym is_eos) (sym source),
      subst (λ p. TakesPayload (length bytes) p new.payload) same took.2,
    )

none_taken : {S : Type 0} (rest : S → List ℕ) (old mid new : Framing S)
    → left rest mid ≡ left rest old → concat mid.pieces ≡ [] → concat new.pieces ≡ [] → new.source ≡ mid.source → new.is_eos ≡ mid.is_eos → left rest new ≡ left rest old
none_taken rest old mid new all was is source is_eos =
    ap₂ (λ e s. concat new.pieces ++ coming e (rest s)) is_eos source ∙ ap (λ b. b ++ coming mid.is_eos (rest mid.source)) (is ∙ sym was) ∙ all

-- bytes of the payload are taken behind a read, or none is there
pub polls_taken : {S : Type 0} (rest : S → List ℕ) (answers : S → Answer → S → Type 0) (old mid new : Framing S) (told : Received) (taken : Option (List ℕ))
    → left rest mid ≡ left rest old → mid.payload ≡ old.payload → is_open old.payload ≡ true → Tells rest answers (Ok told) (stream_part old) (stream_part mid)
    → TakesData (Ok taken) mid new → new.source ≡ mid.source → new.is_eos ≡ mid.is_eos
    → (told ≡ received.End → concat mid.pieces ≡ [] → is_open mid.payload ≡ true → mid.payload ≡ payload.ToEnd)
    → PollsData rest answers (data_of told taken) old new
polls_taken rest answers old mid new received.More (Some bytes) all same under_way tells took source is_eos whole = some_taken rest old mid new bytes all same took source is_eos
polls_taken rest answers old mid new received.Nothing (Some bytes) all same under_way tells took source is_eos whole = some_taken rest old mid new bytes all same took source is_eos
polls_taken rest answers old mid new received.End (Some bytes) all same under_way tells took source is_eos whole = some_taken rest old mid new bytes all same took source is_eos
polls_taken rest answers old mid new received.More None all same under_way tells took source is_eos whole =
    let there : length (concat mid.pieces ++ coming mid.is_eos (rest mid.source)) ≡ length (concat old.pieces ++ coming old.is_eos (rest old.source)) = ap length all in
    absurd (omega (arith, tells.0, there, ap length took.0, length-append (concat mid.pieces) (coming mid.is_eos (rest mid.source)), length-append (concat old.pieces) (coming old.is_eos (rest old.source))))
polls_taken rest answers old mid new received.Nothing None all same under_way tells took source is_eos whole =
    (none_taken rest old mid new all took.0 took.1 source is_eos, took.1, (tells.0, subst (λ x. answers tells.0 Pending x) (sym source) tells.1), took.2 ∙ same)
polls_taken rest answers old mid new received.End None all same under_way tells took source is_eos whole =
    let lasts = whole refl took.0 (ap is_open same ∙ under_way) in
    let ended = is_eos ∙ tells in
    (none_taken rest old mid new all took.0 took.1 source is_eos, inr (took.2 ∙ lasts, ap₂ (λ b e. b ++ coming e (rest new.source)) took.1 ended, ended), took.2 ∙ same)
