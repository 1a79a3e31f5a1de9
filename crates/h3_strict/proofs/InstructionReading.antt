-- What comes of an encoder or a decoder is too long for its reader, or it is read alike without a limit.
use Rattle.std.proofs.Common.{◌≡◌, ℕ, Bool, true, false, List, refl, sym, ap, ◌∙◌, inl, inr, Some}
use Rattle.h3_proto.specs.Config.{is_limit}
use Rattle.h3_qpack.specs.DecoderState.{DecoderState}
use Rattle.h3_qpack.specs.EncoderHistory.{EncoderHistory}
use Rattle.h3_qpack.specs.Hearing.{Heard, Listened, hear, listen}
use Rattle.h3_connection.specs.Codes.{decoder_stream_error, encoder_stream_error, excessive_load}
use Rattle.h3_connection.specs.ExcessiveInstructions.{hear_up_to, listen_up_to}
use Rattle.h3_connection.specs.LimitedHearingLaws.{hear_alike, hear_unlimited, hearing_unlimited}
use Rattle.h3_connection.specs.LimitedListeningLaws.{listen_alike, listen_unlimited, listening_unlimited}
use Rattle.h3_connection.specs.LimitedReading.{IsLongerOrHeard, IsLongerOrListened}
use Rattle.h3_connection.specs.Listeners.{fault_if, hearing_fault, listening_fault}
use Rattle.h3_headline.specs.PeerStreams.{no_limit}

-- the encoder stream
module _ (most : ℕ) (r : DecoderState) (bytes : List ℕ) where
  abbrev pub heard_here : Heard
  heard_here = hear_up_to most r bytes

  pub data HearsAlike : Type 0 where
    HearsLong : is_limit most ≡ true → hearing_fault most heard_here ≡ Some excessive_load → HearsAlike
    HearsSame : hear_up_to no_limit r bytes ≡ heard_here → hearing_fault no_limit heard_here ≡ hearing_fault most heard_here → HearsAlike

  pub hears_alike : HearsAlike
  hears_alike = by_limit (is_limit most) refl (hear_alike most r bytes)
    where
      by_limit : (b : Bool) → is_limit most ≡ b → IsLongerOrHeard most heard_here (hear r bytes) → HearsAlike
      by_limit true limit (inl longer) = HearsLong limit longer
      by_limit false none (inl longer) =
          HearsSame (hear_unlimited no_limit r bytes refl ∙ sym (hear_unlimited most r bytes none)) (hearing_unlimited no_limit heard_here refl ∙ sym (hearing_unlimited most heard_here none))
      by_limit b limit (inr (same, fault)) =
          HearsSame (hear_unlimited no_limit r bytes refl ∙ sym same) (hearing_unlimited no_limit heard_here refl ∙ ap (λ (h : Heard). fault_if h.is_bad encoder_stream_error) same ∙ sym fault)

-- the decoder stream
module _ (most : ℕ) (s : EncoderHistory) (bytes : List ℕ) where
  abbrev pub listened_here : Listened
  listened_here = listen_up_to most s bytes

  pub data ListensAlike : Type 0 where
    ListensLong : is_limit most ≡ true → listening_fault most listened_here ≡ Some excessive_load → ListensAlike
    ListensSame : listen_up_to no_limit s bytes ≡ listened_here → listening_fault no_limit listened_here ≡ listening_fault most listened_here → ListensAlike

  pub listens_alike : ListensAlike
  listens_alike = by_limit (is_limit most) refl (listen_alike most s bytes)
    where
      by_limit : (b : Bool) → is_limit most ≡ b → IsLongerOrListened most listened_here (listen s bytes) → ListensAlike
      by_limit true limit (inl longer) = ListensLong limit longer
      by_limit false none (inl longer) =
          ListensSame (listen_unlimited no_limit s bytes refl ∙ sym (listen_unlimited most s bytes none)) (listening_unlimited no_limit listened_here refl ∙ sym (listening_unlimited most listened_here none))
      by_limit b limit (inr (same, fault)) =
          ListensSame (listen_unlimited no_limit s bytes refl ∙ sym same) (listening_unlimited no_limit listened_here refl ∙ ap (λ (l : Listened). fault_if l.is_bad decoder_stream_error) same ∙ sym fault)
