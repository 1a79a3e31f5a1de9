-- What an endpoint without a limit makes of the peer's encoder and decoder streams: nothing there is too long.
use Rattle.std.proofs.Common.{◌≡◌, ℕ, Bool, true, false, if◌then◌else◌, List, ◌++◌, Option, None, refl, ap, ◌∙◌}
use Rattle.std.specs.Prelude.{is_some}
use Rattle.h3_proto.specs.Config.{is_limit}
use Rattle.h3_qpack.specs.Hearing.{hear, listen}
use Rattle.h3_connection.specs.Control.{increment, read_encoder, listened_to, kept_unread, read_decoder}
use Rattle.h3_connection.specs.Endpoint.{EndpointHistory, limit_of, replied}
use Rattle.h3_connection.specs.ExcessiveInstructions.{listen_up_to}
use Rattle.h3_connection.specs.LimitedHearingLaws.{hear_unlimited, hearing_unlimited}
use Rattle.h3_connection.specs.LimitedListeningLaws.{listen_unlimited, listening_unlimited}
use Rattle.h3_connection.specs.LimitedReading.{heard_whole, listened_whole}
use Rattle.h3_connection.specs.Codes.{decoder_stream_error, encoder_stream_error}
use Rattle.h3_connection.specs.Listeners.{fault_if, hearing_fault, listening_fault, after_hearing, insertions_heard}
use Rattle.h3_connection.specs.StrictConnection.{is_strict, stream_fault}

-- a fault of the stream is told as such by any endpoint
pub own_fault : (strict : Bool) (code : ℕ) (bad : Bool) → stream_fault strict code (fault_if bad code) ≡ fault_if bad code
own_fault true code true = refl
own_fault true code false = refl
own_fault false code bad = refl

pub encoder_unlimited : (e : EndpointHistory) (bytes : List ℕ) → is_limit (limit_of e) ≡ false → read_encoder e bytes ≡ heard_whole e (hear e.decoding.decoder (e.decoding.unread ++ bytes))
encoder_unlimited e bytes none =
    let h = hear e.decoding.decoder (e.decoding.unread ++ bytes) in
    let told : Option ℕ → Option ℕ = stream_fault (is_strict e.announced) encoder_stream_error in
    ap (λ x. (replied (record e { decoding = after_hearing x }) (increment (insertions_heard e.decoding x)), told (hearing_fault (limit_of e) x))) (hear_unlimited (limit_of e) e.decoding.decoder (e.decoding.unread ++ bytes) none)
    ∙ ap (λ fault. (replied (record e { decoding = after_hearing h }) (increment (insertions_heard e.decoding h)), fault)) (ap told (hearing_unlimited (limit_of e) h none) ∙ own_fault (is_strict e.announced) encoder_stream_error h.is_bad)

-- the decoder stream, where the settings came
pub decoder_unlimited : (e : EndpointHistory) (bytes : List ℕ) → is_limit (limit_of e) ≡ false → is_some e.peer.settings ≡ true → read_decoder e bytes ≡ listened_whole e (listen e.encoder (e.decoder_unread ++ bytes))
decoder_unlimited e bytes none came =
    let l = listen e.encoder (e.decoder_unread ++ bytes) in
    ap (λ b. if b then listened_to e (listen_up_to (limit_of e) e.encoder (e.decoder_unread ++ bytes)) else kept_unread e (e.decoder_unread ++ bytes)) came
    ∙ ap (listened_to e) (listen_unlimited (limit_of e) e.encoder (e.decoder_unread ++ bytes) none)
    ∙ ap (λ fault. (record e { encoder = l.encoder; decoder_unread = l.left }, fault))
    (ap (stream_fault (is_strict e.announced) decoder_stream_error) (listening_unlimited (limit_of e) l none) ∙ own_fault (is_strict e.announced) decoder_stream_error l.is_bad)

-- and where they did not, as with a limit
pub decoder_kept : (e : EndpointHistory) (bytes : List ℕ) → is_some e.peer.settings ≡ false → read_decoder e bytes ≡ (record e { decoder_unread = e.decoder_unread ++ bytes }, None)
decoder_kept e bytes waits =
    ap (λ b. if b then listened_to e (listen_up_to (limit_of e) e.encoder (e.decoder_unread ++ bytes)) else kept_unread e (e.decoder_unread ++ bytes)) waits
