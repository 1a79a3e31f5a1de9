-- A stream is told to be one of the connection's: its reader has read nothing, and reads nothing of no bytes.
use Rattle.std.proofs.Common.{◌≡◌, ℕ, ◌-◌, Bool, true, false, if◌then◌else◌, List, [], ◌++◌, append-nil, flat_map, Option, Some, None, refl, ap, sym, subst, ◌∙◌, arith}
use Rattle.std.specs.Prelude.{is_some}
use Rattle.h3_qpack.specs.Hearing.{Heard, heard}
use Rattle.h3_field.specs.Instruction.{decoder_bytes}
use Rattle.h3_connection.specs.Control.{Found, read_control, read_encoder, read_decoder, listened_to, kept_unread, taken_peer, if_learned, then_decoder, increment}
use Rattle.h3_connection.specs.Endpoint.{EndpointHistory, limit_of, replied}
use Rattle.h3_connection.specs.ExcessiveInstructions.{hear_up_to, listen_up_to}
use Rattle.h3_connection.specs.KeptGoaways.{keeps_last, kept_peer}
use Rattle.h3_connection.specs.Listeners.{Decoding, Encoding, hearing_fault, heard_more, after_hearing, insertions_heard}
use Rattle.h3_connection.specs.LimitedHearingLaws.{hears_nothing}
use Rattle.h3_connection.specs.LimitedListeningLaws.{listens_nothing}
use Rattle.h3_connection.specs.PeerReading.{with_unread, read_peer}
use Rattle.h3_connection.specs.State.{EndpointState, StandsFor, IsToldPeer}
use Rattle.h3_streams.proofs.PlacedLaws.{stands_control, stands_encoder, stands_decoder}
use Rattle.h3_streams.specs.Placed.{StreamsState, placed}
use Rattle.h3_connection.specs.PeerReadingLaws.{nothing_read_on}
use Rattle.h3_connection.specs.StrictConnection.{is_strict, kinds_of, stream_fault}
use Rattle.h3_connection.specs.StrictConnectionLaws.{nothing_told, nothing_held}
use Rattle.h3_connection.specs.Codes.{encoder_stream_error, decoder_stream_error}

-- A reading of no bytes finds no fault, and what is stored stands for the endpoint after it.
pub record Begins (s : EndpointState) (x : StreamsState) (found : Found) : Type 0 where
  pub new : EndpointHistory
  pub is : found ≡ (new, None)
  pub stands : StandsFor (placed s x) new

-- Settings that were known, or are not known, do nothing.
pub then_same : (o : Option (List (ℕ × ℕ))) (e : EndpointHistory) (fault : Option ℕ) → then_decoder o o (if_learned o o e) fault ≡ (e, fault)
then_same None e None = refl
then_same None e (Some code) = refl
then_same (Some pairs) e None = refl
then_same (Some pairs) e (Some code) = refl

pub none_behind : (bytes : List ℕ) → bytes ≡ [] → bytes ++ [] ≡ []
none_behind bytes e = append-nil bytes ∙ e

pub control_begins : (s : EndpointState) (x : StreamsState) (e : EndpointHistory) (id : ℕ) → StandsFor (placed s x) e → IsToldPeer e.side e.unidirectional id → e.control_on ≡ None
    → Begins s (record x { control_on = Some id }) (read_control (record e { control_on = Some id }) [])
control_begins s x e id h told none =
    let nothing = h.reached.control none in
    let p = with_unread e.peer [] in
    let f = record e { control_on = Some id } in
    let read : read_peer (kinds_of e.announced) (limit_of e) e.side (with_unread e.peer (e.peer.unread ++ [])) ≡ (p, None) = ap (λ l. read_peer (kinds_of e.announced) (limit_of e) e.side (with_unread e.peer l)) (none_behind e.peer.unread nothing) ∙ nothing_read_on (kinds_of e.announced) (limit_of e) e.side e.peer in
    let same : x.peer ≡ kept_peer (keeps_last e.announced.choices) p = h.peer ∙ ap (λ l. kept_peer (keeps_last e.announced.choices) (with_unread e.peer l)) nothing in
    let new = record e { control_on = Some id; peer = p } in
    record {
      new = new;
      is = nothing_held f nothing ∙ ap (taken_peer f) read ∙ then_same e.peer.settings new None;
      stands = subst (λ q. StandsFor (placed s (record x { control_on = Some id; peer = q })) new) (sym same) (stands_control s x e id p h told (λ unknown. unknown));
    }

no_increment : (n : ℕ) (bytes : List ℕ) → bytes ++ flat_map decoder_bytes (increment (n - n)) ≡ bytes
no_increment n bytes = let zero : n - n ≡ 0 = omega arith in ap (λ k. bytes ++ flat_map decoder_bytes (increment k)) zero ∙ append-nil bytes

pub encoder_begins : (s : EndpointState) (x : StreamsState) (e : EndpointHistory) (id : ℕ) → StandsFor (placed s x) e → IsToldPeer e.side e.unidirectional id → e.encoder_on ≡ None
    → Begins s (record x { encoder_on = Some id }) (read_encoder (record e { encoder_on = Some id }) [])
encoder_begins s x e id h told none =
    let nothing = h.reached.encoder none in
    let f = record e { encoder_on = Some id } in
    let n = e.decoding.decoder.table.inserted in
    let d : Decoding = record { decoder = e.decoding.decoder; unread = [] } in
    let read : heard_more (limit_of e) e.decoding [] ≡ heard e.decoding.decoder [] false = ap (hear_up_to (limit_of e) e.decoding.decoder) (none_behind e.decoding.unread nothing) ∙ hears_nothing (limit_of e) e.decoding.decoder in
    let same : x.decoding ≡ d = h.decoding ∙ ap (λ l. record e.decoding { unread = l }) nothing in
    let new = replied (record e { encoder_on = Some id; decoding = d }) (increment (n - n)) in
    let there = stands_encoder s x e id d (increment (n - n)) h told in
    record {
      new = new;
      is = ap (λ (k : Heard). (replied (record f { decoding = after_hearing k }) (increment (insertions_heard f.decoding k)), stream_fault (is_strict e.announced) encoder_stream_error (hearing_fault (limit_of e) k))) read
          ∙ ap (λ fault. (new, fault)) (nothing_told (is_strict e.announced) encoder_stream_error);
      stands = subst (λ q. StandsFor (placed s (record x { encoder_on = Some id; decoding = q })) new) (sym same)
          (subst (λ l. StandsFor (placed s (record x { encoder_on = Some id; decoding = d; own = record x.own { decoder = l } })) new) (no_increment n x.own.decoder) there);
    }

listened_nothing : (e : EndpointHistory) (b : Bool) (l : List ℕ) → l ≡ [] → (if b then listened_to e (listen_up_to (limit_of e) e.encoder l) else kept_unread e l) ≡ (record e { decoder_unread = [] }, None)
listened_nothing e true l is =
    ap (λ k. listened_to e (listen_up_to (limit_of e) e.encoder k)) is ∙ ap (λ k. listened_to e k) (listens_nothing (limit_of e) e.encoder)
    ∙ ap (λ fault. (record e { decoder_unread = [] }, fault)) (nothing_told (is_strict e.announced) decoder_stream_error)
listened_nothing e false l is = ap (kept_unread e) is

pub decoder_begins : (s : EndpointState) (x : StreamsState) (e : EndpointHistory) (id : ℕ) → StandsFor (placed s x) e → IsToldPeer e.side e.unidirectional id → e.decoder_on ≡ None
    → Begins s (record x { decoder_on = Some id }) (read_decoder (record e { decoder_on = Some id }) [])
decoder_begins s x e id h told none =
    let nothing = h.reached.decoder none in
    let f = record e { decoder_on = Some id } in
    let n : Encoding = record { encoder = x.encoding.encoder; unread = [] } in
    let same : x.encoding ≡ n = ap (λ l. record x.encoding { unread = l }) (h.decoder_unread ∙ nothing) in
    let new = record e { decoder_on = Some id; encoder = e.encoder; decoder_unread = [] } in
    record {
      new = new;
      is = listened_nothing f (is_some e.peer.settings) (e.decoder_unread ++ []) (none_behind e.decoder_unread nothing);
      stands = subst (λ q. StandsFor (placed s (record x { decoder_on = Some id; encoding = q })) new) (sym same) (stands_decoder s x e id n e.encoder h told h.encoder h.reached.unlearned);
    }
