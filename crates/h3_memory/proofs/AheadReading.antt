-- What comes on a control or decoder stream, and on a request stream, is read by an endpoint that is ahead as by the one behind.
use Rattle.std.proofs.Common.{◌≡◌, ℕ, Bool, true, false, List, [], ◌++◌, refl, sym, ap, ◌∙◌, append_assoc, append-nil, if◌then◌else◌, Option, Some, None}
use Rattle.std.specs.Prelude.{is_some}
use Rattle.h3_connection.specs.declared.arrival.Arrival.{Arrival}
use Rattle.h3_connection.specs.Codes.{missing_settings, settings_error}
use Rattle.h3_connection.specs.Control.{Found, after_peer, are_refused, holding, if_learned, is_table_usable, kept_unread, lacks_settings, learned, listened_to, read_control, read_decoder, read_held, settings_alone, taken_peer, then_decoder, with_table}
use Rattle.h3_connection.specs.Endpoint.{EndpointHistory, limit_of}
use Rattle.h3_connection.specs.ExcessiveInstructions.{listen_up_to}
use Rattle.h3_connection.specs.Incoming.{Incoming}
use Rattle.h3_connection.specs.PeerReading.{Peer, PeerFound, with_unread, read_peer}
use Rattle.h3_connection.specs.StreamSets.{Streams}
use Rattle.h3_connection.specs.StrictConnectionLaws.{refused_alike}
use Rattle.h3_memory.specs.Kept.{Delivery}
use Rattle.h3_memory.specs.Keeping.{Held, ahead}
use Rattle.h3_connection.specs.StrictConnection.{kinds_of}

module _ (mine : List Delivery) (incoming : Streams Incoming) (kept : List Arrival) where
  abbrev over : Held → Found → Found
  over held x = (ahead x.0 mine held incoming kept, x.1)

  -- **The decoder stream, once the settings are known, or before.**
  pub decoder_ahead : (held : Held) (behind : EndpointHistory) (bytes : List ℕ)
      → read_decoder (ahead behind mine held incoming kept) bytes ≡ over (record held { decoder = [] }) (read_decoder behind (held.decoder ++ bytes))
  decoder_ahead held behind bytes = by_settings (is_some behind.peer.settings)
    where
      f : EndpointHistory
      f = ahead behind mine held incoming kept

      all : List ℕ
      all = behind.decoder_unread ++ (held.decoder ++ bytes)

      same : f.decoder_unread ++ bytes ≡ all
      same = append_assoc behind.decoder_unread held.decoder bytes

      left_with_none : (e : EndpointHistory) (left : List ℕ) (code : Option ℕ) → ◌≡◌ {A = Found} (record (ahead e mine held incoming kept) { decoder_unread = left }, code) (ahead (record e { decoder_unread = left }) mine (record held { decoder = [] }) incoming kept, code)
      left_with_none e left code = ap (λ l. (record (ahead e mine held incoming kept) { decoder_unread = l }, code)) (sym (append-nil left))

      by_settings : (b : Bool) → (if b then listened_to f (listen_up_to (limit_of behind) behind.encoder (f.decoder_unread ++ bytes)) else kept_unread f (f.decoder_unread ++ bytes))
          ≡ over (record held { decoder = [] }) (if b then listened_to behind (listen_up_to (limit_of behind) behind.encoder all) else kept_unread behind all)
      by_settings true =
          let l = listen_up_to (limit_of behind) behind.encoder all in
          ap (λ l. listened_to f (listen_up_to (limit_of behind) behind.encoder l)) same
          ∙ left_with_none (listened_to behind l).0 l.left (listened_to behind l).1
      by_settings false = ap (kept_unread f) same ∙ left_with_none behind all None

  -- What settings that come now do: nothing of the decoder stream is held then.
  none_held : Held → Held
  none_held held = record held { control = []; decoder = [] }

  pub learned_ahead : (held : Held) (behind : EndpointHistory) (pairs : List (ℕ × ℕ)) → learned (ahead behind mine held incoming kept) pairs ≡ ahead (learned behind pairs) mine held incoming kept
  learned_ahead held behind pairs = by_test (is_table_usable behind.encoder.most_capacity capacity blocked)
    where
      capacity : ℕ
      capacity = Rattle.std.specs.Prelude.unwrap_or (Rattle.h3_proto.specs.Settings.value_of 1 pairs) 0

      blocked : ℕ
      blocked = Rattle.std.specs.Prelude.unwrap_or (Rattle.h3_proto.specs.Settings.value_of 7 pairs) 0

      by_test : (b : Bool) → (if b then with_table (ahead behind mine held incoming kept) capacity blocked else ahead behind mine held incoming kept)
          ≡ ahead (if b then with_table behind capacity blocked else behind) mine held incoming kept
      by_test true = refl
      by_test false = refl

  peer_with_none : (e : EndpointHistory) (held : Held) (p : Peer) → record (ahead e mine held incoming kept) { peer = p } ≡ ahead (record e { peer = p }) mine (record held { control = [] }) incoming kept
  peer_with_none e held p = ap (λ l. record (ahead e mine held incoming kept) { peer = with_unread p l }) (sym (append-nil p.unread))

  -- **The control stream. Before the settings nothing is held of the decoder stream.**
  pub control_ahead : (held : Held) (behind : EndpointHistory) (bytes : List ℕ) → (behind.peer.settings ≡ None → held.decoder ≡ [])
      → read_control (ahead behind mine held incoming kept) bytes ≡ over (record held { control = [] }) (read_control behind (held.control ++ bytes))
  control_ahead held behind bytes none =
      ap (λ l. read_held (record f { peer = with_unread behind.peer l })) (append_assoc behind.peer.unread held.control bytes)
      ∙ by_missing (lacks_settings all)
    where
      f : EndpointHistory
      f = ahead behind mine held incoming kept

      all : EndpointHistory
      all = holding behind (held.control ++ bytes)

      found : PeerFound
      found = read_peer (kinds_of behind.announced) (limit_of behind) behind.side all.peer

      held_then : Held
      held_then = record held { control = [] }

      -- nothing was held
      no_decoder : held.decoder ≡ [] → (e : EndpointHistory) → read_decoder (ahead e mine held_then incoming kept) [] ≡ over held_then (read_decoder e [])
      no_decoder none e =
          decoder_ahead held_then e [] ∙ ap (λ l. over (record held_then { decoder = [] }) (read_decoder e (l ++ []))) none
          ∙ ap (λ l. over (record held_then { decoder = l }) (read_decoder e [])) (sym none)

      taken_ahead : (x : PeerFound) → taken_peer f x ≡ over held_then (taken_peer behind x)
      taken_ahead (p, code) = by_settings behind.peer.settings refl p.settings code
        where
          by_settings : (before : Option (List (ℕ × ℕ))) → behind.peer.settings ≡ before → (after : Option (List (ℕ × ℕ))) (code : Option ℕ)
              → then_decoder before after (if_learned before after (record f { peer = p })) code ≡ over held_then (then_decoder before after (if_learned before after (record behind { peer = p })) code)
          by_settings None unknown (Some pairs) (Some code) = ap (λ e. (e, Some code)) (ap (λ e. learned e pairs) (peer_with_none behind held p) ∙ learned_ahead held_then (record behind { peer = p }) pairs)
          by_settings None unknown (Some pairs) None =
              ap (λ e. read_decoder (learned e pairs) []) (peer_with_none behind held p) ∙ ap (λ e. read_decoder e []) (learned_ahead held_then (record behind { peer = p }) pairs)
              ∙ no_decoder (none unknown) (learned (record behind { peer = p }) pairs)
          by_settings None unknown None (Some code) = ap (λ e. (e, Some code)) (peer_with_none behind held p)
          by_settings None unknown None None = ap (λ e. (e, None)) (peer_with_none behind held p)
          by_settings (Some old) known None (Some code) = ap (λ e. (e, Some code)) (peer_with_none behind held p)
          by_settings (Some old) known None None = ap (λ e. (e, None)) (peer_with_none behind held p)
          by_settings (Some old) known (Some new) (Some code) = ap (λ e. (e, Some code)) (peer_with_none behind held p)
          by_settings (Some old) known (Some new) None = ap (λ e. (e, None)) (peer_with_none behind held p)

      -- settings that are not taken, and a stream that begins with another frame
      by_refused : (b : Bool) → if◌then◌else◌ {A = Found} b (record f { peer = settings_alone all.peer found.0.settings }, Some settings_error) (taken_peer f found)
          ≡ over held_then (if◌then◌else◌ {A = Found} b (record behind { peer = settings_alone all.peer found.0.settings }, Some settings_error) (taken_peer behind found))
      by_refused true = ap (λ e. (e, Some settings_error)) (peer_with_none behind held (settings_alone all.peer found.0.settings))
      by_refused false = taken_ahead found

      by_missing : (b : Bool) → if◌then◌else◌ {A = Found} b (record f { peer = all.peer }, Some missing_settings) (after_peer (record f { peer = all.peer }) found)
          ≡ over held_then (if◌then◌else◌ {A = Found} b (all, Some missing_settings) (after_peer all found))
      by_missing true = ap (λ e. (e, Some missing_settings)) (peer_with_none behind held all.peer)
      by_missing false =
          ap (λ b. if◌then◌else◌ {A = Found} b (record f { peer = settings_alone all.peer found.0.settings }, Some settings_error) (taken_peer f found))
          (refused_alike (record f { peer = all.peer }) all behind.peer.settings found.0.settings refl refl)
          ∙ by_refused (are_refused all behind.peer.settings found.0.settings)
