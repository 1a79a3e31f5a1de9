-- An endpoint that got what is kept answers as the one behind, and stands before that as far as it did: a send, and bytes of the encoder stream.
use Rattle.std.proofs.Common.{◌≡◌, ℕ, ◌+◌, Bool, true, false, not, List, [], ◌∷◌, ◌++◌, length, refl, sym, ap, ◌∙◌, append_assoc, append-nil, if◌then◌else◌, Option, Some, None}
use Rattle.std.specs.Prelude.{map, ◌==◌, is_some, unwrap_or, option_map}
use Rattle.h3_connection.specs.declared.arrival.Arrival.{Arrival}
use Rattle.h3_connection.specs.Control.{Found, read_encoder}
use Rattle.h3_connection.specs.Endpoint.{EndpointHistory}
use Rattle.h3_connection.specs.Incoming.{Incoming}
use Rattle.h3_connection.specs.Outgoing.{Outgoing, nothing_sent, takes_body, with_body}
use Rattle.h3_connection.specs.StrictSending.{passes_content}
use Rattle.h3_connection.specs.declared.event.Malformation.TheVariants as malformation
use Rattle.h3_connection.specs.Refusals.{first_of}
use Rattle.h3_connection.specs.Sending.{does, closed_or, body_refusal, counted, sent_bytes, send_body}
use Rattle.h3_connection.specs.StreamSets.{Streams, stream_at, set_stream}
use Rattle.h3_connection.specs.declared.event.Refusal.{Refusal}
use Rattle.h3_connection.specs.declared.event.Refusal.TheVariants as refusal
use Rattle.h3_headline.specs.FlowLaws.{same_number}
use Rattle.h3_memory.specs.Kept.{Delivery}
use Rattle.h3_memory.specs.Keeping.{Held, ahead, bytes_in, handed_stream}

-- so much more of it was taken
abbrev pub further_taken : List Delivery → ℕ → Outgoing → Outgoing
further_taken mine id o = record o { taken = o.taken + bytes_in id mine }

pub at_mapped : (mine : List Delivery) (streams : Streams Outgoing) (id : ℕ) → stream_at (map (handed_stream mine) streams) id ≡ option_map (further_taken mine id) (stream_at streams id)
at_mapped mine [] id = refl
at_mapped mine ((q, o) ∷ streams) id = by_test (q == id) refl (at_mapped mine streams id)
  where
    by_test : (b : Bool) → (q == id) ≡ b → stream_at (map (handed_stream mine) streams) id ≡ option_map (further_taken mine id) (stream_at streams id)
        → (if b then Some (further_taken mine q o) else stream_at (map (handed_stream mine) streams) id) ≡ option_map (further_taken mine id) (if b then Some o else stream_at streams id)
    by_test true e rest = ap (λ i. Some (further_taken mine i o)) (same_number q id e)
    by_test false e rest = rest

pub set_mapped : (mine : List Delivery) (streams : Streams Outgoing) (id : ℕ) (o : Outgoing) → set_stream (map (handed_stream mine) streams) id (further_taken mine id o) ≡ map (handed_stream mine) (set_stream streams id o)
set_mapped mine [] id o = refl
set_mapped mine ((q, p) ∷ streams) id o = by_test (q == id) (set_mapped mine streams id o)
  where
    by_test : (b : Bool) → set_stream (map (handed_stream mine) streams) id (further_taken mine id o) ≡ map (handed_stream mine) (set_stream streams id o)
        → (if b then (id, further_taken mine id o) ∷ map (handed_stream mine) streams else (q, further_taken mine q p) ∷ set_stream (map (handed_stream mine) streams) id (further_taken mine id o))
        ≡ map (handed_stream mine) (if b then (id, o) ∷ streams else (q, p) ∷ set_stream streams id o)
    by_test true rest = refl
    by_test false rest = ap (λ l. (q, further_taken mine q p) ∷ l) rest

module _ (mine : List Delivery) (held : Held) (incoming : Streams Incoming) (kept : List Arrival) where
  abbrev lifted : Option Refusal × EndpointHistory → Option Refusal × EndpointHistory
  lifted x = (x.0, ahead x.1 mine held incoming kept)

  -- **A body.**
  pub body_ahead : (behind : EndpointHistory) (id : ℕ) (bytes : List ℕ) → send_body (ahead behind mine held incoming kept) id bytes ≡ lifted (send_body behind id bytes)
  body_ahead behind id bytes = ap (λ r. does r f (counted (sent_bytes f id bytes) (length bytes))) same ∙ by_refusal (body_refusal behind id (length bytes)) refl
    where
      f : EndpointHistory
      f = ahead behind mine held incoming kept

      judged : Option Outgoing → Option Refusal
      judged o = closed_or behind.closed (first_of ((not (is_some o), refusal.NotOpen) ∷ (not (takes_body (unwrap_or o nothing_sent)), refusal.OutOfOrder) ∷ (passes_content (unwrap_or o nothing_sent).content (length bytes), refusal.Malformed malformation.ContentLength) ∷ []))

      same : body_refusal f id (length bytes) ≡ body_refusal behind id (length bytes)
      same = ap judged (at_mapped mine behind.outgoing id) ∙ by_stream (stream_at behind.outgoing id)
        where
          by_stream : (o : Option Outgoing) → judged (option_map (further_taken mine id) o) ≡ judged o
          by_stream None = refl
          by_stream (Some o) = refl

      goes : (bytes : List ℕ) (o : Option Outgoing) → stream_at behind.outgoing id ≡ o → is_some o ≡ true → counted (sent_bytes f id bytes) (length bytes) ≡ ahead (counted (sent_bytes behind id bytes) (length bytes)) mine held incoming kept
      goes [] o e there_is = refl
      goes (byte ∷ more) None e there_is = cc
      goes (byte ∷ more) (Some o) e there_is =
          let there : stream_at f.outgoing id ≡ Some (further_taken mine id o) = at_mapped mine behind.outgoing id ∙ ap (option_map (further_taken mine id)) e in
          let g : Outgoing = with_body o (byte ∷ more) in
          ap (λ x. counted (record f { outgoing = set_stream f.outgoing id (with_body (unwrap_or x nothing_sent) (byte ∷ more)) }) (length (byte ∷ more))) there
          ∙ ap (λ l. counted (record f { outgoing = l }) (length (byte ∷ more))) (set_mapped mine behind.outgoing id g)
          ∙ sym (ap (λ x. ahead (counted (record behind { outgoing = set_stream behind.outgoing id (with_body (unwrap_or x nothing_sent) (byte ∷ more)) }) (length (byte ∷ more))) mine held incoming kept) e)

      open_if : (o : Option Outgoing) → judged o ≡ None → is_some o ≡ true
      open_if (Some o) e = refl
      open_if None e = absurd (by_closed behind.closed e)
        where
          by_closed : (c : Option ℕ) → closed_or c (Some refusal.NotOpen) ≡ None → ⊥
          by_closed None e = cc
          by_closed (Some code) e = cc

      by_refusal : (r : Option Refusal) → body_refusal behind id (length bytes) ≡ r
          → does r f (counted (sent_bytes f id bytes) (length bytes)) ≡ lifted (does r behind (counted (sent_bytes behind id bytes) (length bytes)))
      by_refusal (Some x) e = refl
      by_refusal None e = ap (λ x. (None, x)) (goes bytes (stream_at behind.outgoing id) refl (open_if (stream_at behind.outgoing id) e))

-- **Bytes of the encoder stream: those that its reader holds come first.**
abbrev lifted_found : List Delivery → Held → Streams Incoming → List Arrival → Found → Found
lifted_found mine held incoming kept x = (ahead x.0 mine held incoming kept, x.1)

pub encoder_ahead : (mine : List Delivery) (held : Held) (incoming : Streams Incoming) (kept : List Arrival) (behind : EndpointHistory) (bytes : List ℕ)
    → read_encoder (ahead behind mine held incoming kept) bytes ≡ lifted_found mine (record held { encoder = [] }) incoming kept (read_encoder behind (held.encoder ++ bytes))
encoder_ahead mine held incoming kept behind bytes =
    ap (λ all. read_all all) (append_assoc behind.decoding.unread held.encoder bytes)
    ∙ ap (λ left. (record (lifted_found mine (record held { encoder = [] }) incoming kept (read_encoder behind (held.encoder ++ bytes))).0 { decoding = record (read_encoder behind (held.encoder ++ bytes)).0.decoding { unread = left } }, (read_encoder behind (held.encoder ++ bytes)).1))
    (sym (append-nil (read_encoder behind (held.encoder ++ bytes)).0.decoding.unread))
  where
    f : EndpointHistory
    f = ahead behind mine held incoming kept

    read_all : List ℕ → Found
    read_all all = read_encoder (record f { decoding = record f.decoding { unread = [] } }) all
