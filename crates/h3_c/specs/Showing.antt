-- What C reads of an endpoint.
use Rattle.std.specs.Prelude.{◌≡◌, ℕ, length, Option, Some, None}
use Rattle.h3_connection.specs.Endpoint.{EndpointHistory, bytes_waiting}
use Rattle.h3_connection.specs.Lasts.{last_id}
use Rattle.h3_connection.specs.Shown.{has_outgoing, is_finished, is_reset, peer_limits, table_sizes, waiting_heads, block_tries, peer_setting}
use Rattle.h3_connection.specs.State.{StandsFor}
use Rattle.h3_connection.specs.Unread.{unread, counted}
use Rattle.h3_connection.specs.declared.event.PeerLimits.{PeerLimits}
use Rattle.h3_c.specs.declared.numbers.Told.{Told}
use Rattle.h3_c.specs.declared.state.ConnectionState.{ConnectionState}
use Rattle.h3_c.specs.declared.state.StreamState.{StreamState}
use Rattle.h3_c.specs.Bits.{bit}
use Rattle.h3_c.specs.Numbers.{ok, none}
use Rattle.h3_c.specs.Seen.{Seen}

-- `h3_stream_state`
pub record IsStream (e : EndpointHistory) (id : ℕ) (s : StreamState) : Type 0 where
  pub waiting : s.waiting ≡ length (bytes_waiting e id)
  pub unread : s.unread ≡ counted (unread e id)
  pub has_outgoing : s.has_outgoing ≡ bit (has_outgoing e id)
  pub is_finished : s.is_finished ≡ bit (is_finished e id)
  pub is_reset : s.is_reset ≡ bit (is_reset e id)
  pub tries : s.tries ≡ block_tries e id

abbrev pub ShowsStream : Seen → ℕ → StreamState → Type 0
ShowsStream v id s = (e : EndpointHistory) → StandsFor v.endpoint e → IsStream e id s

abbrev pub IsLast : Option ℕ → ConnectionState → Type 0
IsLast None s = s.has_goaway ≡ 0
IsLast (Some id) s = (s.has_goaway ≡ 1) × (s.goaway ≡ id)

abbrev pub AreLimits : Option PeerLimits → ConnectionState → Type 0
AreLimits None s = s.has_settings ≡ 0
AreLimits (Some l) s = (s.has_settings ≡ 1) × (s.peer_table ≡ l.capacity) × (s.peer_blocked ≡ l.blocked) × (s.peer_section ≡ l.section)

-- `h3_state`
pub record IsConnection (e : EndpointHistory) (s : ConnectionState) : Type 0 where
  pub sending_table : s.sending_table ≡ (table_sizes e).sending
  pub receiving_table : s.receiving_table ≡ (table_sizes e).receiving
  pub waiting_heads : s.waiting_heads ≡ waiting_heads e
  pub sent : s.sent ≡ e.sent
  pub goaway : IsLast (last_id e.peer.goaways) s
  pub limits : AreLimits (peer_limits e) s

abbrev pub ShowsConnection : Seen → ConnectionState → Type 0
ShowsConnection v s = (e : EndpointHistory) → StandsFor v.endpoint e → IsConnection e s

-- the value of a setting, where the peer announced it
abbrev pub IsValue : Option ℕ → Told → ℕ → ℕ → Type 0
IsValue None n before after = (n ≡ none) × (after ≡ before)
IsValue (Some announced) n before after = (n ≡ ok) × (after ≡ announced)

abbrev pub ShowsSetting : Seen → ℕ → Told → ℕ → ℕ → Type 0
ShowsSetting v id n before after = (e : EndpointHistory) → StandsFor v.endpoint e → IsValue (peer_setting e id) n before after
