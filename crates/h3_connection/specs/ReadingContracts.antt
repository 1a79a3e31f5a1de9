-- What each call that only reads promises: it takes no memory, and answers by every history that is stored.
use Rattle.std.specs.Prelude.{◌≡◌, ◌≤◌, ℕ, ◌++◌, Bool, List, [], length, Option}
use Rattle.h3_connection.specs.Bounds.{StandsBounded}
use Rattle.h3_connection.specs.Endpoint.{EndpointHistory, bytes_waiting}
use Rattle.h3_connection.specs.KeptGoaways.{keeps_last, kept_goaways}
use Rattle.h3_connection.specs.Shown.{has_outgoing, is_finished, is_reset, table_sizes, waiting_heads, block_tries, peer_limits, peer_setting}
use Rattle.h3_connection.specs.State.{EndpointState, StandsFor}
use Rattle.h3_connection.specs.declared.event.PeerLimits.{PeerLimits}
use Rattle.h3_connection.specs.declared.event.TableSizes.{TableSizes}

-- what is read is this of every history
abbrev pub Shows : {X : Type 0} → (EndpointHistory → X) → EndpointState → X → Type 0
Shows shown s result = (e : EndpointHistory) → StandsFor s e → result ≡ shown e

-- some bytes at the front, and none only where there are none
pub record IsSomeFront (front all : List ℕ) : Type 0 where
  pub rest : List ℕ
  pub all_is : all ≡ front ++ rest
  pub some : front ≡ [] → all ≡ []

-- `outgoing`
abbrev pub LendsOutgoing : EndpointState → ℕ → List ℕ → Type 0
LendsOutgoing s id lent = (e : EndpointHistory) → StandsFor s e → IsSomeFront lent (bytes_waiting e id)

-- `waiting`
abbrev pub ShowsWaiting : EndpointState → ℕ → ℕ → Type 0
ShowsWaiting s id result = Shows (λ e. length (bytes_waiting e id)) s result

-- `has_outgoing`, `is_finished` and `is_reset`
abbrev pub ShowsOutgoing : EndpointState → ℕ → Bool → Type 0
ShowsOutgoing s id result = Shows (λ e. has_outgoing e id) s result

abbrev pub ShowsFinished : EndpointState → ℕ → Bool → Type 0
ShowsFinished s id result = Shows (λ e. is_finished e id) s result

abbrev pub ShowsReset : EndpointState → ℕ → Bool → Type 0
ShowsReset s id result = Shows (λ e. is_reset e id) s result

-- `peer_settings`: the pairs of the SETTINGS frame that was read
abbrev pub ShowsSettings : EndpointState → Option (List (ℕ × ℕ)) → Type 0
ShowsSettings s result = Shows (λ e. e.peer.settings) s result

-- `peer_setting`
abbrev pub ShowsPeerSetting : EndpointState → ℕ → Option ℕ → Type 0
ShowsPeerSetting s id result = Shows (λ e. peer_setting e id) s result

-- `peer_goaways`: the ids of the GOAWAY frames that were read, in order; or the last one alone where a choice limits the ids that are kept
abbrev pub ShowsGoaways : EndpointState → List ℕ → Type 0
ShowsGoaways s result = Shows (λ e. kept_goaways (keeps_last e.announced.choices) e.peer.goaways) s result

-- `table_size`, `waiting_heads`, `sent` and `block_tries`
abbrev pub ShowsSizes : EndpointState → TableSizes → Type 0
ShowsSizes s result = Shows table_sizes s result

abbrev pub ShowsHeads : EndpointState → ℕ → Type 0
ShowsHeads s result = Shows waiting_heads s result

-- and these are no more than was announced (RFC 9204, section 2.1.2), of each endpoint that calls made: they keep `StandsBounded`
abbrev pub HeadsAreBounded : EndpointState → ℕ → Type 0
HeadsAreBounded s result = StandsBounded s → result ≤ s.announced.limits.blocked

abbrev pub ShowsSent : EndpointState → ℕ → Type 0
ShowsSent s result = Shows (λ e. e.sent) s result

abbrev pub ShowsTries : EndpointState → ℕ → ℕ → Type 0
ShowsTries s id result = Shows (λ e. block_tries e id) s result

-- at most two, of every endpoint
abbrev pub TriesAreBounded : ℕ → Type 0
TriesAreBounded result = result ≤ 2

-- the limits that the peer's settings set
abbrev pub ShowsLimits : EndpointState → Option PeerLimits → Type 0
ShowsLimits s result = Shows peer_limits s result
