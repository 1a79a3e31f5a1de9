-- What happened on the connection, each reported once: the peer's settings (RFC 9114, section 7.2.4) and its GOAWAY frames (section 5.2).
use Rattle.std.specs.Prelude.{◌≡◌, ◌==◌, ◌&&◌, ℕ, Bool, false, true, not, if◌then◌else◌, Option, Some, None, is_some}
use Rattle.h3_connection.specs.Endpoint.{EndpointHistory}
use Rattle.h3_connection.specs.Lasts.{last_id}
use Rattle.h3_connection.specs.ReadingContracts.{Shows}
use Rattle.h3_connection.specs.State.{EndpointState}
use Rattle.h3_session.specs.declared.endpoint.events.ConnectionEvent.{ConnectionEvent}
use Rattle.h3_session.specs.declared.endpoint.events.ConnectionEvent.TheVariants.{Settings, Goaway}
use Rattle.h3_session.specs.declared.endpoint.events.EventsSeen.{EventsSeen}

abbrev pub nothing_seen : EventsSeen
nothing_seen = record { settings = false; goaway = None }

-- this id was reported last
abbrev pub is_reported : Option ℕ → ℕ → Bool
is_reported None id = false
is_reported (Some earlier) id = earlier == id

-- the last GOAWAY, where another id was reported or none
abbrev pub goaway_unseen : Option ℕ → Option ℕ → Option ConnectionEvent
goaway_unseen reported None = None
goaway_unseen reported (Some id) = if is_reported reported id then None else Some (Goaway id)

-- what comes next, by whether the settings came and by the last GOAWAY
abbrev pub unseen : EventsSeen → Bool → Option ℕ → Option ConnectionEvent
unseen seen has_settings goaway = if has_settings && not seen.settings then Some Settings else goaway_unseen seen.goaway goaway

abbrev pub next_event : EndpointHistory → EventsSeen → Option ConnectionEvent
next_event e seen = unseen seen (is_some e.peer.settings) (last_id e.peer.goaways)

-- what was reported, this event among it
abbrev pub seen_after : EventsSeen → Option ConnectionEvent → EventsSeen
seen_after seen None = seen
seen_after seen (Some Settings) = record seen { settings = true }
seen_after seen (Some (Goaway id)) = record seen { goaway = Some id }

-- `next_event`
abbrev pub ReportsNext : EndpointState → (old new : EventsSeen) → Option ConnectionEvent → Type 0
ReportsNext s old new result = Shows (λ e. next_event e old) s result × (new ≡ seen_after old result)

-- One more was asked for.
abbrev pub asked_once : EndpointHistory → EventsSeen → EventsSeen
asked_once e seen = seen_after seen (next_event e seen)

-- All was reported: that the settings came, if they did, and the id of the last GOAWAY, if there is one.
pub record IsAllReported (e : EndpointHistory) (seen : EventsSeen) : Type 0 where
  pub settings : is_some e.peer.settings ≡ true → seen.settings ≡ true
  pub goaway : (id : ℕ) → last_id e.peer.goaways ≡ Some id → seen.goaway ≡ Some id
