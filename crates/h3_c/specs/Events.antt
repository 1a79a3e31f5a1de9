-- What the export promises that reports what happened on the connection.
use Rattle.std.specs.Prelude.{◌≡◌, ℕ, Option, Some, None}
use Rattle.h3_session.specs.Events.{ReportsNext}
use Rattle.h3_session.specs.declared.endpoint.events.ConnectionEvent.{ConnectionEvent}
use Rattle.h3_session.specs.declared.endpoint.events.ConnectionEvent.TheVariants.{Settings, Goaway}
use Rattle.h3_c.specs.declared.numbers.Told.{Told}
use Rattle.h3_c.specs.Numbers.{ok, none}
use Rattle.h3_c.specs.Seen.{Seen}

-- `enum h3_event` of the header
abbrev pub event_kind : ConnectionEvent → ℕ
event_kind Settings = 1
event_kind (Goaway id) = 2

-- the id that a GOAWAY names
abbrev pub event_number : ConnectionEvent → ℕ
event_number Settings = 0
event_number (Goaway id) = id

-- where nothing is left to be reported, nothing is written
abbrev pub GivesEvent : Option ConnectionEvent → Told → (kind_before kind number_before number : ℕ) → Type 0
GivesEvent None n kind_before kind number_before number = (n ≡ none) × (kind ≡ kind_before) × (number ≡ number_before)
GivesEvent (Some event) n kind_before kind number_before number = (n ≡ ok) × (kind ≡ event_kind event) × (number ≡ event_number event)

-- `h3_next_event`: nothing changes but what was reported
pub record ReportsEvent (v w : Seen) (n : Told) (kind_before kind number_before number : ℕ) : Type 0 where
  pub answer : Option ConnectionEvent
  pub next : ReportsNext v.endpoint v.events w.events answer
  pub given : GivesEvent answer n kind_before kind number_before number
  pub rest : w ≡ record v { events = w.events }
