-- Worked rows of settings that have no meaning here (RFC 9114, section 7.2.4), the peer's and own ones.
use Rattle.std.specs.Prelude.{ℕ, List, [], ◌∷◌, Option, Some, Result}
use Rattle.h3_proto.specs.Config.{no_choices, no_extensions}
use Rattle.h3_proto.specs.Further.{further_from}
use Rattle.h3_proto.specs.declared.frame.SettingsError.{SettingsError}
use Rattle.h3_proto.specs.declared.stream.Side.TheVariants.{Client, Server}
use Rattle.h3_connection.specs.Delivering.{deliver}
use Rattle.h3_connection.specs.Endpoint.{EndpointHistory, new_endpoint, new_endpoint_with, own_waiting}
use Rattle.h3_connection.specs.Shown.{peer_setting}
use Rattle.h3_connection.specs.declared.event.Refusal.{Refusal}
use Rattle.h3_connection.specs.declared.setup.Announced.{Announced}
use Rattle.h3_connection_rows.specs.Worked.{hex, plain}

-- it keeps so many
abbrev pub keeping : ℕ → Announced
keeping most = record (plain 1000 0 0) { choices = record no_choices { extensions = record no_extensions { other_settings = most } } }

-- a server, to which these bytes came on its client's control stream
abbrev pub came : ℕ → List ℕ → Option Refusal × EndpointHistory
came most text = deliver (new_endpoint Server (keeping most)) 2 (hex text)

abbrev pub told : ℕ → List ℕ → Option Refusal
told most text = (came most text).0

-- what it shows of a setting then
abbrev pub shown : ℕ → List ℕ → ℕ → Option ℕ
shown most text id = peer_setting (came most text).1 id

-- the same where the bytes came in two pieces
abbrev pub shown_apart : ℕ → List ℕ → List ℕ → ℕ → Option ℕ
shown_apart most first second id = peer_setting (deliver (came most first).1 2 (hex second)).1 id

-- what a client's control stream begins with that announces these further settings
abbrev pub begins : List (ℕ × ℕ) → List ℕ
begins further = own_waiting (new_endpoint_with Client (plain 65536 4096 16) further) 2

-- a client that remembers a limit of 100 bytes for field sections
abbrev pub resumed : Announced
resumed = record (plain 1000 0 0) { remembered = Some ((6, 100) ∷ []) }

-- these further settings beside those of such a client, or why they are refused
abbrev pub beside : List (ℕ × ℕ) → Result (List (ℕ × ℕ)) SettingsError
beside further = further_from (plain 65536 4096 16).settings [] further
