-- What is read of an endpoint.
use Rattle.std.proofs.Common.{◌≡◌, ℕ, List, Option, ap, ◌∙◌}
use Rattle.h3_connection.specs.Endpoint.{EndpointHistory}
use Rattle.h3_connection.specs.KeptGoaways.{keeps_last}
use Rattle.h3_connection.specs.KeptGoawayLaws.{last_kept}
use Rattle.h3_connection.specs.Lasts.{last_id}
use Rattle.h3_connection.specs.ReadingContracts.{ShowsGoaways}
use Rattle.h3_connection.specs.State.{EndpointState, StandsFor}

-- the last id of the peer's GOAWAY frames is among those that are kept
pub last_shown : (s : EndpointState) (ids : List ℕ) (shown : Option ℕ) → ShowsGoaways s ids → shown ≡ last_id ids → (e : EndpointHistory) → StandsFor s e → shown ≡ last_id e.peer.goaways
last_shown s ids shown shows is e h = is ∙ ap last_id (shows e h) ∙ last_kept (keeps_last e.announced.choices) e.peer.goaways
