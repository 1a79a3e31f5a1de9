-- Which list of fields a pull hands out, in the place of a head or trailer: the one that came next, with all that is kept read first.
use Rattle.std.specs.Prelude.{ℕ, List, Option}
use Rattle.h3_field.specs.Field.{Field}
use Rattle.h3_connection.specs.Coming.{fields_behind, fields_item}
use Rattle.h3_connection.specs.Endpoint.{EndpointHistory}
use Rattle.h3_connection.specs.State.{EndpointState, StandsFor}
use Rattle.h3_incoming.specs.Answering.{Lists}

abbrev pub ListsItem : EndpointState → ℕ → Option (List Field) → Type 0
ListsItem s id listed = (e : EndpointHistory) → StandsFor s e → Lists listed (fields_item e id)

-- `pull_fields`: a list that it hands out is the one that came
abbrev pub ListsNext : EndpointState → ℕ → Option (List Field) → Type 0
ListsNext s id listed = (e : EndpointHistory) → StandsFor s e → Lists listed (fields_behind e.kept e id)
