-- Which ids of the peer's GOAWAY frames are kept: all, or the last one alone where a choice limits the ids that are kept.
use Rattle.std.specs.Prelude.{ℕ, Bool, true, false, List, [], ◌∷◌, Option, Some, None}
use Rattle.h3_proto.specs.Config.{is_limit}
use Rattle.h3_proto.specs.declared.config.Choices.{Choices}
use Rattle.h3_connection.specs.Lasts.{last_id}
use Rattle.h3_connection.specs.PeerReading.{Peer, PeerFound}

-- the last one alone is kept
abbrev pub keeps_last : Choices → Bool
keeps_last choices = is_limit choices.extensions.kept_ids

abbrev pub alone : Option ℕ → List ℕ
alone None = []
alone (Some id) = id ∷ []

abbrev pub kept_goaways : Bool → List ℕ → List ℕ
kept_goaways true ids = alone (last_id ids)
kept_goaways false ids = ids

-- what is kept of a peer
abbrev pub kept_peer : Bool → Peer → Peer
kept_peer last p = record p { goaways = kept_goaways last p.goaways }

abbrev pub kept_found : Bool → PeerFound → PeerFound
kept_found last found = (kept_peer last found.0, found.1)
