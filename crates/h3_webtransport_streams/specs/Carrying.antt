-- What a reader of a session's stream hands out is what was sent on it.
use Rattle.std.specs.Prelude.{◌≡◌, ℕ, List, [], ◌∷◌, ◌++◌, Option, Some, None}
use Rattle.h3_connection.specs.declared.event.Item.TheVariants as item
use Rattle.h3_connection.specs.declared.event.Pull.{Pull}
use Rattle.h3_connection.specs.declared.event.Pull.TheVariants as pull
use Rattle.h3_webtransport_streams.specs.Receiver.{Receiver, came, pulled}
use Rattle.h3_webtransport_streams.specs.SessionStream.{SessionStream, receiving, told_by}

-- bytes come, or the stream is pulled
pub data Step : Type 0 where
  Comes : (bytes : List ℕ) → Step
  Asks : Step

abbrev pub given : SessionStream → List ℕ → Option Receiver → SessionStream
given s bytes None = s
given s bytes (Some r) = told_by s (came r bytes)

abbrev pub asked : SessionStream → Pull × SessionStream
asked s = receiving pull.NoMessages (λ r. pulled r s.session) s

-- the stream after a step
abbrev pub after : SessionStream → Step → SessionStream
after s (Comes bytes) = given s bytes s.receiver
after s Asks = (asked s).1

-- the bytes that an answer hands out
abbrev pub bytes_of : Pull → List ℕ
bytes_of (pull.Item (item.Raw bytes)) = bytes
bytes_of _ = []

-- the bytes that come in steps, and those that they hand out
abbrev pub coming : List Step → List ℕ
coming [] = []
coming (Comes bytes ∷ steps) = bytes ++ coming steps
coming (Asks ∷ steps) = coming steps

abbrev pub handed : SessionStream → List Step → List ℕ
handed s [] = []
handed s (Comes bytes ∷ steps) = handed (after s (Comes bytes)) steps
handed s (Asks ∷ steps) = bytes_of (asked s).0 ++ handed (after s Asks) steps

-- the sessions that they tell
abbrev pub session_told : Pull → List ℕ
session_told (pull.Item (item.Session session)) = session ∷ []
session_told _ = []

abbrev pub sessions_told : SessionStream → List Step → List ℕ
sessions_told s [] = []
sessions_told s (Comes bytes ∷ steps) = sessions_told (after s (Comes bytes)) steps
sessions_told s (Asks ∷ steps) = session_told (asked s).0 ++ sessions_told (after s Asks) steps

-- a list begins another
pub record Begins (front all : List ℕ) : Type 0 where
  pub rest : List ℕ
  pub parts : all ≡ front ++ rest
