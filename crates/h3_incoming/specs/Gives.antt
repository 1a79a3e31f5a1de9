-- What a pull answers and leaves is a value of the definitions.
use Rattle.std.specs.Prelude.{◌≡◌, ℕ, List, ◌++◌}
use Rattle.h3_connection.specs.declared.event.Pull.{Pull}
use Rattle.h3_connection.specs.Incoming.{Incoming}
use Rattle.h3_connection.specs.Pulling.{Pulled}
use Rattle.h3_incoming.specs.Replying.{encodings}

-- The answer, the receiver after it, and what was written behind the replies are those of this value.
pub record Gives (p : Pulled) (answer : Pull) (new : Incoming) (before after : List ℕ) : Type 0 where
  pub is : p ≡ record { answer = answer; incoming = new; replies = p.replies }
  pub replies : after ≡ before ++ encodings p.replies
