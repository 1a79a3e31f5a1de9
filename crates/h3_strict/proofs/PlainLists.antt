-- An answer with lists tells what the answer with headers tells: whether a message is malformed, whether it is a final head, and whether it is a
-- fault of the connection.
use Rattle.std.proofs.Common.{◌≡◌, Bool, List, Option, refl}
use Rattle.h3_field.specs.Field.{Field}
use Rattle.h3_connection.specs.declared.event.Item.TheVariants as item
use Rattle.h3_connection.specs.declared.event.Fault.TheVariants as fault
use Rattle.h3_connection.specs.declared.event.Pull.{Pull}
use Rattle.h3_connection.specs.declared.event.Pull.TheVariants as pull
use Rattle.h3_connection.specs.Lists.{listed_pull, pull_of}
use Rattle.h3_world.specs.Headline.{is_connection_fault}
use Rattle.h3_world.specs.declared.event.Answer.TheVariants as answer
use Rattle.h3_strict.specs.Plainly.{tells_malformed}
use Rattle.h3_strict.specs.ServerKnows.{hands_head}

pub tells_same : (strict : Bool) (o : Option (List Field)) (p : Pull) → tells_malformed strict (pull_of (listed_pull o p)) ≡ tells_malformed strict p
tells_same strict o (pull.Item (item.Interim head)) = refl
tells_same strict o (pull.Item (item.Head head)) = refl
tells_same strict o (pull.Item (item.Body bytes)) = refl
tells_same strict o (pull.Item (item.Trailer head)) = refl
tells_same strict o (pull.Item (item.TooLarge size)) = refl
tells_same strict o (pull.Item (item.Session session)) = refl
tells_same strict o (pull.Item (item.Raw bytes)) = refl
tells_same strict o (pull.Item item.End) = refl
tells_same strict o pull.Pending = refl
tells_same strict o (pull.Waiting count) = refl
tells_same strict o (pull.Fault fault) = refl
tells_same strict o pull.NoMessages = refl

pub heads_same : (o : Option (List Field)) (p : Pull) → hands_head (pull_of (listed_pull o p)) ≡ hands_head p
heads_same o (pull.Item (item.Interim head)) = refl
heads_same o (pull.Item (item.Head head)) = refl
heads_same o (pull.Item (item.Body bytes)) = refl
heads_same o (pull.Item (item.Trailer head)) = refl
heads_same o (pull.Item (item.TooLarge size)) = refl
heads_same o (pull.Item (item.Session session)) = refl
heads_same o (pull.Item (item.Raw bytes)) = refl
heads_same o (pull.Item item.End) = refl
heads_same o pull.Pending = refl
heads_same o (pull.Waiting count) = refl
heads_same o (pull.Fault fault) = refl
heads_same o pull.NoMessages = refl

pub faults_same : (o : Option (List Field)) (p : Pull) → is_connection_fault (answer.Listed (listed_pull o p)) ≡ is_connection_fault (answer.Pulled p)
faults_same o (pull.Item (item.Interim head)) = refl
faults_same o (pull.Item (item.Head head)) = refl
faults_same o (pull.Item (item.Body bytes)) = refl
faults_same o (pull.Item (item.Trailer head)) = refl
faults_same o (pull.Item (item.TooLarge size)) = refl
faults_same o (pull.Item (item.Session session)) = refl
faults_same o (pull.Item (item.Raw bytes)) = refl
faults_same o (pull.Item item.End) = refl
faults_same o pull.Pending = refl
faults_same o (pull.Waiting count) = refl
faults_same o (pull.Fault (fault.Connection code)) = refl
faults_same o (pull.Fault (fault.Stream why)) = refl
faults_same o (pull.Fault fault.Memory) = refl
faults_same o pull.NoMessages = refl
