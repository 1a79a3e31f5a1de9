-- The streams that are ready are those on which bytes wait.
use Rattle.std.proofs.Common.{sym, ◌∙◌, ap}
use Rattle.h3_connection.specs.NextWaitingLaws.{least_same}
use Rattle.h3_connection.specs.State.{kept_at}
use Rattle.h3_requests.specs.HasBytes.{has_bytes}
use Rattle.h3_requests.specs.Ready.{is_ready}
use Rattle.h3_requests.specs.Waiting.{is_any}
use Rattle.h3_requests.proofs.Sendable.{any_bytes, plain}
use Rattle.h3_requests.proofs.streams.RequestStreams.next_waiting.Goals as goal

pub next-requires : goal.next-requires
next-requires c = plain c.self.invariant

pub returns : goal.returns
returns c = least_same (is_any (is_ready c.self.inside.ready)) _ _ _ (λ q. sym (any_bytes c.self.invariant q ∙ ap (λ s. has_bytes (kept_at s q)) c.self.view_is)) c.next.ensures
