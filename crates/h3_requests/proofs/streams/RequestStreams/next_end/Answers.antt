-- The ends that wait are those of the streams.
use Rattle.std.proofs.Common.{sym, ◌∙◌, ap}
use Rattle.h3_connection.specs.NextWaitingLaws.{least_same}
use Rattle.h3_connection.specs.State.{kept_at}
use Rattle.h3_requests.specs.Waiting.{is_waiting}
use Rattle.h3_requests.specs.HasBytes.{has_end}
use Rattle.h3_requests.specs.Waiting.{is_any}
use Rattle.h3_requests.proofs.Sendable.{any_end, plain}
use Rattle.h3_requests.proofs.streams.RequestStreams.next_end.Goals as goal

pub next_end-requires : goal.next_end-requires
next_end-requires c = plain c.self.invariant

pub returns : goal.returns
returns c = least_same (is_any (is_waiting c.self.inside.ready.ends)) _ _ _ (λ q. sym (any_end c.self.invariant q ∙ ap (λ s. has_end (kept_at s q)) c.self.view_is)) c.next_end.ensures
