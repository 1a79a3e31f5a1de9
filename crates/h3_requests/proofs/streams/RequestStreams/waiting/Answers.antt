-- The counts are those that the streams wait for.
use Rattle.std.proofs.Common.{sym, subst, ◌∙◌}
use Rattle.h3_requests.specs.Limited.{AreReceivers}
use Rattle.h3_requests.proofs.Counts.{waits}
use Rattle.h3_requests.specs.Stored.{streams_in}
use Rattle.h3_requests.proofs.streams.RequestStreams.waiting.Goals as goal

pub returns : goal.returns
returns c = λ receivers are.
    c.above.ensures ∙ waits _ (streams_in c.self.inside.streams) receivers c.self.invariant.counted (subst (AreReceivers receivers) (sym c.self.view_is) are) c.args.inserted
