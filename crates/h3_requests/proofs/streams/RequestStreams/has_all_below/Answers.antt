-- By the first stream that is not there.
use Rattle.std.proofs.Common.{ap, ◌∙◌}
use Rattle.std.specs.Prelude.{is_some}
use Rattle.h3_connection.specs.State.{kept_at}
use Rattle.h3_connection.specs.FirstRequests.{count_below, first_pass}
use Rattle.h3_requests.specs.Stored.{streams_in}
use Rattle.h3_requests.proofs.Seen.{all_below}
use Rattle.h3_requests.proofs.streams.RequestStreams.has_all_below.Goals as goal

pub count_seen-requires : goal.count_seen-requires
count_seen-requires c = c.self.invariant.seen_at_least

pub returns : goal.returns
returns c =
    all_below (λ q. is_some (kept_at (streams_in c.self.inside.streams) q)) c.count_seen.result c.args.id c.requires c.count_seen.ensures.seen.there c.count_seen.ensures.next
    ∙ ap (λ l. first_pass (λ q. is_some (kept_at l q)) (count_below c.args.id)) c.self.view_is
