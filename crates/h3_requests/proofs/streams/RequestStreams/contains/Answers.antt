-- It is there in the view, too.
use Rattle.std.proofs.Common.{ap, ◌∙◌}
use Rattle.std.specs.Prelude.{is_some}
use Rattle.h3_connection.specs.State.{kept_at}
use Rattle.h3_requests.proofs.streams.RequestStreams.contains.Goals as goal

pub returns : goal.returns
returns c = c.contains.ensures ∙ ap (λ l. is_some (kept_at l c.args.id)) c.self.view_is
