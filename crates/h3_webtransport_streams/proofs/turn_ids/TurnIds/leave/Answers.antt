-- The others stay.
use Rattle.std.proofs.Common.{◌∙◌, ap, rules}
use Rattle.h3_webtransport_streams.specs.Indexed.{has_id}
use Rattle.h3_webtransport_streams.proofs.Rising.{left_others}
use Rattle.h3_webtransport_streams.proofs.turn_ids.TurnIds.leave.Goals as goal

pub returns-in-Ok-clause-others : goal.returns-in-Ok-clause-others
returns-in-Ok-clause-others c =
    λ q differs. ap (λ ids. has_id ids q) c.remove.ensures.items ∙ left_others c.self.inside.ids.items c.args.id c.in-Ok.place (search rules) q differs
    ∙ ap (λ s. has_id s.ids q) c.self.view_is
