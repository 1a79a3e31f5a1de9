use Rattle.std.proofs.Common.{ap, ◌∙◌}
use Rattle.h3_connection.specs.KeptGoaways.{kept_peer}
use Rattle.h3_unidirectional.proofs.KeptFronts.{keeps_on, stops_kept}
use Rattle.h3_unidirectional.proofs.control.PeerControl.read.Goals as goal

pub returns-in-Err-clause-refused : goal.returns-in-Err-clause-refused
returns-in-Err-clause-refused c =
    stops_kept _ _ _ _ _ _ _ _ c.frames.invariant c.in-Err.ensures.refused (c.keep_goaways.ensures ∙ ap (λ last. kept_peer last c.read_one-progress.new.self) c.keeps_last.ensures)

pub returns-in-Err-clause-front : goal.returns-in-Err-clause-front
returns-in-Err-clause-front c =
    keeps_on _ _ _ _ _ _ _ _ c.frames.invariant c.in-Err.ensures.refused (c.keep_goaways.ensures ∙ ap (λ last. kept_peer last c.read_one-progress.new.self) c.keeps_last.ensures)
