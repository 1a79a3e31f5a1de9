use Rattle.std.proofs.Common.{ap, sym, ◌∙◌}
use Rattle.h3_frames.specs.Elements.{cuts, each}
use Rattle.h3_frames.specs.Pieces.{without}
use Rattle.h3_frames.proofs.ElementLemmas.{each-without}
use Rattle.h3_frames.proofs.buf.element.Element.pass.Goals as goal

pub returns-in-Singles-clause-pieces : goal.returns-in-Singles-clause-pieces
returns-in-Singles-clause-pieces g c less =
    ap each c.advance-in-Singles.ensures ∙ sym (each-without c.args.count c.in-Singles.run') ∙ ap (λ e. without c.args.count (cuts g.T.Buf.unread e)) (sym c.in-Singles.is)
