use Rattle.std.proofs.Common.{ap, sym, ◌∙◌}
use Rattle.h3_frames.specs.Outgoing.{first_of_both}
use Rattle.h3_outgoing.specs.Held.{front_of, held}
use Rattle.h3_outgoing.proofs.HeldFronts.{lent_head}
use Rattle.h3_outgoing.proofs.frame.held_head.Goals as goal

pub returns : goal.returns
returns c =
    let head = c.as_bytes.ensures.same ∙ c.head.ensures in
    lent_head c.as_bytes.result.now c.left-left.result c.as_bytes.ensures.each
    ∙ ap (λ l. front_of (first_of_both l (held c.left-left.result))) head
    ∙ ap (λ l. front_of (first_of_both c.args.frame.now.head l)) (sym c.left-left.ensures)
