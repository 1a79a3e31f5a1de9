use Rattle.std.proofs.Common.{◌∷◌, [], ap, ◌∙◌}
use Rattle.std.proofs.lemmas.List.{map-append}
use Rattle.h3_script.specs.Pieces.{texts}
use Rattle.h3_script.proofs.Cuts.{pieces_next, pieces_last}
use Rattle.h3_script.proofs.pieces.pieces.Goals as goal

pub loop-front-preserved : goal.loop-front-preserved
loop-front-preserved c =
    pieces_next c.args.at c.args.bytes.now c.loop-front.rest.now c.in-Some.front.now c.in-Some.behind.now (texts c.loop-front.found.items) (texts c.push.new.self.items)
    c.loop-front.invariant c.in-Some.ensures.value (ap texts c.in_ok-push.ensures.items ∙ map-append (λ r. r.now) c.loop-front.found.items (c.in-Some.front ∷ []))

pub returns : goal.returns
returns c =
    pieces_last c.args.at c.args.bytes.now c.loop-front.rest.now (texts c.loop-front.found.items) (texts c.push-2.new.self.items)
    c.loop-front.invariant c.in_default.ensures.value (ap texts c.in_ok-push-2.ensures.items ∙ map-append (λ r. r.now) c.loop-front.found.items (c.loop-front.rest ∷ []))
