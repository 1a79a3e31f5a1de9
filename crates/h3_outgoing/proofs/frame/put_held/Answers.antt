use Rattle.std.proofs.Common.{rules, ap, sym, ◌∙◌, ◌++◌, subst}
use Rattle.h3_outgoing.specs.Held.{Fronts, held}
use Rattle.h3_outgoing.proofs.HeldFronts.{head_cut, head_whole}
use Rattle.h3_outgoing.proofs.frame.put_held.Goals as goal

pub returns-then-of_head-head : goal.returns-then-of_head-head
returns-then-of_head-head c =
    let out = c.put_front-of_head.new.out in
    let at = c.put_front-of_head.result in
    let head = c.as_bytes-head.result.now in
    subst (λ w. Fronts w c.args.out.now out at 0)
    (ap (λ l. l ++ held c.left-left.result) (c.as_bytes-head.ensures.same ∙ c.head.ensures) ∙ ap (λ l. c.args.frame.now.head ++ l) (sym c.left-left.ensures))
    (head_cut head c.args.out.now out c.left-left.result at c.as_bytes-head.ensures.each (record { filled = c.put_front-of_head.ensures.front; place = c.put_front-of_head.ensures.count }) (search rules))

pub returns : goal.returns
returns c =
    let out = c.put_front-of_head.new.out in
    let at = c.put_front-of_head.result in
    let head = c.as_bytes-head.result.now in
    subst (λ w. Fronts w c.args.out.now out at c.left-left.result)
    (ap (λ l. l ++ held c.left-left.result) (c.as_bytes-head.ensures.same ∙ c.head.ensures) ∙ ap (λ l. c.args.frame.now.head ++ l) (sym c.left-left.ensures))
    (head_whole head c.args.out.now out c.left-left.result at c.as_bytes-head.ensures.each (record { filled = c.put_front-of_head.ensures.front; place = c.put_front-of_head.ensures.count }) (search rules))
