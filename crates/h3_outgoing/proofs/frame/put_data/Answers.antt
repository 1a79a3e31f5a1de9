use Rattle.std.proofs.Common.{ap, ◌∙◌, ◌++◌, subst}
use Rattle.h3_outgoing.specs.Held.{Fronts}
use Rattle.h3_outgoing.proofs.Filling.{behind}
use Rattle.h3_outgoing.specs.HeldLaws.{only_bytes}
use Rattle.h3_outgoing.proofs.HeldFronts.{bytes_append}
use Rattle.h3_outgoing.proofs.frame.put_data.Goals as goal

pub returns : goal.returns
returns c =
    let before = c.args.out.now in
    let mid = c.put_front-of_head.new.out in
    let at = c.put_front-of_head.result in
    let out = c.put_at.new.out in
    let next = c.put_at.result in
    let head = c.as_bytes.result.now in
    let payload = c.as_bytes-2.result.now in
    subst (λ w. Fronts w before out next 0)
    (ap (λ l. l ++ payload) (c.as_bytes.ensures.same ∙ c.head.ensures) ∙ ap (λ l. c.args.frame.now.head ++ l) (c.as_bytes-2.ensures.same ∙ c.payload.ensures))
    (only_bytes (head ++ payload) before out next (bytes_append head payload c.as_bytes.ensures.each c.as_bytes-2.ensures.each)
    (behind head payload before mid out at next (record { filled = c.put_front-of_head.ensures.front; place = c.put_front-of_head.ensures.count }) c.put_at.ensures))
