use Rattle.std.proofs.Common.{◌≡◌, ◌+◌, ◌-◌, ◌++◌, min, length, drop, ◌∙◌, ap}
use Rattle.h3_frames.specs.Lent.{lent_left}
use Rattle.h3_frames.specs.Outgoing.{Outgoing, all_of}
use Rattle.h3_frames.specs.PassingLaws.{pass, pass_first, pass_second}
use Rattle.h3_wire.proofs.stream.write_buf.WriteBufBuf.advance.Goals as goal

pub returns-clause-value : goal.returns-clause-value
returns-clause-value g c =
    let head = c.self.inside.head in
    let at = c.self.inside.position in
    let passed = c.min-of_head.result in
    let k : passed ≡ min c.args.cnt (length head - at) = c.min-of_head.ensures ∙ ap (λ n. min c.args.cnt (n - at)) c.len.ensures.value in
    ap (λ l. drop (at + passed) head ++ l) c.advance.ensures.value ∙ pass c.args.cnt at passed head (lent_left g.B.Buf.unread c.self.inside.lent) c.self.invariant.0 k
    ∙ ap (λ (w : Outgoing). drop c.args.cnt (all_of w)) c.self.view_is

pub returns-clause-head : goal.returns-clause-head
returns-clause-head g c =
    let head = c.self.inside.head in
    let at = c.self.inside.position in
    let passed = c.min-of_head.result in
    let k : passed ≡ min c.args.cnt (length head - at) = c.min-of_head.ensures ∙ ap (λ n. min c.args.cnt (n - at)) c.len.ensures.value in
    pass_first c.args.cnt at passed head c.self.invariant.0 k ∙ ap (λ (w : Outgoing). drop c.args.cnt w.head) c.self.view_is

pub returns-clause-payload : goal.returns-clause-payload
returns-clause-payload g c =
    let head = c.self.inside.head in
    let at = c.self.inside.position in
    let passed = c.min-of_head.result in
    let k : passed ≡ min c.args.cnt (length head - at) = c.min-of_head.ensures ∙ ap (λ n. min c.args.cnt (n - at)) c.len.ensures.value in
    c.advance.ensures.value ∙ pass_second c.args.cnt at passed head (lent_left g.B.Buf.unread c.self.inside.lent) k
    ∙ ap (λ (w : Outgoing). drop (c.args.cnt - length w.head) w.payload) c.self.view_is
