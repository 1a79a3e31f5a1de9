use Rattle.std.proofs.Common.{sym}
use Rattle.h3_unidirectional.proofs.Behind.{sent_behind}
use Rattle.h3_unidirectional.proofs.encoding.Encoding.encode.Goals as goal

pub returns-clause-sent : goal.returns-clause-sent
returns-clause-sent c =
    let sent = rw c.into_inner.ensures.value at c.in-Ok.ensures.sent in
    rw (sym c.self.view_is) (λ s is. sent_behind s c.args.stream c.args.fields.now c.in-Ok.count _ _ _ _ c.args.out.now _ c.behind_mut.ensures.value (sent s is))
