use Rattle.std.proofs.Common.{sym}
use Rattle.h3_streams.proofs.EarlyReads.{silent, early_read, early_held}
use Rattle.h3_streams.proofs.streams.ConnectionStreams.early_replies.Goals as goal

pub returns-in_default-clause-ok : goal.returns-in_default-clause-ok
returns-in_default-clause-ok c = silent c.args.self.now c.args.own.now c.in_default.ensures

pub returns-in_default-read-clause-err : goal.returns-in_default-read-clause-err
returns-in_default-read-clause-err c =
    let named = rw (sym c.self.view_is) at c.in-Some.ensures in
    rw (sym c.self.view_is) (λ side. early_held _ _ side _ _ _ named c.in_default-read.ensures.refused c.held.ensures)

pub returns-clause-ok : goal.returns-clause-ok
returns-clause-ok c =
    let named = rw (sym c.self.view_is) at c.in-Some.ensures in
    rw (sym c.self.view_is) (early_read _ _ _ _ _ _ named c.in-Ok.ensures.ok c.of_stream.ensures)
