use Rattle.std.proofs.Common.{ap}
use Rattle.h3_connection.specs.Listeners.{Decoding}
use Rattle.h3_unidirectional.proofs.Heard.{no_hearing, bad_heard}
use Rattle.h3_unidirectional.proofs.decoding.Decoding.read_front.Goals as goal

pub returns-in_err-reserve-clause-front : goal.returns-in_err-reserve-clause-front
returns-in_err-reserve-clause-front c = no_hearing _ _

pub returns-clause-err : goal.returns-clause-err
returns-clause-err c =
    let before = ap (λ (d : Decoding). d.decoder.table.inserted) c.self.view_is in
    let after = ap (λ (d : Decoding). d.decoder.table.inserted) c.self-2.view_is in
    let wrote = rw (c.reserve.ensures.items, c.saturating_sub.ensures, c.inserted.ensures.value, c.inserted-before.ensures.value, after, before) at c.put_increment.ensures in
    bad_heard _ _ _ _ _ _ c.read_unread-outcome.ensures.front c.read_unread-outcome.ensures.err wrote
