-- Where sessions are off.
use Rattle.h3_c.specs.Does.CallOfC.{Pull}
use Rattle.h3_c.specs.Numbers.{number}
use Rattle.h3_c.proofs.Alone.{goes_alone, pulls_plainly}
use Rattle.h3_c.proofs.exports.items.h3_raw_pull.Goals as goal

pub returns-clause-goes : goal.returns-clause-goes
returns-clause-goes c =
    goes_alone (Pull c.args.id c.args.item.now c.pull-told.new.item (number c.pull-told.result.number 0)) _ _ _ _ _ c.opened-connection.ensures c.deref_mut.ensures.value c.kept.ensures
    (pulls_plainly _ _ c.args.id c.pull-told.result c.args.item.now c.pull-told.new.item c.pull-told.ensures.plain c.pull-told.ensures.pulls c.pull-told.ensures.unwritten)
