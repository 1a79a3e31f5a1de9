-- A read by a delivery, the end and a pull.
use Rattle.std.proofs.Common.{refl, sym, ◌∙◌}
use Rattle.h3_c.specs.ReadsBeside.ReadsCopiedBeside.{pulled_beside, stopped_beside, unended_beside}
use Rattle.h3_c.proofs.Reading.{all_taken, fin_refused, fin_taken, pulls_on}
use Rattle.h3_c.proofs.connection.Connection.read_copied.Goals as goal

pub returns-in-Err : goal.returns-in-Err
returns-in-Err c = stopped_beside c.front_len-count.result c.in-Err.stop c.front_len-count.ensures.within refl c.in-Err.ensures.stop (c.in-Err.ensures.last, c.in-Err.ensures.events) c.taken_of.ensures refl

pub returns-in-Err-take_fin : goal.returns-in-Err-take_fin
returns-in-Err-take_fin c =
    unended_beside c.take.new.self (sym c.is_behind-is_last.ensures ∙ c.in-Err-take_fin.ensures.refused.0)
    (all_taken c.args.self.now c.take.new.self c.args.id c.args.bytes.now c.args.fin c.front_len-count.result (sym c.is_behind-is_last.ensures ∙ c.in-Err-take_fin.ensures.refused.0) c.in_default.ensures.ok)
    (fin_refused c.is_empty.result c.args.bytes.now c.take.new.self c.take_fin.new.self c.args.id c.in-Err-take_fin.told c.is_empty.ensures c.in-Err-take_fin.ensures.refused.1)
    (c.in-Err-take_fin.ensures.last ∙ c.in_default.ensures.last, c.in-Err-take_fin.ensures.events ∙ c.in_default.ensures.events) refl

pub returns : goal.returns
returns c =
    pulled_beside c.take.new.self c.take_fin.new.self c.front_len-count.ensures.within c.front_len-count.ensures.some c.in_default.ensures.ok
    (fin_taken c.is_behind-is_last.result c.is_empty.result c.args.fin c.front_len-count.result c.args.bytes.now c.take.new.self c.take_fin.new.self c.args.id c.is_behind-is_last.ensures c.is_empty.ensures c.in_default-take_fin.ensures.ok)
    (pulls_on c.args.id c.into_inner.result c.pull.result c.take_fin.new.self c.pull.new.self c.pull.new.item c.into_inner.ensures.value c.into_inner.ensures.bound c.pull.ensures.pulls)
