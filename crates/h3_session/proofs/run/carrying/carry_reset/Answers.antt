use Rattle.h3_session.proofs.Carrying.{reset_is_there, reset_told, reset_unset}
use Rattle.std.proofs.Common.{refl, rules}
use Rattle.h3_session.proofs.run.carrying.carry_reset.Goals as goal

pub returns : goal.returns
returns c =
    record {
      goes = reset_told c.args.writer.now c.args.reader.now c.deliver_reset.new.self c.args.id c.deliver_reset.result c.told.result c.has_outgoing.result c.is_reset.result
          c.has_outgoing.ensures (search rules) c.is_reset.ensures (search rules) c.deliver_reset.ensures c.told.ensures;
      same = refl;
      there = λ memory. reset_is_there c.args.writer.now c.args.id c.is_reset.result c.is_reset.ensures (search rules);
      lacks = λ memory. record { result = c.deliver_reset.result; given_is = c.told.ensures; called = c.deliver_reset.ensures };
    }

pub returns-then-not-is_reset : goal.returns-then-not-is_reset
returns-then-not-is_reset c =
    record {
      goes = reset_unset c.args.writer.now c.args.reader.now c.args.id c.has_outgoing.result c.is_reset.result c.has_outgoing.ensures (search rules) c.is_reset.ensures (search rules);
      same = refl;
      there = λ memory. absurd (cc);
      lacks = λ memory. absurd (cc);
    }
