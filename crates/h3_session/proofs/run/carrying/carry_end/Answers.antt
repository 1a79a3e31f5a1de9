use Rattle.h3_session.proofs.Carrying.{end_is_there, end_told, end_unfinished, end_waits}
use Rattle.std.proofs.Common.{refl, rules}
use Rattle.h3_session.proofs.run.carrying.carry_end.Goals as goal

pub returns : goal.returns
returns c =
    record {
      goes = end_told c.args.writer.now c.args.reader.now c.deliver_end.new.self c.args.id c.deliver_end.result c.told.result c.has_outgoing.result c.is_finished.result c.waiting.result
          c.has_outgoing.ensures (search rules) c.is_finished.ensures (search rules) c.waiting.ensures (search rules) c.deliver_end.ensures c.told.ensures;
      same = refl;
      there = λ memory. end_is_there c.args.writer.now c.args.id c.waiting.result c.is_finished.result c.is_finished.ensures (search rules) c.waiting.ensures (search rules);
      lacks = λ memory. record { result = c.deliver_end.result; given_is = c.told.ensures; called = c.deliver_end.ensures };
    }

pub returns-then-not-is_finished : goal.returns-then-not-is_finished
returns-then-not-is_finished c =
    record {
      goes = end_unfinished c.args.writer.now c.args.reader.now c.args.id c.has_outgoing.result c.is_finished.result c.has_outgoing.ensures (search rules) c.is_finished.ensures (search rules);
      same = refl;
      there = λ memory. absurd (cc);
      lacks = λ memory. absurd (cc);
    }

pub returns-then-waiting-gt0 : goal.returns-then-waiting-gt0
returns-then-waiting-gt0 c =
    record {
      goes = end_waits c.args.writer.now c.args.reader.now c.args.id c.has_outgoing.result c.is_finished.result c.waiting.result c.has_outgoing.ensures (search rules) c.is_finished.ensures (search rules) c.waiting.ensures (search rules);
      same = refl;
      there = λ memory. absurd (cc);
      lacks = λ memory. absurd (cc);
    }
