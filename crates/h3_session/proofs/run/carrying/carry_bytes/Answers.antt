use Rattle.std.proofs.Common.{inl, inr, refl, rules}
use Rattle.h3_session.proofs.Carrying.{bytes_are_there, too_few, goes_over}
use Rattle.h3_session.proofs.run.carrying.carry_bytes.Goals as goal

pub returns-then-waiting-count : goal.returns-then-waiting-count
returns-then-waiting-count c =
    record {
      goes = too_few c.args.writer.now c.args.reader.now c.args.id c.args.count c.waiting-waiting.result c.has_outgoing.result c.has_outgoing.ensures (search rules) c.waiting-waiting.ensures (search rules);
      there = λ memory. absurd (cc);
      lacks = λ memory. absurd (cc);
    }

pub returns : goal.returns
returns c =
    record {
      goes = goes_over c.args.writer.now c.hand_over.new.writer c.args.reader.now c.hand_over.new.reader c.args.id c.args.count c.waiting-waiting.result c.has_outgoing.result c.in-Ok.bytes c.hand_over.result
          c.has_outgoing.ensures (search rules) c.waiting-waiting.ensures (search rules) c.in-Ok.ensures c.hand_over.ensures;
      there = λ memory. bytes_are_there c.args.writer.now c.args.id c.args.count c.waiting-waiting.result c.has_outgoing.result c.has_outgoing.ensures (search rules) c.waiting-waiting.ensures (search rules);
      lacks = λ memory. inl (record { bytes = c.in-Ok.bytes; front = c.in-Ok.ensures; offers = c.hand_over.ensures });
    }

pub returns-in_default : goal.returns-in_default
returns-in_default c =
    record {
      goes = λ w r hw hr not_memory. absurd (cc);
      there = λ memory. bytes_are_there c.args.writer.now c.args.id c.args.count c.waiting-waiting.result c.has_outgoing.result c.has_outgoing.ensures (search rules) c.waiting-waiting.ensures (search rules);
      lacks = λ memory. inr (refl, refl, refl);
    }
