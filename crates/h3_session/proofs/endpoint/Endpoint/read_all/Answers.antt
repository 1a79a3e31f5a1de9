use Rattle.std.proofs.Common.{◌∙◌, subst, arith, ◌≡◌, ◌∷◌}
use Rattle.h3_session.specs.Reading.{ReadsUpTo}
use Rattle.h3_session.proofs.ReceivingReading.{front_next, front_stopped}
use Rattle.h3_session.proofs.endpoint.Endpoint.read_all.Goals as goal

pub loop-arrival-preserved : goal.loop-arrival-preserved
loop-arrival-preserved c =
    let items : c.loop-arrival.arrivals.items ≡ c.in-Some.arrival ∷ c.pop_front.new.self.items = c.in-Some.ensures.items in
    record {
      room = omega (arith, c.pop_front.ensures.capacity, c.in-Some.ensures.len);
      kept = c.read_arrival.ensures.kept ∙ c.loop-arrival.invariant.kept;
      reads = front_next c.args.self.now c.loop-arrival.self c.read_arrival.new.self c.args.arrivals.items c.pop_front.new.self.items c.in-Some.arrival
          (subst (ReadsUpTo c.args.self.now c.args.arrivals.items c.loop-arrival.self) items c.loop-arrival.invariant.reads)
          (rw c.in-Ok-None.field-0-is at c.in-Ok-None.ensures.reads);
    }

pub returns-in-Err-clause-reads : goal.returns-in-Err-clause-reads
returns-in-Err-clause-reads c =
    let items : c.loop-arrival.arrivals.items ≡ c.in-Some.arrival ∷ c.pop_front.new.self.items = c.in-Some.ensures.items in
    front_stopped c.args.self.now c.loop-arrival.self c.read_arrival.new.self c.keep.new.self c.args.arrivals.items c.pop_front.new.self.items c.in-Some.arrival c.in-Err.unread
    (subst (ReadsUpTo c.args.self.now c.args.arrivals.items c.loop-arrival.self) items c.loop-arrival.invariant.reads)
    c.in-Err.ensures.reads
    c.keep.ensures
