use Rattle.std.proofs.Common.{◌≡◌, ◌<◌}
use Rattle.std.specs.VecDeque.{deque_len, deque_capacity}
use Rattle.h3_session.specs.Reading.{ReadsUpTo}
use Rattle.h3_session.proofs.endpoint.Endpoint.read_all.Given as goal

abbrev pub invariant-loop-arrival : goal.invariant-loop-arrival
invariant-loop-arrival l =
    record {
      room : deque_len l.arrivals < deque_capacity l.arrivals;
      kept : l.self.kept ≡ l.fn.self.kept;
      reads : ReadsUpTo l.fn.self l.fn.arrivals.items l.self l.arrivals.items;
    }

abbrev pub decreases-loop-arrival : goal.decreases-loop-arrival
decreases-loop-arrival l = deque_len l.arrivals
