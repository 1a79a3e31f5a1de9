-- One class more was looked at.
use Rattle.std.proofs.Common.{◌≡◌, ◌+◌, sym, subst, rules}
use Rattle.h3_connection.specs.NextWaiting.{IsLeast}
use Rattle.h3_requests.specs.Waiting.{is_any_below, is_waiting}
use Rattle.h3_requests.proofs.Classed.{least_next}
use Rattle.h3_requests.proofs.waiting.WaitingStreams.next_of_any.Goals as goal

pub loop-class-preserved : goal.loop-class-preserved
loop-class-preserved c =
    subst (IsLeast (is_any_below (c.loop-class.class + 1) (is_waiting c.args.self.now)) c.args.from) (sym c.earlier-first.ensures)
    (least_next (is_waiting c.args.self.now) c.loop-class.class c.args.from c.loop-class.first c.next.result c.loop-class.invariant c.next.ensures)

pub returns : goal.returns
returns c =
    let all : c.loop-class.class ≡ 17 = search rules in
    subst (λ n. IsLeast (is_any_below n (is_waiting c.args.self.now)) c.args.from c.loop-class.first) all c.loop-class.invariant
