-- The stream is taken out of both.
use Rattle.std.proofs.Common.{Some, None, sym, ◌∙◌, ap}
use Rattle.h3_blocked.specs.Counting.{waits_at}
use Rattle.h3_requests.proofs.Found.{distinct_in, few, taken_out, under}
use Rattle.h3_requests.proofs.Ways.{over_waits}
use Rattle.h3_requests.proofs.map.StreamMap.remove.Goals as goal

pub returns-in-Some-clause-takes_out : goal.returns-in-Some-clause-takes_out
returns-in-Some-clause-takes_out c =
    let gone = rw c.into_inner.ensures.value at c.remove-stream.ensures.takes_out in
    taken_out c.args.self.now.under_way c.remove-stream.new.self c.args.self.now.over c.remove.new.self c.args.id (few _ _ c.into_inner.ensures.value c.into_inner.ensures.bound) gone c.remove.ensures.takes_out

pub returns-in-Some-clause-before : goal.returns-in-Some-clause-before
returns-in-Some-clause-before c =
    c.waits_for.ensures
    ∙ sym (ap waits_at (under c.args.self.now c.into_inner.result c.args.id (Some c.in-Some.stream) c.into_inner.ensures.value c.into_inner.ensures.bound c.in-Some.ensures.value))

pub returns-in-Some-clause-distinct : goal.returns-in-Some-clause-distinct
returns-in-Some-clause-distinct c = distinct_in (record { under_way = c.remove-stream.new.self; over = c.remove.new.self })

pub returns-in-None-clause-takes_out : goal.returns-in-None-clause-takes_out
returns-in-None-clause-takes_out c =
    let gone = rw c.into_inner.ensures.value at c.remove-stream.ensures.takes_out in
    taken_out c.args.self.now.under_way c.remove-stream.new.self c.args.self.now.over c.remove.new.self c.args.id (few _ _ c.into_inner.ensures.value c.into_inner.ensures.bound) gone c.remove.ensures.takes_out

pub returns-in-None-clause-before : goal.returns-in-None-clause-before
returns-in-None-clause-before c = sym (ap waits_at (under c.args.self.now c.into_inner.result c.args.id None c.into_inner.ensures.value c.into_inner.ensures.bound c.in-None.ensures.value) ∙ over_waits _ c.remove.ensures.over)

pub returns-in-None-clause-distinct : goal.returns-in-None-clause-distinct
returns-in-None-clause-distinct c = distinct_in (record { under_way = c.remove-stream.new.self; over = c.remove.new.self })
