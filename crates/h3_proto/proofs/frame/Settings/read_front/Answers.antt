use Rattle.std.proofs.Common.{◌≡◌, [], ◌++◌, ◌∙◌, sym, ap₂, take, arith, rules, length-take-le}
use Rattle.std.proofs.lemmas.List.{nil_from_length, take-append-drop}
use Rattle.std.proofs.lemmas.Result.{err_from_is_err_and}
use Rattle.h3_proto.proofs.Received.{at_end, is_malformed, is_refused, is_received, left_end, left_malformed, left_refused, left_received}
use Rattle.h3_proto.proofs.frame.Settings.read_front.Goals as goal

pub returns-in_default-clause-value : goal.returns-in_default-clause-value
returns-in_default-clause-value g c =
    let size = length-take-le c.loop-left.left _ c.loop-left.invariant.inside in
    sym (is_malformed _ _ (omega (arith, size)) (c.in_default.ensures.none (search rules))) ∙ c.loop-left.invariant.same

pub returns-in_default-clause-rest : goal.returns-in_default-clause-rest
returns-in_default-clause-rest g c =
    let left = c.in_default.ensures.left (search rules) in
    left ∙ ap₂ (λ x y. x ++ y) (sym (left_malformed _ _ (c.in_default.ensures.none (search rules))) ∙ c.loop-left.invariant.leaves) c.loop-left.invariant.behind

pub loop-left-preserved : goal.loop-left-preserved
loop-left-preserved g c =
    let some = c.in-Some.ensures.some in
    record {
      same = sym (is_received _ _ (c.in-Some.id, c.in-Some.value) _ _ some.0 c.in_ok-receive.ensures.ok) ∙ c.loop-left.invariant.same;
      leaves = sym (left_received _ _ (c.in-Some.id, c.in-Some.value) _ _ some.0 c.in_ok-receive.ensures.ok) ∙ c.loop-left.invariant.leaves;
      behind = sym some.1 ∙ c.loop-left.invariant.behind;
      kept = c.get_pair.ensures.kept ∙ c.loop-left.invariant.kept;
      inside = c.in-Some.ensures.inside.0;
    }

pub returns-in_err-receive-clause-value : goal.returns-in_err-receive-clause-value
returns-in_err-receive-clause-value g c =
    let q = err_from_is_err_and c.from_residual.result c.from_residual.ensures.1 in
    rw (q.1, q.2) (sym (is_refused _ (c.in-Some.id, c.in-Some.value) _ _ _ c.in-Some.ensures.some.0 c.in_err-receive.ensures.err) ∙ c.loop-left.invariant.same)

pub returns-in_err-receive-clause-rest : goal.returns-in_err-receive-clause-rest
returns-in_err-receive-clause-rest g c =
    let some = c.in-Some.ensures.some in
    let left = left_refused _ (c.in-Some.id, c.in-Some.value) _ _ _ some.0 c.in_err-receive.ensures.err in
    sym (take-append-drop c.in-Some.rest (g.B.Buf.unread c.get_pair.new.buf))
    ∙ ap₂ (λ x y. x ++ y) (sym left ∙ c.loop-left.invariant.leaves) (sym some.1 ∙ c.loop-left.invariant.behind)

pub returns-clause-value : goal.returns-clause-value
returns-clause-value g c =
    let none : take c.loop-left.left (g.B.Buf.unread c.loop-left.buf) ≡ [] = nil_from_length _ (omega (arith, length-take-le c.loop-left.left (g.B.Buf.unread c.loop-left.buf) c.loop-left.invariant.inside)) in
    let same = rw none at c.loop-left.invariant.same in
    sym (at_end _) ∙ same

pub returns-clause-rest : goal.returns-clause-rest
returns-clause-rest g c =
    let unread = g.B.Buf.unread c.loop-left.buf in
    let none : take c.loop-left.left unread ≡ [] = nil_from_length _ (omega (arith, length-take-le c.loop-left.left unread c.loop-left.invariant.inside)) in
    let leaves = rw none at c.loop-left.invariant.leaves in
    sym (take-append-drop c.loop-left.left unread)
    ∙ ap₂ (λ x y. x ++ y) (none ∙ sym (left_end c.loop-left.settings) ∙ leaves) c.loop-left.invariant.behind
