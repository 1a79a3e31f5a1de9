use Rattle.std.proofs.Common.{◌≡◌, [], ◌∷◌, ◌++◌, ◌∙◌, sym, ap, take, arith, rules, length-take-le}
use Rattle.std.proofs.lemmas.List.{nil_from_length}
use Rattle.h3_coding.specs.VarintLaws.{none_at_end}
use Rattle.h3_proto.specs.Pairs.{pair_at}
use Rattle.h3_proto.specs.PairLaws.{no_id}
use Rattle.h3_proto.proofs.OthersRead.{kept_with, kept_enough, kept_end, kept_one, kept_same}
use Rattle.h3_proto.proofs.other_settings.read_others.Goals as goal
use Rattle.h3_proto.proofs.other_settings.read_others.Goals.{then-loop-left-test+else-len-most, else-loop-left-test}

pub returns-in_default : goal.returns-in_default
returns-in_default g c = sym (kept_end _ _ _ (c.in_default.ensures.none (search rules))) ∙ c.loop-left.invariant.same

pub loop-left-preserved-in-Continue-1 : goal.loop-left-preserved-in-Continue-1
loop-left-preserved-in-Continue-1 g c =
    let one = kept_one c.args.most c.loop-left.kept.items (c.in-Some.id, c.in-Some.value) _ _ c.in-Some.ensures.some.0 (sym c.is_other.ensures ∙ c.if-is_other.true) (omega (arith, c.len.ensures, c.if-len-most.true)) in
    record {
      same = ap (λ k. kept_with c.args.most k (take c.in-Some.rest (g.B.Buf.unread c.get_pair.new.buf))) c.in_ok-push.ensures.items ∙ sym one ∙ c.loop-left.invariant.same;
      inside = c.in-Some.ensures.inside.0;
    }

pub loop-left-preserved : goal.loop-left-preserved
loop-left-preserved g c =
    record {
      same = sym (kept_same c.args.most c.loop-left.kept.items (c.in-Some.id, c.in-Some.value) _ _ c.in-Some.ensures.some.0 (sym c.is_other.ensures ∙ c.if-is_other.false)) ∙ c.loop-left.invariant.same;
      inside = c.in-Some.ensures.inside.0;
    }

pub returns : goal.returns
returns g c = elim c.loop-left-test.branch [
  | then-loop-left-test+else-len-most w ↦ sym (kept_enough _ _ _ (omega (arith, w.len.ensures, w.if-len-most.false))) ∙ c.loop-left.invariant.same
  | else-loop-left-test w ↦
      let unread = g.B.Buf.unread c.loop-left.buf in
      let none : take c.loop-left.left unread ≡ [] = nil_from_length _ (omega (arith, length-take-le c.loop-left.left unread c.loop-left.invariant.inside, w.loop-left-test.false)) in
      sym (kept_end _ _ _ (ap pair_at none ∙ no_id [] none_at_end)) ∙ c.loop-left.invariant.same
]
