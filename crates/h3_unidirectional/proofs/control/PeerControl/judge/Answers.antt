use Rattle.std.proofs.Common.{ap, sym, ◌∙◌}
use Rattle.std.specs.Option.{is_some}
use Rattle.h3_connection.specs.PeerReading.{Peer}
use Rattle.h3_unidirectional.proofs.PeerLaws.{judged_later, judged_first}
use Rattle.h3_unidirectional.proofs.control.PeerControl.judge.Goals as goal

pub returns-then-is_some : goal.returns-then-is_some
returns-then-is_some c =
    judged_later _ _ _ _ _ (ap (λ (x : Peer). is_some x.settings) (sym c.self.view_is) ∙ sym c.is_some.ensures ∙ c.if-is_some.true) c.judge_later.ensures

pub returns : goal.returns
returns c =
    judged_first _ _ _ _ _ (ap (λ (x : Peer). is_some x.settings) (sym c.self.view_is) ∙ sym c.is_some.ensures ∙ c.if-is_some.false) (c.judge_first.ensures c.args.side _)
