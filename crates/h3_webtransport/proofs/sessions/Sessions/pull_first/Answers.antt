use Rattle.std.proofs.Common.{◌≡◌, true, sym, subst}
use Rattle.h3_webtransport.specs.Joint.{may_begin}
use Rattle.h3_webtransport.proofs.Pulling.{pulls_other, pulls_session}
use Rattle.h3_webtransport.proofs.sessions.Sessions.pull_first.Goals as goal

pub returns-in-Some-clause-first : goal.returns-in-Some-clause-first
returns-in-Some-clause-first c =
    rw (sym c.self.view_is)
    (pulls_session _ _ _ _ c.enter.new.self _ _ c.in-Some.session _ _ _ c.session_of.result (subst (λ s. may_begin s c.args.id ≡ true) (sym c.self.view_is) c.requires) c.in-Ok.ensures.ok c.pull_block.ensures.pulls
    c.session_of.ensures c.in-Some.is c.begin.ensures.begins)

pub returns-in-None-clause-first : goal.returns-in-None-clause-first
returns-in-None-clause-first c =
    rw (sym c.self.view_is)
    (pulls_other _ _ _ c.enter.new.self _ _ _ _ c.session_of.result (subst (λ s. may_begin s c.args.id ≡ true) (sym c.self.view_is) c.requires) c.in-Ok.ensures.ok c.pull_block.ensures.pulls
    c.session_of.ensures c.in-None.is c.forget.ensures.here c.forget.ensures.others)
