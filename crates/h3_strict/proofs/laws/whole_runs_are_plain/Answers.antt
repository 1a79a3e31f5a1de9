use Rattle.h3_strict.specs.PlainEnds.{before_judged}
use Rattle.h3_strict.proofs.PlainRuns.{all_before, front_before, none_before, runs_faultless, runs_plainly}
use Rattle.h3_strict.proofs.laws.whole_runs_are_plain.Goals as goal

pub returns-clause-all : goal.returns-clause-all
returns-clause-all c = runs_plainly

pub returns-clause-faultless : goal.returns-clause-faultless
returns-clause-faultless c = runs_faultless c.ends_stay_bounded.ensures.few c.ends_stay_bounded.ensures.kept

pub returns-clause-front : goal.returns-clause-front
returns-clause-front c = λ ends events. (front_before ends events, runs_plainly ends (before_judged ends events) (none_before ends events))

pub returns-clause-none : goal.returns-clause-none
returns-clause-none c = none_before

pub returns-clause-whole : goal.returns-clause-whole
returns-clause-whole c = all_before
