use Rattle.h3_headline.proofs.PulledAndSentLaws.{left_none_at}
use Rattle.h3_headline.proofs.parts.everything_comes_out.Goals as goal

pub returns-clause-none_left : goal.returns-clause-none_left
returns-clause-none_left c = λ setup before given w new side id p run happens. happens.comes_out

pub returns-clause-none_listed : goal.returns-clause-none_listed
returns-clause-none_listed c = λ setup before given w new side id l run happens. happens.comes_out

pub returns-clause-all : goal.returns-clause-all
returns-clause-all c = λ setup before given w new side id p sendable run happens delivered unsettled pauses.
    left_none_at c.what_is_cited_holds.ensures.worlds setup before given w side id sendable run (happens.comes_out delivered unsettled pauses)
