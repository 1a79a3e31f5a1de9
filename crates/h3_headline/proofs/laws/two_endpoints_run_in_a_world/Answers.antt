use Rattle.h3_headline.proofs.EventLaws.{two_ends_run}
use Rattle.h3_headline.proofs.laws.two_endpoints_run_in_a_world.Goals as goal

pub returns : goal.returns
returns c = λ setup events made plain sendable.
    let run = two_ends_run c.what_is_cited_holds.ensures setup events made plain sendable in
    (run.new, run.run, run.stands)
