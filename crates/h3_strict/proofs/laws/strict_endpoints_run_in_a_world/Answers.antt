use Rattle.h3_strict.proofs.PlainHeadlines.{runs_in_a_world}
use Rattle.h3_strict.proofs.laws.strict_endpoints_run_in_a_world.Goals as goal

pub returns : goal.returns
returns c = λ setup events made sendable runs. runs_in_a_world setup events made sendable runs c.two_endpoints_run_in_a_world.ensures
