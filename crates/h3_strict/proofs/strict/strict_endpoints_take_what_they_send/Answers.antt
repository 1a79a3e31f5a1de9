use Rattle.h3_strict.proofs.NoneJudges.{none_judges}
use Rattle.h3_strict.proofs.PlainSetups.{judges_plainly, setup_plainly}
use Rattle.h3_strict.specs.PlainEnds.{plain_setup}
use Rattle.h3_strict.proofs.strict.strict_endpoints_take_what_they_send.Goals as goal

pub returns : goal.returns
returns c = λ setup events made strict sendable knows.
    none_judges c.what_is_cited_holds.ensures setup events (setup_plainly setup made)
    (λ all may. c.two_endpoints_run_in_a_world.ensures (plain_setup setup) all (setup_plainly setup made) (judges_plainly setup) may) strict sendable knows
