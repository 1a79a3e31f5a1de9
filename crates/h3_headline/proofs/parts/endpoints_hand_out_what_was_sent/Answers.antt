use Rattle.h3_world.specs.Ends.{answers_of_ends, new_ends}
use Rattle.h3_world.specs.World.{empty_world}
use Rattle.h3_headline.proofs.Cuts.{no_fault}
use Rattle.h3_headline.proofs.PulledAndSentLaws.{all_at, front_at}
use Rattle.h3_headline.proofs.parts.endpoints_hand_out_what_was_sent.Goals as goal

pub returns-clause-fault : goal.returns-clause-fault
returns-clause-fault c = λ setup events made plain sendable.
    let ran = c.two_endpoints_run_in_a_world.ensures setup events made plain sendable in
    no_fault setup (empty_world setup) ran.0 events (answers_of_ends (new_ends setup) events) ran.1

pub returns-clause-front : goal.returns-clause-front
returns-clause-front c = λ setup events side id made plain sendable.
    let ran = c.two_endpoints_run_in_a_world.ensures setup events made plain sendable in
    front_at c.what_is_cited_holds.ensures.worlds setup events (answers_of_ends (new_ends setup) events) ran.0 side id sendable ran.1

pub returns-clause-end : goal.returns-clause-end
returns-clause-end c = λ setup events side id made plain sendable ended.
    let ran = c.two_endpoints_run_in_a_world.ensures setup events made plain sendable in
    let r = all_at c.what_is_cited_holds.ensures.worlds setup events (answers_of_ends (new_ends setup) events) ran.0 side id sendable ran.1 ended in
    (r.all, r.has_finished)
