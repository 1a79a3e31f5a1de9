use Rattle.h3_world.specs.Ends.{new_ends}
use Rattle.h3_strict.proofs.strict.two_strict_endpoints_run_in_a_world.Goals as goal

pub returns-clause-world : goal.returns-clause-world
returns-clause-world c = λ setup events made strict sendable knows.
    c.strict_endpoints_run_in_a_world.ensures setup events made sendable (c.whole_runs_are_plain.ensures.all (new_ends setup) events (c.strict_endpoints_take_what_they_send.ensures setup events made strict sendable knows))

pub returns-clause-fault : goal.returns-clause-fault
returns-clause-fault c = λ setup events made strict sendable knows.
    c.strict_endpoints_hand_out_what_was_sent.ensures.fault setup events made sendable (c.whole_runs_are_plain.ensures.all (new_ends setup) events (c.strict_endpoints_take_what_they_send.ensures setup events made strict sendable knows))

pub returns-clause-front : goal.returns-clause-front
returns-clause-front c = λ setup events side id made strict sendable knows.
    c.strict_endpoints_hand_out_what_was_sent.ensures.front setup events side id made sendable (c.whole_runs_are_plain.ensures.all (new_ends setup) events (c.strict_endpoints_take_what_they_send.ensures setup events made strict sendable knows))

pub returns-clause-end : goal.returns-clause-end
returns-clause-end c = λ setup events side id made strict sendable knows.
    c.strict_endpoints_hand_out_what_was_sent.ensures.end setup events side id made sendable (c.whole_runs_are_plain.ensures.all (new_ends setup) events (c.strict_endpoints_take_what_they_send.ensures setup events made strict sendable knows))
