use Rattle.h3_strict.proofs.LimitHeadlines.{strict_none}
use Rattle.h3_world.specs.Ends.{new_ends}
use Rattle.h3_strict.proofs.limits.two_strict_limited_endpoints_run_in_a_world.Goals as goal

pub returns-clause-none : goal.returns-clause-none
returns-clause-none c = λ setup events made strict sendable knows early.
    strict_none setup events made strict sendable knows
    (c.limits_that_take_what_is_sent_change_nothing.ensures.strict setup events made strict sendable knows (c.limits_above_what_is_announced_take_what_is_sent.ensures.strict setup events made strict sendable knows early)) c.strict_endpoints_take_what_they_send.ensures

pub returns-clause-world : goal.returns-clause-world
returns-clause-world c = λ setup events made strict sendable knows early.
    c.strict_endpoints_run_in_a_world.ensures setup events made sendable (c.whole_runs_are_plain.ensures.all (new_ends setup) events (returns-clause-none c setup events made strict sendable knows early))

pub returns-clause-fault : goal.returns-clause-fault
returns-clause-fault c = λ setup events made strict sendable knows early.
    c.strict_endpoints_hand_out_what_was_sent.ensures.fault setup events made sendable (c.whole_runs_are_plain.ensures.all (new_ends setup) events (returns-clause-none c setup events made strict sendable knows early))

pub returns-clause-front : goal.returns-clause-front
returns-clause-front c = λ setup events side id made strict sendable knows early.
    c.strict_endpoints_hand_out_what_was_sent.ensures.front setup events side id made sendable (c.whole_runs_are_plain.ensures.all (new_ends setup) events (returns-clause-none c setup events made strict sendable knows early))

pub returns-clause-end : goal.returns-clause-end
returns-clause-end c = λ setup events side id made strict sendable knows early.
    c.strict_endpoints_hand_out_what_was_sent.ensures.end setup events side id made sendable (c.whole_runs_are_plain.ensures.all (new_ends setup) events (returns-clause-none c setup events made strict sendable knows early))
