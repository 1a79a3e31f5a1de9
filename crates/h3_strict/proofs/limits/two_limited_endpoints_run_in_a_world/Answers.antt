use Rattle.h3_strict.proofs.LimitHeadlines.{loose_end, loose_fault, loose_front, loose_world}
use Rattle.h3_strict.proofs.limits.two_limited_endpoints_run_in_a_world.Goals as goal

pub returns-clause-world : goal.returns-clause-world
returns-clause-world c = λ setup events made none sendable early.
    loose_world setup events made none sendable (c.limits_that_take_what_is_sent_change_nothing.ensures.plain setup events made none sendable (c.limits_above_what_is_announced_take_what_is_sent.ensures.plain setup events made none sendable early)) c.two_endpoints_run_in_a_world.ensures

pub returns-clause-fault : goal.returns-clause-fault
returns-clause-fault c = λ setup events made none sendable early.
    loose_fault setup events made none sendable (c.limits_that_take_what_is_sent_change_nothing.ensures.plain setup events made none sendable (c.limits_above_what_is_announced_take_what_is_sent.ensures.plain setup events made none sendable early)) c.endpoints_hand_out_what_was_sent.ensures.fault

pub returns-clause-front : goal.returns-clause-front
returns-clause-front c = λ setup events side id made none sendable early.
    loose_front setup events made none sendable (c.limits_that_take_what_is_sent_change_nothing.ensures.plain setup events made none sendable (c.limits_above_what_is_announced_take_what_is_sent.ensures.plain setup events made none sendable early)) c.endpoints_hand_out_what_was_sent.ensures.front side id

pub returns-clause-end : goal.returns-clause-end
returns-clause-end c = λ setup events side id made none sendable early.
    loose_end setup events made none sendable (c.limits_that_take_what_is_sent_change_nothing.ensures.plain setup events made none sendable (c.limits_above_what_is_announced_take_what_is_sent.ensures.plain setup events made none sendable early)) c.endpoints_hand_out_what_was_sent.ensures.end side id
