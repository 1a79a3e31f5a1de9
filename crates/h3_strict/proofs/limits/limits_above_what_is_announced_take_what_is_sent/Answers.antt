use Rattle.h3_strict.proofs.LimitEarly.{loose_taken, strict_taken}
use Rattle.h3_strict.proofs.MadeLimits.{limits_made}
use Rattle.h3_strict.proofs.limits.limits_above_what_is_announced_take_what_is_sent.Goals as goal

pub returns-clause-made : goal.returns-clause-made
returns-clause-made c = limits_made

pub returns-clause-plain : goal.returns-clause-plain
returns-clause-plain c = λ setup events made none sendable early.
    loose_taken c.encoded_sections_are_short.ensures.short c.what_is_cited_holds.ensures.streams setup events made sendable early c.two_endpoints_run_in_a_world.ensures none

pub returns-clause-strict : goal.returns-clause-strict
returns-clause-strict c = λ setup events made strict sendable knows early.
    strict_taken c.encoded_sections_are_short.ensures.short c.what_is_cited_holds.ensures.streams setup events made sendable early c.two_strict_endpoints_run_in_a_world.ensures.world c.two_strict_endpoints_run_in_a_world.ensures.fault strict knows
