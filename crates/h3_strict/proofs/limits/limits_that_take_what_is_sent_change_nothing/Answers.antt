use Rattle.h3_strict.proofs.LimitWorlds.{loose_unlimited, strict_unlimited}
use Rattle.h3_strict.proofs.limits.limits_that_take_what_is_sent_change_nothing.Goals as goal

pub returns-clause-plain : goal.returns-clause-plain
returns-clause-plain c = λ setup events made none sendable taken. loose_unlimited c.encoded_sections_are_short.ensures.short setup events made sendable taken c.two_endpoints_run_in_a_world.ensures none

pub returns-clause-strict : goal.returns-clause-strict
returns-clause-strict c = λ setup events made strict sendable knows taken.
    strict_unlimited c.encoded_sections_are_short.ensures.short setup events made sendable taken c.two_strict_endpoints_run_in_a_world.ensures.world strict knows
