use Rattle.h3_strict.proofs.PlainHeadlines.{hands_out_a_front, hands_out_all, left, may_be_sent, no_fault}
use Rattle.h3_strict.proofs.PlainSetups.{judges_plainly, setup_plainly}
use Rattle.h3_strict.specs.PlainEnds.{plain_setup}
use Rattle.h3_strict.proofs.laws.strict_endpoints_hand_out_what_was_sent.Goals as goal

pub returns-clause-fault : goal.returns-clause-fault
returns-clause-fault c = λ setup events made sendable runs.
    no_fault setup events made sendable runs
    (c.endpoints_hand_out_what_was_sent.ensures.fault (plain_setup setup) (left setup events made sendable runs) (setup_plainly setup made) (judges_plainly setup) (may_be_sent setup events made sendable runs))

pub returns-clause-front : goal.returns-clause-front
returns-clause-front c = λ setup events side id made sendable runs.
    hands_out_a_front setup events made sendable runs side id
    (c.endpoints_hand_out_what_was_sent.ensures.front (plain_setup setup) (left setup events made sendable runs) side id (setup_plainly setup made) (judges_plainly setup) (may_be_sent setup events made sendable runs))

pub returns-clause-end : goal.returns-clause-end
returns-clause-end c = λ setup events side id made sendable runs.
    hands_out_all setup events made sendable runs side id
    (c.endpoints_hand_out_what_was_sent.ensures.end (plain_setup setup) (left setup events made sendable runs) side id (setup_plainly setup made) (judges_plainly setup) (may_be_sent setup events made sendable runs))
