use Rattle.h3_connection.specs.AnnouncingLaws.{announced_as, limit_takes_announced}
use Rattle.h3_connection.proofs.laws.a_limit_takes_what_is_announced.Goals as goal

pub returns-clause-section : goal.returns-clause-section
returns-clause-section c = λ settings limits choices a made limited. (limit_takes_announced a limited (announced_as settings limits choices a made).within).0

pub returns-clause-instruction : goal.returns-clause-instruction
returns-clause-instruction c = λ settings limits choices a made limited. (limit_takes_announced a limited (announced_as settings limits choices a made).within).1

pub returns-clause-other : goal.returns-clause-other
returns-clause-other c = λ settings limits choices a made limited. (limit_takes_announced a limited (announced_as settings limits choices a made).within).2
