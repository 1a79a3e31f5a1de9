use Rattle.h3_strict.proofs.KeepsTo.{advances_keep, asked_keeps, event_keeps, new_keeps, part_keeps}
use Rattle.h3_strict.proofs.NothingCounted.{refuses_alike}
use Rattle.h3_strict.proofs.laws.sides_that_judge_plainly_count_nothing.Goals as goal

pub returns-clause-first : goal.returns-clause-first
returns-clause-first c = new_keeps

pub returns-clause-event : goal.returns-clause-event
returns-clause-event c = event_keeps

pub returns-clause-reads : goal.returns-clause-reads
returns-clause-reads c = part_keeps

pub returns-clause-asked : goal.returns-clause-asked
returns-clause-asked c = asked_keeps

pub returns-clause-advances : goal.returns-clause-advances
returns-clause-advances c = advances_keep

pub returns-clause-sends : goal.returns-clause-sends
returns-clause-sends c = refuses_alike
