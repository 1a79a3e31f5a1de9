-- The ways of group 0.
use Rattle.h3_requests.proofs.over.ways.Ways.way_of.Goals as goal

pub way_of-requires-clause-ways : goal.way_of-requires-clause-ways
way_of-requires-clause-ways c = c.requires.ways 0
