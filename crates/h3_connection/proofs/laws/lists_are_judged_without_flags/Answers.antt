use Rattle.h3_connection.specs.FlagLaws.{sizes_alike, costs_alike, broken_heads_alike, broken_trailers_alike}
use Rattle.h3_connection.specs.FlagReadLaws.{sections_read_alike, guarded_sections_read}
use Rattle.h3_connection.proofs.laws.lists_are_judged_without_flags.Goals as goal

pub returns-clause-size : goal.returns-clause-size
returns-clause-size c = sizes_alike

pub returns-clause-cost : goal.returns-clause-cost
returns-clause-cost c = costs_alike

pub returns-clause-head : goal.returns-clause-head
returns-clause-head c = broken_heads_alike

pub returns-clause-trailer : goal.returns-clause-trailer
returns-clause-trailer c = broken_trailers_alike

pub returns-clause-read : goal.returns-clause-read
returns-clause-read c = sections_read_alike

pub returns-clause-guarded : goal.returns-clause-guarded
returns-clause-guarded c = guarded_sections_read
