use Rattle.h3_field.specs.LengthLaws.{shortest, shortest_within}
use Rattle.h3_field.proofs.laws.strings_are_shortest.Goals as goal

pub returns-clause-shortest : goal.returns-clause-shortest
returns-clause-shortest c = shortest

pub returns-clause-within : goal.returns-clause-within
returns-clause-within c = shortest_within
