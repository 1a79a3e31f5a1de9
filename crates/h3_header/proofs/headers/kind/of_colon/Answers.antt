use Rattle.std.proofs.Common.{rules}
use Rattle.h3_header.specs.Reads.{kind_of}
use Rattle.h3_header.proofs.headers.kind.of_colon.Goals as goal

pub returns-then-is_text : goal.returns-then-is_text
unfolding kind_of
returns-then-is_text c = search rules

pub returns-then-is_text-2 : goal.returns-then-is_text-2
unfolding kind_of
returns-then-is_text-2 c = search rules

pub returns-then-is_text-3 : goal.returns-then-is_text-3
unfolding kind_of
returns-then-is_text-3 c = search rules

pub returns-then-is_text-4 : goal.returns-then-is_text-4
unfolding kind_of
returns-then-is_text-4 c = search rules

pub returns-then-is_text-5 : goal.returns-then-is_text-5
unfolding kind_of
returns-then-is_text-5 c = search rules

pub returns-then-is_text-6 : goal.returns-then-is_text-6
unfolding kind_of
returns-then-is_text-6 c = search rules

pub returns-else-is_text-6 : goal.returns-else-is_text-6
unfolding kind_of
returns-else-is_text-6 c = search rules
