use Rattle.std.proofs.Common.{arith}
use Rattle.std.proofs.lemmas.Result.{MatchResult-weaker}
use Rattle.h3_coding.specs.ShortestLaws.{encoding_one, encoding_two, encoding_four, encoding_eight}
use Rattle.h3_coding.proofs.varint.put_encoding.Goals as goal

pub returns-then-x-clause-ok : goal.returns-then-x-clause-ok
returns-then-x-clause-ok g c = rw (encoding_one c.args.x (omega arith)) c.put_u8.ensures.ok

pub returns-then-x-clause-room : goal.returns-then-x-clause-room
returns-then-x-clause-room g c =
    rw (encoding_one c.args.x (omega arith)) (MatchResult-weaker c.put_u8.result c.put_u8.ensures.spare (λ _ p. p) (λ _ p. p.0))

pub returns-then-x-2-clause-ok : goal.returns-then-x-2-clause-ok
returns-then-x-2-clause-ok g c = rw (encoding_two c.args.x (omega arith) (omega arith)) c.put_u16.ensures.ok

pub returns-then-x-2-clause-room : goal.returns-then-x-2-clause-room
returns-then-x-2-clause-room g c =
    rw (encoding_two c.args.x (omega arith) (omega arith)) (MatchResult-weaker c.put_u16.result c.put_u16.ensures.spare (λ _ p. p) (λ _ p. p.0))

pub returns-then-x-3-clause-ok : goal.returns-then-x-3-clause-ok
returns-then-x-3-clause-ok g c = rw (encoding_four c.args.x (omega arith) (omega arith)) c.put_u32.ensures.ok

pub returns-then-x-3-clause-room : goal.returns-then-x-3-clause-room
returns-then-x-3-clause-room g c =
    rw (encoding_four c.args.x (omega arith) (omega arith)) (MatchResult-weaker c.put_u32.result c.put_u32.ensures.spare (λ _ p. p) (λ _ p. p.0))

pub returns-else-x-3-clause-ok : goal.returns-else-x-3-clause-ok
returns-else-x-3-clause-ok g c = rw (encoding_eight c.args.x (omega arith) (omega arith)) c.put_u64.ensures.ok

pub returns-else-x-3-clause-room : goal.returns-else-x-3-clause-room
returns-else-x-3-clause-room g c =
    rw (encoding_eight c.args.x (omega arith) (omega arith)) (MatchResult-weaker c.put_u64.result c.put_u64.ensures.spare (λ _ p. p) (λ _ p. p.0))
