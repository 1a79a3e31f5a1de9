use Rattle.h3_proto.proofs.push.PushIdTryFromU64.try_from.Goals as goal

pub invariant_of-result : goal.invariant_of-result
invariant_of-result c = search

pub returns-then-x : goal.returns-then-x
returns-then-x c = search
