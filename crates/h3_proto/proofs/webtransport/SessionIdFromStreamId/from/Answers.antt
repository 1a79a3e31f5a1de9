use Rattle.h3_proto.proofs.webtransport.SessionIdFromStreamId.from.Goals as goal

pub invariant_of-result : goal.invariant_of-result
invariant_of-result c = search

pub returns : goal.returns
returns c = search
