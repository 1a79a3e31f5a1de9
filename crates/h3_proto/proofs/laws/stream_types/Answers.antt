use Rattle.h3_proto.proofs.laws.stream_types.Goals as goal

pub returns : goal.returns
returns c = search
