use Rattle.h3_proto.proofs.laws.most_bytes.Goals as goal

pub returns : goal.returns
returns c = search
