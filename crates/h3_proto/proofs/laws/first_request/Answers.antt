use Rattle.h3_proto.proofs.laws.first_request.Goals as goal

pub returns : goal.returns
returns c = search
