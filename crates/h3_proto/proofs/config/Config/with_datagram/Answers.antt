use Rattle.h3_proto.proofs.config.Config.with_datagram.Goals as goal

pub returns : goal.returns
returns c = search
