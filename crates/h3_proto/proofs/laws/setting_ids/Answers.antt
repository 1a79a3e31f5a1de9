use Rattle.h3_proto.proofs.laws.setting_ids.Goals as goal

pub returns : goal.returns
returns c = search
