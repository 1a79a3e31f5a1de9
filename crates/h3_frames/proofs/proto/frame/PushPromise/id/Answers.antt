use Rattle.h3_frames.proofs.proto.frame.PushPromise.id.Goals as goal

pub returns : goal.returns
returns c = search
