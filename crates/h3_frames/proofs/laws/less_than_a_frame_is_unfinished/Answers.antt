use Rattle.h3_frames.proofs.UnfinishedFronts.{fronts_are_unfinished}
use Rattle.h3_frames.proofs.laws.less_than_a_frame_is_unfinished.Goals as goal

pub returns : goal.returns
returns g c = λ kinds count short. fronts_are_unfinished kinds g.B.Buf.unread c.args.frame.now count c.requires.length c.known.ensures c.requires.reserved short
