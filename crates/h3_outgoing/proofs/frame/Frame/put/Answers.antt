use Rattle.std.proofs.Common.{rules}
use Rattle.h3_frames.specs.Outgoing.{all_of}
use Rattle.h3_outgoing.proofs.HeldFronts.{put_else}
use Rattle.h3_outgoing.proofs.frame.Frame.put.Goals as goal

pub returns-else-past-gt0 : goal.returns-else-past-gt0
returns-else-past-gt0 c =
    put_else (all_of c.args.self.now) c.args.out.now c.put_from-next.new.out c.args.at c.put_from-next.result.0 c.put_from-next.result.1 c.requires c.put_from-next.ensures.copied c.put_from-next.ensures.past (search rules)
