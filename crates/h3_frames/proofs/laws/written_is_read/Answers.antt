use Rattle.h3_frames.proofs.WrittenFrames.{written_is_read}
use Rattle.h3_frames.proofs.laws.written_is_read.Goals as goal

pub returns : goal.returns
returns g c = λ rest. written_is_read g.B.Buf.unread c.args.frame.now rest c.requires.length c.known.ensures c.requires.reserved
