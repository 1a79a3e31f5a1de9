use Rattle.std.proofs.Common.{rules, ◌∙◌, ap}
use Rattle.h3_frames.specs.Outgoing.{first_part}
use Rattle.h3_outgoing.proofs.Headers.{head_is}
use Rattle.h3_outgoing.proofs.section.HeadersFrame.first_part.Goals as goal

pub returns-then-self-lt-HEAD_ROOM : goal.returns-then-self-lt-HEAD_ROOM
returns-then-self-lt-HEAD_ROOM c = head_is c.self.inside.start _ c.as_slice-bytes.result.now c.self.invariant.0 (search rules) (search rules) ∙ ap first_part c.self.view_is
