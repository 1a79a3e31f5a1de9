use Rattle.std.proofs.Common.{rules, ◌∙◌, ap}
use Rattle.h3_frames.specs.Outgoing.{all_of}
use Rattle.h3_outgoing.proofs.Headers.{left_is}
use Rattle.h3_outgoing.proofs.section.HeadersFrame.bytes.Goals as goal

pub returns : goal.returns
returns c = left_is c.self.inside.start _ c.as_slice-bytes.result.now c.self.invariant.0 (search rules) ∙ ap all_of c.self.view_is
