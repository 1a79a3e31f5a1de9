use Rattle.std.proofs.Common.{ap, sym, ◌∙◌}
use Rattle.h3_frames.specs.Outgoing.{first_part}
use Rattle.h3_outgoing.specs.FrameForm.{frame_in}
use Rattle.h3_outgoing.specs.Held.{front_of}
use Rattle.h3_outgoing.specs.HeldLaws.{front_bytes}
use Rattle.h3_outgoing.proofs.frame.Frame.first_part.Goals as goal

pub returns-in-Headers : goal.returns-in-Headers
returns-in-Headers c =
    sym (front_bytes c.as_bytes.result.now c.as_bytes.ensures.each)
    ∙ ap front_of (c.as_bytes.ensures.same ∙ c.first_part.ensures ∙ ap first_part (ap frame_in (sym c.in-Headers.is) ∙ c.self.view_is))

pub returns-in-Data : goal.returns-in-Data
returns-in-Data c =
    sym (front_bytes c.as_bytes-in-Data.result.now c.as_bytes-in-Data.ensures.each)
    ∙ ap front_of (c.as_bytes-in-Data.ensures.same ∙ c.first_part-in-Data.ensures ∙ ap first_part (ap frame_in (sym c.in-Data.is) ∙ c.self.view_is))
