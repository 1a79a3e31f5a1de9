use Rattle.std.proofs.Common.{ap, sym, ◌∙◌, subst}
use Rattle.h3_frames.specs.Outgoing.{all_of}
use Rattle.h3_outgoing.specs.FrameForm.{frame_in}
use Rattle.h3_outgoing.specs.Held.{Fronts}
use Rattle.h3_outgoing.proofs.frame.Frame.put_front.Goals as goal

pub returns-in-Headers : goal.returns-in-Headers
returns-in-Headers c =
    subst (λ w. Fronts w c.args.out.now c.put_bytes.new.out c.put_bytes.result 0) (c.bytes.ensures ∙ ap all_of (ap frame_in (sym c.in-Headers.is) ∙ c.self.view_is)) c.put_bytes.ensures
