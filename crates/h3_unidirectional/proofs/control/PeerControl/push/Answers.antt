use Rattle.std.specs.List.{concat}
use Rattle.h3_unidirectional.proofs.ControlFronts.{kept_more}
use Rattle.h3_unidirectional.proofs.control.PeerControl.push.Goals as goal

pub returns-clause-ok : goal.returns-clause-ok
returns-clause-ok c = kept_more c.push.result _ _ (concat c.push.new.self.pieces) c.args.bytes c.self.view_is c.push.ensures.bytes
