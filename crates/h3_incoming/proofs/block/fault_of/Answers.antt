use Rattle.h3_incoming.proofs.BlockPullLaws.{fault_message, fault_plain}
use Rattle.h3_incoming.proofs.block.fault_of.Goals as goal

pub returns-in-Message : goal.returns-in-Message
returns-in-Message c = λ fields. fault_message c.args.told.now _ _ fields c.in-Message.is

pub returns-in-Plain : goal.returns-in-Plain
returns-in-Plain c = λ fields. fault_plain c.args.told.now _ fields _ c.in-Plain.is c.fault_in.ensures
