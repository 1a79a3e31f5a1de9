use Rattle.std.proofs.Common.{◌∙◌, ap}
use Rattle.h3_connection.specs.Lists.{list_of, pull_of}
use Rattle.h3_incoming.proofs.BlockPullLaws.{plain_listed, plain_told}
use Rattle.h3_incoming.proofs.block.BlockPull.give_made.Goals as goal

pub returns : goal.returns
returns c = record {
  is = λ h. ap pull_of c.give.ensures ∙ plain_told c.plain_of.result ∙ c.plain_of.ensures h;
  none = ap list_of c.give.ensures ∙ plain_listed c.plain_of.result;
}
