use Rattle.std.proofs.Common.{arith}
use Rattle.std.proofs.lemmas.Grind.{common_steps}
use Rattle.h3_field.proofs.decoder_error.DecoderError.text.Goals as goal

pub returns-in-BadBaseIndex : goal.returns-in-BadBaseIndex
returns-in-BadBaseIndex c = grind (arith, common_steps)
