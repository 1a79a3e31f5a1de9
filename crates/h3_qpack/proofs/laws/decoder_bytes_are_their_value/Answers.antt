use Rattle.h3_qpack.specs.HearingLaws.{listened_as_value, listened_is}
use Rattle.h3_qpack.specs.StreamCutLaws.{cuts_are_listened_alike}
use Rattle.h3_qpack.proofs.laws.decoder_bytes_are_their_value.Goals as goal

pub returns-clause-value : goal.returns-clause-value
returns-clause-value c = listened_as_value

pub returns-clause-only : goal.returns-clause-only
returns-clause-only c = listened_is

pub returns-clause-cuts : goal.returns-clause-cuts
returns-clause-cuts c = cuts_are_listened_alike
