use Rattle.h3_frames.specs.EncodedLaws.{length-head}
use Rattle.h3_frames.proofs.proto.frame.encode.write_numbers.Goals as goal

pub returns-in_err-write_var-clause-short : goal.returns-in_err-write_var-clause-short
returns-in_err-write_var-clause-short g c = length-head c.args.first c.args.second c.requires.first c.requires.second

pub returns-clause-short : goal.returns-clause-short
returns-clause-short g c = length-head c.args.first c.args.second c.requires.first c.requires.second
