use Rattle.std.proofs.Common.{◌≤◌, length, subst}
use Rattle.h3_coding.specs.Encodings.{encoding}
use Rattle.h3_frames.specs.EncodedLaws.{length-encoding}
use Rattle.h3_wire.proofs.stream.headers.write_type.Goals as goal

pub returns-clause-short : goal.returns-clause-short
returns-clause-short g c = subst (λ n. length (encoding n) ≤ 8) c.value.ensures.value (length-encoding c.value.result c.value.ensures.bound)
