use Rattle.std.proofs.Common.{refl}
use Rattle.h3_frames.specs.declared.buf.singles.TheConstants.{BYTES}
use Rattle.h3_frames.proofs.ElementLemmas.{one_byte, IsEachByte}
use Rattle.h3_frames.proofs.buf.singles.part.Goals as goal

table : IsEachByte BYTES
table = refl

pub returns : goal.returns
returns c = one_byte BYTES c.args.byte table c.requires c.requires
