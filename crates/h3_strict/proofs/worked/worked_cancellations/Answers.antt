use Rattle.h3_coding.specs.Encodings.{encoding}
use Rattle.h3_coding.specs.Varint.{varint_at}
use Rattle.h3_proto.specs.Pairs.{split_of}
use Rattle.h3_frames.specs.Frames.{frame_by, frame_of}
use Rattle.h3_frames.specs.Known.{known_by}
use Rattle.h3_connection.specs.ExcessiveInstructions.{hear_up_to, listen_up_to}
use Rattle.h3_connection.specs.PeerReading.{read_peer}
use Rattle.std.proofs.Common.{◌≡◌, true, false, arith, refl}
use Rattle.h3_proto.specs.declared.stream.Side.TheVariants.{Client, Server}
use Rattle.h3_strict.specs.Limits.{LimitsTakeWhatIsSent}
use Rattle.h3_strict.specs.WorkedLimits.{small_server}
use Rattle.h3_strict.proofs.worked.worked_cancellations.Goals as goal

limits : LimitsTakeWhatIsSent small_server
unfolding encoding
limits Client = (omega arith, λ limited. absurd (let never : false ≡ true = limited in cc))
limits Server = (omega arith, λ limited. omega arith)

pub returns-clause-limits : goal.returns-clause-limits
returns-clause-limits c = limits

pub returns-clause-waits : goal.returns-clause-waits
unfolding encoding varint_at split_of frame_by frame_of known_by hear_up_to listen_up_to read_peer
returns-clause-waits c = refl

pub returns-clause-settled : goal.returns-clause-settled
unfolding encoding varint_at split_of frame_by frame_of known_by hear_up_to listen_up_to read_peer
returns-clause-settled c = refl
