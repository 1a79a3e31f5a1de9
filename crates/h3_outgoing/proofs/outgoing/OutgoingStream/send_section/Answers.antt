use Rattle.std.proofs.Common.{arith, ◌<◌, length, subst, sym}
use Rattle.h3_frames.specs.Outgoing.{all_of}
use Rattle.h3_outgoing.proofs.Queues.{framed}
use Rattle.h3_outgoing.proofs.outgoing.OutgoingStream.send_section.Goals as goal

pub push-requires-clause-some : goal.push-requires-clause-some
push-requires-clause-some c = subst (λ f. 0 < length (all_of f)) (sym c.headers.ensures.value) (framed 1 c.args.section (omega arith))
