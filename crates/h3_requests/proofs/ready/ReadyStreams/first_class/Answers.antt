-- The lesser of the first by bytes and the first by ends.
use Rattle.std.proofs.Common.{subst, sym}
use Rattle.h3_requests.specs.Ready.{is_ready, stands}
use Rattle.h3_requests.specs.Waiting.{is_waiting, IsFirstClass}
use Rattle.h3_requests.proofs.Ordered.{first_either}
use Rattle.h3_requests.proofs.ready.ReadyStreams.first_class.Goals as goal

pub returns : goal.returns
returns c =
    subst (IsFirstClass (stands c.args.self.now)) (sym c.lesser.ensures)
    (first_either (is_ready c.args.self.now) (is_waiting c.args.self.now.ends) c.first_class.result c.first_class-2.result c.first_class.ensures.few c.first_class-2.ensures.few c.first_class.ensures.first c.first_class-2.ensures.first)
