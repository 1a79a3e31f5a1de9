-- Room was taken, what waits was put there, and the old class is left.
use Rattle.std.proofs.Common.{refl}
use Rattle.h3_requests.proofs.Ordered.{moves}
use Rattle.h3_requests.proofs.ready.ReadyStreams.change_class.Goals as goal

pub returns-clause-moves : goal.returns-clause-moves
returns-clause-moves c =
    moves c.args.before c.args.after c.args.id c.args.waits c.args.self.now c.reserve_class.new.self (record c.reserve_class.new.self { bytes = c.put_if.new.self })
    (record c.reserve_class.new.self { bytes = c.put_if.new.self; ends = c.put_if-2.new.self }) _ c.requires.differ c.reserve_class.ensures.same c.reserve_class.ensures.ending c.reserve_class.ensures.places
    c.in_ok-reserve_class.ensures.placed c.put_if.ensures.put refl c.put_if-2.ensures.put c.put_if-2.ensures.places refl c.leave.ensures.bytes c.leave.ensures.taken c.leave.ensures.places refl
