-- A DATA frame's type and length are all that came, or what came is read on.
use Rattle.std.proofs.Common.{ap, subst, sym, ◌∙◌}
use Rattle.h3_session.specs.ReadingBodies.{BeginsBody}
use Rattle.h3_c.specs.Seen.{Seen}
use Rattle.h3_c.proofs.Reading.{begun_reads, reads_behind}
use Rattle.h3_c.proofs.connection.Connection.read_on.Goals as goal

pub returns-then-not-begin : goal.returns-then-not-begin
returns-then-not-begin c =
    reads_behind c.args.self.now c.begin.new.self c.read_next.new.self _ _ _ _ _ _ _ (c.begin.ensures.same c.if-not-begin.true) c.begin.ensures.sessions c.begin.ensures.last c.begin.ensures.events
    c.read_next.ensures

pub returns : goal.returns
returns c =
    let begun = subst (λ (s : Seen). BeginsBody c.args.self.now.endpoint s.endpoint c.args.id c.args.bytes.now) (sym c.self.view_is) (c.begin.ensures.begins c.if-not-begin.false) in
    begun_reads c.args.self.now _ _ _ _ _ _ (c.begin.ensures.off c.if-not-begin.false) (ap (λ (s : Seen). s.sessions) c.self.view_is ∙ c.begin.ensures.sessions) (c.begin.ensures.no_fin c.if-not-begin.false) begun c.hold_none.ensures
    (ap (λ (s : Seen). s.events) c.self.view_is ∙ c.begin.ensures.events) c.plain_shown.ensures
