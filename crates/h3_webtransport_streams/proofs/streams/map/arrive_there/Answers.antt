-- The index changes where a session is told.
use Rattle.std.proofs.Common.{rules}
use Rattle.h3_webtransport_streams.specs.Indexed.{AreIndexed}
use Rattle.h3_webtransport_streams.proofs.Indexing.{taken_indexed}
use Rattle.h3_webtransport_streams.proofs.streams.map.arrive_there.Goals.{then-tells_session, else-tells_session}
use Rattle.h3_webtransport_streams.proofs.streams.map.arrive_there.Goals as goal

pub returns-clause-indexed : goal.returns-clause-indexed
returns-clause-indexed c =
    let streams = c.arrive.new.streams.entries in
    elim c.if-tells_session.branch [
      | then-tells_session w ↦ search rules
      | else-tells_session w ↦
          let kept : AreIndexed c.args.turns.now streams = taken_indexed c.args.turns.now c.args.streams.now.entries streams c.args.id c.requires.indexed c.args.bytes c.in-Ok.begun
          c.tells_session.result (search rules) c.tells_session.ensures (search rules) c.in-Ok.ensures.ok in
          search (rules, kept)
    ]
