use Rattle.std.proofs.Common.{◌<◌, ◌+◌, ◌*◌, length, arith, ◌∙◌}
use Rattle.std.proofs.lemmas.List.{length-set}
use Rattle.h3_c.proofs.Pairing.{next}
use Rattle.h3_c.proofs.connection.further.GivenPairs.of.Goals as goal

pub loop-at-preserved : goal.loop-at-preserved
loop-at-preserved c =
    let numbers = c.args.numbers.now in
    let inside : 2 * c.loop-at.at + 1 < length numbers = omega (arith, c.loop-at-test.true) in
    let room : c.loop-at.at < length c.loop-at.pairs = omega (arith, c.loop-at-test.true, c.if-len-gt-MOST.false, c.loop-at.invariant.room) in
    record {
      given = next numbers c.loop-at.at c.loop-at.pairs _ inside room c.loop-at.invariant.given;
      room = length-set c.loop-at.pairs c.loop-at.at _ ∙ c.loop-at.invariant.room;
      within = omega (arith, c.loop-at-test.true);
    }
