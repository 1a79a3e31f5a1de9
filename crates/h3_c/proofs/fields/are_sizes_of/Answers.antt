use Rattle.std.specs.Prelude.{[], is_some}
use Rattle.h3_c.specs.Given.{fields_cut}
use Rattle.h3_c.proofs.Cuts.{next_is, short_is, too_many_is, whole_is}
use Rattle.h3_c.proofs.fields.are_sizes_of.Goals as goal

pub returns-then-rest-len : goal.returns-then-rest-len
returns-then-rest-len c =
    short_is c.args.sizes.now c.loop-at.at c.loop-at.rest.now (is_some (fields_cut c.args.sizes.now [] c.args.bytes.now)) c.loop-at-test.true c.if-rest-len.true c.loop-at.invariant

pub loop-at-preserved : goal.loop-at-preserved
loop-at-preserved c =
    next_is c.args.sizes.now c.loop-at.at c.loop-at.rest.now _ (is_some (fields_cut c.args.sizes.now [] c.args.bytes.now)) c.loop-at-test.true c.if-rest-len.false
    c.behind-rest.ensures c.loop-at.invariant

pub returns-then-rest-gt0 : goal.returns-then-rest-gt0
returns-then-rest-gt0 c =
    too_many_is c.args.sizes.now c.loop-at.at c.loop-at.rest.now (is_some (fields_cut c.args.sizes.now [] c.args.bytes.now)) c.loop-at-test.false c.if-rest-gt0.true c.loop-at.invariant

pub returns : goal.returns
returns c =
    whole_is c.args.sizes.now c.loop-at.at c.loop-at.rest.now (is_some (fields_cut c.args.sizes.now [] c.args.bytes.now)) c.loop-at-test.false c.if-rest-gt0.false c.loop-at.invariant
