use Rattle.std.proofs.Common.{rules, ◌≡◌, ◌++◌, take, arith}
use Rattle.std.proofs.lemmas.Grind.{common_steps}
use Rattle.h3_script.proofs.Reading.{read_ended, read_more, round_more}
use Rattle.h3_script.proofs.input.gather.Goals as goal

pub returns-then-count-eq0 : goal.returns-then-count-eq0
returns-then-count-eq0 g c =
    read_ended _ _ _ c.loop.bytes.items c.read.new.buf c.in-Ok.count c.loop.invariant.taken c.in-Ok.ensures.bytes c.if-count-eq0.true (grind (arith, common_steps))

pub returns-then-len-gt-MOST : goal.returns-then-len-gt-MOST
returns-then-len-gt-MOST g c =
    let items : c.extend_from_slice.new.self.items ≡ c.loop.bytes.items ++ take c.in-Ok.count c.read.new.buf = search rules in
    record {
      taken = read_more _ _ _ c.loop.bytes.items c.read.new.buf _ c.in-Ok.count c.loop.invariant.taken c.in-Ok.ensures.bytes items;
      all = λ few. absurd (grind (arith, common_steps, few));
    }

pub loop-preserved : goal.loop-preserved
loop-preserved g c =
    let items : c.extend_from_slice.new.self.items ≡ c.loop.bytes.items ++ take c.in-Ok.count c.read.new.buf = search rules in
    record {
      taken = read_more _ _ _ c.loop.bytes.items c.read.new.buf _ c.in-Ok.count c.loop.invariant.taken c.in-Ok.ensures.bytes items;
      rounds = round_more c.loop.bytes.items c.read.new.buf _ c.in-Ok.count c.loop.counter items c.loop.invariant.rounds c.in-Ok.ensures.bound.0 c.if-count-eq0.false;
    }

pub returns : goal.returns
returns g c = record { taken = c.loop.invariant.taken; all = λ few. absurd (omega (arith, few)) }
