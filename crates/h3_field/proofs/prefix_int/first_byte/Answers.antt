use Rattle.std.proofs.Common.{arith, refl}
use Rattle.h3_field.proofs.Integers.{top_fits}
use Rattle.h3_field.proofs.prefix_int.first_byte.Goals as goal

pub overflow_add-result : goal.overflow_add-result
overflow_add-result c = let f = top_fits c.args.size c.args.flags c.args.low c.requires.most c.requires.flags c.requires.low in rw (c.from.ensures, f.0) (omega (arith, f.1))

pub overflow_cast-result : goal.overflow_cast-result
overflow_cast-result c = let f = top_fits c.args.size c.args.flags c.args.low c.requires.most c.requires.flags c.requires.low in rw (c.from.ensures, f.0) (omega (arith, f.1))

pub returns : goal.returns
returns c = let f = top_fits c.args.size c.args.flags c.args.low c.requires.most c.requires.flags c.requires.low in rw (c.from.ensures, f.0) refl
