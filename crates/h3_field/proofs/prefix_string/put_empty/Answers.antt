use Rattle.h3_field.proofs.Strings.{string_flags, empty_plain, empty_coded}
use Rattle.h3_field.proofs.prefix_string.put_empty.Goals as goal

pub encode-requires-clause-flags : goal.encode-requires-clause-flags
encode-requires-clause-flags c = string_flags c.args.size c.args.flags c.requires.least c.requires.most c.requires.flags

pub returns-then-shortest-clause-ok : goal.returns-then-shortest-clause-ok
returns-then-shortest-clause-ok c = rw (empty_plain c.args.size c.args.flags c.args.shortest c.args.value.now c.requires.empty c.if-shortest.true) c.put_plain.ensures.ok

pub returns-clause-ok : goal.returns-clause-ok
returns-clause-ok c = rw (empty_coded c.args.size c.args.flags c.args.shortest c.args.value.now c.requires.empty c.if-shortest.false) (rw c.requires.empty at c.encode.ensures.ok)
