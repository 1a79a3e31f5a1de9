use Rattle.std.proofs.Common.{◌++◌, sym}
use Rattle.std.proofs.lemmas.List.{get_or_past}
use Rattle.std.proofs.lemmas.Option.{get_or_from_slice_get}
use Rattle.h3_table.proofs.index.older.Goals as goal

pub returns-in-Some : goal.returns-in-Some
returns-in-Some c = sym (get_or_from_slice_get (c.args.links.now.first.now ++ c.args.links.now.further.now) c.args.place _ 0 c.in-Some.ensures.some)

pub returns-in-None : goal.returns-in-None
returns-in-None c = sym (get_or_past (c.args.links.now.first.now ++ c.args.links.now.further.now) c.args.place 0 c.in-None.ensures.none)
