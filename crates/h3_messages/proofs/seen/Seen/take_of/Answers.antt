use Rattle.std.proofs.Common.{◌≡◌, Some, None}
use Rattle.h3_messages.specs.Known.{known_at}
use Rattle.h3_messages.proofs.KindNames.{kind_named, kind_pseudo, kind_regular}
use Rattle.h3_messages.proofs.seen.Seen.take_of.Goals as goal

pub take_pseudo-requires-clause-named : goal.take_pseudo-requires-clause-named
take_pseudo-requires-clause-named c =
    let e : Some c.in-Some.known ≡ known_at c.args.kind = cc in
    kind_named c.args.field.now c.args.kind c.in-Some.known c.requires.kind e

pub take_pseudo-requires-clause-pseudo : goal.take_pseudo-requires-clause-pseudo
take_pseudo-requires-clause-pseudo c =
    let e : Some c.in-Some.known ≡ known_at c.args.kind = cc in
    kind_pseudo c.args.field.now c.args.kind c.in-Some.known c.requires.kind e

pub take_regular-requires : goal.take_regular-requires
take_regular-requires c =
    let e : None ≡ known_at c.args.kind = cc in
    kind_regular c.args.field.now c.args.kind c.requires.kind c.requires.good e
