use Rattle.std.proofs.Common.{◌≡◌, slice_index, refl, ◌∙◌}
use Rattle.h3_messages.proofs.Names.{lone_by_third}
use Rattle.h3_messages.specs.declared.known.Known.TheVariants.{Connection, KeepAlive}
use Rattle.h3_messages.proofs.known.regular_of_ten.Goals as goal

pub returns-in-110 : goal.returns-in-110
returns-in-110 c =
    let third : slice_index c.args.name.now 2 ≡ 110 = cc in
    c.if_same.ensures ∙ lone_by_third c.args.name.now 10 110 Connection c.requires.size third refl

pub returns-in-101 : goal.returns-in-101
returns-in-101 c =
    let third : slice_index c.args.name.now 2 ≡ 101 = cc in
    c.if_same-in-101.ensures ∙ lone_by_third c.args.name.now 10 101 KeepAlive c.requires.size third refl
