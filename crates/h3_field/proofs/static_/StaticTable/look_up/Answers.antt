use Rattle.std.proofs.Common.{◌≡◌, None, refl}
use Rattle.h3_field.specs.StaticTable.{static_name}
use Rattle.h3_field.proofs.StaticEntries.{no_name_no_field}
use Rattle.h3_field.proofs.static_.StaticTable.look_up.Goals as goal

pub returns-then-not-may_name : goal.returns-then-not-may_name
returns-then-not-may_name c =
    let none : static_name c.args.field.now.name ≡ None = rw c.name.ensures at (c.if-not-may_name.ensures refl) in
    (no_name_no_field c.args.field.now none, none)
