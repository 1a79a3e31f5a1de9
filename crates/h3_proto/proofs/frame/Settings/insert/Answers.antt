use Rattle.std.proofs.Common.{arith, sym, ◌∙◌}
use Rattle.h3_proto.proofs.KeptSettings.{kept_more}
use Rattle.h3_proto.proofs.frame.Settings.insert.Goals as goal

pub invariant_of-self : goal.invariant_of-self
invariant_of-self c =
    let i = c.self.invariant in
    let new = rw (← c.self.view_is, ← c.id.view_is) at (sym c.contains.ensures ∙ c.if-contains.false) in
    let more = kept_more c.self.inside.entries c.self.inside.len (c.id.inside.0, c.args.value) (record { few = i.0; places = i.1; pairs = i.2; differ = i.3 }) (omega arith) (record { id = omega arith; value = omega arith }) new in
    (more.few, more.places, more.pairs, more.differ)
