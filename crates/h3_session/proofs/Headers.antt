-- A pull that answers no list makes no header.
use Rattle.std.proofs.Common.{◌≡◌, List, refl, sym, subst}
use Rattle.std.specs.Prelude.{Option, None}
use Rattle.h3_field.specs.Field.{Field}
use Rattle.h3_incoming.specs.HeaderSlots.{IsMadeOf, MakesHeader}
use Rattle.h3_incoming.specs.declared.header_slot.HeaderSlot.{HeaderSlot}
use Rattle.h3_incoming.specs.declared.header_slot.HeaderSlot.TheVariants as slot

pub makes_none : (h : HeaderSlot) (listed : Option (List Field)) → listed ≡ None → MakesHeader h h listed
makes_none slot.Unasked listed e = refl
makes_none slot.Asked listed e = subst (IsMadeOf slot.Asked) (sym e) tt
makes_none (slot.Made h) listed e = refl
