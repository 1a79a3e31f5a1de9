-- What follows of the list of an answer, and of the header that is made of it.
use Rattle.std.proofs.Common.{◌≡◌, List, Some, refl, sym, subst}
use Rattle.std.specs.Prelude.{Option, None}
use Rattle.h3_field.specs.Field.{Field}
use Rattle.h3_incoming.specs.Answering.{Lists}
use Rattle.h3_incoming.specs.HeaderSlots.{IsMadeOf, MakesHeader}
use Rattle.h3_incoming.specs.declared.header_slot.HeaderSlot.{HeaderSlot}
use Rattle.h3_incoming.specs.declared.header_slot.HeaderSlot.TheVariants as slot

-- the same list as another answer's, or none
pub lists_then : (listed mid came : Option (List Field)) → Lists listed mid → Lists mid came → Lists listed came
lists_then None mid came h k = tt
lists_then (Some l) mid came h k = subst (λ o. Lists o came) h k

-- without a list nothing is made
pub makes_none : (h : HeaderSlot) (listed : Option (List Field)) → listed ≡ None → MakesHeader h h listed
makes_none slot.Unasked listed e = refl
makes_none slot.Asked listed e = subst (IsMadeOf slot.Asked) (sym e) tt
makes_none (slot.Made h) listed e = refl

-- of the list that was handed out, or of none
pub makes_within : (old new : HeaderSlot) (mid listed : Option (List Field)) → Lists listed mid → MakesHeader old new mid → MakesHeader old new listed
makes_within slot.Unasked new mid listed h made = made
makes_within slot.Asked new mid None h made = tt
makes_within slot.Asked new mid (Some l) h made = subst (IsMadeOf new) h made
makes_within (slot.Made head) new mid listed h made = made
