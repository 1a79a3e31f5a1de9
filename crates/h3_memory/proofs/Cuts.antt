-- What is left of a section, or of a list, that was cut off: the insertions for a front of its fields, or all as it was.
use Rattle.std.proofs.Common.{◌≡◌, ◌⊎◌, inl, inr, ℕ, List, take, sym, subst, Option, Some, None}
use Rattle.h3_field.specs.Field.{Field}
use Rattle.h3_proto.specs.declared.stream.Side.{Side}
use Rattle.h3_connection.specs.declared.event.Refusal.{Refusal}
use Rattle.h3_connection.specs.declared.event.Refusal.TheVariants as refusal
use Rattle.h3_world.specs.Refused.{with_insertions}
use Rattle.h3_world.specs.World.{World}
use Rattle.h3_memory.specs.Kept.{KeepingWorld}
use Rattle.h3_memory.specs.MemoryStep.{CutsList, CutsOff, CutsSection}

abbrev pub Left : KeepingWorld → Side → ℕ → List Field → KeepingWorld → Type 0
Left k side id fields new = CutsOff k side id fields new ⊎ (new ≡ k)

pub section_left : (k new : KeepingWorld) (side : Side) (id : ℕ) (fields : List Field) (o : Option Refusal) → CutsSection o k side id fields new → Left k side id fields new
section_left k new side id fields None cut = inl cut
section_left k new side id fields (Some (refusal.Closed code)) cut = absurd cut
section_left k new side id fields (Some (refusal.Connection code)) cut = absurd cut
section_left k new side id fields (Some refusal.NotReceiving) cut = absurd cut
section_left k new side id fields (Some refusal.AfterEnd) cut = absurd cut
section_left k new side id fields (Some refusal.Kept) cut = absurd cut
section_left k new side id fields (Some refusal.NotClient) cut = absurd cut
section_left k new side id fields (Some (refusal.GoingAway last)) cut = absurd cut
section_left k new side id fields (Some refusal.IdsUsedUp) cut = absurd cut
section_left k new side id fields (Some refusal.NotOpen) cut = absurd cut
section_left k new side id fields (Some refusal.OutOfOrder) cut = absurd cut
section_left k new side id fields (Some refusal.WrongSide) cut = absurd cut
section_left k new side id fields (Some refusal.PseudoInTrailer) cut = absurd cut
section_left k new side id fields (Some (refusal.Malformed why)) cut = absurd cut
section_left k new side id fields (Some (refusal.TooLarge n)) cut = inr cut
section_left k new side id fields (Some refusal.Critical) cut = absurd cut
section_left k new side id fields (Some refusal.Ended) cut = absurd cut
section_left k new side id fields (Some refusal.NotRequestId) cut = absurd cut
section_left k new side id fields (Some (refusal.Raised n)) cut = absurd cut
section_left k new side id fields (Some refusal.OutOfMemory) cut = absurd cut

pub list_left : (k new : KeepingWorld) (side : Side) (id : ℕ) (fields : List Field) (o : Option Refusal) → CutsList o k side id fields new → Left k side id fields new
list_left k new side id fields None cut = inl cut
list_left k new side id fields (Some (refusal.Closed code)) cut = absurd cut
list_left k new side id fields (Some (refusal.Connection code)) cut = absurd cut
list_left k new side id fields (Some refusal.NotReceiving) cut = absurd cut
list_left k new side id fields (Some refusal.AfterEnd) cut = absurd cut
list_left k new side id fields (Some refusal.Kept) cut = absurd cut
list_left k new side id fields (Some refusal.NotClient) cut = absurd cut
list_left k new side id fields (Some (refusal.GoingAway last)) cut = absurd cut
list_left k new side id fields (Some refusal.IdsUsedUp) cut = absurd cut
list_left k new side id fields (Some refusal.NotOpen) cut = absurd cut
list_left k new side id fields (Some refusal.OutOfOrder) cut = absurd cut
list_left k new side id fields (Some refusal.WrongSide) cut = inr cut.1
list_left k new side id fields (Some refusal.PseudoInTrailer) cut = inr cut.1
list_left k new side id fields (Some (refusal.Malformed why)) cut = inr cut.1
list_left k new side id fields (Some (refusal.TooLarge n)) cut = inr cut
list_left k new side id fields (Some refusal.Critical) cut = absurd cut
list_left k new side id fields (Some refusal.Ended) cut = absurd cut
list_left k new side id fields (Some refusal.NotRequestId) cut = absurd cut
list_left k new side id fields (Some (refusal.Raised n)) cut = absurd cut
list_left k new side id fields (Some refusal.OutOfMemory) cut = absurd cut

-- What holds before, and after any insertions, holds of the world that is left.
pub left_holds : (P : World → Type 0) (k new : KeepingWorld) (side : Side) (id : ℕ) (fields : List Field) → ((front : List Field) → P (with_insertions k.world side id front)) → P k.world → Left k side id fields new → P new.world
left_holds P k new side id fields inserted same (inl cut) = subst (λ x. P x.world) (sym cut.inserted) (inserted (take cut.front fields))
left_holds P k new side id fields inserted same (inr is) = subst (λ x. P x.world) (sym is) same
