-- A stream is cut off by its sender, whose end is not kept: what is kept of both sides stays readable, and what it is.
use Rattle.std.proofs.Common.{◌≡◌, ℕ, true, false, List, [], inr, refl, sym, ◌∙◌, append-nil}
use Rattle.h3_proto.specs.declared.stream.Side.{Side}
use Rattle.h3_connection.specs.OwnIds.{other}
use Rattle.h3_world.specs.Setup.{Setup}
use Rattle.h3_world.specs.Delivering.{is_closed}
use Rattle.h3_world.specs.Sending.{cut_off}
use Rattle.h3_world.specs.Streams.{flow, is_open}
use Rattle.h3_world.specs.World.{World}
use Rattle.h3_headline.specs.FlowLaws.{open_there}
use Rattle.h3_memory.specs.Kept.{Delivery}
use Rattle.h3_memory.specs.Keeping.{came_of, text_of}
use Rattle.h3_memory.proofs.Growing.{kept_grow}
use Rattle.h3_memory.proofs.ResetKept.{has_end, cut, cut_text, cut_came, cut_readable}
use Rattle.h3_memory.proofs.SendingEvents.{StaysKept, stays_on}
use Rattle.h3_memory.proofs.WorldsWritten.{other_on}

-- What was handed over of the side.
pub cut_stays : (setup : Setup) (w : World) (side : Side) (id : ℕ) (ds : List Delivery) → is_open w side id ≡ true → has_end id ds ≡ false → StaysKept setup w (cut_off w side id) side ds
cut_stays setup w side id ds opened no_end =
    let there = open_there w side id opened in
    record {
      may = λ may. cut_readable setup w side id ds there no_end may;
      came = λ i. cut_came w side id i there;
      kept = λ held arrivals may kept.
          kept_grow setup w (cut_off w side id) side (λ i. []) (came_of w side) (came_of (cut_off w side id) side) (is_closed w side) held ds arrivals
          (λ i. cut_text setup w side id i there ∙ sym (append-nil (text_of setup w side i))) (λ i. cut_came w side id i there) may kept;
    }

-- And of the other one.
pub cut_spares : (setup : Setup) (w : World) (side : Side) (id : ℕ) (ds : List Delivery) → is_open w side id ≡ true → StaysKept setup w (cut_off w side id) (other side) ds
cut_spares setup w side id ds opened = stays_on setup w (cut_off w side id) (other side) ds (other_on setup w side id (cut (flow w side id)) (open_there w side id opened) (inr refl))
