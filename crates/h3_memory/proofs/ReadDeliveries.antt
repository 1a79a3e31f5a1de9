-- What reading a kept delivery leaves, by the side that reads: of its writer's texts, and of what the reader wrote. The rest of what is kept may be read then.
use Rattle.std.proofs.Common.{◌≡◌, ℕ, List, ◌∷◌, subst}
use Rattle.h3_proto.specs.declared.stream.Side.{Side}
use Rattle.h3_connection.specs.OwnIds.{other}
use Rattle.h3_world.specs.Setup.{Setup}
use Rattle.h3_world.specs.Delivering.{is_closed}
use Rattle.h3_world.specs.World.{World}
use Rattle.h3_headline.specs.FlowLaws.{other-other}
use Rattle.h3_memory.specs.Kept.{Delivery, read_delivery}
use Rattle.h3_memory.specs.Keeping.{MayAllBeRead, came_of, text_of}
use Rattle.h3_memory.specs.Writing.{WritesMore, WritesOn}
use Rattle.h3_memory.proofs.OwnReads.{ReadsOne, came_after, closed_after}
use Rattle.h3_memory.proofs.ReadsLeave.{one_read, rest_readable}
use Rattle.h3_memory.proofs.SameSent.{same_text, same_writes}

-- of the first of what is kept
abbrev pub MayBeRead : Setup → World → Side → Delivery → List Delivery → Type 0
MayBeRead setup w writer d ds = MayAllBeRead setup w writer (came_of w writer) (is_closed w writer) (d ∷ ds)

pub record ReadOn (setup : Setup) (w v : World) (side : Side) (d : Delivery) : Type 0 where
  pub writer : WritesMore setup w v (other side)
  pub text : (i : ℕ) → text_of setup v (other side) i ≡ text_of setup w (other side) i
  pub came : (i : ℕ) → came_of v (other side) i ≡ came_after (came_of w (other side)) d i
  pub closed : (i : ℕ) → is_closed v (other side) i ≡ closed_after (is_closed w (other side)) d i
  pub reader : WritesOn setup w v side

one_at : (setup : Setup) (w : World) (writer : Side) (d : Delivery) (ds : List Delivery) → MayBeRead setup w writer d ds → ReadsOne setup w (read_delivery setup w writer d) writer d
one_at setup w writer d ds may = one_read setup w writer (came_of w writer) (is_closed w writer) d ds may

-- **What reading leaves of the worlds.**
pub read_on : (setup : Setup) (w : World) (side : Side) (d : Delivery) (ds : List Delivery) → MayBeRead setup w (other side) d ds → ReadOn setup w (read_delivery setup w (other side) d) side d
read_on setup w side d ds may =
    let v = read_delivery setup w (other side) d in
    let one = one_at setup w (other side) d ds may in
    record {
      writer = same_writes setup w v (other side) one.same;
      text = same_text setup w v (other side) one.same;
      came = one.came;
      closed = one.closed;
      reader = subst (WritesOn setup w v) (other-other side) one.there;
    }

-- **And the rest may be read there.**
pub may_after : (setup : Setup) (w : World) (side : Side) (d : Delivery) (ds : List Delivery) → MayBeRead setup w (other side) d ds
    → MayAllBeRead setup (read_delivery setup w (other side) d) (other side) (came_of (read_delivery setup w (other side) d) (other side)) (is_closed (read_delivery setup w (other side) d) (other side)) ds
may_after setup w side d ds may = rest_readable setup w (read_delivery setup w (other side) d) (other side) d ds (one_at setup w (other side) d ds may) may
