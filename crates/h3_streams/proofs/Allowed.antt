-- The table that settings allow.
use Rattle.std.proofs.Common.{◌≡◌, ℕ, ◌<◌, ◌^◌, Bool, true, false, if◌then◌else◌, min, List, [], Some, None, refl, arith}
use Rattle.std.proofs.lemmas.Grind.{common_steps}
use Rattle.h3_proto.specs.declared.stream.Side.{Side}
use Rattle.h3_connection.specs.Control.{is_table_usable}
use Rattle.h3_connection.specs.PeerReading.{Peer, with_unread}
use Rattle.h3_unidirectional.specs.Fronts.{KeepsPart}
use Rattle.h3_unidirectional.specs.Learned.{capacity_of, blocked_of, usable_capacity}
use Rattle.h3_connection.specs.PeerReadingLaws.{nothing_read_on}
use Rattle.h3_frames.specs.declared.frame.kinds.FrameKinds.{FrameKinds}

-- nothing was read
pub nothing_read : (kinds : FrameKinds) (last : Bool) (limit : ℕ) (side : Side) (p : Peer) → KeepsPart kinds last limit side p p
nothing_read kinds last limit side p =
    record {
      each = λ q is. record {
        after = q;
        part = record { front = []; rest = q.unread; cut = refl; read = with_unread q []; reads = nothing_read_on kinds limit side q; left = refl };
        kept = is;
      };
    }

-- the capacity of a table that may be used is small
usable_by : (b : Bool) (most : ℕ) (pairs : List (ℕ × ℕ)) (capacity : ℕ) → b ≡ is_table_usable most (capacity_of pairs) (blocked_of pairs)
    → Some capacity ≡ (if b then Some (min most (capacity_of pairs)) else None) → capacity < 2 ^ 30
usable_by true most pairs capacity is e =
    let same : capacity ≡ min most (capacity_of pairs) = cc in
    grind (arith, common_steps, is, same)
usable_by false most pairs capacity is e = absurd (cc)

pub usable_small : (most : ℕ) (pairs : List (ℕ × ℕ)) (capacity : ℕ) → Some capacity ≡ usable_capacity most pairs → capacity < 2 ^ 30
usable_small most pairs capacity e = usable_by (is_table_usable most (capacity_of pairs) (blocked_of pairs)) most pairs capacity refl e
