-- What is cited of worlds where memory was refused: a contract of `h3_world`'s `laws`, as premises.
use Rattle.std.proofs.Common.{◌≡◌, ℕ, ◌+◌, ◌≤◌, true, false, List, length}
use Rattle.h3_field.specs.Field.{Field}
use Rattle.h3_proto.specs.declared.stream.Side.{Side}
use Rattle.h3_world.specs.Setup.{Setup}
use Rattle.h3_world.specs.Came.{settings_came}
use Rattle.h3_world.specs.Delivering.{delivered_message}
use Rattle.h3_world.specs.Flow.{flow_bytes}
use Rattle.h3_world.specs.Refused.{held_back, with_insertions}
use Rattle.h3_world.specs.Sound.{IsSoundWorld}
use Rattle.h3_world.specs.Streams.{flow, is_open}
use Rattle.h3_world.specs.World.{World}
use Rattle.h3_headline.specs.Cited.{WorldLaws}

pub record KeptLaws : Type 0 where
  pub worlds : WorldLaws
  pub insertions : (setup : Setup) (w : World) (side : Side) (id : ℕ) (fields : List Field) → IsSoundWorld setup w → IsSoundWorld setup (with_insertions w side id fields)
  pub held : (setup : Setup) (w : World) (side : Side) → settings_came setup w side ≡ false → IsSoundWorld setup w → IsSoundWorld setup (held_back w side)
  pub bytes : (setup : Setup) (w : World) (writer : Side) (id count : ℕ) → IsSoundWorld setup w → is_open w writer id ≡ true → (flow w writer id).delivered + count ≤ length (flow_bytes (flow w writer id))
      → (flow w writer id).ended ≡ false → IsSoundWorld setup (delivered_message w writer id count)
