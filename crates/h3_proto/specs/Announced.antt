-- Settings that an endpoint announces.
use Rattle.std.specs.Prelude.{◌≡◌, ℕ, ◌+◌, ◌^◌, Bool, false, nat_le, List, ◌++◌}
use Rattle.h3_proto.specs.Config.{grease_pairs, own_pairs}
use Rattle.h3_proto.specs.declared.config.Settings.{Settings}

-- What is announced, by its two tests.
pub record Announced (s : Settings) (send : Bool) (grease : ℕ) (pairs : List (ℕ × ℕ)) : Type 0 where
  pub size : nat_le (2 ^ 62) s.max_field_section_size ≡ false
  pub sessions : nat_le (2 ^ 62) s.max_webtransport_sessions ≡ false
  pub pairs_are : grease_pairs send grease ++ own_pairs s ≡ pairs
