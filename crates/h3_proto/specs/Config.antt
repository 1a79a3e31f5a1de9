-- What an end announces of itself, and what it takes from its peer's settings (RFC 9114, section 7.2.4.1).
use Rattle.std.specs.Prelude.{ℕ, ◌-◌, ◌^◌, Bool, false, not, ◌==◌, nat_lt, nat_le, List, [], ◌∷◌, ◌++◌, Result, Ok, Err, if◌then◌else◌, unwrap_or}
use Rattle.h3_proto.specs.Ids.{reserved}
use Rattle.h3_proto.specs.Settings.{value_of}
use Rattle.h3_proto.specs.declared.config.Settings.{Settings}
use Rattle.h3_proto.specs.declared.config.Config.{Config}
use Rattle.h3_proto.specs.declared.config.Choices.{Choices}
use Rattle.h3_proto.specs.declared.config.Extensions.{Extensions}
use Rattle.h3_proto.specs.declared.frame.SettingsError.{SettingsError}
use Rattle.h3_proto.specs.declared.frame.SettingsError.TheVariants.{InvalidSettingValue}

-- what holds of an end that names no setting
abbrev pub default_settings : Settings
default_settings = record {
  max_field_section_size = 2 ^ 62 - 1;
  enable_webtransport = false;
  enable_extended_connect = false;
  enable_datagram = false;
  max_webtransport_sessions = 0;
}

-- what an end chooses that chooses nothing
abbrev pub no_extensions : Extensions
no_extensions = record { kept_ids = 2 ^ 62 - 1; requests_rejected = false; any_protocol = false; secrets_guarded = false; shortest_strings = false; strict_connection = false; priority_updates = 0; other_settings = 0; other_streams = false }

abbrev pub no_choices : Choices
no_choices =
    record {
      strict_messages = false;
      acknowledgments_counted = false;
      encoder_table = 2 ^ 30 - 1;
      economical_table = false;
      unfinished_limit = 2 ^ 62 - 1;
      extensions = no_extensions;
    }

-- a length that a frame can say exceeds it: lengths are below 2^62 (RFC 9000, section 16)
abbrev pub is_limit : ℕ → Bool
is_limit most = nat_lt most (2 ^ 62 - 1)

-- the setting is there with a value other than 0
abbrev pub is_enabled : ℕ → List (ℕ × ℕ) → Bool
is_enabled id pairs = not (unwrap_or (value_of id pairs) 0 == 0)

abbrev pub peer_settings : List (ℕ × ℕ) → Settings
peer_settings pairs = record {
  max_field_section_size = unwrap_or (value_of 6 pairs) (2 ^ 62 - 1);
  enable_webtransport = is_enabled 0x2b603742 pairs;
  enable_extended_connect = is_enabled 8 pairs;
  enable_datagram = is_enabled 0x33 pairs;
  max_webtransport_sessions = unwrap_or (value_of 0x2b603743 pairs) 0;
}

abbrev pub flag : Bool → ℕ
flag enabled = if enabled then 1 else 0

abbrev pub grease_pairs : Bool → ℕ → List (ℕ × ℕ)
grease_pairs send grease = if send then (reserved grease, 0) ∷ [] else []

-- the settings that have a meaning, in order
abbrev pub own_pairs : Settings → List (ℕ × ℕ)
own_pairs s =
    (6, s.max_field_section_size)
    ∷ (8, flag s.enable_extended_connect)
    ∷ (0x2b603742, flag s.enable_webtransport)
    ∷ (0x33, flag s.enable_datagram)
    ∷ (0x2b603743, s.max_webtransport_sessions) ∷ []

-- the pairs that the configuration stands for, in order, or the value that no variable-length integer has
abbrev pub announced : Config → ℕ → Result (List (ℕ × ℕ)) SettingsError
announced c grease =
    if nat_le (2 ^ 62) c.settings.max_field_section_size then Err (InvalidSettingValue 6 c.settings.max_field_section_size)
    else (if nat_le (2 ^ 62) c.settings.max_webtransport_sessions then Err (InvalidSettingValue 0x2b603743 c.settings.max_webtransport_sessions)
    else Ok (grease_pairs c.send_grease grease ++ own_pairs c.settings))

-- the limits of an end's dynamic table, as settings (RFC 9204, section 5)
abbrev pub table_pairs : ℕ → ℕ → List (ℕ × ℕ)
table_pairs capacity blocked = (1, capacity) ∷ (7, blocked) ∷ []
