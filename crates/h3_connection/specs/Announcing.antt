-- What an endpoint announces (RFC 9114, section 7.2.4; RFC 9204, section 5).
use Rattle.std.specs.Prelude.{◌≡◌, ℕ, Bool, false, ◌&&◌, ◌*◌, ◌-◌, ◌^◌, List, [], ◌∷◌, ◌++◌, max, nat_le, nat_lt, if◌then◌else◌, unwrap_or, None, Result, Ok, Err}
use Rattle.h3_proto.specs.Config.{is_enabled, is_limit}
use Rattle.h3_proto.specs.Settings.{value_of}
use Rattle.h3_proto.specs.declared.config.Choices.{Choices}
use Rattle.h3_proto.specs.declared.frame.SettingsError.{SettingsError}
use Rattle.h3_proto.specs.declared.frame.SettingsError.TheVariants.{InvalidSettingValue}
use Rattle.h3_connection.specs.StrictConnection.{announces_alone}
use Rattle.h3_connection.specs.declared.setup.Limits.{Limits}
use Rattle.h3_connection.specs.declared.setup.Announced.{Announced}
use Rattle.h3_connection.specs.declared.setup.NewError.{NewError}
use Rattle.h3_connection.specs.declared.setup.NewError.TheVariants.{TableLimit, BlockedLimit, Settings, UnfinishedLimit}

-- the greatest size of a field section that the endpoint takes
abbrev pub section_of : Announced → ℕ
section_of a = unwrap_or (value_of 6 a.settings) (2 ^ 62 - 1)

-- The least limit on what is unfinished: whatever a peer sends that keeps to what is announced is within it. The Huffman code writes a byte in up
-- to 30 bits (RFC 7541, appendix B), so an encoding has at most four times the bytes of its fields. SETTINGS fit too
abbrev pub least_limit : Announced → ℕ
least_limit a = max 256 (4 * max (section_of a) a.limits.table)

-- It limits what is unfinished to less than that. No size announced is any size
abbrev pub is_below_announced : Announced → Bool
is_below_announced a = is_limit a.choices.unfinished_limit && nat_lt a.choices.unfinished_limit (least_limit a)

abbrev pub unless_below : Announced → Result Announced NewError
unless_below a = if is_below_announced a then Err UnfinishedLimit else Ok a

-- WebTransport is not announced without datagrams by an endpoint that takes no such settings of its peer
abbrev pub unless_alone : Announced → Result Announced NewError
unless_alone a = if announces_alone a then Err (Settings (InvalidSettingValue 0x2b603742 1)) else unless_below a

-- the settings of a configuration, with those of the table behind them
abbrev pub announcing : List (ℕ × ℕ) → Limits → Choices → Announced
announcing pairs limits choices = record { settings = pairs ++ (1, limits.table) ∷ (7, limits.blocked) ∷ []; limits = limits; choices = choices; remembered = None }

abbrev pub with_limits : Result (List (ℕ × ℕ)) SettingsError → Limits → Choices → Result Announced NewError
with_limits (Ok pairs) limits choices = unless_alone (announcing pairs limits choices)
with_limits (Err e) limits choices = Err (Settings e)

-- the settings of a configuration, and the limits behind them; or the first refusal. What it chooses is not announced, and stands beside
abbrev pub announced_by : Result (List (ℕ × ℕ)) SettingsError → Limits → Choices → Result Announced NewError
announced_by settings limits choices =
    if nat_le (2 ^ 30) limits.table then Err TableLimit else (
    if nat_lt 65535 limits.blocked then Err BlockedLimit else with_limits settings limits choices)

-- it takes requests of extended CONNECT (RFC 9220, section 3)
abbrev pub connects : Announced → Bool
connects a = is_enabled 8 a.settings

-- What was announced, and that none of the refusals holds.
pub record IsAnnounced (settings : Result (List (ℕ × ℕ)) SettingsError) (limits : Limits) (choices : Choices) (a : Announced) : Type 0 where
  pub pairs : List (ℕ × ℕ)
  pub is : settings ≡ Ok pairs
  pub table : nat_le (2 ^ 30) limits.table ≡ false
  pub blocked : nat_lt 65535 limits.blocked ≡ false
  pub announced : a ≡ announcing pairs limits choices
  pub within : is_below_announced a ≡ false
  pub beside : announces_alone a ≡ false
