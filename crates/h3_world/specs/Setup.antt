-- What a client and a server announce (RFC 9114, section 7.2.4, and RFC 9204, section 5).
use Rattle.std.specs.Prelude.{◌≡◌, ℕ, ◌<◌, ◌^◌, Bool, false, not, ◌&&◌, ◌||◌, if◌then◌else◌, [], ◌∷◌, ◌++◌, None, Result, Ok, Err}
use Rattle.h3_proto.specs.declared.config.Settings.{Settings}
use Rattle.h3_proto.specs.Config.{grease_pairs, is_limit, own_pairs}
use Rattle.h3_proto.specs.declared.stream.Side.{Side}
use Rattle.h3_proto.specs.declared.stream.Side.TheVariants.{Client, Server}
use Rattle.h3_connection.specs.Announcing.{is_below_announced}
use Rattle.h3_connection.specs.Control.{is_table_usable}
use Rattle.h3_connection.specs.OwnIds.{other}
use Rattle.h3_connection.specs.declared.setup.Announced.{Announced}
use Rattle.h3_connection.specs.declared.setup.Limits.{Limits}
use Rattle.h3_connection.specs.declared.setup.NewError.{NewError}
use Rattle.h3_connection.specs.declared.setup.NewError.TheVariants as refusal
use Rattle.h3_connection.specs.StrictConnection.{refuses_settings}
use Rattle.h3_proto.specs.declared.frame.SettingsError.TheVariants.{InvalidSettingValue}

-- what a client announces, and a server
pub record Setup : Type 0 where
  pub client : Announced
  pub server : Announced

-- A side takes what the other one announces. One that does not ask for a strict connection takes all
abbrev pub takes_settings : Setup → Bool
takes_settings setup =
    not (refuses_settings Client setup.client setup.server.settings || refuses_settings Server setup.server setup.client.settings)

-- WebTransport is all that a side may announce that no other one takes
abbrev pub unless_refused : Setup → Result Setup NewError
unless_refused setup = if takes_settings setup then Ok setup else Err (refusal.Settings (InvalidSettingValue 0x2b603742 1))

-- both sides, or the first refusal
abbrev pub both : Result Announced NewError → Result Announced NewError → Result Setup NewError
both (Ok client) (Ok server) = unless_refused (record { client = client; server = server })
both (Err e) server = Err e
both (Ok client) (Err e) = Err e

abbrev pub announced_at : Setup → Side → Announced
announced_at setup Client = setup.client
announced_at setup Server = setup.server

-- it takes any short token as a protocol, or the two names alone (RFC 8441, section 4)
abbrev pub takes_any : Announced → Bool
takes_any a = a.choices.extensions.any_protocol

-- its encoder flags the secrets that it sends (RFC 9204, section 7.1.3)
abbrev pub flags_secrets : Announced → Bool
flags_secrets a = a.choices.extensions.secrets_guarded

-- a message from either side to the other may have any
abbrev pub both_take_any : Setup → Bool
both_take_any setup = takes_any setup.client && takes_any setup.server

-- it has no limit on what is unfinished
abbrev pub TakesAnyLength : Announced → Type 0
TakesAnyLength a = is_limit a.choices.unfinished_limit ≡ false

-- it asks for no strict messages, and has no such limit
abbrev pub IsPlain : Announced → Type 0
IsPlain a = (a.choices.strict_messages ≡ false) × TakesAnyLength a

-- and so does each side
abbrev pub JudgesPlainly : Setup → Type 0
JudgesPlainly setup = (side : Side) → IsPlain (announced_at setup side)

-- An encoder whose table has at most so much uses that of a peer that announces such limits (RFC 9204, section 3.2.3).
abbrev pub has_table : ℕ → Limits → Bool
has_table most limits = is_table_usable most limits.table limits.blocked

-- It announces some settings, with those of the table behind them, and each number is within its bound.
pub record IsMade (a : Announced) : Type 0 where
  pub settings : Settings
  pub sends_grease : Bool
  pub grease : ℕ
  pub small : grease < 0x210842108421083
  pub section : settings.max_field_section_size < 2 ^ 62
  pub sessions : settings.max_webtransport_sessions < 2 ^ 62
  pub are : a.settings ≡ (grease_pairs sends_grease grease ++ own_pairs settings) ++ (1, a.limits.table) ∷ (7, a.limits.blocked) ∷ []
  pub table : a.limits.table < 2 ^ 30
  pub blocked : a.limits.blocked < 2 ^ 16
  pub within : is_below_announced a ≡ false
  -- it remembers no settings of an earlier connection
  pub remembered : a.remembered ≡ None

abbrev pub refuses_sessions : Announced → Settings → Settings → Bool
refuses_sessions a own peer = a.choices.extensions.strict_connection && own.enable_webtransport && peer.enable_webtransport && not peer.enable_datagram

-- Of each `Setup` it is so (its invariant): if a side asks for a strict connection, WebTransport on both sides wants datagrams of the other one
-- (its drafts)
pub record IsMadeSetup (setup : Setup) : Type 0 where
  pub sides : (side : Side) → IsMade (announced_at setup side)
  pub take : (side : Side) → refuses_sessions (announced_at setup side) (sides side).settings (sides (other side)).settings ≡ false
