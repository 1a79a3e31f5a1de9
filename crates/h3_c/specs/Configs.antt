-- What an endpoint is made of.
use Rattle.std.specs.Prelude.{◌≡◌, ◌≤◌, ◌<◌, ◌*◌, ◌-◌, ◌^◌, ◌&&◌, ◌==◌, ℕ, Bool, max, nat_le, nat_lt, not, if◌then◌else◌, List, [], ◌∷◌, length, slice_get, Option, Some, None, unwrap_or, Result, Ok, Err}
use Rattle.h3_proto.specs.Config.{announced}
use Rattle.h3_proto.specs.declared.config.Config.{Config}
use Rattle.h3_proto.specs.declared.stream.Side.{Side}
use Rattle.h3_proto.specs.declared.stream.Side.TheVariants.{Client, Server}
use Rattle.h3_connection.specs.Announcing.{announced_by}
use Rattle.h3_connection.specs.SendingContracts.{Creates}
use Rattle.h3_connection.specs.State.{EndpointState}
use Rattle.h3_connection.specs.declared.setup.Announced.{Announced}
use Rattle.h3_connection.specs.declared.setup.Limits.{Limits}
use Rattle.h3_connection.specs.declared.setup.NewError.{NewError}
use Rattle.h3_connection.specs.declared.setup.NewError.TheVariants as new_error
use Rattle.h3_connection.specs.declared.lists.ListPull.TheVariants.{Pending}
use Rattle.h3_proto.specs.declared.frame.SettingsError.TheVariants.{InvalidSettingValue}
use Rattle.h3_webtransport.specs.Joint.{Joint, first_joint}
use Rattle.h3_session.specs.Events.{nothing_seen}
use Rattle.h3_c.specs.declared.config.GivenConfig.{GivenConfig}
use Rattle.h3_c.specs.declared.numbers.Told.{Told}
use Rattle.h3_c.specs.Numbers.{argument, ok, new_told}
use Rattle.h3_c.specs.Seen.{Seen}

-- `h3_config_default`: a client, whose numbers bound what a stranger can make it hold: a field section of 64 KiB, and a table of 4,096 bytes for
-- which 16 streams may wait. The own encoder's table has as much at most. Messages are judged. What is unfinished has the limit that follows from these
abbrev pub default_config : GivenConfig
default_config =
    record {
      max_field_section_size = 65536;
      max_webtransport_sessions = 0;
      table = 4096;
      blocked = 16;
      grease = 0;
      server = 0;
      send_grease = 0;
      webtransport = 0;
      extended_connect = 0;
      datagram = 0;
      strict = 1;
      count_acknowledgments = 1;
      encoder_table = 4096;
      economical_table = 1;
      unfinished_limit = 0;
      kept_ids = 1000;
      reject_requests = 1;
      any_protocol = 1;
      guard_secrets = 1;
      shortest_strings = 1;
      strict_connection = 1;
      priority_updates = 100;
      other_settings = 0;
      other_streams = 0;
      sessions = 0;
    }

-- the numbers of `h3_config`: its size, and the others in its order
abbrev pub numbers_of : ℕ → GivenConfig → List ℕ
numbers_of size c =
    size ∷ c.max_field_section_size ∷ c.max_webtransport_sessions ∷ c.table ∷ c.blocked ∷ c.grease ∷ c.server ∷ c.send_grease ∷ c.webtransport ∷ c.extended_connect ∷ c.datagram ∷ c.strict ∷ c.count_acknowledgments ∷ c.encoder_table ∷ c.economical_table ∷ c.unfinished_limit ∷ c.kept_ids ∷ c.reject_requests ∷ c.any_protocol ∷ c.guard_secrets ∷ c.shortest_strings ∷ c.strict_connection ∷ c.priority_updates ∷ c.other_settings ∷ c.other_streams ∷ c.sessions ∷ []

-- one of the numbers that a caller gave, or what it is where the caller has fewer
abbrev pub number_at : List ℕ → ℕ → ℕ → ℕ
number_at numbers at default = unwrap_or (slice_get numbers at) default

-- A caller that was built when `h3_config` had fewer numbers has the defaults of the others.
abbrev pub config_in : List ℕ → GivenConfig
config_in numbers =
    record {
      max_field_section_size = number_at numbers 1 default_config.max_field_section_size;
      max_webtransport_sessions = number_at numbers 2 default_config.max_webtransport_sessions;
      table = number_at numbers 3 default_config.table;
      blocked = number_at numbers 4 default_config.blocked;
      grease = number_at numbers 5 default_config.grease;
      server = number_at numbers 6 default_config.server;
      send_grease = number_at numbers 7 default_config.send_grease;
      webtransport = number_at numbers 8 default_config.webtransport;
      extended_connect = number_at numbers 9 default_config.extended_connect;
      datagram = number_at numbers 10 default_config.datagram;
      strict = number_at numbers 11 default_config.strict;
      count_acknowledgments = number_at numbers 12 default_config.count_acknowledgments;
      encoder_table = number_at numbers 13 default_config.encoder_table;
      economical_table = number_at numbers 14 default_config.economical_table;
      unfinished_limit = number_at numbers 15 default_config.unfinished_limit;
      kept_ids = number_at numbers 16 default_config.kept_ids;
      reject_requests = number_at numbers 17 default_config.reject_requests;
      any_protocol = number_at numbers 18 default_config.any_protocol;
      guard_secrets = number_at numbers 19 default_config.guard_secrets;
      shortest_strings = number_at numbers 20 default_config.shortest_strings;
      strict_connection = number_at numbers 21 default_config.strict_connection;
      priority_updates = number_at numbers 22 default_config.priority_updates;
      other_settings = number_at numbers 23 default_config.other_settings;
      other_streams = number_at numbers 24 default_config.other_streams;
      sessions = number_at numbers 25 default_config.sessions;
    }

-- what a caller asks for, whose first number is the size of all in bytes: of none but as many as are known here
abbrev pub config_given : List ℕ → Option GivenConfig
config_given [] = None
config_given (size ∷ others) =
    if (size == 8 * length (size ∷ others)) && nat_le (length (size ∷ others)) 26 then Some (config_in (size ∷ others)) else None

-- a number other than 0 means yes
abbrev pub is_on : ℕ → Bool
is_on n = not (n == 0)

abbrev pub side_of : GivenConfig → Side
side_of given = if is_on given.server then Server else Client

-- The limit on what is unfinished: 0 stands for the least one, four times what is announced. None, where that reaches 2 ^ 62 - 1
abbrev pub least_for : ℕ → ℕ
least_for announced = if nat_lt announced (2 ^ 60) then max 256 (4 * announced) else 2 ^ 62 - 1

abbrev pub limit_of_given : GivenConfig → ℕ
limit_of_given given = if given.unfinished_limit == 0 then least_for (max given.max_field_section_size given.table) else given.unfinished_limit

abbrev pub config_of : GivenConfig → Config
config_of given =
    record {
      send_grease = is_on given.send_grease;
      settings = record {
        max_field_section_size = given.max_field_section_size;
        enable_webtransport = is_on given.webtransport;
        enable_extended_connect = is_on given.extended_connect;
        enable_datagram = is_on given.datagram;
        max_webtransport_sessions = given.max_webtransport_sessions;
      };
      choices = record {
        strict_messages = is_on given.strict;
        acknowledgments_counted = is_on given.count_acknowledgments;
        encoder_table = given.encoder_table;
        economical_table = is_on given.economical_table;
        unfinished_limit = limit_of_given given;
        extensions = record {
          kept_ids = given.kept_ids;
          requests_rejected = is_on given.reject_requests;
          any_protocol = is_on given.any_protocol;
          secrets_guarded = is_on given.guard_secrets;
          shortest_strings = is_on given.shortest_strings;
          strict_connection = is_on given.strict_connection;
          priority_updates = given.priority_updates;
          other_settings = given.other_settings;
          other_streams = is_on given.other_streams;
        };
      };
    }

abbrev pub limits_of : GivenConfig → Limits
limits_of given = record { table = given.table; blocked = given.blocked }

-- it asks for sessions of WebTransport without the settings that they need: that of WebTransport cannot be announced so
abbrev pub lacks_settings : GivenConfig → Bool
lacks_settings given = is_on given.sessions && not (is_on given.webtransport && is_on given.extended_connect && is_on given.datagram)

abbrev pub without_settings : NewError
without_settings = new_error.Settings (InvalidSettingValue 0x2b603742 1)

-- what is announced, or the first refusal
abbrev pub announced_of : GivenConfig → Result Announced NewError
announced_of given =
    if lacks_settings given then Err without_settings else announced_by (announced (config_of given) given.grease) (limits_of given) (config_of given).choices

-- no session, which there may be where that is asked for
abbrev pub sessions_of : Side → GivenConfig → Joint
sessions_of side given = first_joint side (is_on given.sessions)

abbrev pub made_told : Result EndpointState NewError → Told
made_told (Ok s) = ok
made_told (Err e) = new_told e

-- the handle owns the endpoint that was made, of which nothing was pulled or reported; and what it owned before where none was made
abbrev pub IsMade : Joint → Result EndpointState NewError → Option Seen → Option Seen → Type 0
IsMade sessions (Ok s) before after = after ≡ Some (record { endpoint = s; sessions = sessions; last = Pending; events = nothing_seen })
IsMade sessions (Err e) before after = after ≡ before

-- why none is made
pub record Unmakes (given : GivenConfig) (n : Told) : Type 0 where
  pub answer : NewError
  pub is : n ≡ new_told answer
  pub refused : Creates (side_of given) (announced_of given) (Err answer)

pub record Makes (given : GivenConfig) (n : Told) (before after : Option Seen) : Type 0 where
  pub answer : Result EndpointState NewError
  pub is : n ≡ made_told answer
  pub done : Creates (side_of given) (announced_of given) answer
  pub made : IsMade (sessions_of (side_of given) given) answer before after

-- What `h3_new` does with what it was given: a size that is none, and a number for `grease` out of its range, are refused.
abbrev pub MakesGiven : Option GivenConfig → Told → Option Seen → Option Seen → Type 0
MakesGiven None n before after = (n ≡ argument) × (after ≡ before)
MakesGiven (Some given) n before after =
    (0x210842108421083 ≤ given.grease → (n ≡ argument) × (after ≡ before)) × (given.grease < 0x210842108421083 → Makes given n before after)
