-- Settings that a client remembers of its server (RFC 9114, section 7.2.4.2).
use Rattle.std.specs.Prelude.{◌≡◌, ◌≤◌, ◌<◌, ◌++◌, ℕ, List, drop, length, nat_lt, if◌then◌else◌, Option, Some, None, Result, Ok, Err}
use Rattle.h3_proto.specs.Pairs.{payload_of}
use Rattle.h3_proto.specs.Remembered.{keeps_to}
use Rattle.h3_proto.specs.Settings.{settings_of}
use Rattle.h3_proto.specs.declared.frame.SettingsError.{SettingsError}
use Rattle.h3_proto.specs.declared.stream.Side.{Side}
use Rattle.h3_proto.specs.declared.stream.Side.TheVariants.{Client}
use Rattle.h3_connection.specs.Endpoint.{EndpointHistory}
use Rattle.h3_connection.specs.Remembering.{remembering}
use Rattle.h3_connection.specs.SendingContracts.{CreatesWith}
use Rattle.h3_connection.specs.State.{EndpointState, StandsFor}
use Rattle.h3_connection.specs.declared.setup.NewError.{NewError}
use Rattle.h3_c.specs.Bits.{bit}
use Rattle.h3_c.specs.Configs.{IsMade, announced_of, made_told, sessions_of, side_of}
use Rattle.h3_c.specs.Datagrams.{Put}
use Rattle.h3_c.specs.Further.{pairs_given}
use Rattle.h3_c.specs.Numbers.{argument, memory, new_told, none, ok, room}
use Rattle.h3_c.specs.Seen.{Seen}
use Rattle.h3_c.specs.declared.config.GivenConfig.{GivenConfig}
use Rattle.h3_c.specs.declared.numbers.Told.{Told}

-- What a client keeps: the payload of a SETTINGS frame of the settings with a meaning that came, or nothing where the buffer is too small
abbrev pub put_settings : Option (List (ℕ × ℕ)) → List ℕ → ℕ → Put
put_settings None buffer count = (none, buffer, count)
put_settings (Some pairs) buffer count =
    if nat_lt (length buffer) (length (payload_of pairs)) then (room, buffer, count)
    else (ok, payload_of pairs ++ drop (length (payload_of pairs)) buffer, length (payload_of pairs))

-- `h3_remember_settings`
abbrev pub GivesSettings : Seen → Told → List ℕ → List ℕ → ℕ → ℕ → Type 0
GivesSettings v n before after count count_after =
    (e : EndpointHistory) → StandsFor v.endpoint e → (n, after, count_after) ≡ put_settings e.peer.settings before count

-- there was no memory for them, and nothing is written
abbrev pub LacksMemory : Told → List ℕ → List ℕ → ℕ → ℕ → Type 0
LacksMemory n before after count count_after = (n ≡ memory) × (after ≡ before) × (count_after ≡ count)

-- whether what came keeps to what was remembered
abbrev pub kept_by : Result (List (ℕ × ℕ)) SettingsError → Option (List (ℕ × ℕ)) → ℕ → Told × ℕ
kept_by (Err e) came before = (argument, before)
kept_by (Ok remembered) None before = (none, before)
kept_by (Ok remembered) (Some pairs) before = (ok, bit (keeps_to remembered pairs))

-- `h3_settings_kept`
abbrev pub ShowsKept : Seen → List ℕ → Told → ℕ → ℕ → Type 0
ShowsKept v bytes n before kept = (e : EndpointHistory) → StandsFor v.endpoint e → (n, kept) ≡ kept_by (settings_of bytes) e.peer.settings before

-- `h3_new_resumed`: a client, with these further settings, that remembers those
pub record MakesResumed (given : GivenConfig) (pairs remembered : List (ℕ × ℕ)) (n : Told) (before after : Option Seen) : Type 0 where
  pub answer : Result EndpointState NewError
  pub is : n ≡ made_told answer
  pub done : CreatesWith Client (remembering (announced_of given) remembered) pairs answer
  pub made : IsMade (sessions_of Client given) answer before after

-- why none is made
pub record UnmakesResumed (given : GivenConfig) (pairs remembered : List (ℕ × ℕ)) (n : Told) : Type 0 where
  pub answer : NewError
  pub is : n ≡ new_told answer
  pub refused : CreatesWith Client (remembering (announced_of given) remembered) pairs (Err answer)

abbrev pub MakesOf : Side → Result (List (ℕ × ℕ)) SettingsError → Option (List (ℕ × ℕ)) → GivenConfig → Told → Option Seen → Option Seen → Type 0
MakesOf Client (Ok remembered) (Some pairs) given n before after =
    (0x210842108421083 ≤ given.grease → (n ≡ argument) × (after ≡ before)) × (given.grease < 0x210842108421083 → MakesResumed given pairs remembered n before after)
MakesOf _ _ _ given n before after = (n ≡ argument) × (after ≡ before)

abbrev pub MakesGivenResumed : Option GivenConfig → List ℕ → List ℕ → Told → Option Seen → Option Seen → Type 0
MakesGivenResumed None numbers bytes n before after = (n ≡ argument) × (after ≡ before)
MakesGivenResumed (Some given) numbers bytes n before after =
    MakesOf (side_of given) (settings_of bytes) (pairs_given numbers) given n before after
