-- The numbers of `include/h3.h`.
use Rattle.std.specs.Prelude.{◌≡◌, ℕ, List, Option, Some, None, Result, Ok, Err}
use Rattle.h3_field.specs.Field.{Field}
use Rattle.h3_proto.specs.declared.frame.SettingsError.{SettingsError}
use Rattle.h3_proto.specs.declared.frame.SettingsError.TheVariants as settings_error
use Rattle.h3_connection.specs.declared.event.DeliverError.{DeliverError}
use Rattle.h3_connection.specs.declared.event.DeliverError.TheVariants as deliver_error
use Rattle.h3_connection.specs.declared.event.Malformation.{Malformation}
use Rattle.h3_connection.specs.declared.event.Malformation.TheVariants as malformation
use Rattle.h3_connection.specs.declared.event.Refusal.{Refusal}
use Rattle.h3_connection.specs.declared.event.Refusal.TheVariants as refusal
use Rattle.h3_connection.specs.declared.setup.NewError.{NewError}
use Rattle.h3_connection.specs.declared.setup.NewError.TheVariants as new_error
use Rattle.h3_proto.specs.declared.config.Choices.{Choices}
use Rattle.h3_messages.specs.InvalidField.{invalid_field}
use Rattle.h3_session.specs.declared.endpoint.datagrams.DatagramError.{DatagramError}
use Rattle.h3_session.specs.declared.endpoint.datagrams.DatagramError.TheVariants as datagram_error
use Rattle.h3_webtransport.specs.declared.opening.OpenError.{OpenError}
use Rattle.h3_webtransport.specs.declared.opening.OpenError.TheVariants as open_error
use Rattle.h3_c.specs.Items.{malformation_number}
use Rattle.h3_c.specs.declared.numbers.Told.{Told}

-- `H3_VERSION`: 1.0.0. A library that was proved says no more; one that was not says `H3_UNPROVED` too.
abbrev pub version : ℕ
version = 0x010000

-- a number, with another one beside it
abbrev pub number : ℕ → ℕ → Told
number n detail = record { number = n; detail = detail }

-- `H3_OK`
abbrev pub ok : Told
ok = number 0 0

-- `H3_FIELD_VALUE`
abbrev pub field_value : Told
field_value = number 23 0

-- the refusals, in the order of the core's but for that of a list that breaks a rule of strict messages
abbrev pub refusal_told : Refusal → Told
refusal_told (refusal.Closed code) = number 1 code
refusal_told (refusal.Connection code) = number 2 code
refusal_told refusal.NotReceiving = number 3 0
refusal_told refusal.AfterEnd = number 4 0
refusal_told refusal.Kept = number 5 0
refusal_told refusal.NotClient = number 6 0
refusal_told (refusal.GoingAway id) = number 7 id
refusal_told refusal.IdsUsedUp = number 8 0
refusal_told refusal.NotOpen = number 9 0
refusal_told refusal.OutOfOrder = number 10 0
refusal_told refusal.WrongSide = number 11 0
refusal_told refusal.PseudoInTrailer = number 12 0
refusal_told (refusal.Malformed why) = number 27 (malformation_number why)
refusal_told (refusal.TooLarge size) = number 13 size
refusal_told refusal.Critical = number 14 0
refusal_told refusal.Ended = number 15 0
refusal_told refusal.NotRequestId = number 16 0
refusal_told (refusal.Raised id) = number 17 id
refusal_told refusal.OutOfMemory = number 18 0

-- `H3_MEMORY`, `H3_NONE`, `H3_ROOM` and `H3_ARGUMENT`
abbrev pub memory : Told
memory = number 18 0

abbrev pub none : Told
none = number 25 0

abbrev pub room : Told
room = number 26 0

abbrev pub argument : Told
argument = number 32 0

-- what a call tells that there was no memory for
abbrev pub told_or_memory : Option Refusal → Told
told_or_memory (Some r) = refusal_told r
told_or_memory None = memory

-- `H3_REJECTED`, with H3_REQUEST_REJECTED (RFC 9114, section 8.1)
abbrev pub rejected : Told
rejected = number 30 0x10b

-- what a call tells that may be refused
abbrev pub call_told : {X : Type 0} → Result X Refusal → Told
call_told (Ok done) = ok
call_told (Err r) = refusal_told r

-- what one tells that hands its bytes back
abbrev pub body_told : {X : Type 0} → Result X (Refusal × List ℕ) → Told
body_told (Ok done) = ok
body_told (Err (r, bytes)) = refusal_told r

-- what a delivery tells
abbrev pub delivery_told : {X : Type 0} → Result X DeliverError → Told
delivery_told (Ok done) = ok
delivery_told (Err (deliver_error.Refused r)) = refusal_told r
delivery_told (Err (deliver_error.OutOfMemory bytes)) = memory
delivery_told (Err deliver_error.Kept) = number 5 0

-- the setting of an error
abbrev pub setting_of : SettingsError → ℕ
setting_of settings_error.Exceeded = 0
setting_of settings_error.Malformed = 0
setting_of (settings_error.Repeated id) = id
setting_of (settings_error.InvalidSettingId id) = id
setting_of (settings_error.InvalidSettingValue id value) = id

-- why no endpoint was made
abbrev pub new_told : NewError → Told
new_told new_error.TableLimit = number 19 0
new_told new_error.BlockedLimit = number 20 0
new_told (new_error.Settings e) = number 21 (setting_of e)
new_told new_error.UnfinishedLimit = number 28 0
new_told new_error.OutOfMemory = memory

-- this number, and the index of the field that is told of these choices beside it
abbrev pub TellsField : ℕ → Choices → List Field → Told → Type 0
TellsField n choices fields told =
    (told.number ≡ n) × (invalid_field choices.extensions.any_protocol choices.strict_messages fields ≡ Some told.detail)

-- why a list that is to be sent is malformed: by the name or value of a field, by their count, or by the rule of strict messages that it breaks
abbrev pub TellsMalformed : Malformation → Choices → List Field → Told → Type 0
TellsMalformed malformation.Name choices fields told = TellsField 22 choices fields told
TellsMalformed malformation.Value choices fields told = TellsField 23 choices fields told
TellsMalformed malformation.TooMany choices fields told = told ≡ number 24 0
TellsMalformed why choices fields told = told ≡ number 27 (malformation_number why)

-- what a call tells that sends a list, with these choices
abbrev pub TellsList : Result Unit Refusal → Choices → List Field → Told → Type 0
TellsList (Ok done) choices fields told = told ≡ ok
TellsList (Err (refusal.Malformed why)) choices fields told = TellsMalformed why choices fields told
TellsList (Err r) choices fields told = told ≡ refusal_told r

-- `H3_NO_DATAGRAMS`
abbrev pub no_datagrams : Told
no_datagrams = number 29 0

-- why no stream of a session is opened
abbrev pub no_sessions : Told
no_sessions = number 31 0

abbrev pub open_told : OpenError → Told
open_told (open_error.Refused r) = refusal_told r
open_told open_error.NoSessions = no_sessions

-- why a datagram may not be sent
abbrev pub datagram_told : DatagramError → Told
datagram_told (datagram_error.Refused r) = refusal_told r
datagram_told datagram_error.NoDatagrams = no_datagrams
