-- The lines of a script.
use Rattle.std.specs.Prelude.{◌≡◌, ℕ, Bool, true, false, ◌==◌, List, [], ◌∷◌, ◌++◌, codes, bytes_eq, if◌then◌else◌, Option, Some, None, option_and_then}
use Rattle.std.specs.Result.{result_ok}
use Rattle.h3_proto.specs.Config.{announced, default_settings, no_choices}
use Rattle.h3_proto.specs.declared.config.Config.{Config}
use Rattle.h3_proto.specs.declared.stream.Side.{Side}
use Rattle.h3_header.specs.Head.{Head as Fields}
use Rattle.h3_connection.specs.Announcing.{announced_by}
use Rattle.h3_script.specs.Words.{words_of, number_of, id_of, side_of}
use Rattle.h3_script.specs.HeadText.{IsHeadText, IsTrailerText}
use Rattle.h3_world.specs.Setup.{Setup, both}
use Rattle.h3_world.specs.declared.event.Event.{Event}
use Rattle.h3_world.specs.declared.event.Event.TheVariants as event
use Rattle.h3_script.specs.declared.error.LineError.{LineError}
use Rattle.h3_script.specs.declared.error.LineError.TheVariants.{NoSuchLine, OutOfMemory}

-- a line that says nothing: an empty one, or one that begins with `#`
abbrev pub is_skipped : List ℕ → Bool
is_skipped [] = true
is_skipped (first ∷ rest) = first == 35

-- a configuration with this section size, without a reserved setting, and with the other defaults
abbrev pub config_of : ℕ → Config
config_of section = record { send_grease = false; settings = record default_settings { max_field_section_size = section }; choices = no_choices }

-- section size, table and blocked of the client, and then of the server
abbrev pub setup_by : Option ℕ → Option ℕ → Option ℕ → Option ℕ → Option ℕ → Option ℕ → Option Setup
setup_by (Some a) (Some b) (Some c) (Some d) (Some e) (Some f) =
    result_ok (both (announced_by (announced (config_of a) 0) (record { table = b; blocked = c }) no_choices) (announced_by (announced (config_of d) 0) (record { table = e; blocked = f }) no_choices))
setup_by _ _ _ _ _ _ = None

-- `config` and six numbers
abbrev pub setup_of : List (List ℕ) → Option Setup
setup_of (command ∷ a ∷ b ∷ c ∷ d ∷ e ∷ f ∷ []) =
    if bytes_eq command (codes "config") then setup_by (number_of a) (number_of b) (number_of c) (number_of d) (number_of e) (number_of f) else None
setup_of _ = None

-- `open` and `show` with a side
abbrev pub side_event : List ℕ → Side → Option Event
side_event command side =
    if bytes_eq command (codes "open") then Some (event.OpenRequest side) else (
    if bytes_eq command (codes "show") then Some (event.Show side) else None)

-- `finish`, `reset`, `cancel`, `pull`, `pulls`, `end` and `gone` with a side and a stream id, and `goaway` with a side and a number
abbrev pub number_event : List ℕ → Side → ℕ → Option Event
number_event command side number =
    if bytes_eq command (codes "finish") then Some (event.Finish side number) else (
    if bytes_eq command (codes "reset") then Some (event.Reset side number) else (
    if bytes_eq command (codes "cancel") then Some (event.Cancel side number) else (
    if bytes_eq command (codes "pull") then Some (event.Pull side number) else (
    if bytes_eq command (codes "pulls") then Some (event.PullFields side number) else (
    if bytes_eq command (codes "end") then Some (event.DeliverEnd side number) else (
    if bytes_eq command (codes "gone") then Some (event.DeliverReset side number) else (
    if bytes_eq command (codes "goaway") then Some (event.Goaway side number) else None)))))))

-- `deliver` with a side, a stream id and a number
abbrev pub deliver_event : List ℕ → Side → ℕ → ℕ → Option Event
deliver_event command side id count = if bytes_eq command (codes "deliver") then Some (event.Deliver side id count) else None

abbrev pub number_by : List ℕ → Option Side → Option ℕ → Option Event
number_by command (Some side) (Some number) = number_event command side number
number_by command _ _ = None

abbrev pub deliver_by : List ℕ → Option Side → Option ℕ → Option ℕ → Option Event
deliver_by command (Some side) (Some id) (Some count) = deliver_event command side id count
deliver_by command _ _ _ = None

-- the event of words that name a side and numbers alone
abbrev pub short_event : List (List ℕ) → Option Event
short_event (command ∷ side ∷ []) = option_and_then (side_event command) (side_of side)
short_event (command ∷ side ∷ number ∷ []) = number_by command (side_of side) (id_of number)
short_event (command ∷ side ∷ id ∷ count ∷ []) = deliver_by command (side_of side) (id_of id) (number_of count)
short_event _ = None

-- this command, a side, a stream id, and the words of a field section
pub record IsSectionLine (name : List ℕ) (Says : List (List ℕ) → Fields → Type 0) (command side id : List ℕ) (words : List (List ℕ)) (acting : Side) (stream : ℕ) (section : Fields) : Type 0 where
  pub command_is : bytes_eq command name ≡ true
  pub side_is : side_of side ≡ Some acting
  pub id_is : id_of id ≡ Some stream
  pub section_is : Says words section

abbrev pub SaysSection : List ℕ → (List (List ℕ) → Fields → Type 0) → List (List ℕ) → Side → ℕ → Fields → Type 0
SaysSection name Says (command ∷ side ∷ id ∷ words) acting stream section = IsSectionLine name Says command side id words acting stream section
SaysSection name Says _ acting stream section = ⊥

-- `head`, a side, a stream id, and a head
abbrev pub SaysHead : List (List ℕ) → Side → ℕ → Fields → Type 0
SaysHead words acting stream head = SaysSection (codes "head") IsHeadText words acting stream head

-- `trailer`, a side, a stream id, and fields
abbrev pub SaysTrailer : List (List ℕ) → Side → ℕ → Fields → Type 0
SaysTrailer words acting stream trailer = SaysSection (codes "trailer") IsTrailerText words acting stream trailer

-- the words are those of an event that sends a head or a trailer
abbrev pub IsSectionEvent : List (List ℕ) → Event → Type 0
IsSectionEvent words (event.Head acting stream head) = SaysHead words acting stream head
IsSectionEvent words (event.Trailer acting stream trailer) = SaysTrailer words acting stream trailer
IsSectionEvent words _ = ⊥

-- The words are those of the event. No line sends a list of fields.
abbrev pub SaysWords : List (List ℕ) → Event → Type 0
SaysWords words (event.Head acting stream head) = SaysHead words acting stream head
SaysWords words (event.Trailer acting stream trailer) = SaysTrailer words acting stream trailer
SaysWords words (event.Body acting stream bytes) = ⊥
SaysWords words (event.Fields acting stream fields) = ⊥
SaysWords words (event.TrailerFields acting stream fields) = ⊥
SaysWords words event = short_event words ≡ Some event

-- `body`, a side and a stream id, each with one blank behind it, and then any bytes
pub record IsBody (line : List ℕ) (acting : Side) (stream : ℕ) (bytes : List ℕ) : Type 0 where
  pub side : List ℕ
  pub id : List ℕ
  pub line_is : line ≡ codes "body " ++ (side ++ 32 ∷ (id ++ 32 ∷ bytes))
  pub side_is : side_of side ≡ Some acting
  pub id_is : id_of id ≡ Some stream

-- the line is that of the setup
abbrev pub SaysSetup : List ℕ → Setup → Type 0
SaysSetup line setup = setup_of (words_of line) ≡ Some setup

-- the line is that of the event
abbrev pub SaysEvent : List ℕ → Event → Type 0
SaysEvent line (event.Body acting stream bytes) = IsBody line acting stream bytes
SaysEvent line event = SaysWords (words_of line) event

-- why a reader gives nothing: there is nothing of that kind, or memory was refused
abbrev pub Denies : Type 0 → LineError → Type 0
Denies Says NoSuchLine = Says → ⊥
Denies Says OutOfMemory = Unit {0}
