-- Scripts: a line with the settings, and then a line for each event.
use Rattle.std.specs.Prelude.{◌≡◌, ℕ, ◌+◌, ◌<◌, ◌≤◌, not, false, List, [], ◌∷◌, ◌++◌, length, sum_by, Option, Some, None}
use Rattle.std.specs.List.{filter}
use Rattle.h3_script.specs.Pieces.{pieces}
use Rattle.h3_script.specs.ScriptLine.{is_skipped, SaysSetup, SaysEvent}
use Rattle.h3_world.specs.Setup.{Setup}
use Rattle.h3_world.specs.declared.event.Event.{Event}
use Rattle.h3_script.specs.declared.error.ScriptError.{ScriptError}
use Rattle.h3_script.specs.declared.error.ScriptError.TheVariants.{Line, OutOfMemory}

abbrev pub lines_of : List ℕ → List (List ℕ)
lines_of text = pieces 10 text

-- the lines that say something
abbrev pub said : List (List ℕ) → List (List ℕ)
said lines = filter (λ line. not (is_skipped line)) lines

-- each line is that of its event
abbrev pub SayEvents : List (List ℕ) → List Event → Type 0
SayEvents [] [] = Unit {0}
SayEvents (line ∷ lines) (event ∷ events) = SaysEvent line event × SayEvents lines events
SayEvents [] (event ∷ events) = ⊥
SayEvents (line ∷ lines) [] = ⊥

-- the first line is that of the setup, and the others are those of the events. No line, no setup
abbrev pub SaysSoFar : List (List ℕ) → Option Setup → List Event → Type 0
SaysSoFar [] None [] = Unit {0}
SaysSoFar (first ∷ rest) (Some setup) events = SaysSetup first setup × SayEvents rest events
SaysSoFar [] None (event ∷ events) = ⊥
SaysSoFar [] (Some setup) events = ⊥
SaysSoFar (first ∷ rest) None events = ⊥

-- how many bytes the lines have, with their ends
abbrev pub lines_length : List (List ℕ) → ℕ
lines_length lines = sum_by (λ line. length line + 1) lines

-- a script of at most so many bytes
pub record IsScript (most : ℕ) (text : List ℕ) (setup : Setup) (events : List Event) : Type 0 where
  pub says : SaysSoFar (said (lines_of text)) (Some setup) events
  pub within : length text ≤ most

-- Why a line is refused behind those before it.
pub data IsRefused (most : ℕ) (before : List (List ℕ)) (line : List ℕ) : Type 0 where
  -- it goes past so many bytes
  TooFar : most < lines_length before + length line → IsRefused most before line
  -- it is the first one, and no setup's
  NoSetup : said before ≡ [] → is_skipped line ≡ false → ((setup : Setup) → SaysSetup line setup → ⊥) → IsRefused most before line
  -- it is a later one, and no event's
  NoEvent : 0 < length (said before) → is_skipped line ≡ false → ((event : Event) → SaysEvent line event → ⊥) → IsRefused most before line

-- the lines are the beginning of a script
pub record IsBeginning (most : ℕ) (lines : List (List ℕ)) : Type 0 where
  pub setup : Option Setup
  pub events : List Event
  pub says : SaysSoFar (said lines) setup events
  pub within : lines_length lines ≤ most + 1

-- The line of this number, counted from 1, is the first that is refused; or no line says anything, and none goes too far.
pub data RefusesLine (most : ℕ) (text : List ℕ) (number : ℕ) : Type 0 where
  At : (before after : List (List ℕ)) (line : List ℕ) → lines_of text ≡ before ++ line ∷ after → number ≡ length before + 1
      → IsBeginning most before → IsRefused most before line → RefusesLine most text number
  Nothing : said (lines_of text) ≡ [] → length text ≤ most → number ≡ 1 → RefusesLine most text number

-- why there is no script
abbrev pub RefusesScript : ℕ → List ℕ → ScriptError → Type 0
RefusesScript most text (Line number) = RefusesLine most text number
RefusesScript most text OutOfMemory = Unit {0}
