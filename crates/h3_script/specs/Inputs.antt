-- What was read of an input, and what it is.
use Rattle.std.specs.Prelude.{◌≡◌, ◌⊎◌, ℕ, ◌^◌, ◌≤◌, List, length, Option}
use Rattle.std.specs.Io.KnownBytes.{Consumes, IsAtEnd, Appends}
use Rattle.h3_script.specs.Lines.{refused_line}
use Rattle.h3_script.specs.Script.{IsScript, RefusesLine}
use Rattle.h3_world.specs.Setup.{Setup}
use Rattle.h3_world.specs.declared.event.Event.{Event}
use Rattle.h3_script.specs.declared.input.Failure.{Failure}
use Rattle.h3_script.specs.declared.input.Failure.TheVariants.{Lost, Line}

-- The input was read: all of it, or a front of more than 2^48 bytes.
pub record HasRead (old new : Option (List ℕ)) (text : List ℕ) : Type 0 where
  pub taken : Consumes old new text
  pub all : length text ≤ 2 ^ 48 → IsAtEnd new

-- a script that was read
pub record ReadsScript (input rest : Option (List ℕ)) (setup : Setup) (events : List Event) : Type 0 where
  pub text : List ℕ
  pub read : HasRead input rest text
  pub script : IsScript (2 ^ 48) text setup events

-- a line that was refused
pub record ReadsRefused (input rest : Option (List ℕ)) (number : ℕ) : Type 0 where
  pub text : List ℕ
  pub read : HasRead input rest text
  pub refuses : RefusesLine (2 ^ 48) text number

-- A line of what was read is the first that is refused, and its number was written, and nothing else.
pub record RefusesInput (input rest old new : Option (List ℕ)) : Type 0 where
  pub text : List ℕ
  pub number : ℕ
  pub read : HasRead input rest text
  pub refuses : RefusesLine (2 ^ 48) text number
  pub written : Appends old new (refused_line number)

-- some line that was refused
pub record ReadsSomeRefused (input rest : Option (List ℕ)) : Type 0 where
  pub number : ℕ
  pub refused : ReadsRefused input rest number

-- There is no script, and no line is told: nothing was written, unless a line is refused. What was written of its number is not said.
abbrev pub LosesInput : Option (List ℕ) → Option (List ℕ) → Option (List ℕ) → Option (List ℕ) → Type 0
LosesInput input rest old new = (new ≡ old) ⊎ ReadsSomeRefused input rest

-- why no script was read
abbrev pub Fails : Option (List ℕ) → Option (List ℕ) → Failure → Type 0
Fails input rest Lost = Unit {0}
Fails input rest (Line number) = ReadsRefused input rest number
