-- What is told of the bytes of capsules, byte by byte, in whatever pieces they come.
use Rattle.std.specs.Prelude.{◌≡◌, ℕ, ◌-◌, ◌==◌, List, [], ◌∷◌, ◌++◌, length, take, map, Option, Some, None, if◌then◌else◌}
use Rattle.h3_capsule.specs.declared.capsule.Capsule.{Capsule}
use Rattle.h3_capsule.specs.declared.capsule.Capsule.TheVariants.{Head, Value, End, Pending}
use Rattle.h3_capsule.specs.Capsule.{Place, head_of, read_on}
use Rattle.h3_capsule.specs.Capsule.Place.{InHead, InValue, AtEnd}

-- a capsule begins, a byte of its value comes, it ends
pub data Part : Type 0 where
  Begins : (kind len : ℕ) → Part
  Byte : (value : ℕ) → Part
  Ends : Part

-- what is told, and the place behind it, where no end is left to tell
abbrev pub Telling : Type 0
Telling = List Part × Place

abbrev pub value_or_end : ℕ → Telling
value_or_end left = if left == 0 then (Ends ∷ [], InHead []) else ([], InValue left)

abbrev pub tell : Part → Telling → Telling
tell part t = (part ∷ t.0, t.1)

abbrev pub told_of_head : List ℕ → Option (ℕ × ℕ) → Telling
told_of_head front None = ([], InHead front)
told_of_head front (Some head) = tell (Begins head.0 head.1) (value_or_end head.1)

-- what one byte tells
abbrev pub told_of_byte : Place → ℕ → Telling
told_of_byte (InHead front) b = told_of_head (front ++ b ∷ []) (head_of (front ++ b ∷ []))
told_of_byte (InValue left) b = tell (Byte b) (value_or_end (left - 1))
told_of_byte AtEnd b = tell Ends (told_of_head (b ∷ []) (head_of (b ∷ [])))

abbrev pub then_told : List Part → Telling → Telling
then_told parts t = (parts ++ t.0, t.1)

-- what bytes tell, one after another
unfoldable pub told : Place → List ℕ → Telling
told place [] = ([], place)
told place (b ∷ bytes) = then_told (told_of_byte place b).0 (told (told_of_byte place b).1 bytes)

-- what an answer of one call tells, of the bytes that it took
abbrev pub parts_of : Capsule → List ℕ → List Part
parts_of (Head kind len) bytes = Begins kind len ∷ []
parts_of (Value count) bytes = map Byte bytes
parts_of End bytes = Ends ∷ []
parts_of Pending bytes = []

-- an end that a reader did not tell yet, and the place behind it
abbrev pub untold : Place → List Part
untold AtEnd = Ends ∷ []
untold _ = []

abbrev pub settled : Place → Place
settled AtEnd = InHead []
settled place = place

-- what is told of a capsule
abbrev pub parts_of_capsule : ℕ → List ℕ → List Part
parts_of_capsule kind value = (Begins kind (length value) ∷ map Byte value) ++ Ends ∷ []

-- a call tells what the bytes that it took tell, but for an end that it leaves to the next call
pub record TellsItsBytes (place : Place) (taken : List ℕ) (capsule : Capsule) (next : Place) : Type 0 where
  pub parts : untold place ++ (told (settled place) taken).0 ≡ parts_of capsule taken ++ untold next
  pub next_is : (told (settled place) taken).1 ≡ settled next

-- calls one after another, each with any bytes that follow: the bytes that they took, what they told, and where they left the reader
pub data Calls : Place → List ℕ → List Part → Place → Type 0 where
  no_call : (place : Place) → Calls place [] [] place
  one_call : (place : Place) (bytes rest : List ℕ) (parts : List Part) (last : Place) → Calls (read_on place bytes).2 rest parts last
      → Calls place (take (read_on place bytes).0 bytes ++ rest) (parts_of (read_on place bytes).1 (take (read_on place bytes).0 bytes) ++ parts) last

-- calls one after another tell what all bytes tell that they took
pub record TellsAll (place : Place) (bytes : List ℕ) (parts : List Part) (last : Place) : Type 0 where
  pub parts_are : untold place ++ (told (settled place) bytes).0 ≡ parts ++ untold last
  pub last_is : (told (settled place) bytes).1 ≡ settled last
