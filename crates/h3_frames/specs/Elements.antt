-- What a list of pieces holds one behind the other, and the pieces that it stands for.
use Rattle.std.specs.Prelude.{ℕ, List, [], ◌∷◌, map, Option, Some, None}
use Rattle.std.specs.List.{flat_map}
use Rattle.h3_frames.specs.declared.buf.element.Element.{Element}
use Rattle.h3_frames.specs.declared.buf.element.Element.TheVariants as element

-- each byte is a piece
abbrev pub each : List ℕ → List (List ℕ)
each bytes = map (λ b. b ∷ []) bytes

-- the pieces of an element, by what is unread of one that is kept as it came
abbrev pub cuts : {T : Type 0} → (T → List ℕ) → Element T → List (List ℕ)
cuts unread (element.Whole piece) = unread piece ∷ []
cuts unread (element.Shared piece) = piece ∷ []
cuts unread (element.Singles run) = each run

-- all its bytes
abbrev pub all_of : {T : Type 0} → (T → List ℕ) → Element T → List ℕ
all_of unread (element.Whole piece) = unread piece
all_of unread (element.Shared piece) = piece
all_of unread (element.Singles run) = run

-- the pieces of all
abbrev pub all_cuts : {T : Type 0} → (T → List ℕ) → List (Element T) → List (List ℕ)
all_cuts unread elements = flat_map (cuts unread) elements

-- a piece that stands before a queue, where there is one
abbrev pub held : {T : Type 0} → (T → List ℕ) → Option T → List (List ℕ)
held unread None = []
held unread (Some piece) = unread piece ∷ []

abbrev pub all_elements : {T : Type 0} → Option T → List (Element T) → List (Element T)
all_elements None elements = elements
all_elements (Some piece) elements = element.Whole piece ∷ elements

-- how many pieces fit there: one, where there are none
abbrev pub front_room : {T : Type 0} → Option T → List (List ℕ) → ℕ
front_room None [] = 1
front_room None (p ∷ pieces) = 0
front_room (Some piece) pieces = 0
