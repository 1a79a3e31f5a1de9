-- What the calls of `HeaderPrefix` answer.
use Rattle.std.specs.Prelude.{◌≡◌, ◌<◌, ◌≤◌, ℕ, true, List, Result, Ok, Err}
use Rattle.h3_field.specs.Reading.{Reading, Whole, Unfinished, Bad}
use Rattle.h3_field.specs.PrefixReading.{EncodedPrefix, IsCount, HasNoCount}
use Rattle.h3_field.specs.declared.prefix_int.Error.TheVariants.{Overflow, UnexpectedEnd}
use Rattle.h3_field.specs.declared.parse_error.ParseError.{ParseError}
use Rattle.h3_field.specs.declared.parse_error.ParseError.TheVariants.{Integer, String, InvalidPrefix, InvalidBase, OutOfMemory}

-- what is read, or the error and nothing is taken
abbrev pub AnswersPrefix : Reading EncodedPrefix → List ℕ → List ℕ → Result EncodedPrefix ParseError → Type 0
AnswersPrefix (Whole p rest) old new result = (result ≡ Ok p) × (new ≡ rest)
AnswersPrefix Unfinished old new result = (result ≡ Err (Integer UnexpectedEnd)) × (new ≡ old)
AnswersPrefix Bad old new result = (result ≡ Err (Integer Overflow)) × (new ≡ old)

-- why a prefix stands for no count and base
abbrev pub HasNoPrefix : ℕ → ℕ → EncodedPrefix → ParseError → Type 0
HasNoPrefix capacity inserted p (InvalidPrefix encoded) = (0 < capacity) × (encoded ≡ p.encoded) × (0 < p.encoded) × HasNoCount capacity inserted p.encoded
HasNoPrefix capacity inserted p InvalidBase = (0 < capacity) × (p.is_negative ≡ true) × ((count : ℕ) × IsCount capacity inserted p.encoded count × (count ≤ p.delta))
HasNoPrefix capacity inserted p (Integer e) = ⊥
HasNoPrefix capacity inserted p (String e) = ⊥
HasNoPrefix capacity inserted p OutOfMemory = ⊥
