-- An endpoint that announces further settings.
use Rattle.std.specs.Prelude.{◌≡◌, ◌≤◌, ◌<◌, ℕ, List, [], ◌∷◌, length, nat_lt, if◌then◌else◌, Option, Some, None, option_map, Result, Err}
use Rattle.h3_connection.specs.SendingContracts.{CreatesWith}
use Rattle.h3_connection.specs.State.{EndpointState}
use Rattle.h3_connection.specs.declared.setup.NewError.{NewError}
use Rattle.h3_c.specs.Configs.{IsMade, announced_of, made_told, sessions_of, side_of}
use Rattle.h3_c.specs.Numbers.{argument, new_told}
use Rattle.h3_c.specs.Seen.{Seen}
use Rattle.h3_c.specs.declared.config.GivenConfig.{GivenConfig}
use Rattle.h3_c.specs.declared.numbers.Told.{Told}

-- numbers in pairs of an id and a value, unless one is left over
abbrev pub paired : List ℕ → Option (List (ℕ × ℕ))
paired [] = Some []
paired (id ∷ []) = None
paired (id ∷ (value ∷ numbers)) = option_map (λ pairs. (id, value) ∷ pairs) (paired numbers)

-- eight pairs at most
abbrev pub pairs_given : List ℕ → Option (List (ℕ × ℕ))
pairs_given numbers = if nat_lt 16 (length numbers) then None else paired numbers

-- why none is made
pub record UnmakesWith (given : GivenConfig) (pairs : List (ℕ × ℕ)) (n : Told) : Type 0 where
  pub answer : NewError
  pub is : n ≡ new_told answer
  pub refused : CreatesWith (side_of given) (announced_of given) pairs (Err answer)

pub record MakesWith (given : GivenConfig) (pairs : List (ℕ × ℕ)) (n : Told) (before after : Option Seen) : Type 0 where
  pub answer : Result EndpointState NewError
  pub is : n ≡ made_told answer
  pub done : CreatesWith (side_of given) (announced_of given) pairs answer
  pub made : IsMade (sessions_of (side_of given) given) answer before after

-- What `h3_new_with` does with what it was given: what `h3_new` refuses as an argument, and a list that is none of at most eight pairs, are refused.
abbrev pub MakesPaired : Option (List (ℕ × ℕ)) → GivenConfig → Told → Option Seen → Option Seen → Type 0
MakesPaired None given n before after = (n ≡ argument) × (after ≡ before)
MakesPaired (Some pairs) given n before after =
    (0x210842108421083 ≤ given.grease → (n ≡ argument) × (after ≡ before)) × (given.grease < 0x210842108421083 → MakesWith given pairs n before after)

abbrev pub MakesGivenWith : Option GivenConfig → List ℕ → Told → Option Seen → Option Seen → Type 0
MakesGivenWith None numbers n before after = (n ≡ argument) × (after ≡ before)
MakesGivenWith (Some given) numbers n before after = MakesPaired (pairs_given numbers) given n before after
