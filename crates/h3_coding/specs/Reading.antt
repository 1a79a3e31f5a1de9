-- What a read takes from the front of a list.
use Rattle.std.specs.Prelude.{◌≡◌, ℕ, List, ◌++◌}

-- An encoding is taken from the front of old, and new is what follows it.
pub record Takes (IsEncodingHere : List ℕ → Type 0) (old new : List ℕ) : Type 0 where
  pub octets : List ℕ
  pub is_encoding : IsEncodingHere octets
  pub parts : old ≡ octets ++ new
