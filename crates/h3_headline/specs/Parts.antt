-- A part that was sent: where its bytes end, and where the message is in front of it and behind it.
use Rattle.std.proofs.Common.{◌≡◌, ℕ, ◌+◌, ◌-◌, List, ◌++◌, take, drop, flat_map, ◌<◌, length, ◌⊎◌, true, Option, suc, [], ◌∷◌}
use Rattle.h3_qpack.specs.WholeInstructions.{whole_in, rest_in}
use Rattle.h3_connection.specs.declared.place.Place.{Place}
use Rattle.h3_connection.specs.declared.place.Place.TheVariants.{BeforeHead, InBody, AfterTrailer}
use Rattle.h3_world.specs.Flow.{Part, part_bytes}
use Rattle.h3_world.specs.Flow.Part.{Interim, Head, Body, Trailer, End}
use Rattle.h3_world.specs.Sound.{is_before_head, is_in_body, is_trailer, IsSentPart}
use Rattle.std.specs.List.{fold}
use Rattle.h3_world.specs.World.{Party}
use Rattle.h3_headline.specs.Standing.{place_after, place_behind}

-- More came: what was left and the new bytes are a front of the texts that were not whole.
pub record GoesOn {X : Type 0} (f : X → List ℕ) (few many : ℕ) (all : List X) : Type 0 where
  pub count : ℕ
  pub bytes : rest_in f few all ++ take (many - few) (drop few (flat_map f all)) ≡ take count (flat_map f (drop (whole_in f few all) all))
  pub whole : take (whole_in f many all) all ≡ take (whole_in f few all) all ++ take (whole_in f count (drop (whole_in f few all) all)) (drop (whole_in f few all) all)
  pub rest : rest_in f many all ≡ rest_in f count (drop (whole_in f few all) all)

-- Each text has a byte: then what came stays as it came when more is written.
pub record HaveBytes {X : Type 0} (f : X → List ℕ) : Type 0 where
  pub some : (x : X) → 0 < length (f x)

-- where a message is in front of a part
abbrev pub IsPlaceOf : Part → Place → Type 0
IsPlaceOf (Interim s) place = place ≡ BeforeHead
IsPlaceOf (Head s) place = place ≡ BeforeHead
IsPlaceOf (Body bytes own) place = place ≡ InBody
IsPlaceOf (Trailer s) place = place ≡ InBody
IsPlaceOf End place = (place ≡ InBody) ⊎ (place ≡ AfterTrailer)

-- where it is behind one
pub record IsPlaceBehind (before : Option Part) (place : Place) : Type 0 where
  pub before_head : is_before_head before ≡ true → place ≡ BeforeHead
  pub in_body : is_in_body before ≡ true → place ≡ InBody
  pub after_trailer : is_trailer before ≡ true → place ≡ AfterTrailer

-- The part is the n-th of these, which begin at this length and this place.
pub record IsPartFrom (p : Party) (start : ℕ) (place : Place) (parts : List Part) (n : ℕ) (part : Part) : Type 0 where
  pub sent : IsSentPart p (start + length (flat_map part_bytes (take n parts)) + length (part_bytes part)) part
  pub place_is : IsPlaceOf part (fold place_behind place (take n parts))
  pub behind : drop n parts ≡ part ∷ drop (suc n) parts
  pub front : take (suc n) parts ≡ take n parts ++ part ∷ []
  pub last : part ≡ End → drop (suc n) parts ≡ []

-- The part is the n-th that was sent.
pub record IsPartAt (p : Party) (sent_parts : List Part) (n : ℕ) (part : Part) : Type 0 where
  pub sent : IsSentPart p (length (flat_map part_bytes (take n sent_parts)) + length (part_bytes part)) part
  pub place_is : IsPlaceOf part (place_after (take n sent_parts))
  pub behind : drop n sent_parts ≡ part ∷ drop (n + 1) sent_parts
  pub bytes_behind : flat_map part_bytes (drop n sent_parts) ≡ part_bytes part ++ flat_map part_bytes (drop (n + 1) sent_parts)
  -- where it is behind it
  pub place_next : place_after (take (n + 1) sent_parts) ≡ place_behind (place_after (take n sent_parts)) part
  pub last : part ≡ End → drop (n + 1) sent_parts ≡ []
