-- The payload of a SETTINGS frame as bytes: pairs of two variable-length integers (RFC 9114, section 7.2.4).
use Rattle.std.specs.Prelude.{ℕ, zero, suc, ◌^◌, ◌<◌, Bool, ◌==◌, ◌&&◌, List, [], ◌∷◌, ◌++◌, length, map, Option, Some, None, ◌≡◌}
use Rattle.std.specs.List.{flat_map}
use Rattle.h3_coding.specs.Encodings.{encoding}
use Rattle.h3_coding.specs.Varint.{varint_at}

-- both numbers have an encoding
pub record IsPair (p : ℕ × ℕ) : Type 0 where
  pub id : p.0 < 2 ^ 62
  pub value : p.1 < 2 ^ 62

abbrev pub same_pair : ℕ × ℕ → ℕ × ℕ → Bool
same_pair p q = (p.0 == q.0) && (p.1 == q.1)

-- a pair as it is written: the identifier, then the value
abbrev pub pair_encoding : ℕ × ℕ → List ℕ
pair_encoding p = encoding p.0 ++ encoding p.1

-- the payload of these pairs, as it is written
abbrev pub payload_of : List (ℕ × ℕ) → List ℕ
payload_of pairs = flat_map pair_encoding pairs

abbrev pub with_id : ℕ → Option (ℕ × List ℕ) → Option ((ℕ × ℕ) × List ℕ)
with_id id None = None
with_id id (Some v) = Some ((id, v.0), v.1)

abbrev pub with_value : Option (ℕ × List ℕ) → Option ((ℕ × ℕ) × List ℕ)
with_value None = None
with_value (Some p) = with_id p.0 (varint_at p.1)

-- the pair at the front, in whatever encodings, and the bytes behind it; none where either number is not whole
abbrev pub pair_at : List ℕ → Option ((ℕ × ℕ) × List ℕ)
pair_at bytes = with_value (varint_at bytes)

-- Pairs, one behind another, each with the bytes behind it, and the bytes behind the last.
pub record Split : Type 0 where
  pub each : List ((ℕ × ℕ) × List ℕ)
  pub rest : List ℕ

abbrev pub pairs_in : Split → List (ℕ × ℕ)
pairs_in split = map (λ q. q.0) split.each

abbrev pub behind : List ℕ → Option ((ℕ × ℕ) × List ℕ) → (List ℕ → Split) → Split
behind bytes None go = record { each = []; rest = bytes }
behind bytes (Some p) go = record { each = p ∷ (go p.1).each; rest = (go p.1).rest }

abbrev pub split_within : ℕ → List ℕ → Split
split_within zero bytes = record { each = []; rest = bytes }
split_within (suc n) bytes = behind bytes (pair_at bytes) (split_within n)

-- all pairs at the front of a payload, which has fewer pairs than bytes, and the rest, which begins no pair
unfoldable pub split_of : List ℕ → Split
split_of payload = split_within (length payload) payload

-- The two numbers of a pair at the front.
pub record BothAt (p : ℕ × ℕ) (bytes rest : List ℕ) : Type 0 where
  pub mid : List ℕ
  pub id : varint_at bytes ≡ Some (p.0, mid)
  pub value : varint_at mid ≡ Some (p.1, rest)

-- A payload is split into its pairs, and nothing is left.
pub record IsSplit (pairs : List (ℕ × ℕ)) (split : Split) : Type 0 where
  pub pairs_are : pairs_in split ≡ pairs
  pub whole : split.rest ≡ []
