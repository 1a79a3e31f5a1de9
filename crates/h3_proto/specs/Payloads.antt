-- Which bytes are the payload of which pairs (RFC 9114, section 7.2.4).
use Rattle.std.specs.Prelude.{◌≡◌, ℕ, List, [], ◌∷◌, ◌++◌, Ok}
use Rattle.h3_proto.specs.Settings.{received_all}
use Rattle.h3_coding.specs.Encodings.{IsEncoding}

-- The bytes are encodings of the pairs, of any form, one behind another.
pub data IsPayload : List (ℕ × ℕ) → List ℕ → Type 0 where
  none : IsPayload [] []
  more : (p : ℕ × ℕ) (pairs : List (ℕ × ℕ)) (id value rest bytes : List ℕ) → bytes ≡ id ++ (value ++ rest)
      → IsEncoding p.0 id → IsEncoding p.1 value → IsPayload pairs rest → IsPayload (p ∷ pairs) bytes

-- The bytes are the payload of some pairs, and these are kept of them, received in order.
pub record StandsFor (bytes : List ℕ) (kept : List (ℕ × ℕ)) : Type 0 where
  pub pairs : List (ℕ × ℕ)
  pub payload : IsPayload pairs bytes
  pub received : received_all [] pairs ≡ Ok kept
