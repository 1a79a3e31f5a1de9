-- Conversions to ids, and reserved values.
use Rattle.std.specs.Prelude.{◌≡◌, ℕ, ◌+◌, ◌*◌, ◌^◌, ◌<◌, ◌≤◌, Result, MatchResult}

-- the number itself, or it is no variable-length integer and stands in the error
abbrev pub Converts : {E : Type 0} → (E → ℕ) → ℕ → Result ℕ E → Type 0
Converts refused x r = MatchResult r (λ id. (x < 2 ^ 62) × (id ≡ x)) (λ e. (2 ^ 62 ≤ x) × (refused e ≡ x))

-- the reserved values, of stream types, settings and frame types alike (RFC 9114, sections 6.2.3, 7.2.4.1 and 7.2.8)
abbrev pub reserved : ℕ → ℕ
reserved n = 0x1f * n + 0x21
