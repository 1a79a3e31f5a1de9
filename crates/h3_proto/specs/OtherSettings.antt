-- The settings of a payload that have no meaning here (RFC 9114, section 7.2.4).
use Rattle.std.specs.Prelude.{ℕ, ◌-◌, ◌%◌, Bool, not, ◌&&◌, ◌==◌, nat_le, List, filter, take}
use Rattle.h3_proto.specs.Pairs.{pairs_in, split_of}
use Rattle.h3_proto.specs.Settings.{is_known}

-- the identifier has no meaning anywhere: 0x1f N + 0x21 (RFC 9114, section 7.2.4.1)
abbrev pub is_reserved : ℕ → Bool
is_reserved id = nat_le 0x21 id && ((id - 0x21) % 0x1f == 0)

-- it has none here, and is not reserved
abbrev pub is_other : ℕ → Bool
is_other id = not (is_known id) && not (is_reserved id)

-- of these pairs the first such ones, so many at most
abbrev pub others_among : ℕ → List (ℕ × ℕ) → List (ℕ × ℕ)
others_among most pairs = take most (filter (λ p. is_other p.0) pairs)

-- those of a payload
abbrev pub others_of : ℕ → List ℕ → List (ℕ × ℕ)
others_of most payload = others_among most (pairs_in (split_of payload))
