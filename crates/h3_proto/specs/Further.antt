-- Further settings that an end announces beside those that have a meaning here (RFC 9114, section 7.2.4).
use Rattle.std.specs.Prelude.{ℕ, List, [], ◌∷◌, Result, Ok, Err, if◌then◌else◌}
use Rattle.h3_proto.specs.Settings.{has_id, inserted, is_forbidden, received_then}
use Rattle.h3_proto.specs.declared.frame.SettingsError.{SettingsError}
use Rattle.h3_proto.specs.declared.frame.SettingsError.TheVariants.{InvalidSettingId, Repeated}

-- One more of them, or why it is refused: its identifier is one of HTTP/2's, or is announced already, as each is that has a meaning
abbrev pub with_further : List (ℕ × ℕ) → List (ℕ × ℕ) → ℕ × ℕ → Result (List (ℕ × ℕ)) SettingsError
with_further announced further p =
    if is_forbidden p.0 then Err (InvalidSettingId p.0)
    else (if has_id p.0 announced then Err (Repeated p.0)
    else inserted further p.0 p.1)

-- these in order, up to the first refusal
abbrev pub further_from : List (ℕ × ℕ) → List (ℕ × ℕ) → List (ℕ × ℕ) → Result (List (ℕ × ℕ)) SettingsError
further_from announced further [] = Ok further
further_from announced further (p ∷ pairs) = received_then (λ f. further_from announced f pairs) (with_further announced further p)
