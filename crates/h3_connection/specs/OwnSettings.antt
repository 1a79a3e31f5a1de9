-- What the own control stream begins with (RFC 9114, sections 6.2.1 and 7.2.4).
use Rattle.std.specs.Prelude.{ℕ, List, [], ◌∷◌, ◌++◌}
use Rattle.h3_frames.specs.ControlStreams.{control_encoding}

-- its type, then one SETTINGS frame: the settings that have a meaning, and behind them further ones
abbrev pub control_start : List (ℕ × ℕ) → List (ℕ × ℕ) → List ℕ
control_start settings [] = control_encoding settings
control_start settings (p ∷ further) = control_encoding (settings ++ p ∷ further)
