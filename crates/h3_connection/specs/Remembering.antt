-- An endpoint that remembers settings of its peer from an earlier connection (RFC 9114, section 7.2.4.2).
use Rattle.std.specs.Prelude.{ℕ, List, Option, Some, None, Result, Ok, Err}
use Rattle.h3_connection.specs.declared.setup.Announced.{Announced}
use Rattle.h3_connection.specs.declared.setup.NewError.{NewError}

-- these settings count: those that came, and until then those that it remembers
abbrev pub settings_or : Option (List (ℕ × ℕ)) → Option (List (ℕ × ℕ)) → Option (List (ℕ × ℕ))
settings_or None came = came
settings_or (Some remembered) (Some pairs) = Some pairs
settings_or (Some remembered) None = Some remembered

abbrev pub settings_known : Announced → Option (List (ℕ × ℕ)) → Option (List (ℕ × ℕ))
settings_known own came = settings_or own.remembered came

-- what is announced by an endpoint that remembers these, where none of the refusals holds
abbrev pub remembering : Result Announced NewError → List (ℕ × ℕ) → Result Announced NewError
remembering (Ok own) remembered = Ok (record own { remembered = Some remembered })
remembering (Err e) remembered = Err e
