-- The value of a `priority` field, as C reads it (RFC 9218, section 4).
use Rattle.std.specs.Prelude.{◌≡◌, ℕ, if◌then◌else◌, Option, Some, None}
use Rattle.h3_priority.specs.Priority.{PriorityParameters}
use Rattle.h3_c.specs.Numbers.{field_value, ok}

-- A value that is no dictionary is refused, and both results stay. Else they are what it says: the urgency, and 1 if the response is incremental.
abbrev pub ReadsPriority : Option PriorityParameters → ℕ → ℕ → ℕ → ℕ → ℕ → Type 0
ReadsPriority None told urgency new_urgency incremental new_incremental =
    (told ≡ field_value.number) × (new_urgency ≡ urgency) × (new_incremental ≡ incremental)
ReadsPriority (Some p) told urgency new_urgency incremental new_incremental =
    (told ≡ ok.number) × (new_urgency ≡ p.urgency) × (new_incremental ≡ (if p.incremental then 1 else 0))
