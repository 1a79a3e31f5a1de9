-- What the exports promise that say which stream sends next, by priority.
use Rattle.std.specs.Prelude.{◌≡◌, ◌⊎◌, ℕ, Bool, ◌&&◌, ◌==◌, nat_le, if◌then◌else◌, Option, Some, None}
use Rattle.h3_connection.specs.ByPriority.{Holds, SetsPriority}
use Rattle.h3_connection.specs.declared.event.Refusal.TheVariants as refusal
use Rattle.h3_connection.specs.Prioritizing.{SendsNext, SendsPriority, SetsInitialPriority, ShowsPriority}
use Rattle.h3_priority.specs.Priority.{PriorityParameters}
use Rattle.h3_c.specs.declared.numbers.Told.{Told}
use Rattle.h3_c.specs.Exported.{Calls, OnStream, Unwritten}
use Rattle.h3_c.specs.Numbers.{argument, call_told, none, ok, refusal_told}
use Rattle.h3_c.specs.Seen.{Seen}

-- 0 or 1
abbrev pub flag_given : ℕ → Option Bool
flag_given number = if nat_le number 1 then Some (number == 1) else None

-- an urgency from 0 to 7, and 0 or 1 for whether it is incremental
abbrev pub priority_given : ℕ → ℕ → Option PriorityParameters
priority_given urgency incremental = if nat_le urgency 7 && nat_le incremental 1 then Some (record { urgency = urgency; incremental = incremental == 1 }) else None

-- What C gave is taken, or refused with nothing changed.
abbrev pub IfGiven : {X : Type 0} → Option X → Told → Seen → Seen → (X → Type 0) → Type 0
IfGiven (Some x) n v w goes = goes x
IfGiven None n v w goes = (n ≡ argument) × (w ≡ v)

-- `h3_set_priority`
abbrev pub SetsPriorityOn : Seen → Seen → ℕ → ℕ → ℕ → Told → Type 0
SetsPriorityOn v w id urgency incremental n =
    OnStream id n v w
    (IfGiven (priority_given urgency incremental) n v w (λ p. Calls call_told n v w (λ call. SetsPriority v.endpoint w.endpoint id p call)))

-- `h3_set_initial_priority` and `h3_send_priority`: the same numbers
abbrev pub SetsInitialPriorityOn : Seen → Seen → ℕ → ℕ → ℕ → Told → Type 0
SetsInitialPriorityOn v w id urgency incremental n =
    OnStream id n v w
    (IfGiven (priority_given urgency incremental) n v w (λ p. Calls call_told n v w (λ call. SetsInitialPriority v.endpoint w.endpoint id p call)))

abbrev pub SendsPriorityOn : Seen → Seen → ℕ → ℕ → ℕ → Told → Type 0
SendsPriorityOn v w id urgency incremental n =
    OnStream id n v w
    (IfGiven (priority_given urgency incremental) n v w (λ p. Calls call_told n v w (λ call. SendsPriority v.endpoint w.endpoint id p call)))

-- `h3_priority`: the numbers of a priority, or nothing is written
abbrev pub IsWritten : Option PriorityParameters → Told → ℕ → ℕ → ℕ → ℕ → Type 0
IsWritten None n urgency_before urgency incremental_before incremental =
    (n ≡ refusal_told refusal.NotOpen) × (urgency ≡ urgency_before) × (incremental ≡ incremental_before)
IsWritten (Some p) n urgency_before urgency incremental_before incremental =
    (n ≡ ok) × (urgency ≡ p.urgency) × (incremental ≡ (if p.incremental then 1 else 0))

pub record ShowsOf (v : Seen) (id : ℕ) (n : Told) (urgency_before urgency incremental_before incremental : ℕ) : Type 0 where
  pub priority : Option PriorityParameters
  pub shows : ShowsPriority v.endpoint id priority
  pub written : IsWritten priority n urgency_before urgency incremental_before incremental

abbrev pub ShowsPriorityOf : Seen → ℕ → Told → ℕ → ℕ → ℕ → ℕ → Type 0
ShowsPriorityOf v id n urgency_before urgency incremental_before incremental =
    OnStream id n v v (ShowsOf v id n urgency_before urgency incremental_before incremental)
    × Unwritten id ((urgency ≡ urgency_before) × (incremental ≡ incremental_before))

-- `h3_hold`
abbrev pub HoldsOn : Seen → Seen → ℕ → ℕ → Told → Type 0
HoldsOn v w id held n =
    OnStream id n v w (IfGiven (flag_given held) n v w (λ is. Calls call_told n v w (λ call. Holds v.endpoint w.endpoint id is call)))

-- `h3_next_by_priority`: a stream sends next, or none, and no id is written. Of the handle the endpoint alone is another one
abbrev pub SendsByPriority : Seen → Seen → Told → ℕ → ℕ → Type 0
SendsByPriority v w n before after =
    (w ≡ record v { endpoint = w.endpoint })
    × (((n ≡ ok) × SendsNext v.endpoint w.endpoint (Some after)) ⊎ ((n ≡ none) × SendsNext v.endpoint w.endpoint None × (after ≡ before)))
