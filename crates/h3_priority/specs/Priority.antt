-- The priority of a response (RFC 9218, section 4).
use Rattle.std.specs.Prelude.{ℕ, ◌+◌, Bool, true, false, nat_le, ◌==◌, List, [], ◌∷◌, ◌++◌, codes, bytes_eq, Option, Some, None, option_map, if◌then◌else◌}
use Rattle.h3_priority.specs.declared.item.Item.{Item}
use Rattle.h3_priority.specs.declared.item.Item.TheVariants.{Integer, Boolean}
use Rattle.h3_priority.specs.Dictionary.{Members, dictionary_of}

pub record PriorityParameters : Type 0 where
  pub urgency : ℕ
  pub incremental : Bool

abbrev pub default_parameters : PriorityParameters
default_parameters = record { urgency = 3; incremental = false }

-- the value of a key: that of its last member
abbrev pub value_of : List ℕ → Members → Option Item
value_of key [] = None
value_of key (m ∷ members) = if bytes_eq m.0 key then Some m.1 else value_of key members

-- an integer from 0 to 7; another value is ignored
abbrev pub urgency_of : Option Item → ℕ
urgency_of (Some (Integer false number)) = if nat_le number 7 then number else 3
urgency_of (Some (Integer true number)) = if number == 0 then 0 else 3
urgency_of _ = 3

-- a boolean; another value is ignored
abbrev pub incremental_of : Option Item → Bool
incremental_of (Some (Boolean is)) = is
incremental_of _ = false

-- what is not known is ignored
abbrev pub parameters_in : Members → PriorityParameters
parameters_in members =
    record {
      urgency = urgency_of (value_of (codes "u") members);
      incremental = incremental_of (value_of (codes "i") members);
    }

-- the priority that a field's value says; none where it is no dictionary
unfoldable pub priority_of : List ℕ → Option PriorityParameters
priority_of text = option_map parameters_in (dictionary_of text)

-- the field's value that says a priority
abbrev pub value_that_says : PriorityParameters → List ℕ
value_that_says p = codes "u=" ++ (48 + p.urgency) ∷ (if p.incremental then codes ", i" else [])
