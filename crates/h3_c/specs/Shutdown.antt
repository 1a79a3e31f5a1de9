-- What the exports promise that shut a connection down.
use Rattle.std.specs.Prelude.{◌≡◌, ℕ}
use Rattle.h3_connection.specs.ReadingContracts.{Shows}
use Rattle.h3_connection.specs.Shutdown.{ShowsFirstUnseen, is_drained}
use Rattle.h3_c.specs.declared.numbers.Told.{Told}
use Rattle.h3_c.specs.Numbers.{ok}
use Rattle.h3_c.specs.Seen.{Seen}
use Rattle.h3_c.specs.Bits.{bit}

-- `h3_first_unseen`
abbrev pub ShowsUnseen : Seen → Told → ℕ → Type 0
ShowsUnseen v n id = (n ≡ ok) × ShowsFirstUnseen v.endpoint id

-- `h3_is_drained`: 1 or 0
abbrev pub ShowsIsDrained : Seen → Told → ℕ → Type 0
ShowsIsDrained v n drained = (n ≡ ok) × Shows (λ e. bit (is_drained e)) v.endpoint drained
