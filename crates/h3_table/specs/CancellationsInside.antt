-- What the fields of `CanceledStreams` stand for.
use Rattle.std.specs.Prelude.{ℕ, List, Option, Some, None}
use Rattle.h3_table.specs.Cancellations.{Cancellations}
use Rattle.h3_table.specs.declared.canceled_streams.CanceledStreams.TheInside.{Inside}

-- Where all are kept they are in the one set, and else in the other.
abbrev pub kept_in : Option ℕ → List ℕ → List ℕ → List ℕ
kept_in None all last = all
kept_in (Some most) all last = last

abbrev pub cancellations_inside : Inside → Cancellations
cancellations_inside c = record { kept = kept_in c.most c.all c.last.keys; most = c.most; below = c.below }
