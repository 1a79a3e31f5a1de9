use Rattle.std.proofs.Common.{◌≡◌, take, drop, fold, None}
use Rattle.std.specs.Prelude.{All}
use Rattle.h3_header.specs.BadPart.{bad_part}
use Rattle.h3_messages.specs.Outline.{empty_outline, outlined}
use Rattle.h3_messages.specs.Survey.{IsSeen}
use Rattle.h3_messages.proofs.seen.Seen.take_good.Given as goal

abbrev pub invariant-fields : goal.invariant-fields
invariant-fields l =
    IsSeen (take l.place l.fields) l.self × All (λ f. bad_part l.any_protocol f ≡ None) (take l.place l.fields) × (fold outlined l.outline (drop l.place l.fields) ≡ fold outlined empty_outline l.fields)
