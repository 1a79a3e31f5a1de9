use Rattle.std.specs.Prelude.{◌≡◌, drop}
use Rattle.h3_messages.specs.OwnMessages.{has_no_trailer_field}
use Rattle.h3_messages.proofs.own.has_no_trailer_field.Given as goal

abbrev pub invariant-fields : goal.invariant-fields
invariant-fields l = has_no_trailer_field (drop l.place l.fields) ≡ has_no_trailer_field l.fields
