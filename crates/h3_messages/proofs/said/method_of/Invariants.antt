use Rattle.std.specs.Prelude.{◌≡◌, codes, drop}
use Rattle.h3_messages.specs.Messages.{value_of}
use Rattle.h3_messages.proofs.said.method_of.Given as goal

abbrev pub invariant-fields : goal.invariant-fields
invariant-fields l = value_of (codes ":method") (drop l.place l.fields) ≡ value_of (codes ":method") l.fields
