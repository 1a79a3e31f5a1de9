use Rattle.std.specs.Prelude.{◌≡◌, drop}
use Rattle.h3_messages.specs.Messages.{names_port}
use Rattle.h3_messages.proofs.text.names_port.Given as goal

abbrev pub invariant-places : goal.invariant-places
invariant-places l = names_port l.text ≡ names_port (drop l.place l.text)
