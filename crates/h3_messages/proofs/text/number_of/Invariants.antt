use Rattle.std.specs.Prelude.{◌≡◌, ◌^◌, min, take}
use Rattle.h3_messages.specs.Messages.{number_of}
use Rattle.h3_messages.proofs.text.number_of.Given as goal

abbrev pub invariant-bytes : goal.invariant-bytes
invariant-bytes l = l.number ≡ min (2 ^ 62) (number_of (take l.byte-index l.digits))
