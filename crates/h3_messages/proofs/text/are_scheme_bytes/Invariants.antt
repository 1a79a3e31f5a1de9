use Rattle.std.specs.Prelude.{◌≡◌, true, take}
use Rattle.std.specs.List.{list_all}
use Rattle.h3_messages.specs.Messages.{is_scheme_byte}
use Rattle.h3_messages.proofs.text.are_scheme_bytes.Given as goal

abbrev pub invariant-bytes : goal.invariant-bytes
invariant-bytes l = list_all is_scheme_byte (take l.byte-index l.text) ≡ true
