use Rattle.std.specs.Prelude.{◌≡◌, true, take}
use Rattle.std.specs.Char.{is_ascii_digit}
use Rattle.std.specs.List.{list_all}
use Rattle.h3_messages.proofs.text.are_digits.Given as goal

abbrev pub invariant-bytes : goal.invariant-bytes
invariant-bytes l = list_all is_ascii_digit (take l.byte-index l.text) ≡ true
