use Rattle.std.specs.Prelude.{◌≡◌, bytes_eq, drop}
use Rattle.h3_header.proofs.grammar.is_text.Given as goal

abbrev pub invariant-bytes : goal.invariant-bytes
invariant-bytes l = bytes_eq (drop l.i l.text) (drop l.i l.wanted) ≡ bytes_eq l.text l.wanted
