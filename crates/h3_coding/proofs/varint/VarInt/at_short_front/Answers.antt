use Rattle.std.proofs.Common.{ℕ, ◌<◌, arith}
use Rattle.std.specs.Prelude.{slice_index}
use Rattle.h3_coding.proofs.Fronts.{none_where_empty, none_where_short, four_at}
use Rattle.h3_coding.proofs.varint.VarInt.at_short_front.Goals as goal

pub returns-then-len-eq0-clause-none : goal.returns-then-len-eq0-clause-none
returns-then-len-eq0-clause-none c = λ _. none_where_empty _ (omega arith)

pub returns-then-len-lt2-clause-none : goal.returns-then-len-lt2-clause-none
returns-then-len-lt2-clause-none c = λ _. none_where_short 1 c.args.bytes.now (omega arith) (omega arith) (omega arith)

pub returns-then-len-lt4-clause-none : goal.returns-then-len-lt4-clause-none
returns-then-len-lt4-clause-none c = λ _. none_where_short 2 c.args.bytes.now (omega arith) (omega arith) (omega arith)

pub returns-then-leading-lt192-clause-some : goal.returns-then-leading-lt192-clause-some
returns-then-leading-lt192-clause-some c =
    let byte : (i : ℕ) → slice_index c.args.bytes.now i < 256 = λ i. omega (arith, c.type_inv.bytes i) in
    (four_at _ _ c.args.bytes.now (omega arith) (omega arith) (omega arith) (byte 1) (byte 2) (byte 3) c.from_be_bytes-number-then-leading-lt192.ensures c.from-then-leading-lt192.ensures, omega arith)

pub returns-clause-none : goal.returns-clause-none
returns-clause-none c = λ _. none_where_short 3 c.args.bytes.now (omega arith) (omega (arith, c.type_inv.bytes 0)) (omega arith)
