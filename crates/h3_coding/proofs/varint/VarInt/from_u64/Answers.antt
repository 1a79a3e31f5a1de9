use Rattle.h3_coding.proofs.varint.VarInt.from_u64.Goals as goal

pub invariant_of-result : goal.invariant_of-result
invariant_of-result c = search

pub returns-then-x-clause-ok : goal.returns-then-x-clause-ok
returns-then-x-clause-ok c = search
