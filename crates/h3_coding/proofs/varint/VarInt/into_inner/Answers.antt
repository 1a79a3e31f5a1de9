use Rattle.h3_coding.proofs.varint.VarInt.into_inner.Goals as goal

pub returns-clause-value : goal.returns-clause-value
returns-clause-value c = search
