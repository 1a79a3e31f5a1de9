use Rattle.h3_coding.proofs.varint.VarInt.from_u64_unchecked.Goals as goal

pub returns : goal.returns
returns c = search
