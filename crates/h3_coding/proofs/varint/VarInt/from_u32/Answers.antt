use Rattle.h3_coding.proofs.varint.VarInt.from_u32.Goals as goal

pub returns : goal.returns
returns c = search
