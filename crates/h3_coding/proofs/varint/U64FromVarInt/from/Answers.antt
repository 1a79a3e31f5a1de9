use Rattle.h3_coding.proofs.varint.U64FromVarInt.from.Goals as goal

pub returns : goal.returns
returns c = search
