use Rattle.h3_coding.proofs.varint.VarIntDefault.default.Goals as goal

pub returns : goal.returns
returns c = search
