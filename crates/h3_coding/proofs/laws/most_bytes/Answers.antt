use Rattle.h3_coding.proofs.laws.most_bytes.Goals as goal

pub returns : goal.returns
returns c = search
