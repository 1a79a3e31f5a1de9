use Rattle.h3_qpack.proofs.lines.Lines.take.Goals as goal

pub returns-in-Indexed : goal.returns-in-Indexed
returns-in-Indexed c = search
