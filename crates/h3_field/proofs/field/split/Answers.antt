use Rattle.h3_field.proofs.field.split.Goals as goal

pub returns-clause-name : goal.returns-clause-name
returns-clause-name c = search
