use Rattle.h3_field.proofs.stream.table.Duplicate.encode.Goals as goal

pub returns-clause-ok : goal.returns-clause-ok
returns-clause-ok c = search
