use Rattle.h3_header.proofs.headers.Header.request.Goals as goal

pub returns-in-None-clause-ok : goal.returns-in-None-clause-ok
returns-in-None-clause-ok c = c.request-pseudo.ensures c.args.fields
