use Rattle.h3_header.proofs.headers.authority.https.Goals as goal

pub returns-clause-value : goal.returns-clause-value
returns-clause-value c = search

pub returns-clause-valid : goal.returns-clause-valid
returns-clause-valid c = search
