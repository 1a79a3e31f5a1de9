use Rattle.std.proofs.Common.{rules}
use Rattle.h3_session.proofs.endpoint.heads.encode.Goals as goal

pub returns-in_default-taken_from-clause-err : goal.returns-in_default-taken_from-clause-err
returns-in_default-taken_from-clause-err c = λ s is. (rw c.id-id.ensures at c.withdraw.ensures) s c.args.fields.now _ c.args.streams.now (rw c.id-id.ensures at (c.in-Ok-encode_into.ensures.ok s is))

pub returns-clause-ok : goal.returns-clause-ok
returns-clause-ok c = λ s is.
    let written = rw c.id-id.ensures at (c.in-Ok-encode_into.ensures.ok s is) in
    search (rules, written)
