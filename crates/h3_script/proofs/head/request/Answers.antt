use Rattle.std.proofs.lemmas.Result.{err_from_is_err_and}
use Rattle.h3_script.specs.Pieces.{texts}
use Rattle.h3_script.proofs.Denials.{denies_by, denies_none}
use Rattle.h3_script.proofs.Requests.{no_request, is_request}
use Rattle.h3_script.proofs.head.request.Goals as goal

pub returns-in_err-fields-clause-err : goal.returns-in_err-fields-clause-err
returns-in_err-fields-clause-err c =
    let p = err_from_is_err_and c.from_residual-in_err-fields.result c.from_residual-in_err-fields.ensures.1 in
    rw (p.1, p.2) (denies_by _ _ _ (λ h. (h.1.fields, h.1.adds)) c.in_err-fields.ensures.err)

pub returns-clause-ok : goal.returns-clause-ok
returns-clause-ok c =
    is_request c.args.method.now c.args.uri.now c.in_ok-method.method (texts c.args.words.now) c.in_ok-uri.uri c.in_ok-fields.fields _
    c.in_ok-method.ensures.ok c.as_str.ensures.valid c.in_ok-uri.ensures.ok c.in_ok-fields.ensures.ok c.in_ok-request.ensures.agrees c.in_ok-request.ensures.ok

pub returns-in_err-request-clause-err : goal.returns-in_err-request-clause-err
returns-in_err-request-clause-err c =
    let p = err_from_is_err_and c.from_residual-in_err-request.result c.from_residual-in_err-request.ensures.1 in
    rw p.1 (denies_none _ _ (no_request c.args.method.now c.args.uri.now (texts c.args.words.now) c.in_ok-uri.uri c.in_ok-fields.fields _ c.in_ok-uri.ensures.ok c.in_ok-fields.ensures.ok c.in_err-request.ensures.err))
