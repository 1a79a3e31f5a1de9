use Rattle.std.proofs.lemmas.Result.{err_from_is_err_and}
use Rattle.h3_field.proofs.Strings.{plain_some}
use Rattle.h3_field.proofs.prefix_string.payload.Payload.append_to.Goals as goal

pub returns-in_err-append : goal.returns-in_err-append
returns-in_err-append c =
    let p = err_from_is_err_and c.from_residual.result c.from_residual.ensures.1 in
    rw (p.1, p.2) (rw (← c.self.view_is) (plain_some _ c.if-self.false c.are_bytes.ensures), c.in_err-append.ensures.err)
