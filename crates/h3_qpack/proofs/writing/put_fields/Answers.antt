use Rattle.std.proofs.Common.{◌^◌, ap, arith}
use Rattle.std.proofs.lemmas.Result.{err_from_is_err_and}
use Rattle.h3_qpack.specs.declared.encoder_choices.EncoderChoices.{EncoderChoices}
use Rattle.h3_qpack.proofs.Fieldwise.{lent_more, guarded_within, in_all, all_bytes, in_refused}
use Rattle.h3_qpack.proofs.writing.put_fields.Goals as goal

pub returns-in_err-put_field-clause-err : goal.returns-in_err-put_field-clause-err
returns-in_err-put_field-clause-err c =
    let p = err_from_is_err_and c.from_residual.result c.from_residual.ensures.1 in
    rw p.1 (λ s start h. in_refused _ _ _ _ _ _ _ _ _ _ _ _ c.fields.invariant (omega arith) c.in_err-put_field.ensures.err.0 c.in_err-put_field.ensures.err.1 s start h)

pub put_field-requires-clause-size : goal.put_field-requires-clause-size
put_field-requires-clause-size c = guarded_within c.args.fields.now c.fields.place c.choices-guards.result.guards_secrets c.get-field.result c.guard-taken.result (2 ^ 62) c.get-field.ensures c.guard-taken.ensures c.requires.size

pub fields-preserved : goal.fields-preserved
fields-preserved c =
    lent_more _ _ _ _ _ _ _ _ _ _ _ _ c.args.fields.now c.fields.place c.choices-guards.result.guards_secrets c.get-field.result c.guard-taken.result c.fields.invariant c.get-field.ensures c.are_bytes.ensures
    (ap (λ (x : EncoderChoices). x.guards_secrets) c.choices-guards.ensures) c.guard-taken.ensures c.in_ok-put_field.ensures.over c.in_ok-put_field.ensures.grows c.in_ok-put_field.ensures.ok

pub returns-clause-ok : goal.returns-clause-ok
returns-clause-ok c =
    λ s start h. in_all _ _ _ _ _ _ _ _ _ _ c.fields.invariant (omega arith) s start h

pub returns-clause-bytes : goal.returns-clause-bytes
returns-clause-bytes c = all_bytes _ _ _ _ _ _ _ _ _ _ c.fields.invariant (omega arith)
