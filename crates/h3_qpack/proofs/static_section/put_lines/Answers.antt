use Rattle.std.proofs.Common.{◌^◌}
use Rattle.std.proofs.lemmas.Result.{err_from_is_err_and}
use Rattle.h3_qpack.proofs.Fieldwise.{guarded_within}
use Rattle.h3_qpack.proofs.PlainSections.{put_refused, put_more}
use Rattle.h3_qpack.proofs.static_section.put_lines.Goals as goal

pub encode_static_line-requires : goal.encode_static_line-requires
encode_static_line-requires c = guarded_within c.args.fields.now c.fields.place c.args.choices.guards_secrets c.get-field.result c.guard-taken.result (2 ^ 62) c.get-field.ensures c.guard-taken.ensures c.requires

pub fields-preserved : goal.fields-preserved
fields-preserved c = put_more _ _ _ _ c.args.fields.now c.fields.place c.get-field.result c.guard-taken.result c.fields.invariant c.get-field.ensures c.guard-taken.ensures c.in_ok-encode_static_line.ensures.ok c.are_bytes.ensures

pub returns-in_err-encode_static_line-clause-err : goal.returns-in_err-encode_static_line-clause-err
returns-in_err-encode_static_line-clause-err c =
    let p = err_from_is_err_and c.from_residual-in_err-encode_static_line.result c.from_residual-in_err-encode_static_line.ensures.1 in
    rw p.1 (put_refused _ _ _ _ _ _ c.fields.invariant c.in_err-encode_static_line.ensures.err)
