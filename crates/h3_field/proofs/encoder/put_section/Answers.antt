use Rattle.std.proofs.Common.{◌^◌, refl, arith}
use Rattle.std.proofs.lemmas.Result.{err_from_is_err_and}
use Rattle.h3_field.proofs.SectionWriting.{put_refused, lent_within, lent_more}
use Rattle.h3_field.proofs.encoder.put_section.Goals as goal

pub encode_static_line-requires : goal.encode_static_line-requires
encode_static_line-requires c =
    let within = lent_within c.args.fields.now c.fields.place c.get-field.result (2 ^ 62) c.get-field.ensures c.requires in
    omega (arith, within)

pub overflow_add-size : goal.overflow_add-size
overflow_add-size c =
    let within = lent_within c.args.fields.now c.fields.place c.get-field.result (2 ^ 62) c.get-field.ensures c.requires in
    omega (arith, c.fields.invariant.size_is, c.mem_size.ensures, within)

pub fields-preserved : goal.fields-preserved
fields-preserved c =
    lent_more _ _ _ c.args.fields.now c.fields.place _ _ _ c.get-field.result c.fields.invariant c.get-field.ensures c.requires c.in_ok-encode_static_line.ensures.ok c.mem_size.ensures refl c.are_bytes.ensures

pub returns-in_err-encode_static_line-clause-err : goal.returns-in_err-encode_static_line-clause-err
returns-in_err-encode_static_line-clause-err c =
    let p = err_from_is_err_and c.from_residual-in_err-encode_static_line.result c.from_residual-in_err-encode_static_line.ensures.1 in
    rw p.1 (put_refused _ _ _ _ _ _ c.fields.invariant c.in_err-encode_static_line.ensures.err)
