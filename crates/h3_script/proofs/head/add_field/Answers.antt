use Rattle.std.proofs.Common.{Err, ap}
use Rattle.h3_script.proofs.Fields.{added, no_parts, no_room}
use Rattle.h3_script.proofs.head.add_field.Goals as goal

pub returns-in-Ok-clause-ok : goal.returns-in-Ok-clause-ok
returns-in-Ok-clause-ok c =
    added c.args.map.now c.append.new.self c.args.word.now c.in-Some.name.now c.in-Some.value.now c.in_ok-name.name c.in_ok-value.value
    c.in-Some.ensures.value c.in_ok-name.ensures.ok c.as_bytes.ensures.valid c.in_ok-value.ensures.ok c.as_bytes-2.ensures.valid
    (λ full. let no = c.in-Ok.ensures.full.1 full in cc) c.in-Ok.ensures.ok

pub returns-in_default-clause-err : goal.returns-in_default-clause-err
returns-in_default-clause-err c = no_parts c.args.map.now c.args.word.now c.in_default.ensures.value

pub returns-in-Err-MaxSizeReached-clause-err : goal.returns-in-Err-MaxSizeReached-clause-err
returns-in-Err-MaxSizeReached-clause-err c =
    no_room c.args.map.now c.args.word.now c.in-Some.name.now c.in-Some.value.now c.in_ok-name.name c.in-Some.ensures.value c.in_ok-name.ensures.ok
    (c.in-Err-MaxSizeReached.ensures.full.0 (ap (λ e. Err e) c.in-Err-MaxSizeReached.field-0-is))
