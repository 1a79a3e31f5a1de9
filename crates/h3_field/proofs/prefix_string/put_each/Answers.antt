use Rattle.h3_field.proofs.Behind.{kept_before}
use Rattle.h3_field.proofs.prefix_string.put_each.Goals as goal

pub returns-in-Err-clause-err : goal.returns-in-Err-clause-err
returns-in-Err-clause-err c = kept_before _ _ _ _ c.in_ok-put_string.ensures.ok c.in-Err.ensures.err
