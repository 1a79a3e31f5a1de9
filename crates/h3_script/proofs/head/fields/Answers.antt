use Rattle.h3_script.proofs.Denials.{denies_by}
use Rattle.h3_script.proofs.Fields.{fields_more, field_next}
use Rattle.h3_script.proofs.head.fields.Goals as goal

pub returns-in-Err-clause-err : goal.returns-in-Err-clause-err
returns-in-Err-clause-err c = denies_by _ _ _ (field_next c.args.words.now c.loop-word.word-index _ _ c.loop-word-test.true c.loop-word.invariant) c.in-Err.ensures.err

pub loop-word-preserved : goal.loop-word-preserved
loop-word-preserved c = fields_more c.args.words.now c.loop-word.word-index _ _ _ c.loop-word-test.true c.loop-word.invariant c.in_default.ensures.ok
