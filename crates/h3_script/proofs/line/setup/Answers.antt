use Rattle.std.proofs.Common.{arith, sym, ◌∙◌}
use Rattle.std.proofs.lemmas.Grind.{common_steps}
use Rattle.h3_script.proofs.Lines.{no_setup, setup_unnamed, setup_read}
use Rattle.h3_script.proofs.line.setup.Goals as goal
use Rattle.h3_script.proofs.line.setup.Goals.{in_default-via-then-words-lt7, in_default-via-else-words-lt7+else-words-lt8}

pub returns-in_default : goal.returns-in_default
returns-in_default c = elim c.in_default.branch [
  | in_default-via-then-words-lt7 w ↦ no_setup c.args.words.now (λ seven. grind (arith, common_steps, seven))
  | in_default-via-else-words-lt7+else-words-lt8 w ↦ no_setup c.args.words.now (λ seven. grind (arith, common_steps, seven))
]

pub returns-then-not-is : goal.returns-then-not-is
returns-then-not-is c = setup_unnamed c.args.words.now _ (omega arith) (sym c.is.ensures ∙ c.if-not-is.true)

pub returns : goal.returns
returns c =
    c.setup_by.ensures
    ∙ setup_read c.args.words.now _ _ _ _ _ _ _ (omega arith) (sym c.is.ensures ∙ c.if-not-is.false) c.number.ensures c.number-2.ensures c.number-3.ensures c.number-4.ensures c.number-5.ensures
    c.number-6.ensures
