use Rattle.std.proofs.Common.{◌∙◌, sym}
use Rattle.h3_qpack.proofs.Ahead.{alone_after, noted_after}
use Rattle.h3_qpack.proofs.Fieldwise.{over_after}
use Rattle.h3_qpack.proofs.writing.put_field.Goals as goal

pub returns-then-not-is_literal-clause-over : goal.returns-then-not-is_literal-clause-over
returns-then-not-is_literal-clause-over c =
    over_after _ _ _ _ _ _ c.requires.over c.choose-choice.ensures.possible c.in_ok-put_chosen.ensures.table c.in_ok-put_chosen.ensures.section

pub returns-then-not-is_literal-clause-ok : goal.returns-then-not-is_literal-clause-ok
returns-then-not-is_literal-clause-ok c = λ s d start h.
    alone_after s d start _ _ _ _ _ _ _ _ _ _ h c.is_small.ensures c.choose-choice.ensures.rule c.choose-choice.ensures.possible (sym c.is_literal.ensures ∙ c.if-not-is_literal.true)
    c.in_ok-put_chosen.ensures.table c.in_ok-put_chosen.ensures.section c.in_ok-put_chosen.ensures.line c.in_ok-put_chosen.ensures.instructions

pub returns-clause-ok : goal.returns-clause-ok
returns-clause-ok c = λ s d start h.
    noted_after s d start _ _ _ _ _ _ _ _ _ _ _ _ _ h c.is_small.ensures c.choose-choice.ensures.rule c.choose-choice.ensures.possible (sym c.is_literal.ensures ∙ c.if-not-is_literal.false)
    c.in_ok-put_chosen.ensures.table c.in_ok-put_chosen.ensures.section c.in_ok-put_chosen.ensures.line c.in_ok-put_chosen.ensures.instructions c.in_ok-put_ahead.ensures.ok c.note.ensures
