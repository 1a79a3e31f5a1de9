use Rattle.std.proofs.Common.{codes, sym, ◌∙◌}
use Rattle.std.proofs.lemmas.List.{take_rest}
use Rattle.std.proofs.lemmas.Result.{err_from_is_err_and}
use Rattle.h3_script.specs.HeadText.{IsHeadText, IsTrailerText}
use Rattle.h3_script.proofs.Denials.{denies_by}
use Rattle.h3_script.proofs.Lines.{head_in, trailer_in}
use Rattle.h3_script.proofs.SectionLines.{section_says, section_short, section_sideless, section_streamless, section_unnamed}
use Rattle.h3_script.proofs.line.section_event.Goals as goal

pub returns-in_err-head-clause-err : goal.returns-in_err-head-clause-err
returns-in_err-head-clause-err c =
    let p = err_from_is_err_and c.from_residual.result c.from_residual.ensures.1 in
    rw (p.1, p.2) (denies_by _ _ _ (head_in c.args.words.now _ _ c.in-len3-up.len_at_least (take_rest c.args.words.now 3) (sym c.is.ensures ∙ c.if-is.true)) c.in_err-head.ensures.err)

pub returns-in_err-trailer-clause-err : goal.returns-in_err-trailer-clause-err
returns-in_err-trailer-clause-err c =
    let p = err_from_is_err_and c.from_residual-in_err-trailer.result c.from_residual-in_err-trailer.ensures.1 in
    rw (p.1, p.2) (denies_by _ _ _ (trailer_in c.args.words.now _ _ c.in-len3-up.len_at_least (take_rest c.args.words.now 3) (sym c.is.ensures ∙ c.if-is.false)) c.in_err-trailer.ensures.err)

pub returns-in_default-clause-err : goal.returns-in_default-clause-err
returns-in_default-clause-err c = section_short c.args.words.now c.in_default.len_below

pub returns-in_default-side-clause-err : goal.returns-in_default-side-clause-err
returns-in_default-side-clause-err c = section_sideless c.args.words.now _ c.in-len3-up.len_at_least c.in_default-side.ensures

pub returns-in_default-stream_id-clause-err : goal.returns-in_default-stream_id-clause-err
returns-in_default-stream_id-clause-err c = section_streamless c.args.words.now _ c.in-len3-up.len_at_least c.in_default-stream_id.ensures

pub returns-then-is-clause-ok : goal.returns-then-is-clause-ok
returns-then-is-clause-ok c =
    section_says (codes "head") IsHeadText c.args.words.now _ _ c.in-Some.acting c.in-Some-stream_id.id _ c.in-len3-up.len_at_least (take_rest c.args.words.now 3)
    (sym c.is.ensures ∙ c.if-is.true) (sym c.in-Some.ensures) (sym c.in-Some-stream_id.ensures) c.in_ok-head.ensures.ok

pub returns-then-is-2-clause-ok : goal.returns-then-is-2-clause-ok
returns-then-is-2-clause-ok c =
    section_says (codes "trailer") IsTrailerText c.args.words.now _ _ c.in-Some.acting c.in-Some-stream_id.id _ c.in-len3-up.len_at_least (take_rest c.args.words.now 3)
    (sym c.is-2.ensures ∙ c.if-is-2.true) (sym c.in-Some.ensures) (sym c.in-Some-stream_id.ensures) c.in_ok-trailer.ensures.ok

pub returns-clause-err : goal.returns-clause-err
returns-clause-err c = section_unnamed c.args.words.now _ c.in-len3-up.len_at_least (sym c.is.ensures ∙ c.if-is.false) (sym c.is-2.ensures ∙ c.if-is-2.false)
