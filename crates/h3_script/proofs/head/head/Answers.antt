use Rattle.std.proofs.Common.{true, false, sym, ◌∙◌}
use Rattle.std.proofs.lemmas.List.{take_rest}
use Rattle.h3_script.proofs.HeadWords.{no_words, head_read, head_denied, no_uri}
use Rattle.h3_script.proofs.head.head.Goals as goal

pub returns-in_default-clause-err : goal.returns-in_default-clause-err
returns-in_default-clause-err c = no_words c.args.words.now c.in_default.len_below

pub returns-then-is_status-clause-ok : goal.returns-then-is_status-clause-ok
returns-then-is_status-clause-ok c =
    head_read c.args.words.now _ _ true c.in-len1-up.len_at_least (take_rest c.args.words.now 1) (sym c.is_status.ensures ∙ c.if-is_status.true) c.response.result c.response.ensures.ok

pub returns-then-is_status-clause-err : goal.returns-then-is_status-clause-err
returns-then-is_status-clause-err c =
    head_denied c.args.words.now _ _ true c.in-len1-up.len_at_least (take_rest c.args.words.now 1) (sym c.is_status.ensures ∙ c.if-is_status.true) c.response.result c.response.ensures.err

pub returns-in-Some-clause-ok : goal.returns-in-Some-clause-ok
returns-in-Some-clause-ok c =
    head_read c.args.words.now _ _ false c.in-len1-up.len_at_least (sym c.in-Some.ensures.cases.0 ∙ take_rest c.args.words.now 1) (sym c.is_status.ensures ∙ c.if-is_status.false) c.request.result
    c.request.ensures.ok

pub returns-in-Some-clause-err : goal.returns-in-Some-clause-err
returns-in-Some-clause-err c =
    head_denied c.args.words.now _ _ false c.in-len1-up.len_at_least (sym c.in-Some.ensures.cases.0 ∙ take_rest c.args.words.now 1) (sym c.is_status.ensures ∙ c.if-is_status.false) c.request.result
    c.request.ensures.err

pub returns-in-None-clause-err : goal.returns-in-None-clause-err
returns-in-None-clause-err c =
    no_uri c.args.words.now _ _ c.in-len1-up.len_at_least (take_rest c.args.words.now 1) c.in-None.ensures.cases (sym c.is_status.ensures ∙ c.if-is_status.false)
