use Rattle.std.proofs.Common.{[], ap, sym, ◌∙◌}
use Rattle.h3_connection.specs.KeptGoaways.{kept_peer}
use Rattle.h3_unidirectional.proofs.FirstReads.{err_after, err_taken, first_part, ok_after, refused_first}
use Rattle.h3_unidirectional.proofs.control.PeerControl.read_first.Goals as goal

pub returns-in-Err-clause-refused : goal.returns-in-Err-clause-refused
returns-in-Err-clause-refused c =
    first_part c.args.kinds c.args.side c.args.own.now c.args.self.now _ _ c.in-Err.ensures.refused (c.keep_goaways.ensures ∙ ap (λ last. kept_peer last c.read_one-progress.new.self) c.keeps_last.ensures)

pub returns-then-are_refused-clause-ok : goal.returns-then-are_refused-clause-ok
returns-then-are_refused-clause-ok c =
    let one = rw c.in-Ok-GoesOn.field-0-is at c.in-Ok-GoesOn.ensures.ok in
    let kept = c.in-Ok-GoesOn.ensures.first c.requires in
    let first = rw c.in-Ok-GoesOn.field-0-is at kept in
    refused_first c.args.kinds c.args.side c.args.own.now c.args.self.now _ _ _ one.0 first.0 first.1 (c.keep_goaways.ensures ∙ ap (λ last. kept_peer last c.read_one-progress.new.self) c.keeps_last.ensures)
    (sym c.are_refused.ensures ∙ c.if-are_refused.true)
    (c.let_go.ensures ∙ ap (λ o. record c.keep_goaways.new.self { unread = []; others = o }) (sym (c.most_others-most_others.ensures c.requires)))

pub returns-clause-ok : goal.returns-clause-ok
returns-clause-ok c =
    let one = rw c.in-Ok-GoesOn.field-0-is at c.in-Ok-GoesOn.ensures.ok in
    let kept = c.in-Ok-GoesOn.ensures.first c.requires in
    let first = rw c.in-Ok-GoesOn.field-0-is at kept in
    ok_after c.args.kinds c.args.side c.args.own.now c.args.self.now c.read.result _ _ _ one.0 first.1
    (c.keep_goaways.ensures ∙ ap (λ last. kept_peer last c.read_one-progress.new.self) c.keeps_last.ensures) (sym c.are_refused.ensures ∙ c.if-are_refused.false) c.read.ensures.ok

pub returns-clause-refused : goal.returns-clause-refused
returns-clause-refused c =
    let one = rw c.in-Ok-GoesOn.field-0-is at c.in-Ok-GoesOn.ensures.ok in
    err_after c.args.kinds c.args.side c.args.own.now c.args.self.now c.read.result _ _ _ one.0 (c.keep_goaways.ensures ∙ ap (λ last. kept_peer last c.read_one-progress.new.self) c.keeps_last.ensures) c.read.ensures.front

pub returns-clause-taken : goal.returns-clause-taken
returns-clause-taken c =
    let kept = c.in-Ok-GoesOn.ensures.first c.requires in
    let first = rw c.in-Ok-GoesOn.field-0-is at kept in
    err_taken c.args.kinds c.args.side c.args.own.now c.args.self.now c.read.result _ _ _ first.1 (c.keep_goaways.ensures ∙ ap (λ last. kept_peer last c.read_one-progress.new.self) c.keeps_last.ensures)
    (sym c.are_refused.ensures ∙ c.if-are_refused.false) c.read.ensures.front
