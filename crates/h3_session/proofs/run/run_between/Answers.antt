use Rattle.std.proofs.Common.{◌≡◌, ◌++◌, ◌∷◌, [], take, sym, ◌∙◌, ap, ◌+◌}
use Rattle.std.proofs.lemmas.List.{take_more}
use Rattle.h3_session.proofs.Runs.{one_more}
use Rattle.h3_session.proofs.run.run_between.Goals as goal

pub loop-event-preserved : goal.loop-event-preserved
loop-event-preserved c =
    let i = c.loop-event.event-index in
    let events = c.args.events.now in
    let more : take (i + 1) events ≡ take i events ++ c.event-item.result ∷ [] =
    take_more events i c.event-item.result c.loop-event-test.true ∙ ap (λ e. take i events ++ e ∷ []) (sym c.event-item.is) in
    rw (more, c.in_ok-push.ensures.items) (one_more _ _ (take i events) c.loop-event.answers.items _ _ c.event-item.result c.act-answer.result _ _ c.loop-event.invariant c.act-answer.ensures)
