use Rattle.std.proofs.Common.{◌≡◌, rules, sym}
use Rattle.h3_session.proofs.Behind.{pulls_behind}
use Rattle.h3_session.proofs.endpoint.pulling.pull_stream.Goals as goal

pub returns-clause-answer : goal.returns-clause-answer
returns-clause-answer c = λ passed.
    let same : c.decoder.result.now ≡ c.streams.inside.decoding.decoder = search rules in
    rw (sym c.streams.view_is, sym same, sym c.streams-inside.view_is) (pulls_behind _ _ _ _ _ _ _ _ _ _ _ _ c.behind_mut.ensures.value (c.pull_into.ensures.answer passed))

pub returns-clause-list : goal.returns-clause-list
returns-clause-list c =
    let same : c.decoder.result.now ≡ c.streams.inside.decoding.decoder = search rules in
    rw (sym c.streams.view_is, sym same) c.pull_into.ensures.list
