use Rattle.std.proofs.Common.{subst, sym, ◌∙◌}
use Rattle.std.proofs.lemmas.Result.{IfOk-weaker, IfErr-weaker}
use Rattle.h3_connection.specs.State.{kept_at}
use Rattle.h3_connection.specs.StrictConnection.{known_streams}
use Rattle.h3_streams.specs.Placed.{Receives}
use Rattle.h3_streams.specs.Plain.{plain_streams}
use Rattle.h3_streams.proofs.Joined.{absent, all_same, same_itself, receives_first, receives_second}
use Rattle.h3_streams.proofs.peer_streams.receive_elsewhere.Goals as goal

pub returns-then-has-clause-ok : goal.returns-then-has-clause-ok
returns-then-has-clause-ok c =
    let first = plain_streams c.args.plain.now in
    let second = c.args.kept.now.entries in
    let later = c.receive.new.streams.entries in
    IfOk-weaker c.receive.result _ _ (λ received r. receives_second (known_streams c.args.own.now) first first second later c.args.id c.args.bytes received (same_itself first) c.requires.absent r) c.receive.ensures.ok

pub returns-then-has-clause-err : goal.returns-then-has-clause-err
returns-then-has-clause-err c =
    let first = plain_streams c.args.plain.now in
    let second = c.args.kept.now.entries in
    let later = c.receive.new.streams.entries in
    IfErr-weaker c.receive.result _ _ (λ back h. (h.0, all_same first first second later (same_itself first) h.1)) c.receive.ensures.err

pub returns-in-Ok-clause-ok : goal.returns-in-Ok-clause-ok
returns-in-Ok-clause-ok c =
    let second = c.args.kept.now.entries in
    let none = absent (kept_at second c.args.id) (sym c.has.ensures ∙ c.if-has.false) in
    let received = rw c.into_inner.ensures.value at c.in-Ok.ensures.ok in
    receives_first (known_streams c.args.own.now) (plain_streams c.args.plain.now) (plain_streams c.begin.new.self) second c.args.id c.args.bytes c.in-Ok.received c.requires.absent none received

pub returns-in-Err-clause-ok : goal.returns-in-Err-clause-ok
returns-in-Err-clause-ok c =
    let first = plain_streams c.args.plain.now in
    let changed = plain_streams c.begin.new.self in
    let second = c.args.kept.now.entries in
    let later = c.receive-in-Err.new.streams.entries in
    let back = c.in-Err.ensures.err in
    IfOk-weaker c.receive-in-Err.result _ _ (λ received r. receives_second (known_streams c.args.own.now) first changed second later c.args.id c.args.bytes received back.1 c.requires.absent (subst (λ b. Receives (known_streams c.args.own.now) second later c.args.id b received) back.0 r))
    c.receive-in-Err.ensures.ok

pub returns-in-Err-clause-err : goal.returns-in-Err-clause-err
returns-in-Err-clause-err c =
    let first = plain_streams c.args.plain.now in
    let changed = plain_streams c.begin.new.self in
    let second = c.args.kept.now.entries in
    let later = c.receive-in-Err.new.streams.entries in
    let back = c.in-Err.ensures.err in
    IfErr-weaker c.receive-in-Err.result _ _ (λ bytes h. (h.0 ∙ back.0, all_same first changed second later back.1 h.1)) c.receive-in-Err.ensures.err
