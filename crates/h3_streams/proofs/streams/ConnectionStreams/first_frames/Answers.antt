use Rattle.std.proofs.Common.{sym, ap₂}
use Rattle.std.proofs.lemmas.Result.{IfOk-weaker, IfErr-weaker}
use Rattle.h3_streams.proofs.FirstFrames.{first_fault, first_read, first_stopped, early_stopped}
use Rattle.h3_streams.proofs.streams.ConnectionStreams.first_frames.Goals as goal

pub returns-in-Ok-Some-clause-ok : goal.returns-in-Ok-Some-clause-ok
returns-in-Ok-Some-clause-ok c =
    let unknown = rw (sym c.self.view_is, sym c.self-inside.view_is) at c.requires in
    let first = rw (sym c.self.view_is, sym c.self-inside.view_is) at c.if-lacks_settings.ensures in
    let learns = rw c.bytes_mut-out.ensures.value at c.read_first.ensures.learns in
    let read = rw c.in-Ok-Some.field-0-is at c.in-Ok-Some.ensures.ok in
    rw (sym c.self.view_is, sym c.self-inside.view_is, c.in-Ok-Some.code-is) (first_fault _ _ _ _ _ _ _ _ unknown first read learns)

pub returns-in-Ok-None-clause-ok : goal.returns-in-Ok-None-clause-ok
returns-in-Ok-None-clause-ok c =
    let unknown = rw (sym c.self.view_is, sym c.self-inside.view_is) at c.requires in
    let first = rw (sym c.self.view_is, sym c.self-inside.view_is) at c.if-lacks_settings.ensures in
    let learns = rw c.bytes_mut-out.ensures.value at c.read_first.ensures.learns in
    let read = rw c.in-Ok-None.field-0-is at c.in-Ok-None.ensures.ok in
    rw (sym c.self.view_is, sym c.self-inside.view_is) (IfOk-weaker c.early_replies.result _ _ (λ fault early. first_read _ _ _ _ _ _ _ _ fault unknown first read learns early) c.early_replies.ensures.ok)

pub returns-in-Ok-None-clause-err : goal.returns-in-Ok-None-clause-err
returns-in-Ok-None-clause-err c =
    let unknown = rw (sym c.self.view_is, sym c.self-inside.view_is) at c.requires in
    let first = rw (sym c.self.view_is, sym c.self-inside.view_is) at c.if-lacks_settings.ensures in
    let learns = rw c.bytes_mut-out.ensures.value at c.read_first.ensures.learns in
    let read = rw c.in-Ok-None.field-0-is at c.in-Ok-None.ensures.ok in
    rw (sym c.self.view_is, sym c.self-inside.view_is) (IfErr-weaker c.early_replies.result _ _ (λ left early. early_stopped _ _ _ _ _ _ _ _ _ unknown first read learns (early c.args.side)) c.early_replies.ensures.err)

pub returns-in-Err-clause-err : goal.returns-in-Err-clause-err
returns-in-Err-clause-err c =
    let unknown = rw (sym c.self.view_is, sym c.self-inside.view_is) at c.requires in
    let first = rw (sym c.self.view_is, sym c.self-inside.view_is) at c.if-lacks_settings.ensures in
    let learns = rw c.bytes_mut-out.ensures.value at c.read_first.ensures.learns in
    rw (sym c.self.view_is, sym c.self-inside.view_is) (first_stopped _ _ _ _ _ _ _ _ unknown first c.in-Err.ensures.err c.in-Err.ensures.taken learns
    (ap₂ (λ bytes early. record { id = c.args.id; bytes = bytes; early = early }) c.new.ensures c.early_stream.ensures))
