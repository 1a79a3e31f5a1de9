-- It is used or dropped, waits on, or finds no memory.
use Rattle.std.proofs.Common.{sym, ◌∙◌}
use Rattle.h3_session.proofs.LookingAtUpdates.{is_there, looks_done, looks_refused}
use Rattle.h3_session.proofs.endpoint.Endpoint.use_update_at.Goals as goal

pub unreachable-requires : goal.unreachable-requires
unreachable-requires c = absurd (is_there c.args.self.now.peer.updates.waiting c.args.place c.requires.there (sym c.update_at.ensures ∙ c.in_default.is))

pub returns-in-Ok : goal.returns-in-Ok
returns-in-Ok c =
    looks_done c.args.self.now c.use_update.new.self c.pass_update.new.self c.in-Some.update.0 c.args.place c.pass_update.result c.in-Some.update.1 c.in-Ok.is_used
    (sym c.in-Some.is ∙ c.update_at.ensures) c.requires.there c.in-Ok.ensures.used c.use_update.ensures.rest c.pass_update.ensures.waits c.pass_update.ensures.next

pub returns-in-Err : goal.returns-in-Err
returns-in-Err c =
    looks_refused c.args.self.now c.use_update.new.self c.in-Some.update.0 c.args.place c.in-Some.update.1 c.in-Err.refusal
    (sym c.in-Some.is ∙ c.update_at.ensures) c.in-Err.ensures.used c.use_update.ensures.rest
