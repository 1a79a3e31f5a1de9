use Rattle.std.proofs.Common.{sym, ap, subst, ◌∙◌, ◌∷◌, ◌++◌, [], Some}
use Rattle.h3_session.proofs.ReceivingArrives.{ReadsFrom, took_all, took_fault, took_part}
use Rattle.h3_session.proofs.endpoint.Endpoint.take.Goals as goal

pub returns-in-Ok-None : goal.returns-in-Ok-None
returns-in-Ok-None c =
    took_all c.args.self.now c.take_kept.new.self c.read_all.new.self c.behind-arrivals.result.items c.args.arrival c.requires c.in-Ok.ensures.none
    (c.behind-arrivals.ensures.items ∙ ap (λ l. l ++ c.args.arrival ∷ []) c.in-Ok.ensures.ok.0)
    (rw c.in-Ok-None.field-0-is at c.in-Ok-None.ensures.reads)

pub returns-in-Ok-Some : goal.returns-in-Ok-Some
returns-in-Ok-Some c =
    took_fault c.args.self.now c.take_kept.new.self _ c.behind-arrivals.result.items c.args.arrival c.in-Ok-Some.code c.requires c.in-Ok.ensures.none
    (c.behind-arrivals.ensures.items ∙ ap (λ l. l ++ c.args.arrival ∷ []) c.in-Ok.ensures.ok.0)
    (subst (ReadsFrom c.take_kept.new.self c.behind-arrivals.result.items (Some c.in-Ok-Some.code)) (sym c.self.view_is) (rw c.in-Ok-Some.field-0-is at c.in-Ok-Some.ensures.reads))

pub returns-in-Err : goal.returns-in-Err
returns-in-Err c =
    took_part c.args.self.now c.take_kept.new.self c.read_all.new.self c.behind-arrivals.result.items c.args.arrival c.requires c.in-Ok.ensures.none
    (c.behind-arrivals.ensures.items ∙ ap (λ l. l ++ c.args.arrival ∷ []) c.in-Ok.ensures.ok.0)
    c.in-Err.ensures.reads c.in-Err.ensures.some_kept
