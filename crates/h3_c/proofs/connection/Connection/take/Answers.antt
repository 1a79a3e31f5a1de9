-- Bytes that are read: their copy is delivered, or there is no memory for it.
use Rattle.std.proofs.Common.{false, refl, subst, sym, ◌∙◌}
use Rattle.h3_webtransport.specs.Receiving.{RefusesDeliveriesOn}
use Rattle.h3_c.specs.Seen.{Seen}
use Rattle.h3_c.proofs.Reading.{read_lacks, takes_copy}
use Rattle.h3_c.proofs.Uncut.{some_bytes}
use Rattle.h3_c.proofs.connection.Connection.take.Goals as goal
use Rattle.h3_c.proofs.connection.Connection.take.Goals.{in-Ok-deliver, in-Err}

pub returns-in_default-clause-stop : goal.returns-in_default-clause-stop
returns-in_default-clause-stop c =
    read_lacks c.args.self.now c.args.id c.args.bytes.now c.bytes_refusal.result (record { told = c.or_memory.result; is_taken = false })
    (subst (λ (v : Seen). RefusesDeliveriesOn v.endpoint v.sessions c.args.id c.bytes_refusal.result) c.self.view_is c.bytes_refusal.ensures) c.or_memory.ensures refl
    (some_bytes c.args.bytes.now (sym c.is_empty.ensures ∙ c.if-is_empty.false))

pub returns-clause-ok : goal.returns-clause-ok
returns-clause-ok c = elim c.match-deliver.branch [
  | in-Ok-deliver w ↦ rw w.result-is
      (takes_copy _ _ _ _ _ _ _ c.self.view_is c.in-Ok.ensures.copy w.in-Ok-deliver.is (some_bytes c.args.bytes.now (sym c.is_empty.ensures ∙ c.if-is_empty.false)) c.deliver.ensures refl refl)
  | in-Err w ↦ rw w.result-is tt
]
