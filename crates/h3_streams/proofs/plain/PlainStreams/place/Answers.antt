use Rattle.std.proofs.Common.{◌/◌, ◌≤◌, length, arith}
use Rattle.h3_streams.proofs.Rows.{not_of_row, behind_row}
use Rattle.h3_streams.specs.Plain.{code_at}
use Rattle.h3_streams.proofs.plain.PlainStreams.place.Goals.{then-id-self-via-then-id-self, then-id-self-via-else-id-self+then-place-len}
use Rattle.h3_streams.proofs.plain.PlainStreams.place.Goals as goal

pub returns-then-id-self-clause-none : goal.returns-then-id-self-clause-none
returns-then-id-self-clause-none c = elim c.then-id-self.branch [
  | then-id-self-via-then-id-self w ↦ not_of_row (code_at c.args.self.now.codes.items) c.args.self.now.first c.args.id c.args.self.now.row.items w.if-id-self.true
  | then-id-self-via-else-id-self+then-place-len w ↦
      let far : length c.args.self.now.row.items ≤ c.args.id / 4 = omega (arith, w.if-place-len.true, w.len.ensures) in
      behind_row (code_at c.args.self.now.codes.items) c.args.self.now.first c.args.id c.args.self.now.row.items w.if-id-self.false far
]
