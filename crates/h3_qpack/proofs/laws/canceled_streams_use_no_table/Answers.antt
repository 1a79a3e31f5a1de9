use Rattle.std.proofs.Common.{sym, ap}
use Rattle.h3_qpack.specs.SectionEncoding.{Draft}
use Rattle.h3_qpack.proofs.Canceled.{on_bytes, on_static, canceled_kept}
use Rattle.h3_qpack.proofs.laws.canceled_streams_use_no_table.Goals as goal

pub returns-clause-bytes : goal.returns-clause-bytes
returns-clause-bytes c = λ s stream fields e. on_bytes s stream fields e

pub returns-clause-names : goal.returns-clause-names
returns-clause-names c = λ s stream fields e. ap (λ (d : Draft). d.references) (on_static s stream fields e)

pub returns-clause-inserts : goal.returns-clause-inserts
returns-clause-inserts c = λ s stream fields e. ap (λ (d : Draft). d.instructions) (on_static s stream fields e)

pub returns-clause-same : goal.returns-clause-same
returns-clause-same c = λ s stream fields e. sym (canceled_kept s stream fields e)
