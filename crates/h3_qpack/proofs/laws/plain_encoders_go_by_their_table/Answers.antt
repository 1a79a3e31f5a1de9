use Rattle.std.proofs.Common.{inl}
use Rattle.h3_qpack.proofs.Canceled.{not_ahead}
use Rattle.h3_qpack.proofs.Plain.{finds_all, inserts_all, marks_nothing}
use Rattle.h3_qpack.proofs.laws.plain_encoders_go_by_their_table.Goals as goal

pub returns-clause-names : goal.returns-clause-names
returns-clause-names c = λ s d f plain. finds_all s d f plain

pub returns-clause-inserts : goal.returns-clause-inserts
returns-clause-inserts c = λ s d f plain. inserts_all s d f plain

pub returns-clause-ahead : goal.returns-clause-ahead
returns-clause-ahead c = λ s marks d f plain. not_ahead s marks d f (inl plain)

pub returns-clause-marks : goal.returns-clause-marks
returns-clause-marks c = λ s lines plain. marks_nothing s lines plain
