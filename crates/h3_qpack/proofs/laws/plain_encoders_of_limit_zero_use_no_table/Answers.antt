use Rattle.std.proofs.Common.{inl}
use Rattle.h3_qpack.proofs.Canceled.{early_bytes, early_inserts, early_still}
use Rattle.h3_qpack.proofs.laws.plain_encoders_of_limit_zero_use_no_table.Goals as goal

pub returns-clause-bytes : goal.returns-clause-bytes
returns-clause-bytes c = λ s stream fields none plain empty. early_bytes s stream fields (none, inl plain) empty

pub returns-clause-inserts : goal.returns-clause-inserts
returns-clause-inserts c = λ s stream fields none plain empty. early_inserts s stream fields (none, inl plain) empty

pub returns-clause-still : goal.returns-clause-still
returns-clause-still c = λ s stream fields none plain empty. early_still s stream fields (none, inl plain) empty
