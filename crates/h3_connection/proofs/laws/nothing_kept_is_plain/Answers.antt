use Rattle.std.proofs.Common.{ap}
use Rattle.h3_connection.specs.Arrivals.{BytesCame, EndCame, ResetCame}
use Rattle.h3_connection.specs.Keeping.{arrives_behind, pulls_behind}
use Rattle.h3_connection.proofs.laws.nothing_kept_is_plain.Goals as goal

pub returns-clause-bytes : goal.returns-clause-bytes
returns-clause-bytes c = λ e id bytes none. ap (λ kept. arrives_behind kept e (BytesCame id bytes)) none

pub returns-clause-end : goal.returns-clause-end
returns-clause-end c = λ e id none. ap (λ kept. arrives_behind kept e (EndCame id)) none

pub returns-clause-reset : goal.returns-clause-reset
returns-clause-reset c = λ e id code none. ap (λ kept. arrives_behind kept e (ResetCame id code)) none

pub returns-clause-pulled : goal.returns-clause-pulled
returns-clause-pulled c = λ e id none. ap (λ kept. pulls_behind kept e id) none
