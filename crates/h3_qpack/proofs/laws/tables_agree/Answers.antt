use Rattle.h3_qpack.proofs.Schedules.{every_run_is_sound}
use Rattle.h3_qpack.proofs.laws.tables_agree.Goals as goal

pub returns : goal.returns
returns c = λ counts most announced limit events s k r. (every_run_is_sound counts most announced limit events s r).read.tables k
