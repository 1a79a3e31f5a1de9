use Rattle.h3_qpack.proofs.Schedules.{every_run_is_sound}
use Rattle.h3_qpack.proofs.laws.canceled_streams_are_not_tracked.Goals as goal

pub returns : goal.returns
returns c = λ counts most announced limit events s stream run canceled. (every_run_is_sound counts most announced limit events s run).untracked stream canceled
