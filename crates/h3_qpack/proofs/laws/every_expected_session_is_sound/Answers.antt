use Rattle.h3_qpack.proofs.Expectations.{expected_sound}
use Rattle.h3_qpack.proofs.laws.every_expected_session_is_sound.Goals as goal

pub returns : goal.returns
returns c = λ counts most announced limit events answers s run. expected_sound counts most announced limit events answers s run
