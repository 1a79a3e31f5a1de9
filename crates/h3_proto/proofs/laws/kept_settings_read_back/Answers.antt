use Rattle.h3_proto.proofs.KeptSettings.{kept_settings_read_back}
use Rattle.h3_proto.proofs.laws.kept_settings_read_back.Goals as goal

pub returns : goal.returns
returns c = kept_settings_read_back
