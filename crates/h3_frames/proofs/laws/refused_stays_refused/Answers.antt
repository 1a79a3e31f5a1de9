use Rattle.h3_frames.specs.GivesLaws.{refused_again}
use Rattle.h3_frames.proofs.laws.refused_stays_refused.Goals as goal

pub returns : goal.returns
returns c = refused_again
