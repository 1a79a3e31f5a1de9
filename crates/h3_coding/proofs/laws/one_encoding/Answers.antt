use Rattle.h3_coding.specs.EncodingLaws.{one_encoding as lemma}
use Rattle.h3_coding.proofs.laws.one_encoding.Goals as goal

pub returns : goal.returns
returns c = lemma
