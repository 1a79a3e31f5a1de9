use Rattle.h3_coding.proofs.WholeEncodings.{reads_whole}
use Rattle.h3_coding.proofs.coding.BufExt.get.Goals as goal

pub returns-clause-whole : goal.returns-clause-whole
returns-clause-whole g c =
    reads_whole g.T.Decode.is_encoding g.T.Decode.is_unfinished g.met.T.Decode.one_encoding g.met.T.Decode.finished c.decode.result _ _ c.decode.ensures.ok c.decode.ensures.err
