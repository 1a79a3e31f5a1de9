use Rattle.h3_table.specs.Words.{word_at}
use Rattle.h3_table.proofs.StreamSets.{read}
use Rattle.h3_table.proofs.stream_set.StreamSet.contains.Goals as goal

pub returns : goal.returns
returns c =
    rw (← c.self.view_is)
    (read (word_at c.self.inside.words) c.args.stream c.word_of.result c.place_of.result c.get.result c.ranges.stream.fits c.word_of.ensures c.place_of.ensures.value c.get.ensures)
