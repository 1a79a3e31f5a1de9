use Rattle.h3_headline.proofs.PulledAndSentLaws.{run_sound}
use Rattle.h3_headline.specs.TableReadingLaws.{table_read}
use Rattle.h3_headline.proofs.parts.tables_agree.Goals as goal

pub returns : goal.returns
returns c = λ setup events answers w side made sendable run.
    table_read c.what_is_cited_holds.ensures.streams setup w side made (run_sound c.what_is_cited_holds.ensures.worlds setup w events answers sendable run)
