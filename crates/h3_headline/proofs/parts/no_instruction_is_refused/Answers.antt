use Rattle.std.proofs.Common.{ap}
use Rattle.std.specs.Prelude.{is_some}
use Rattle.h3_headline.proofs.PulledAndSentLaws.{run_sound}
use Rattle.h3_headline.specs.TableReadingLaws.{replies_taken, table_read}
use Rattle.h3_headline.proofs.parts.no_instruction_is_refused.Goals as goal

pub returns-clause-encoder : goal.returns-clause-encoder
returns-clause-encoder c = λ setup events answers w side n sendable run.
    replies_taken c.what_is_cited_holds.ensures.streams setup w side n (run_sound c.what_is_cited_holds.ensures.worlds setup w events answers sendable run)

pub returns-clause-decoder : goal.returns-clause-decoder
returns-clause-decoder c = λ setup events answers w side made sendable run.
    ap is_some (table_read c.what_is_cited_holds.ensures.streams setup w side made (run_sound c.what_is_cited_holds.ensures.worlds setup w events answers sendable run)).reads
