use Rattle.h3_headline.specs.SessionDecoderLaws.{endpoint_decodes_as, insertions_read}
use Rattle.h3_headline.proofs.laws.endpoints_decode_what_was_sent.Goals as goal

pub returns-clause-insertions : goal.returns-clause-insertions
returns-clause-insertions c = insertions_read

pub returns-clause-sections : goal.returns-clause-sections
returns-clause-sections c = endpoint_decodes_as c.what_is_cited_holds.ensures.streams
