use Rattle.std.proofs.Common.{sym, ap, ◌∙◌}
use Rattle.std.specs.Prelude.{map}
use Rattle.h3_headline.specs.Exactly.{header_of}
use Rattle.h3_headline.proofs.PulledAndSentLaws.{whole_at}
use Rattle.h3_headline.proofs.parts.what_comes_out_rests_on_what_was_sent.Goals as goal

pub returns-clause-all : goal.returns-clause-all
returns-clause-all c = whole_at c.what_is_cited_holds.ensures.worlds

pub returns-clause-same : goal.returns-clause-same
returns-clause-same c = λ setup others events more answers given w v side reader id i sendable may run ran ended over whole all same.
    whole_at c.what_is_cited_holds.ensures.worlds setup events answers w side id sendable run ended whole
    ∙ ap (map header_of) same ∙ sym (whole_at c.what_is_cited_holds.ensures.worlds others more given v reader i may ran over all)
