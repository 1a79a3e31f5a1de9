use Rattle.h3_headline.proofs.PulledAndSentLaws.{front_at, all_at}
use Rattle.h3_headline.proofs.parts.what_is_pulled_is_what_was_sent.Goals as goal

pub returns-clause-front : goal.returns-clause-front
returns-clause-front c = front_at c.what_is_cited_holds.ensures.worlds

pub returns-clause-end : goal.returns-clause-end
returns-clause-end c = λ setup events answers w side id sendable run ended.
    let r = all_at c.what_is_cited_holds.ensures.worlds setup events answers w side id sendable run ended in
    (r.all, r.has_finished)
