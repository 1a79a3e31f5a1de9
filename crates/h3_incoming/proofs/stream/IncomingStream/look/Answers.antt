use Rattle.std.proofs.Common.{ap, subst, sym}
use Rattle.std.specs.Prelude.{codes, nat_lt}
use Rattle.h3_qpack.specs.Sizes.{IsBlockWithin}
use Rattle.h3_connection.specs.Announcing.{section_of}
use Rattle.h3_connection.specs.Incoming.{Incoming}
use Rattle.h3_connection.specs.Lists.{pull_of}
use Rattle.h3_connection.specs.Pulling.{acknowledgment, past_section}
use Rattle.h3_incoming.proofs.JudgeLaws.{judged_within}
use Rattle.h3_incoming.proofs.stream.IncomingStream.look.Goals as goal

pub returns-in-Ok-clause-looked : goal.returns-in-Ok-clause-looked
returns-in-Ok-clause-looked c =
    let i = c.args.self.now in
    let h = c.in-Decoded.ensures in
    let within = rw c.section.ensures.value at h.3 in
    let reads = judged_within c.in-Ok.judged c.args.side c.args.announced.now c.self.inside.place c.self.inside.content c.self.inside.response (pull_of c.judge_fields.new.out) _ _ c.in-Decoded.decoded c.in-Fields.is c.in-Ok.ensures.judged in
    record {
      fields = h.0;
      count = h.1;
      decodes = h.2;
      acknowledges_is = c.names_entries-acknowledges.ensures _ _ _ h.0 _ within;
      reads = λ id. reads id c.args.decoder.now (past_section i) (acknowledgment id h.1) _ h.0 within
          (ap {A = Incoming} (λ x. x.place) (sym c.self.view_is)) (ap {A = Incoming} (λ x. x.content) (sym c.self.view_is)) (ap {A = Incoming} (λ x. x.response) (sym c.self.view_is));
    }

pub returns-in-TooLarge-clause-looked : goal.returns-in-TooLarge-clause-looked
returns-in-TooLarge-clause-looked c =
    let i = c.args.self.now in
    let h = c.in-Decoded.ensures in
    let within = rw c.section.ensures.value at h.3 in
    let large = subst (λ d. IsBlockWithin (section_of c.args.announced.now) (codes ":status") (nat_lt 0 h.1) h.0 d c.try_section.new.block) c.in-TooLarge.is within in
    record {
      fields = h.0;
      count = h.1;
      decodes = h.2;
      acknowledges_is = c.names_entries-acknowledges.ensures _ _ _ h.0 _ within;
      reads = λ id. c.judge_large-judged.ensures.judged id c.args.decoder.now (past_section i) (acknowledgment id h.1) _ h.0 large.0 large.1
          (ap {A = Incoming} (λ x. x.place) (sym c.self.view_is)) (ap {A = Incoming} (λ x. x.content) (sym c.self.view_is)) (ap {A = Incoming} (λ x. x.response) (sym c.self.view_is));
    }
