use Rattle.std.proofs.Common.{◌≡◌, true, false, inl, inr, refl, ◌∙◌, rules}
use Rattle.std.specs.List.{list_any}
use Rattle.h3_field.specs.InstructionReading.{acknowledgment}
use Rattle.h3_field.specs.InstructionAnswer.{section_acknowledgment}
use Rattle.h3_table.specs.Tracking.{is_of}
use Rattle.h3_field.specs.ReadBackLaws.{reply_acknowledgment}
use Rattle.h3_field.specs.ShorterLaws.{acknowledgment_less}
use Rattle.h3_qpack.proofs.DecoderInstructionsRead.{reply_here, heard_one, acknowledged}
use Rattle.h3_qpack.proofs.encoder.Encoder.take_acknowledgment.Goals as goal

pub returns-then-not-acknowledge : goal.returns-then-not-acknowledge
returns-then-not-acknowledge c =
    let own = rw (c.new-ahead.ensures, c.chunk.ensures) at c.in-Ok-Some.ensures.own in
    let whole = reply_acknowledgment _ c.requires.some c.requires.own
    ∙ reply_here section_acknowledgment (acknowledgment c.args.buf.now) c.args.buf.now c.decode.new.buf c.in-Ok-Some.field-0 c.in-Ok-Some.field-0-0 c.in-Ok-Some.field-0-is (own c.requires.own) in
    let missing : false ≡ list_any (is_of c.in-Ok-Some.field-0-0.0) c.args.self.now.tracked = search rules in (
      λ s e. inl (inr (section_acknowledgment c.in-Ok-Some.field-0-0, c.decode.new.buf, whole, acknowledged c.args.self.now c.in-Ok-Some.field-0-0.0 false missing s e)),
      rw whole refl,
      rw (← c.self.view_is) (c.acknowledge.ensures.none (search rules)),
      refl,
    )

pub returns-else-not-acknowledge : goal.returns-else-not-acknowledge
returns-else-not-acknowledge c =
    let own = rw (c.new-ahead.ensures, c.chunk.ensures) at c.in-Ok-Some.ensures.own in
    let whole = reply_here section_acknowledgment (acknowledgment c.args.buf.now) c.args.buf.now c.decode.new.buf c.in-Ok-Some.field-0 c.in-Ok-Some.field-0-0 c.in-Ok-Some.field-0-is (own c.requires.own) in
    let there : true ≡ list_any (is_of c.in-Ok-Some.field-0-0.0) c.args.self.now.tracked = search rules in
    heard_one c.args.self.now c.acknowledge.new.self c.args.buf.now c.decode.new.buf (section_acknowledgment c.in-Ok-Some.field-0-0)
    (reply_acknowledgment _ c.requires.some c.requires.own ∙ whole) (acknowledgment_less _ _ _ whole)
    (rw (← c.self.view_is) (c.acknowledge.ensures.after (search rules)))
    (λ count e. absurd (cc))
    (λ s e. acknowledged c.args.self.now c.in-Ok-Some.field-0-0.0 true there s e)
