use Rattle.std.proofs.Common.{◌≡◌, ◌<◌, [], length, ap, sym, subst, ◌∙◌, Some}
use Rattle.h3_frames.specs.Elements.{cuts}
use Rattle.h3_frames.specs.Pieces.{chunk_of, first_size}
use Rattle.h3_frames.proofs.ElementLemmas.{no_bytes, none_cut}
use Rattle.h3_frames.proofs.buf.element.Element+Bytes.cut.Goals as goal

pub returns-in-Singles-clause-cut : goal.returns-in-Singles-clause-cut
returns-in-Singles-clause-cut c =
    let less = subst (λ e. c.args.max < first_size (cuts (λ b. b) e)) c.in-Singles.is c.requires in
    ap (λ b. (Some b, cuts (λ b. b) c.args.self.now)) c.new.ensures ∙ subst (λ e. (Some [], cuts (λ b. b) e) ≡ chunk_of c.args.max (cuts (λ b. b) e)) (sym c.in-Singles.is) (none_cut c.args.max c.in-Singles.field-0 less)

pub returns-in-Singles-clause-size : goal.returns-in-Singles-clause-size
returns-in-Singles-clause-size c =
    let less = subst (λ e. c.args.max < first_size (cuts (λ b. b) e)) c.in-Singles.is c.requires in
    ap length c.new.ensures ∙ sym (no_bytes c.args.max c.in-Singles.field-0 less)
