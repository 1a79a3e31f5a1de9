use Rattle.std.proofs.Common.{◌++◌, ap, sym, ◌∙◌, Some}
use Rattle.h3_frames.specs.Elements.{held}
use Rattle.h3_frames.specs.Pieces.{Listed, first_of}
use Rattle.h3_frames.proofs.FrontLemmas.{held_none, held_some}
use Rattle.h3_frames.proofs.buf.BufList+Bytes.take_first_chunk.Goals as goal

pub returns-in-Some-clause-pieces : goal.returns-in-Some-clause-pieces
returns-in-Some-clause-pieces c =
    let ps = c.self.inside.behind.pieces in
    let shown = held_some (λ b. b) c.self.inside.front _ ps (sym c.take.ensures.value ∙ c.in-Some.is) in
    ap (λ f. (Some c.in-Some.first, held (λ b. b) f ++ ps)) c.take.ensures.after ∙ ap first_of (sym shown) ∙ ap (λ (l : Listed). first_of l.pieces) c.self.view_is

pub returns-in-None-clause-pieces : goal.returns-in-None-clause-pieces
returns-in-None-clause-pieces c =
    let taken = c.take_first_chunk in
    let shown = held_none (λ b. b) c.self.inside.front c.self.inside.behind.pieces (sym c.take.ensures.value ∙ c.in-None.is) in
    ap (λ f. (taken.result, held (λ b. b) f ++ taken.new.self.pieces)) c.take.ensures.after ∙ taken.ensures.pieces ∙ ap first_of (sym shown) ∙ ap (λ (l : Listed). first_of l.pieces) c.self.view_is
