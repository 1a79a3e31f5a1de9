use Rattle.std.proofs.Common.{ap, sym, ◌∙◌}
use Rattle.h3_frames.specs.Pieces.{Listed, first_bytes}
use Rattle.h3_frames.proofs.FrontLemmas.{held_none, held_some}
use Rattle.h3_frames.proofs.buf.BufList+Bytes.first_bytes.Goals as goal

pub returns-in-Some : goal.returns-in-Some
returns-in-Some c =
    let shown = held_some (λ b. b) c.self.inside.front _ c.self.inside.behind.pieces c.in-Some.is in
    c.as_slice.ensures ∙ ap first_bytes (sym shown) ∙ ap (λ (l : Listed). first_bytes l.pieces) c.self.view_is

pub returns-in-None : goal.returns-in-None
returns-in-None c =
    let shown = held_none (λ b. b) c.self.inside.front c.self.inside.behind.pieces c.in-None.is in
    c.first_bytes.ensures ∙ ap first_bytes (sym shown) ∙ ap (λ (l : Listed). first_bytes l.pieces) c.self.view_is
