use Rattle.std.proofs.Common.{◌≡◌, ◌<◌, length, arith, ap, ◌∙◌, sym, subst, inl, inr}
use Rattle.std.proofs.lemmas.Bool.{cases_lt, eqb-true, eqb-false}
use Rattle.h3_frames.specs.Pieces.{Listed}
use Rattle.h3_frames.proofs.ElementLemmas.{none_left, some_left}
use Rattle.h3_frames.proofs.buf.queue.Queue.is_empty.Goals as goal

pub returns-clause-none : goal.returns-clause-none
returns-clause-none g c h =
    let zero : c.self.inside.len ≡ 0 = eqb-true c.self.inside.len 0 h in
    sym (ap (λ (l : Listed). l.pieces) c.self.view_is) ∙ none_left g.T.Buf.unread c.self.inside.bufs.items (omega (arith, zero, c.self.invariant.0)) c.self.invariant.1

pub returns-clause-some : goal.returns-clause-some
returns-clause-some g c h =
    let some : 0 < c.self.inside.len = elim (cases_lt 0 c.self.inside.len) [
      | inl more ↦ more
      | inr none ↦ absurd (eqb-false c.self.inside.len 0 h (omega (arith, none)))
    ] in
    subst (λ (l : Listed). 0 < length l.pieces) c.self.view_is (some_left g.T.Buf.unread c.self.inside.bufs.items (omega (arith, some, c.self.invariant.0)) c.self.invariant.1)
