use Rattle.std.proofs.Common.{refl, sym}
use Rattle.h3_unidirectional.proofs.UpdateTexts.{behind_any}
use Rattle.h3_unidirectional.proofs.own.OwnStreams.update.Goals as goal

pub returns-clause-ok : goal.returns-clause-ok
returns-clause-ok c =
    behind_any c.append.result _ _ c.append.ensures.ok
    (λ is behind. rw (sym c.self.view_is, is, c.as_slice.ensures.value, c.in_ok-frame.ensures behind) refl)
