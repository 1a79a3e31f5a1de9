use Rattle.std.proofs.Common.{refl, subst}
use Rattle.h3_connection.specs.StrictConnection.{kinds_of}
use Rattle.std.specs.Prelude.{Err}
use Rattle.std.specs.List.{concat}
use Rattle.h3_frames.specs.Known.{Gives}
use Rattle.h3_frames.specs.PieceLaws.{rest_is, rest_same}
use Rattle.h3_incoming.proofs.FrontLaws.{error_gives}
use Rattle.h3_incoming.proofs.stream.front.begun_anywhere.Goals as goal

pub returns-in-Ok-Some-clause-gives : goal.returns-in-Ok-Some-clause-gives
returns-in-Ok-Some-clause-gives c =
    let b = c.begun_by.ensures in
    (c.in-Ok-Some.frame, record { is = b.is; begins = b.begins; section = b.section; empty = b.empty }, rw (c.in-Ok-Some.field-0-is, c.kinds-kinds.ensures) at c.in-Ok-Some.ensures.gives)

-- (not reached)
pub returns-then-not-suits-clause-gives : goal.returns-then-not-suits-clause-gives
returns-then-not-suits-clause-gives c = λ more. refl

pub returns-then-not-suits-clause-pieces : goal.returns-then-not-suits-clause-pieces
returns-then-not-suits-clause-pieces c = rest_is _ c.args.unread.now.pieces c.args.unread.now.pieces refl (rest_same _ _ refl)

pub returns-in-Err-clause-gives : goal.returns-in-Err-clause-gives
returns-in-Err-clause-gives c = error_gives (kinds_of c.args.announced.now) c.args.side c.args.place c.args.content _ _ _ (subst (λ k. Gives k (Err c.in-Err.e) (concat c.args.unread.now.pieces) (concat c.next_frame.new.self.pieces)) c.kinds-kinds.ensures c.in-Err.ensures.gives)
