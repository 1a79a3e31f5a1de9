use Rattle.std.proofs.Common.{sym, ◌<◌, length}
use Rattle.std.proofs.lemmas.Bool.{eqb-true}
use Rattle.std.proofs.lemmas.Result.{err_from_is_err_and}
use Rattle.h3_field.proofs.Strings.{plain_stands, plain_some, empty_stands, some_bytes}
use Rattle.h3_field.proofs.prefix_string.payload.Payload.to_bytes.Goals as goal

pub returns-then-is_empty-clause-answer : goal.returns-then-is_empty-clause-answer
returns-then-is_empty-clause-answer c = rw (← c.self.view_is) (empty_stands _ _ (eqb-true _ _ (sym c.if-is_empty.ensures)) c.new.ensures.items)

pub returns-then-not-self-clause-answer : goal.returns-then-not-self-clause-answer
returns-then-not-self-clause-answer c = rw (← c.self.view_is) (plain_stands _ _ c.if-not-self.true c.in_ok-copy_with_room.ensures.items (rw c.in_ok-copy_with_room.ensures.items c.are_bytes.ensures))

pub returns-in_err-copy_with_room-clause-answer : goal.returns-in_err-copy_with_room-clause-answer
returns-in_err-copy_with_room-clause-answer c =
    let some : 0 < length c.self.inside.bytes.now = some_bytes _ (sym c.if-is_empty.ensures) in
    let p = err_from_is_err_and c.from_residual.result c.from_residual.ensures.1 in
    rw (p.1, p.2, ← c.self.view_is) (plain_some _ c.if-not-self.true c.are_bytes.ensures, some)
