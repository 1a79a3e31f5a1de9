use Rattle.std.proofs.Common.{◌-◌, length, drop, ap, sym, ◌∙◌}
use Rattle.h3_connection.specs.StrictConnection.{known_streams}
use Rattle.h3_unidirectional.proofs.Heads.{first_told, first_front}
use Rattle.h3_unidirectional.proofs.plain.first_role.Goals as goal

pub returns-in_err-role-clause-front : goal.returns-in_err-role-clause-front
returns-in_err-role-clause-front c = first_front (known_streams c.args.own.now) c.args.bytes.now

pub overflow_sub-result : goal.overflow_sub-result
overflow_sub-result c = (first_told _ c.args.bytes.now c.read_kind.new.buf.now c.in_ok-kind.kind c.in_ok-kind.ensures).0

pub returns-clause-told : goal.returns-clause-told
returns-clause-told c =
    let bytes = c.args.bytes.now in
    let left = c.read_kind.new.buf.now in
    (first_told _ bytes left c.in_ok-kind.kind c.in_ok-kind.ensures).1 ∙ ap (λ r. (r, drop (length bytes - length left) bytes)) (sym c.in_ok-role.ensures)

pub returns-clause-front : goal.returns-clause-front
returns-clause-front c = first_front (known_streams c.args.own.now) c.args.bytes.now
