use Rattle.std.proofs.Common.{sym, ◌∙◌}
use Rattle.h3_priority.proofs.Members.{IsMember, begun, more, no_member_read, no_comma_read, done, smaller}
use Rattle.h3_priority.proofs.priority.Priority.read.Goals as goal

pub members-init : goal.members-init
members-init c =
    let rest = rw c.new-cursor.ensures at c.take_all.ensures.rest in
    rw c.is_empty-is_another.ensures (begun c.args.value.now c.take_all.new.self c.default-priority.result rest c.default-priority.ensures)

pub returns-in_err-key : goal.returns-in_err-key
returns-in_err-key c =
    let standing = rw c.members-test.true at c.members.invariant in
    c.from_residual.ensures ∙ sym (no_member_read _ _ _ standing c.in_err-key.ensures)

pub returns-in_err-is_another : goal.returns-in_err-is_another
returns-in_err-is_another c =
    let standing = rw c.members-test.true at c.members.invariant in
    c.from_residual-in_err-is_another.ensures ∙ sym (no_comma_read _ _ _ _ _ standing c.in_ok-key.ensures c.in_err-is_another.ensures)

member_read : (c : goal.In_ok-is_another) → IsMember c.members.cursor c.member.new.self c.comma.new.self c.in_ok-key.key.now c.in_ok-key.item c.in_ok-is_another.is_another
member_read c = record { read = c.in_ok-key.ensures; comma = c.in_ok-is_another.ensures }

pub members-smaller : goal.members-smaller
members-smaller c = rw c.members-test.true (smaller _ _ _ _ _ _ (member_read c))

pub members-preserved : goal.members-preserved
members-preserved c =
    let standing = rw c.members-test.true at c.members.invariant in
    more _ _ _ _ _ _ _ _ _ standing (member_read c) c.with_member-priority.ensures

pub returns : goal.returns
returns c = let standing = rw c.members-test.false at c.members.invariant in done _ _ _ standing
