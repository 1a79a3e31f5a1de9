use Rattle.std.proofs.Common.{◌≤◌, length, vec_capacity}
use Rattle.h3_field.proofs.Standing.{Standing}
use Rattle.h3_field.proofs.decoder.list_section.Given as goal

abbrev pub invariant-lines : goal.invariant-lines
invariant-lines l = Standing l.max_size l.buf l.mem_size l.fields.items l.ahead × (vec_capacity l.initial.fields ≤ vec_capacity l.fields)

abbrev pub decreases-lines : goal.decreases-lines
decreases-lines l = length l.ahead
