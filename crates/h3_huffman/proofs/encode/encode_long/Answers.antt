use Rattle.std.proofs.Common.{◌∙◌, arith}
use Rattle.h3_huffman.proofs.WritingFront.{front_length, room_behind}
use Rattle.h3_huffman.proofs.encode.encode_long.Goals as goal

pub flush_bytes-pending-requires-clause-room : goal.flush_bytes-pending-requires-clause-room
flush_bytes-pending-requires-clause-room c =
    let sum = room_behind _ _ _ _ _ _ c.requires.standing.standing (λ k. omega (arith, c.type_inv.plain k)) in
    omega (arith, sum, c.requires.there, c.requires.room)

pub put_two-pending-requires-clause-room : goal.put_two-pending-requires-clause-room
put_two-pending-requires-clause-room c =
    let sum = room_behind _ _ _ _ _ _ c.pairs.invariant.standing.standing (λ k. omega (arith, c.type_inv.plain k)) in
    omega (arith, sum, c.pairs-test.true, c.requires.there, c.requires.room, c.pairs.invariant.same)

pub put_two-pending-requires-in-pairs-clause-room : goal.put_two-pending-requires-in-pairs-clause-room
put_two-pending-requires-in-pairs-clause-room c =
    let sum = room_behind _ _ _ _ _ _ c.put_two-pending.ensures.standing.standing (λ k. omega (arith, c.type_inv.plain k)) in
    omega (arith, sum, c.pairs-test.true, c.requires.there, c.requires.room, c.pairs.invariant.same, c.put_two-pending.ensures.same)

pub put_last-requires-clause-room : goal.put_last-requires-clause-room
put_last-requires-clause-room c =
    let sum = room_behind _ _ _ _ _ _ c.put_rest-whole.ensures.standing.standing (λ k. omega (arith, c.type_inv.plain k)) in
    omega (arith, sum, c.requires.room, c.pairs.invariant.same, c.put_rest-whole.ensures.same)

pub returns-clause-value : goal.returns-clause-value
returns-clause-value c = c.put_last.ensures.value ∙ front_length _ _ _ _ _ c.put_rest-whole.ensures.standing.standing
