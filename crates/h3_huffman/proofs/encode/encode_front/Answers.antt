use Rattle.std.proofs.Common.{◌∙◌, arith}
use Rattle.h3_huffman.specs.PayloadLaws.{All_from}
use Rattle.h3_huffman.proofs.WritingFront.{huffman_most, front_length, room_behind}
use Rattle.h3_huffman.proofs.encode.encode_front.Goals as goal

pub put_fours-front-requires : goal.put_fours-front-requires
put_fours-front-requires c = omega (arith, huffman_most c.args.plain.now (All_from _ (λ k. omega (arith, c.type_inv.plain k))), c.requires)

pub returns-then-front-plain-clause-most : goal.returns-then-front-plain-clause-most
returns-then-front-plain-clause-most c =
    omega (arith, huffman_most c.args.plain.now (All_from _ (λ k. omega (arith, c.type_inv.plain k))), c.encode_long.ensures.value)

pub put_last-requires-clause-room : goal.put_last-requires-clause-room
put_last-requires-clause-room c =
    let sum = room_behind _ _ _ _ _ _ c.put_rest-whole.ensures.standing.standing (λ k. omega (arith, c.type_inv.plain k)) in
    omega (arith, sum, c.requires, c.put_fours-front.ensures.same, c.put_rest-whole.ensures.same)

pub returns-clause-value : goal.returns-clause-value
returns-clause-value c = c.put_last.ensures.value ∙ front_length _ _ _ _ _ c.put_rest-whole.ensures.standing.standing

pub returns-clause-most : goal.returns-clause-most
returns-clause-most c =
    let value = c.put_last.ensures.value ∙ front_length _ _ _ _ _ c.put_rest-whole.ensures.standing.standing in
    omega (arith, huffman_most c.args.plain.now (All_from _ (λ k. omega (arith, c.type_inv.plain k))), value)
