use Rattle.std.proofs.Common.{arith}
use Rattle.h3_huffman.specs.PayloadLaws.{All_from}
use Rattle.h3_field.proofs.octets.are_bytes.Goals as goal

pub returns : goal.returns
returns c = All_from _ (λ k. omega (arith, c.type_inv.bytes k))
