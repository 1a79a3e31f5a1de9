use Rattle.std.proofs.Common.{◌≡◌, ◌≤◌, ◌+◌, ◌++◌, take, length, arith, length-drop, length-append}
use Rattle.std.proofs.lemmas.List.{length-take}
use Rattle.std.proofs.lemmas.Grind.{common_steps}
use Rattle.h3_field.proofs.Behind.{written_after}
use Rattle.h3_field.proofs.byte_buffer.put_decoded.Goals as goal

pub returns-clause-decodes : goal.returns-clause-decodes
returns-clause-decodes c =
    let start : c.args.place ≡ length (take c.args.place c.args.block.now) = grind (arith, common_steps, c.requires.within) in
    let within : c.in_ok-len.len ≤ length c.decode_into.new.out = c.in_ok-len.ensures.whole.0 in
    let room = simp (length-take, length-drop) at c.decode_into.auto.out in (
      take c.in_ok-len.len c.decode_into.new.out,
      record { each = c.in_ok-len.ensures.whole.1; form = c.in_ok-len.ensures.whole.2 },
      written_after _ _ _ _ _ start within,
      simp (length-append, length-take, length-drop) (omega (arith, within, room, start, c.requires.within)),
    )
