use Rattle.std.proofs.Common.{◌≡◌, ◌≤◌, ◌+◌, ◌++◌, take, length, ap, ◌∙◌, arith, length-drop}
use Rattle.std.proofs.lemmas.List.{length-take}
use Rattle.std.proofs.lemmas.Grind.{common_steps}
use Rattle.h3_field.proofs.Behind.{written_behind}
use Rattle.h3_field.proofs.shapes.put_index_and_short.Goals as goal

pub returns-clause-ok : goal.returns-clause-ok
returns-clause-ok c = λ both.
    let old : take c.len-start.result c.deref_mut.result.now ≡ c.args.buf.now.items = grind (arith, common_steps) in
    let start : c.len-start.result ≡ length (take c.len-start.result c.deref_mut.result.now) = grind (arith, common_steps) in
    let within : c.in-Some.count ≤ length c.write_index_and_short.new.out = c.in-Some.ensures.within in
    let room = simp (length-take, length-drop) at c.write_index_and_short.auto.out in
    let front = simp length-take at start in
    let fits : c.len-start.result + c.in-Some.count ≤ c.resize.new.self.len = omega (arith, within, room, front, c.resize.new.self.ok.0, ap length c.deref_mut.ensures.value) in
    c.truncate-2.ensures.items ∙ written_behind _ _ _ _ _ _ _ start within fits ∙ (λ i. old i ++ c.in-Some.ensures.bytes i)
