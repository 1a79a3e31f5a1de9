use Rattle.std.proofs.Common.{◌<◌, ◌++◌, [], ◌∷◌, length, arith, refl, ap, ◌∙◌}
use Rattle.std.specs.List.{concat}
use Rattle.h3_frames.specs.Pieces.{Listed}
use Rattle.h3_frames.proofs.ElementLemmas.{byte_behind, byte_filled, byte_more, concat-all_cuts}
use Rattle.h3_frames.proofs.buf.queue.Queue+Bytes.push_behind.Goals as goal

pub overflow_add-self : goal.overflow_add-self
overflow_add-self c =
    let bytes = ap length (concat-all_cuts (λ b. b) c.self.inside.bufs.items) in
    let shown = ap (λ (l : Listed). length (concat l.pieces)) c.self.view_is in
    omega (arith, c.self.invariant.0, bytes, shown, c.requires.fits)

pub invariant_of-self-then-push_single : goal.invariant_of-self-then-push_single
invariant_of-self-then-push_single c =
    let items = c.self.inside.bufs.items in
    let some : 0 < length items = omega (arith, c.in-Some.ensures.variant.0 refl) in
    let more = c.if-push_single.ensures.bytes refl in
    let size = byte_more (λ b. b) items _ c.in-Some.last.now c.push_single.new.self c.args.byte some (omega (arith, some)) c.in-Some.ensures.value more in
    (omega (arith, size, c.self.invariant.0), byte_filled (λ b. b) items _ c.in-Some.last.now c.push_single.new.self c.args.byte more c.self.invariant.1)

pub returns-then-push_single-clause-taken : goal.returns-then-push_single-clause-taken
returns-then-push_single-clause-taken c _ =
    let items = c.self.inside.bufs.items in
    let some : 0 < length items = omega (arith, c.in-Some.ensures.variant.0 refl) in
    byte_behind (λ b. b) items _ c.in-Some.last.now c.push_single.new.self c.args.byte some (omega (arith, some)) c.in-Some.ensures.value (c.if-push_single.ensures.taken refl)
    ∙ ap (λ (l : Listed). l.pieces ++ (c.args.byte ∷ []) ∷ []) c.self.view_is
