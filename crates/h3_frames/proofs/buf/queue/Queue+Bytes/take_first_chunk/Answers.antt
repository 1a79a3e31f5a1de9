use Rattle.std.proofs.Common.{◌≡◌, ◌<◌, ◌∷◌, length, length-append, arith, refl, ap, sym, ◌∙◌}
use Rattle.std.specs.Option.{is_some}
use Rattle.std.proofs.lemmas.List.Elements.{All-rest}
use Rattle.h3_frames.specs.Elements.{all_of}
use Rattle.h3_frames.specs.Pieces.{joined}
use Rattle.h3_frames.proofs.ElementLemmas.{set_same}
use Rattle.h3_frames.proofs.buf.queue.Queue+Bytes.take_first_chunk.Goals as goal

pub invariant_of-self-2 : goal.invariant_of-self-2
invariant_of-self-2 c =
    let items = c.self.inside.bufs.items in
    let some : 0 < length items = omega (arith, c.in_ok-front_mut.ensures.variant.0 refl) in
    let same = set_same items c.in_ok-front_mut.field-0.now c.take_one.new.self some c.in_ok-front_mut.ensures.value (c.take_one.ensures.same (ap is_some c.in_default.is)) in
    let rest = c.pop_front.new.self.items in
    let split : items ≡ c.in_ok-first.first ∷ rest = sym same ∙ c.in_ok-first.ensures.items in
    let sizes = ap (λ l. length (joined (all_of (λ b. b)) l)) split ∙ length-append (all_of (λ b. b) c.in_ok-first.first) (joined (all_of (λ b. b)) rest) in
    (omega (arith, sizes, c.self.invariant.0, c.remaining.ensures), All-rest (λ e. 0 < length (all_of (λ b. b) e)) c.in_ok-first.first rest items split c.self.invariant.1)
