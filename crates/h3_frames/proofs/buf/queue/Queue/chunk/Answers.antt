use Rattle.std.proofs.Common.{◌<◌, [], length, drop, arith, refl, ap, sym, subst, ◌∙◌}
use Rattle.std.specs.List.{concat}
use Rattle.bytes.specs.Unread.{IsChunkOf}
use Rattle.h3_frames.specs.Elements.{all_cuts, all_of}
use Rattle.h3_frames.specs.Pieces.{Listed}
use Rattle.h3_frames.proofs.ElementLemmas.{chunk_more, first_filled, none_chunk, split_bytes}
use Rattle.h3_frames.proofs.buf.queue.Queue.chunk.Goals as goal

pub returns-in-Some : goal.returns-in-Some
returns-in-Some g c =
    let items = c.self.inside.bufs.items in
    let first = c.in-Some.first.now in
    let some : 0 < length items = omega (arith, c.in-Some.ensures.variant.0 refl) in
    let all = sym (split_bytes g.T.Buf.unread items first some c.in-Some.ensures.lookup) ∙ ap (λ (l : Listed). concat l.pieces) c.self.view_is in
    subst (IsChunkOf c.chunk.result.now) all
    (chunk_more c.chunk.result.now (all_of g.T.Buf.unread first) (concat (all_cuts g.T.Buf.unread (drop 1 items))) (first_filled g.T.Buf.unread items first some c.in-Some.ensures.lookup c.self.invariant.1) c.chunk.ensures)

pub returns-in-None : goal.returns-in-None
returns-in-None g c =
    subst (λ (l : Listed). IsChunkOf [] (concat l.pieces)) c.self.view_is (none_chunk g.T.Buf.unread c.self.inside.bufs.items (λ some. c.in-None.ensures.variant.1 (omega (arith, some))))
