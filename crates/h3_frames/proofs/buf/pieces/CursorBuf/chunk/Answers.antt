use Rattle.std.proofs.Common.{◌+◌, [], ◌++◌, length, drop, arith, ap, sym, subst, inl, inr, ◌∙◌}
use Rattle.std.proofs.lemmas.Bool.{cases_lt}
use Rattle.std.proofs.lemmas.List.{drop_all, drop_more}
use Rattle.bytes.specs.Unread.{IsChunkOf}
use Rattle.h3_frames.specs.declared.buf.element.Element.TheVariants as element
use Rattle.h3_frames.specs.Elements.{all_elements, all_of}
use Rattle.h3_frames.specs.Pieces.{joined}
use Rattle.h3_frames.specs.Place.{left_at}
use Rattle.h3_frames.proofs.PieceLemmas.{chunk_here, chunk_past}
use Rattle.h3_frames.proofs.buf.pieces.CursorBuf.chunk.Goals as goal

pub slice_bounds-result-count : goal.slice_bounds-result-count
slice_bounds-result-count g c =
    let at = c.self.inside in
    let items = all_elements at.front.now at.behind.now.items in
    elim (cases_lt at.index (length items)) [
      | inl here ↦
          let bytes = ap length (c.piece_at.ensures.some here (element.Singles [])) in
          omega (arith, bytes, c.self.invariant.inside here (element.Singles []))
      | inr past ↦ omega (arith, c.self.invariant.ended past)
    ]

pub slice_bounds-result-start : goal.slice_bounds-result-start
slice_bounds-result-start g c =
    let at = c.self.inside in
    let items = all_elements at.front.now at.behind.now.items in
    elim (cases_lt at.index (length items)) [
      | inl here ↦
          let bytes = ap length (c.piece_at.ensures.some here (element.Singles [])) in
          omega (arith, bytes, c.self.invariant.inside here (element.Singles []))
      | inr past ↦ omega (arith, c.self.invariant.ended past)
    ]

pub returns : goal.returns
returns g c =
    let i = c.self.invariant in
    let at = c.self.inside in
    let unread = all_of g.T.Buf.unread in
    let items = all_elements at.front.now at.behind.now.items in
    let piece = c.piece_at.result.now in
    let left = sym (ap left_at c.self.view_is) ∙ i.rest in
    elim (cases_lt at.index (length items)) [
      | inl here ↦
          let same = c.piece_at.ensures.some here (element.Singles []) in
          let more = joined unread (drop (at.index + 1) items) in
          let first = ap (λ l. drop at.passed (joined unread l)) (drop_more items at.index (element.Singles []) here) in
          let whole = left ∙ first ∙ ap (λ p. drop at.passed (p ++ more)) (sym same) in
          let bytes = ap length same in
          subst (IsChunkOf _) (sym whole) (chunk_here piece more at.passed (omega (arith, bytes, i.inside here (element.Singles []))))
      | inr past ↦
          let none = left ∙ ap (λ l. drop at.passed (joined unread l)) (drop_all at.index items past) ∙ drop_all at.passed [] (omega (arith, i.ended past)) in
          chunk_past piece (left_at c.args.self.now) at.passed (c.piece_at.ensures.none past) none
    ]
