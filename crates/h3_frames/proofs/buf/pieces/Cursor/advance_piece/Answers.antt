use Rattle.std.proofs.Common.{◌+◌, ◌<◌, length, arith, refl, ap, [], get_or}
use Rattle.std.proofs.lemmas.List.{length-drop, get_or_default}
use Rattle.h3_frames.specs.declared.buf.element.Element.TheVariants as element
use Rattle.h3_frames.specs.Elements.{all_elements, all_of}
use Rattle.h3_frames.specs.Pieces.{joined}
use Rattle.h3_frames.specs.Place.{Place, left_at}
use Rattle.h3_frames.proofs.PieceLemmas.{further, over, some_piece}
use Rattle.h3_frames.proofs.buf.pieces.Cursor.advance_piece.Goals as goal

pub invariant_of-self : goal.invariant_of-self
invariant_of-self g c =
    let i = c.self.invariant in
    let at = c.self.inside in
    let items = all_elements at.front.now at.behind.now.items in
    let all = joined (all_of g.T.Buf.unread) items in
    let shown = ap (λ (p : Place). length (left_at p)) c.self.view_is in
    let size = length-drop at.position all in
    let here : at.index < length items = some_piece (all_of g.T.Buf.unread) items at.index at.position at.passed i.rest (omega (arith, c.requires.0, c.requires.1)) in
    record {
      counted = i.counted;
      within = omega (arith, c.requires.1, i.counted, i.within);
      rest = further _ _ at.position at.passed c.args.cnt i.rest;
      inside = λ inside d.
          let bytes = ap length (c.piece_at.ensures.some here d) in
          omega (arith, bytes, c.if-cnt-left.true);
      ended = λ past. absurd (omega (arith, here, past));
      filled = i.filled;
    }

pub invariant_of-self-else-cnt-left : goal.invariant_of-self-else-cnt-left
invariant_of-self-else-cnt-left g c =
    let i = c.self.invariant in
    let at = c.self.inside in
    let items = all_elements at.front.now at.behind.now.items in
    let all = joined (all_of g.T.Buf.unread) items in
    let shown = ap (λ (p : Place). length (left_at p)) c.self.view_is in
    let size = length-drop at.position all in
    let here : at.index < length items = some_piece (all_of g.T.Buf.unread) items at.index at.position at.passed i.rest (omega (arith, c.requires.0, c.requires.1)) in
    let item = get_or items at.index (element.Singles []) in
    let bytes = ap length (c.piece_at.ensures.some here (element.Singles [])) in
    let inside = i.inside here (element.Singles []) in
    record {
      counted = i.counted;
      within = omega (arith, c.requires.1, i.counted, i.within, c.if-cnt-left.false);
      rest = over (all_of g.T.Buf.unread) items at.index at.position at.passed _ item here (get_or_default items at.index (element.Singles []) item here) (omega (arith, bytes, inside)) i.rest;
      inside = λ more d. i.filled (at.index + 1) d more;
      ended = λ _. refl;
      filled = i.filled;
    }

pub overflow_sub-left : goal.overflow_sub-left
overflow_sub-left g c =
    let i = c.self.invariant in
    let at = c.self.inside in
    let items = all_elements at.front.now at.behind.now.items in
    let all = joined (all_of g.T.Buf.unread) items in
    let shown = ap (λ (p : Place). length (left_at p)) c.self.view_is in
    let here : at.index < length items = some_piece (all_of g.T.Buf.unread) items at.index at.position at.passed i.rest (omega (arith, c.requires.0, c.requires.1, shown)) in
    let bytes = ap length (c.piece_at.ensures.some here (element.Singles [])) in
    omega (arith, bytes, i.inside here (element.Singles []))

pub returns-else-cnt-left-clause-count : goal.returns-else-cnt-left-clause-count
returns-else-cnt-left-clause-count g c =
    let i = c.self.invariant in
    let at = c.self.inside in
    let items = all_elements at.front.now at.behind.now.items in
    let all = joined (all_of g.T.Buf.unread) items in
    let shown = ap (λ (p : Place). length (left_at p)) c.self.view_is in
    let here : at.index < length items = some_piece (all_of g.T.Buf.unread) items at.index at.position at.passed i.rest (omega (arith, c.requires.0, c.requires.1, shown)) in
    let bytes = ap length (c.piece_at.ensures.some here (element.Singles [])) in
    (omega (arith, bytes, i.inside here (element.Singles [])), omega (arith, c.if-cnt-left.false))
