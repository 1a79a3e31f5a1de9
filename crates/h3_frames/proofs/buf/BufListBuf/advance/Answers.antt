use Rattle.std.proofs.Common.{◌≡◌, ◌+◌, ◌-◌, arith, ap, sym, ◌∙◌, length, drop}
use Rattle.std.specs.List.{concat}
use Rattle.std.proofs.lemmas.List.{drop-drop, length-drop}
use Rattle.h3_frames.specs.Pieces.{without}
use Rattle.h3_frames.specs.PieceLaws.{without-none}
use Rattle.h3_frames.proofs.buf.BufListBuf.advance.Goals as goal

pub loop-left-preserved : goal.loop-left-preserved
loop-left-preserved g c =
    let left = c.loop-left.left in
    let passed = c.advance_first-left.result in
    let bytes = concat c.loop-left.self.pieces in
    let after = c.advance_first-left.ensures.rest in
    let sum : passed + (left - passed) ≡ left = omega (arith, c.advance_first-left.ensures.count.1) in
    record {
      inside = omega (arith, ap length after, length-drop passed bytes, c.loop-left.invariant.inside);
      rest = ap (drop (left - passed)) after ∙ drop-drop (left - passed) passed bytes ∙ ap (λ n. drop n bytes) sum ∙ c.loop-left.invariant.rest;
      pieces = c.advance_first-left.ensures.pieces ∙ c.loop-left.invariant.pieces;
    }

pub returns-clause-pieces : goal.returns-clause-pieces
returns-clause-pieces g c =
    let none : c.loop-left.left ≡ 0 = omega arith in
    sym (without-none c.loop-left.self.pieces) ∙ ap (λ n. without n c.loop-left.self.pieces) (sym none) ∙ c.loop-left.invariant.pieces
