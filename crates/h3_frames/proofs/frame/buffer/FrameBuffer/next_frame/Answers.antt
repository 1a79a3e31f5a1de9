use Rattle.std.proofs.Common.{◌≡◌, length, arith, ap, subst, inl, inr, ◌∙◌}
use Rattle.std.specs.List.{concat}
use Rattle.std.proofs.lemmas.Bool.{cases_lt}
use Rattle.h3_frames.specs.Known.{Gives}
use Rattle.h3_frames.specs.Pieces.{ending}
use Rattle.h3_frames.specs.Tries.{Counts}
use Rattle.h3_frames.specs.UnreadFrames.{UnreadFrames}
use Rattle.h3_frames.proofs.SparedPieces.{gives_past, counts_past, pieces_past, pieces_stay}
use Rattle.h3_frames.proofs.frame.buffer.FrameBuffer.next_frame.Goals as goal

pub decode-requires : goal.decode-requires
decode-requires c =
    let none : c.is_at_frame.new.self.passing ≡ 0 = elim (cases_lt 0 c.args.self.now.passing) [
      | inl more ↦ (c.is_at_frame.ensures.passed c.args.kinds c.requires.suits more c.if-is_at_frame.true).none
      | inr few ↦
          let zero : c.args.self.now.passing ≡ 0 = omega (arith, few) in
          ap (λ (u : UnreadFrames). u.passing) (c.is_at_frame.ensures.same zero).1 ∙ zero
    ] in
    record { none = none }

pub returns-then-is_at_frame-clause-gives : goal.returns-then-is_at_frame-clause-gives
returns-then-is_at_frame-clause-gives c =
    let d = c.decode in
    elim (cases_lt 0 c.args.self.now.passing) [
      | inl more ↦ gives_past c.args.kinds d.result c.args.self.now c.is_at_frame.new.self (concat d.new.self.pieces) (c.is_at_frame.ensures.passed c.args.kinds c.requires.suits more c.if-is_at_frame.true) d.ensures.gives
      | inr none ↦ subst (λ (u : UnreadFrames). Gives c.args.kinds d.result (concat u.pieces) (concat d.new.self.pieces)) (c.is_at_frame.ensures.same (omega (arith, none))).1 d.ensures.gives
    ]

pub returns-then-is_at_frame-clause-counts : goal.returns-then-is_at_frame-clause-counts
returns-then-is_at_frame-clause-counts c =
    let d = c.decode in
    elim (cases_lt 0 c.args.self.now.passing) [
      | inl more ↦ counts_past c.args.kinds d.result c.args.self.now c.is_at_frame.new.self d.new.self.decoder (c.is_at_frame.ensures.passed c.args.kinds c.requires.suits more c.if-is_at_frame.true) d.ensures.counts
      | inr none ↦ subst (λ (u : UnreadFrames). Counts c.args.kinds u.decoder (concat u.pieces) d.result d.new.self.decoder) (c.is_at_frame.ensures.same (omega (arith, none))).1 d.ensures.counts
    ]

pub returns-then-is_at_frame-clause-pieces : goal.returns-then-is_at_frame-clause-pieces
returns-then-is_at_frame-clause-pieces c =
    let d = c.decode in
    elim (cases_lt 0 c.args.self.now.passing) [
      | inl more ↦ pieces_past c.args.kinds c.args.self.now c.is_at_frame.new.self d.new.self.pieces (c.is_at_frame.ensures.passed c.args.kinds c.requires.suits more c.if-is_at_frame.true) d.ensures.pieces
      | inr none ↦ subst (λ (u : UnreadFrames). d.new.self.pieces ≡ ending (length (concat d.new.self.pieces)) u.pieces) (c.is_at_frame.ensures.same (omega (arith, none))).1 d.ensures.pieces
    ]

pub returns-clause-pieces : goal.returns-clause-pieces
returns-clause-pieces c = pieces_stay c.args.self.now.pieces c.is_at_frame.new.self.pieces (c.is_at_frame.ensures.waits c.args.kinds c.requires.suits c.if-is_at_frame.false).pieces
