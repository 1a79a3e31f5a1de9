use Rattle.std.proofs.Common.{◌≡◌, arith, inl, inr, refl, subst, sym}
use Rattle.std.specs.List.{concat}
use Rattle.std.proofs.lemmas.Bool.{cases_lt}
use Rattle.h3_frames.specs.Tries.{Expects}
use Rattle.h3_frames.specs.UnknownSize.{Sparing, let_go_by, no_kinds}
use Rattle.h3_frames.specs.declared.frame.kinds.FrameKinds.{FrameKinds}
use Rattle.h3_frames.proofs.SuitingKinds.{expects_within}
use Rattle.h3_frames.proofs.frame.buffer.FrameBuffer.spare.Goals as goal

pub invariant_of-self : goal.invariant_of-self
invariant_of-self c =
    let i = c.self.inside in
    let new = c.spare.new.self in
    elim (cases_lt 0 i.unread.passing) [
      | inl some ↦ subst (λ (s : Sparing). Expects (let_go_by s.known_to) i.decoder (concat s.pieces)) (sym (c.spare.ensures.same some)) c.self.invariant
      | inr few ↦
          let zero : i.unread.passing ≡ 0 = omega (arith, few) in
          let plain = subst (λ (k : FrameKinds). Expects (let_go_by k) i.decoder (concat i.unread.pieces)) (c.spare.ensures.plain zero) c.self.invariant in
          subst (λ p. Expects (let_go_by new.known_to) i.decoder (concat p)) (sym c.spare.ensures.pieces) (expects_within (let_go_by no_kinds) (let_go_by new.known_to) i.decoder (concat i.unread.pieces) (λ e. refl) plain)
    ]
