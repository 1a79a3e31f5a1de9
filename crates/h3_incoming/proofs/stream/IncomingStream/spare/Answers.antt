use Rattle.std.proofs.Common.{◌≡◌, true, arith, ap, sym, subst, ◌∙◌}
use Rattle.h3_connection.specs.Incoming.{Incoming}
use Rattle.h3_connection.specs.Unread.{begins_frame}
use Rattle.h3_incoming.specs.SomePieces.{AreSome}
use Rattle.h3_incoming.specs.contracts.stream.IncomingStream.{the_view}
use Rattle.h3_incoming.proofs.NextFrame.{frame_next, not_both}
use Rattle.h3_incoming.proofs.stream.IncomingStream.spare.Goals as goal

pub invariant_of-self : goal.invariant_of-self
invariant_of-self c =
    let i = c.self.inside in
    let is_next : begins_frame (the_view i) ≡ true = ap {A = Incoming} begins_frame c.self.view_is ∙ sym c.begins_frame.ensures ∙ c.if-begins_frame.true in
    let next = frame_next (the_view i) is_next in (
      λ some. absurd (omega (arith, some, next.0)),
      λ some. not_both _ some next.1,
      λ some. not_both _ some next.2,
      λ some. c.spare.ensures.pieces ∙ c.self.invariant.3 some,
      c.self.invariant.4,
      c.self.invariant.5,
      c.self.invariant.6,
      λ over none. c.spare.ensures.pieces ∙ c.self.invariant.7 over none,
      subst AreSome (sym c.spare.ensures.pieces) c.self.invariant.8,
    )
