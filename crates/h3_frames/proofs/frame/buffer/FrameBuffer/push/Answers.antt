use Rattle.std.proofs.Common.{◌≡◌, ◌++◌, OnOk, subst, sym}
use Rattle.std.specs.List.{concat}
use Rattle.h3_frames.specs.Tries.{Expects}
use Rattle.h3_frames.specs.UnknownSize.{let_go_by}
use Rattle.h3_frames.specs.declared.frame.kinds.FrameKinds.{FrameKinds}
use Rattle.h3_frames.specs.UnreadFrames.{UnreadFrames}
use Rattle.h3_frames.proofs.Pushing.{expects_pushed}
use Rattle.h3_frames.proofs.SparedPieces.{pushed_bytes, pushed_same, pushed_known}
use Rattle.h3_frames.proofs.frame.buffer.FrameBuffer.push.Goals as goal

pub invariant_of-self : goal.invariant_of-self
invariant_of-self c =
    let i = c.self.inside in
    let kept = expects_pushed (let_go_by i.unread.known_to) c.push.result i.decoder i.unread.pieces c.push.new.self.pieces c.args.bytes c.self.invariant
    (pushed_bytes c.push.result i.unread c.push.new.self c.args.bytes c.push.ensures.ok) (pushed_same c.push.result i.unread c.push.new.self c.push.ensures.same) in
    subst (λ (k : FrameKinds). Expects (let_go_by k) i.decoder (concat c.push.new.self.pieces)) (sym (pushed_known c.push.result i.unread c.push.new.self c.args.bytes c.push.ensures.ok c.push.ensures.same)) kept

pub returns-clause-bytes : goal.returns-clause-bytes
returns-clause-bytes c =
    subst (λ (u : UnreadFrames). OnOk c.push.result (concat c.push.new.self.pieces ≡ concat u.pieces ++ c.args.bytes)) c.self.view_is
    (pushed_bytes c.push.result c.self.inside.unread c.push.new.self c.args.bytes c.push.ensures.ok)
