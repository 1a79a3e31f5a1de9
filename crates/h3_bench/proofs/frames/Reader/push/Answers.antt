use Rattle.std.proofs.Common.{rules, ◌≡◌, ◌++◌, subst, sym}
use Rattle.std.specs.List.{concat}
use Rattle.h3_frames.specs.Frames.{plain_frames}
use Rattle.h3_frames.specs.Tries.{Expects}
use Rattle.h3_frames.specs.TryLaws.{Awaits-more}
use Rattle.h3_bench.proofs.frames.Reader.push.Goals as goal

pub invariant_of-self-2 : goal.invariant_of-self-2
invariant_of-self-2 c =
    let more : concat c.push.new.self.pieces ≡ concat c.self.inside.unread.pieces ++ c.in_ok-piece.piece = (search rules) in
    (subst (λ bytes. Expects plain_frames c.self.inside.decoder bytes) (sym more) (Awaits-more _ _ _ _ _ c.self.invariant.0), c.self.invariant.1)
