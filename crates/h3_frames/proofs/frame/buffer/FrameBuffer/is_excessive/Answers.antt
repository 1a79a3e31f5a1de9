use Rattle.std.proofs.Common.{◌≡◌, false, nat_lt, sym, ap, ◌∙◌}
use Rattle.std.proofs.lemmas.Bool.{le-ltb}
use Rattle.h3_frames.specs.ExcessiveLaws.{none_excessive_by}
use Rattle.h3_frames.proofs.frame.buffer.FrameBuffer.is_excessive.Goals as goal

pub returns-else-most-into_inner : goal.returns-else-most-into_inner
returns-else-most-into_inner c =
    let above : nat_lt c.args.most c.into_inner.result ≡ false = le-ltb c.args.most c.into_inner.result c.if-most-into_inner.false in
    above ∙ sym (none_excessive_by c.args.kinds c.args.most _ (ap (nat_lt c.args.most) (sym c.into_inner.ensures.value) ∙ above))
