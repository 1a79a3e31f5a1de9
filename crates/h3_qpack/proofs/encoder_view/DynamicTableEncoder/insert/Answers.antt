use Rattle.h3_qpack.proofs.Viewed.{inserted_over}
use Rattle.h3_qpack.proofs.encoder_view.DynamicTableEncoder.insert.Goals as goal

pub invariant_of-self-2 : goal.invariant_of-self-2
invariant_of-self-2 c =
    record { over = inserted_over _ _ _ _ _ _ _ c.args.self.now.over c.in-Some.ensures.some c.in_ok-insert.ensures.ok c.inserted-number.ensures.value c.name-2.ensures }
