use Rattle.std.proofs.Common.{arith}
use Rattle.std.proofs.lemmas.Result.{err_from_is_err_and}
use Rattle.h3_coding.specs.WritingLaws.{AppendsFront-item, room_at_item}
use Rattle.h3_proto.specs.Pairs.{pair_encoding}
use Rattle.h3_proto.proofs.frame.Settings.write_payload.Goals as goal

pub returns-in_err-put_pair-clause-err : goal.returns-in_err-put_pair-clause-err
returns-in_err-put_pair-clause-err g c =
    let q = err_from_is_err_and c.from_residual.result c.from_residual.ensures.1 in
    rw (q.1, ← c.self.view_is) (AppendsFront-item pair_encoding _ c.loop-pair.pair-index (0, 0) _ _ _ (omega arith) c.loop-pair.invariant.written c.in_err-put_pair.ensures.err)

pub returns-in_err-put_pair-clause-room : goal.returns-in_err-put_pair-clause-room
returns-in_err-put_pair-clause-room g c =
    let q = err_from_is_err_and c.from_residual.result c.from_residual.ensures.1 in
    rw (q.1, ← c.self.view_is) (room_at_item pair_encoding _ c.loop-pair.pair-index (0, 0) _ _ (omega arith) c.loop-pair.invariant.room c.in_err-put_pair.ensures.room)
