use Rattle.std.proofs.Common.{◌≡◌, ◌+◌, ◌≤◌, ◌++◌, length, take}
use Rattle.h3_proto.specs.Pairs.{payload_of}
use Rattle.h3_proto.proofs.frame.Settings.write_payload.Given as goal

abbrev pub invariant-loop-pair : goal.invariant-loop-pair
invariant-loop-pair g l =
    let so_far = payload_of (take l.pair-index l.pairs) in
    record {
      written : g.B.BufMut.written l.buf ≡ g.B.BufMut.written l.fn.buf ++ so_far;
      room : g.B.BufMut.spare l.fn.buf ≤ g.B.BufMut.spare l.buf + length so_far;
    }
