use Rattle.std.proofs.Common.{◌≡◌, ◌≤◌, length, take}
use Rattle.h3_proto.specs.OtherSettings.{others_of}
use Rattle.h3_proto.proofs.OthersRead.{kept_with}
use Rattle.h3_proto.proofs.other_settings.read_others.Given as goal

-- those that were kept, and those of the rest, are those of the whole
abbrev pub invariant-loop-left : goal.invariant-loop-left
invariant-loop-left g l = record {
  same : kept_with l.most l.kept.items (take l.left (g.B.Buf.unread l.buf)) ≡ others_of l.fn.most (take l.fn.len (g.B.Buf.unread l.fn.buf));
  inside : l.left ≤ length (g.B.Buf.unread l.buf);
}

abbrev pub decreases-loop-left : goal.decreases-loop-left
decreases-loop-left g l = l.left
