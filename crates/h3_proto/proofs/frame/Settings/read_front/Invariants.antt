use Rattle.std.proofs.Common.{◌≡◌, ◌≤◌, length, take, drop}
use Rattle.h3_proto.specs.Pairs.{split_of}
use Rattle.h3_proto.specs.Settings.{settings_behind, settings_of, left_behind, left_of}
use Rattle.h3_proto.proofs.frame.Settings.read_front.Given as goal

-- what the rest of the payload stands for, behind the settings so far, the whole stands for; and what is left
-- of the rest is left of the whole
abbrev pub invariant-loop-left : goal.invariant-loop-left
invariant-loop-left g l = record {
  same : settings_behind l.settings (split_of (take l.left (g.B.Buf.unread l.buf))) ≡ settings_of (take l.fn.len (g.B.Buf.unread l.fn.buf));
  leaves : left_behind l.settings (split_of (take l.left (g.B.Buf.unread l.buf))) ≡ left_of (take l.fn.len (g.B.Buf.unread l.fn.buf));
  behind : drop l.left (g.B.Buf.unread l.buf) ≡ drop l.fn.len (g.B.Buf.unread l.fn.buf);
  kept : g.B.Buf.kept l.buf ≡ g.B.Buf.kept l.fn.buf;
  inside : l.left ≤ length (g.B.Buf.unread l.buf);
}

abbrev pub decreases-loop-left : goal.decreases-loop-left
decreases-loop-left g l = l.left
