use Rattle.std.proofs.Common.{◌≡◌, ◌++◌, rules}
use Rattle.h3_qpack.proofs.Sent.{named_fits, section_put}
use Rattle.h3_qpack.proofs.writing.put_section.Goals as goal

pub new-prefix-requires-clause-capacity : goal.new-prefix-requires-clause-capacity
new-prefix-requires-clause-capacity c = rw c.announced.ensures.value (named_fits _ _ c.requires c.is_small.ensures)

pub returns-clause-ok : goal.returns-clause-ok
returns-clause-ok c =
    let all : c.extend_from_slice.new.self.items ≡ c.encode.new.buf.items ++ c.args.lines.now = search rules in
    section_put _ _ _ _ _ _ _ _ _ c.announced.ensures.value c.new-prefix.ensures c.in_ok-encode.ensures.ok all
