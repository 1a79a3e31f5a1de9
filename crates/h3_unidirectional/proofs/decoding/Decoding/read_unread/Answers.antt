use Rattle.std.proofs.Common.{sym}
use Rattle.h3_unidirectional.proofs.Heard.{kept_front, kept_ends, kept_bad}
use Rattle.h3_unidirectional.proofs.decoding.Decoding.read_unread.Goals as goal

pub returns-clause-front : goal.returns-clause-front
returns-clause-front c =
    let front = rw (c.new-rest.ensures, c.as_slice-bytes.ensures.value) at c.read_windows-outcome.ensures.front in
    let kept = rw (c.saturating_sub-taken.ensures, c.as_slice-bytes.ensures.value, c.remaining.ensures) at c.drop_front.ensures in
    rw (sym c.self.view_is) (kept_front _ _ _ _ front kept)

pub returns-clause-ok : goal.returns-clause-ok
returns-clause-ok c =
    let front = rw (c.new-rest.ensures, c.as_slice-bytes.ensures.value) at c.read_windows-outcome.ensures.front in
    let kept = rw (c.saturating_sub-taken.ensures, c.as_slice-bytes.ensures.value, c.remaining.ensures) at c.drop_front.ensures in
    kept_ends _ _ _ _ _ front kept c.read_windows-outcome.ensures.ok

pub returns-clause-err : goal.returns-clause-err
returns-clause-err c =
    let front = rw (c.new-rest.ensures, c.as_slice-bytes.ensures.value) at c.read_windows-outcome.ensures.front in
    let kept = rw (c.saturating_sub-taken.ensures, c.as_slice-bytes.ensures.value, c.remaining.ensures) at c.drop_front.ensures in
    kept_bad _ _ _ _ _ front kept c.read_windows-outcome.ensures.err
