use Rattle.h3_qpack.specs.ReasonLaws.{reason_map}
use Rattle.h3_unidirectional.proofs.Heard.{window_heard, window_goes_on, window_ends, window_bad}
use Rattle.h3_unidirectional.proofs.decoding.read_window.Goals as goal

pub returns-then-taken-gt0-clause-front : goal.returns-then-taken-gt0-clause-front
returns-then-taken-gt0-clause-front c =
    let read = rw (c.new-ahead.ensures, c.window-looked_at.ensures.value, c.chunk-bytes.ensures) at c.take_instructions-outcome.ensures.read in
    let count = rw (c.window-looked_at.ensures.value, c.chunk-bytes.ensures, c.remaining.ensures) at c.saturating_sub-taken.ensures in
    let heard = window_heard _ _ _ _ _ _ _ read count c.advance.ensures in
    heard.hears

pub returns-then-taken-gt0-clause-ok : goal.returns-then-taken-gt0-clause-ok
returns-then-taken-gt0-clause-ok c =
    let read = rw (c.new-ahead.ensures, c.window-looked_at.ensures.value, c.chunk-bytes.ensures) at c.take_instructions-outcome.ensures.read in
    let count = rw (c.window-looked_at.ensures.value, c.chunk-bytes.ensures, c.remaining.ensures) at c.saturating_sub-taken.ensures in
    let heard = window_heard _ _ _ _ _ _ _ read count c.advance.ensures in
    rw (c.window-looked_at.ensures.value, c.chunk-bytes.ensures) (window_goes_on _ _ _ _ _ _ _ heard c.in-Ok.ensures.ok c.if-taken-gt0.true)

pub returns-else-taken-gt0-clause-front : goal.returns-else-taken-gt0-clause-front
returns-else-taken-gt0-clause-front c =
    let read = rw (c.new-ahead.ensures, c.window-looked_at.ensures.value, c.chunk-bytes.ensures) at c.take_instructions-outcome.ensures.read in
    let count = rw (c.window-looked_at.ensures.value, c.chunk-bytes.ensures, c.remaining.ensures) at c.saturating_sub-taken.ensures in
    let heard = window_heard _ _ _ _ _ _ _ read count c.advance.ensures in
    heard.hears

pub returns-else-taken-gt0-clause-ok : goal.returns-else-taken-gt0-clause-ok
returns-else-taken-gt0-clause-ok c =
    let read = rw (c.new-ahead.ensures, c.window-looked_at.ensures.value, c.chunk-bytes.ensures) at c.take_instructions-outcome.ensures.read in
    let count = rw (c.window-looked_at.ensures.value, c.chunk-bytes.ensures, c.remaining.ensures) at c.saturating_sub-taken.ensures in
    let heard = window_heard _ _ _ _ _ _ _ read count c.advance.ensures in
    window_ends _ _ _ _ _ _ _ heard c.in-Ok.ensures.ok c.if-taken-gt0.false

pub returns-in-Err-clause-front : goal.returns-in-Err-clause-front
returns-in-Err-clause-front c =
    let read = rw (c.new-ahead.ensures, c.window-looked_at.ensures.value, c.chunk-bytes.ensures) at c.take_instructions-outcome.ensures.read in
    let count = rw (c.window-looked_at.ensures.value, c.chunk-bytes.ensures, c.remaining.ensures) at c.saturating_sub-taken.ensures in
    let heard = window_heard _ _ _ _ _ _ _ read count c.advance.ensures in
    heard.hears

pub returns-in-Err-clause-err : goal.returns-in-Err-clause-err
returns-in-Err-clause-err c =
    let read = rw (c.new-ahead.ensures, c.window-looked_at.ensures.value, c.chunk-bytes.ensures) at c.take_instructions-outcome.ensures.read in
    let count = rw (c.window-looked_at.ensures.value, c.chunk-bytes.ensures, c.remaining.ensures) at c.saturating_sub-taken.ensures in
    let heard = window_heard _ _ _ _ _ _ _ read count c.advance.ensures in
    reason_map _ _ c.in-Err.e (λ bad. window_bad _ _ _ _ _ _ _ heard bad) c.in-Err.ensures.err
