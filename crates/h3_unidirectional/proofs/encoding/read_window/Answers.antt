use Rattle.h3_unidirectional.proofs.Listened.{window_listened, window_goes_on, window_ends, window_refused}
use Rattle.h3_unidirectional.proofs.encoding.read_window.Goals as goal

pub returns-then-taken-gt0-clause-front : goal.returns-then-taken-gt0-clause-front
returns-then-taken-gt0-clause-front c =
    let read = rw (c.new-ahead.ensures, c.window-looked_at.ensures.value, c.chunk-bytes.ensures) at c.on_decoder_recv-outcome.ensures.read_before in
    let count = rw (c.window-looked_at.ensures.value, c.chunk-bytes.ensures, c.remaining.ensures) at c.saturating_sub-taken.ensures in
    let heard = window_listened _ _ _ _ _ _ _ read count c.advance.ensures in
    heard.listens

pub returns-then-taken-gt0-clause-ok : goal.returns-then-taken-gt0-clause-ok
returns-then-taken-gt0-clause-ok c =
    let read = rw (c.new-ahead.ensures, c.window-looked_at.ensures.value, c.chunk-bytes.ensures) at c.on_decoder_recv-outcome.ensures.read_before in
    let count = rw (c.window-looked_at.ensures.value, c.chunk-bytes.ensures, c.remaining.ensures) at c.saturating_sub-taken.ensures in
    let heard = window_listened _ _ _ _ _ _ _ read count c.advance.ensures in
    rw (c.window-looked_at.ensures.value, c.chunk-bytes.ensures) (window_goes_on _ _ _ _ _ _ _ heard c.in-Ok.ensures.ok c.if-taken-gt0.true)

pub returns-else-taken-gt0-clause-front : goal.returns-else-taken-gt0-clause-front
returns-else-taken-gt0-clause-front c =
    let read = rw (c.new-ahead.ensures, c.window-looked_at.ensures.value, c.chunk-bytes.ensures) at c.on_decoder_recv-outcome.ensures.read_before in
    let count = rw (c.window-looked_at.ensures.value, c.chunk-bytes.ensures, c.remaining.ensures) at c.saturating_sub-taken.ensures in
    let heard = window_listened _ _ _ _ _ _ _ read count c.advance.ensures in
    heard.listens

pub returns-else-taken-gt0-clause-ok : goal.returns-else-taken-gt0-clause-ok
returns-else-taken-gt0-clause-ok c =
    let read = rw (c.new-ahead.ensures, c.window-looked_at.ensures.value, c.chunk-bytes.ensures) at c.on_decoder_recv-outcome.ensures.read_before in
    let count = rw (c.window-looked_at.ensures.value, c.chunk-bytes.ensures, c.remaining.ensures) at c.saturating_sub-taken.ensures in
    let heard = window_listened _ _ _ _ _ _ _ read count c.advance.ensures in
    window_ends _ _ _ _ _ _ _ heard c.in-Ok.ensures.ok c.if-taken-gt0.false

pub returns-in-Err-clause-front : goal.returns-in-Err-clause-front
returns-in-Err-clause-front c =
    let read = rw (c.new-ahead.ensures, c.window-looked_at.ensures.value, c.chunk-bytes.ensures) at c.on_decoder_recv-outcome.ensures.read_before in
    let count = rw (c.window-looked_at.ensures.value, c.chunk-bytes.ensures, c.remaining.ensures) at c.saturating_sub-taken.ensures in
    let heard = window_listened _ _ _ _ _ _ _ read count c.advance.ensures in
    heard.listens

pub returns-in-Err-clause-err : goal.returns-in-Err-clause-err
returns-in-Err-clause-err c =
    let read = rw (c.new-ahead.ensures, c.window-looked_at.ensures.value, c.chunk-bytes.ensures) at c.on_decoder_recv-outcome.ensures.read_before in
    let count = rw (c.window-looked_at.ensures.value, c.chunk-bytes.ensures, c.remaining.ensures) at c.saturating_sub-taken.ensures in
    let heard = window_listened _ _ _ _ _ _ _ read count c.advance.ensures in
    window_refused _ _ _ _ _ _ _ c.in-Err.e heard c.in-Err.ensures.err.0
