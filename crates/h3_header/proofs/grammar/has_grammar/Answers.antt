use Rattle.std.proofs.Common.{sym, arith, below_more}
use Rattle.http_uri.proofs.AuthorityLemmas.{Step, step_percent, step_colon, step_opening, step_closing, step_at, step_other}
use Rattle.h3_header.proofs.grammar.has_grammar.Goals.{in-37, in-58+else-colons-ge-MOST_COLONS, in-91+else-percent+else-opened, in-93+else-not-opened+else-closed, in-64, in_default}
use Rattle.h3_header.proofs.grammar.has_grammar.Goals as goal

pub bytes-preserved : goal.bytes-preserved
bytes-preserved c =
    let s = c.args.text.now in
    let i = c.bytes.byte-index in
    let within = c.bytes-test.true in
    let t = c.bytes.invariant.1 in
    let byte = sym c.if-not-is_authority_byte.ensures in
    let step : Step s i within _ _ _ _ t byte c.match-byte.colons c.match-byte.opened c.match-byte.closed c.match-byte.percent =
    elim c.match-byte.branch [
      | in-37 w ↦
          rw (w.colons-is, w.opened-is, w.closed-is, w.percent-is)
          (step_percent s i within _ _ _ _ t byte (omega arith))
      | in-58+else-colons-ge-MOST_COLONS w ↦
          rw (w.colons-is, w.opened-is, w.closed-is, w.percent-is)
          (step_colon s i within _ _ _ _ t byte (omega arith) w.if-colons-ge-MOST_COLONS.false)
      | in-91+else-percent+else-opened w ↦
          rw (w.colons-is, w.opened-is, w.closed-is, w.percent-is)
          (step_opening s i within _ _ _ _ t byte (omega arith) w.if-percent.false w.if-opened.false)
      | in-93+else-not-opened+else-closed w ↦
          rw (w.colons-is, w.opened-is, w.closed-is, w.percent-is)
          (step_closing s i within _ _ _ _ t byte (omega arith) w.if-not-opened.false w.if-closed.false)
      | in-64 w ↦
          rw (w.colons-is, w.opened-is, w.closed-is, w.percent-is)
          (step_at s i within _ _ _ _ t byte (omega arith))
      | in_default w ↦
          rw (w.colons-is, w.opened-is, w.closed-is, w.percent-is)
          (step_other s i within _ _ _ _ t byte (omega arith) (omega arith) (omega arith) (omega arith) (omega arith))
    ] in
    (below_more _ _ c.bytes.invariant.0 step.0, step.1)
