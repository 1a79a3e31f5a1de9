use Rattle.std.proofs.Common.{◌≡◌, ◌∙◌, sym, ap, length, ◌<◌, arith}
use Rattle.std.proofs.lemmas.List.{get_or_read_under}
use Rattle.h3_table.specs.Places.{place_of}
use Rattle.h3_table.proofs.Placed.{taken_there, not_there, nothing_left, nothing}
use Rattle.h3_table.proofs.places.Places.take.Goals as goal
use Rattle.h3_table.proofs.places.Places.take.Goals.{then-stream-via-then-stream, then-stream-via-else-stream+then-oldest-eq0}

pub returns-then-stream-clause-taken : goal.returns-then-stream-clause-taken
returns-then-stream-clause-taken c =
    let ts = c.self.inside.slots.items in
    let there = c.index-there.result.now in
    let len : c.len-len.result ≡ length ts = c.len-len.ensures ∙ c.self.inside.slots.ok.0 in
    let here = c.place_of-place.ensures.value ∙ ap (λ n. place_of n c.args.stream) len in
    let is = get_or_read_under ts c.place_of-place.result c.len-len.result there nothing c.index-there.ensures c.place_of-place.ensures.below len in
    rw (← c.self.view_is) (not_there ts c.args.stream c.place_of-place.result there here is (λ own.
    elim c.then-stream.branch [
      | then-stream-via-then-stream w ↦ absurd (w.if-stream.true (c.stream.ensures ∙ own))
      | then-stream-via-else-stream+then-oldest-eq0 w ↦ sym w.oldest.ensures ∙ w.if-oldest-eq0.true
    ]))

pub returns-clause-taken : goal.returns-clause-taken
returns-clause-taken c =
    let ts = c.self.inside.slots.items in
    let there = c.index-there.result.now in
    let len : c.len-len.result ≡ length ts = c.len-len.ensures ∙ c.self.inside.slots.ok.0 in
    let here = c.place_of-place.ensures.value ∙ ap (λ n. place_of n c.args.stream) len in
    let is = get_or_read_under ts c.place_of-place.result c.len-len.result there nothing c.index-there.ensures c.place_of-place.ensures.below len in
    let below : c.place_of-place.result < length ts = omega (arith, c.place_of-place.ensures.below, len) in
    rw (← c.self.view_is, c.named.ensures)
    (taken_there ts c.args.stream c.place_of-place.result there here below is (sym c.stream.ensures ∙ c.if-stream.false) (λ z. c.if-oldest-eq0.false (c.oldest.ensures ∙ z)))

pub returns-clause-alone : goal.returns-clause-alone
returns-clause-alone c =
    let ts = c.self.inside.slots.items in
    let len : c.len-len.result ≡ length ts = c.len-len.ensures ∙ c.self.inside.slots.ok.0 in
    let here = c.place_of-place.ensures.value ∙ ap (λ n. place_of n c.args.stream) len in
    nothing_left ts c.args.stream c.place_of-place.result here (omega (arith, c.place_of-place.ensures.below, len))
