use Rattle.std.proofs.Common.{◌≡◌, ◌∙◌, sym, ap, length, ◌<◌, arith}
use Rattle.std.proofs.lemmas.List.{get_or_read_under}
use Rattle.h3_table.specs.Places.{place_of, placed}
use Rattle.h3_table.proofs.ByStream.{none_there, some_there}
use Rattle.h3_table.proofs.Placed.{taken_there, not_there, nothing}
use Rattle.h3_table.proofs.places.Places.has.Goals as goal
use Rattle.h3_table.proofs.places.Places.has.Goals.{then-stream-via-then-stream, then-stream-via-else-stream+then-oldest-eq0}

pub returns-then-stream : goal.returns-then-stream
returns-then-stream c =
    let ts = c.self.inside.slots.items in
    let there = c.index-there.result.now in
    let len : c.len-len.result ≡ length ts = c.len-len.ensures ∙ c.self.inside.slots.ok.0 in
    let here = c.place_of-place.ensures.value ∙ ap (λ n. place_of n c.args.stream) len in
    let is = get_or_read_under ts c.place_of-place.result c.len-len.result there nothing c.index-there.ensures c.place_of-place.ensures.below len in
    let none = not_there ts c.args.stream c.place_of-place.result there here is (λ own.
    elim c.then-stream.branch [
      | then-stream-via-then-stream w ↦ absurd (w.if-stream.true (c.stream.ensures ∙ own))
      | then-stream-via-else-stream+then-oldest-eq0 w ↦ sym w.oldest.ensures ∙ w.if-oldest-eq0.true
    ]) in
    rw (← c.self.view_is) (sym (none_there c.args.stream (placed ts) none.none.0))

pub returns : goal.returns
returns c =
    let ts = c.self.inside.slots.items in
    let there = c.index-there.result.now in
    let len : c.len-len.result ≡ length ts = c.len-len.ensures ∙ c.self.inside.slots.ok.0 in
    let here = c.place_of-place.ensures.value ∙ ap (λ n. place_of n c.args.stream) len in
    let is = get_or_read_under ts c.place_of-place.result c.len-len.result there nothing c.index-there.ensures c.place_of-place.ensures.below len in
    let below : c.place_of-place.result < length ts = omega (arith, c.place_of-place.ensures.below, len) in
    let one = taken_there ts c.args.stream c.place_of-place.result there here below is (sym c.stream.ensures ∙ c.if-stream.false) (λ z. c.if-oldest-eq0.false (c.oldest.ensures ∙ z)) in
    rw (← c.self.view_is) (sym (some_there c.args.stream (placed ts) _ _ one.one))
