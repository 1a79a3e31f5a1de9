use Rattle.std.proofs.Common.{◌≡◌, ◌≢◌, ◌∙◌, sym, ap, length, ◌<◌, arith}
use Rattle.std.proofs.lemmas.List.{get_or_read_under}
use Rattle.h3_table.specs.Places.{place_of}
use Rattle.h3_table.proofs.Placed.{put_there, nothing}
use Rattle.h3_table.proofs.places.Places.put_at_once.Goals as goal
use Rattle.h3_table.proofs.places.Places.put_at_once.Goals.{else-oldest-ne0-via-then-oldest-ne0+else-place_of-place, else-oldest-ne0-via-else-oldest-ne0}

pub returns-clause-put : goal.returns-clause-put
returns-clause-put c =
    let ts = c.self.inside.slots.items in
    let there = c.index-there.result.now in
    let len : c.len-len.result ≡ length ts = c.len-len.ensures ∙ c.self.inside.slots.ok.0 in
    let here = c.place_of-place.ensures.value ∙ ap (place_of c.len-len.result) c.stream.ensures ∙ ap (λ n. place_of n c.args.section.stream) len in
    let is = get_or_read_under ts c.place_of-place.result c.len-len.result there nothing c.index-there.ensures c.place_of-place.ensures.below len in
    let below : c.place_of-place.result < length ts = omega (arith, c.place_of-place.ensures.below, len) in
    let free : there.oldest ≢ 0 → place_of (length ts) there.stream ≢ c.place_of-place.result = λ some same.
    elim c.else-oldest-ne0.branch [
      | else-oldest-ne0-via-then-oldest-ne0+else-place_of-place w ↦
          w.if-place_of-place.false (w.place_of.ensures.value ∙ ap (place_of c.len-len.result) w.stream-then-oldest-ne0.ensures ∙ ap (λ n. place_of n there.stream) len ∙ same)
      | else-oldest-ne0-via-else-oldest-ne0 w ↦ some (sym c.oldest-2.ensures ∙ w.if-oldest-ne0.false)
    ] in
    λ it. rw (← c.self.view_is) (put_there ts c.place_of-place.result c.args.section there here below (λ z. c.if-oldest-eq0.false (c.oldest.ensures ∙ z)) is free)
