-- The stream stands in its place.
use Rattle.std.proofs.Common.{refl, ◌∙◌}
use Rattle.h3_requests.proofs.Places.{read}
use Rattle.h3_requests.proofs.under_way.row.Row.get_mut.Goals as goal

pub returns : goal.returns
returns c =
    let found = read c.args.self.now.places.items c.args.id c.place_of.result c.index_mut.result.now c.place_of.ensures c.index_mut.ensures.value c.requires in (
      (refl, λ w. rw (c.place_of.ensures, found.0) refl),
      record { writes_back = tt; value = found.1 ∙ c.stream_mut.ensures.value },
    )
