use Rattle.std.proofs.Common.{◌/◌, ◌≡◌, get_or, ap, sym, ◌∙◌}
use Rattle.std.proofs.lemmas.List.{get_or_default}
use Rattle.h3_streams.proofs.Rows.{of_row}
use Rattle.h3_streams.specs.Plain.{code_at, stream_in}
use Rattle.h3_streams.specs.declared.plain.Place.TheVariants.{Free}
use Rattle.h3_streams.proofs.plain.PlainStreams.get.Goals as goal

pub returns-in-Some : goal.returns-in-Some
returns-in-Some c =
    let code = code_at c.args.self.now.codes.items in
    let row = c.args.self.now.row.items in
    let has = c.in-Some.ensures.some in
    let place : c.index.result.now ≡ get_or row (c.args.id / 4) Free = rw has.0 at c.index.ensures ∙ get_or_default row (c.args.id / 4) c.index.result.now Free has.1.1 in
    of_row code c.args.self.now.first c.args.id row has.1.0 ∙ ap (λ p. stream_in p (code c.args.id)) (sym place)
