use Rattle.std.proofs.Common.{◌/◌, ◌≡◌, get_or, None, ap, refl, ◌∙◌}
use Rattle.std.specs.Prelude.{option_map}
use Rattle.std.proofs.lemmas.List.{get_or_default}
use Rattle.h3_streams.proofs.Rows.{changes}
use Rattle.h3_streams.specs.Placed.{closed_by}
use Rattle.h3_streams.specs.Plain.{code_at, stream_in}
use Rattle.h3_streams.specs.declared.plain.Place.TheVariants.{Free}
use Rattle.h3_streams.proofs.plain.PlainStreams.end.Goals as goal

pub returns : goal.returns
returns c =
    let codes = c.args.self.now.codes.items in
    let row = c.args.self.now.row.items in
    let has = c.in-Some.ensures.some in
    let place : c.index.result.now ≡ get_or row (c.args.id / 4) Free = rw has.0 at c.index.ensures ∙ get_or_default row (c.args.id / 4) c.index.result.now Free has.1.1 in
    let is : stream_in c.ended.result (code_at codes c.args.id) ≡ option_map (λ o. closed_by o None) (stream_in (get_or row (c.args.id / 4) Free) (code_at codes c.args.id)) =
    c.ended.ensures (code_at codes c.args.id) ∙ ap (λ p. option_map (λ o. closed_by o None) (stream_in p (code_at codes c.args.id))) place in
    rw has.0 (changes codes codes c.args.self.now.first c.args.id row c.ended.result (λ o. closed_by o None) has.1.0 has.1.1 c.requires (λ q ne. refl) is)
