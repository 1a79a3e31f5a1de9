use Rattle.std.proofs.Common.{◌/◌, ◌≡◌, [], ◌∷◌, ◌++◌, get_or, Some, ap, sym, ◌∙◌}
use Rattle.std.specs.Prelude.{option_map, unwrap_or}
use Rattle.std.proofs.lemmas.List.{get_or_default}
use Rattle.h3_streams.proofs.Rows.{changes, code_here, same_codes}
use Rattle.h3_streams.specs.Placed.{closed_by}
use Rattle.h3_streams.specs.Plain.{code_at, stream_in}
use Rattle.h3_streams.specs.declared.plain.Place.TheVariants.{Free}
use Rattle.h3_streams.proofs.plain.PlainStreams.reset.Goals as goal

pub returns-clause-ok : goal.returns-clause-ok
returns-clause-ok c =
    let codes = c.args.self.now.codes.items in
    let id = c.args.id in
    let code = c.args.code in
    let later = codes ++ record { id = id; code = code } ∷ [] in
    let row = c.args.self.now.row.items in
    let has = c.in-Some.ensures.some in
    let place : c.index.result.now ≡ get_or row (id / 4) Free = rw has.0 at c.index.ensures ∙ get_or_default row (id / 4) c.index.result.now Free has.1.1 in
    let last : code ≡ code_at later id = sym (ap (λ o. unwrap_or o 0) (code_here codes id code)) in
    let is : stream_in c.reset.result (code_at later id) ≡ option_map (λ o. closed_by o (Some code)) (stream_in (get_or row (id / 4) Free) (code_at codes id)) =
    ap (λ k. stream_in c.reset.result k) (sym last) ∙ c.reset.ensures code (code_at codes id) ∙ ap (λ p. option_map (λ o. closed_by o (Some code)) (stream_in p (code_at codes id))) place in
    rw (has.0, c.in_ok-push.ensures.items) (changes codes later c.args.self.now.first id row c.reset.result (λ o. closed_by o (Some code)) has.1.0 has.1.1 c.requires (same_codes codes id code) is)
