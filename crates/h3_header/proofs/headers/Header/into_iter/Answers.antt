use Rattle.std.proofs.Common.{None, ◌++◌, ap, ◌∙◌}
use Rattle.h3_header.specs.Head.{head_fields}
use Rattle.h3_header.specs.Left.{owned_fields}
use Rattle.h3_header.specs.Parts.{fields_of_pseudo}
use Rattle.h3_header.proofs.MapLemmas.{owned_fields-owned_pairs}
use Rattle.h3_header.proofs.headers.Header.into_iter.Goals as goal

pub returns : goal.returns
returns c =
    ap (λ q. fields_of_pseudo c.self.inside.pseudo ++ q)
    (ap (owned_fields None) c.into_iter.ensures.into_iter_gives.0 ∙ owned_fields-owned_pairs None c.self.inside.fields)
    ∙ ap head_fields c.self.view_is
