use Rattle.h3_field.proofs.Runs.{compared}
use Rattle.h3_field.proofs.same.have_same_ends.Goals as goal

pub returns : goal.returns
returns g c =
    compared _ _ _ _ _ _ _ _ _ c.requires.same c.requires.most c.in-Some.ensures.cases.same c.in-Some-first_chunk.ensures.cases.same c.in-Some-last_chunk.ensures.cases.1.same
    c.in-Some-last_chunk-2.ensures.cases.1.same c.eq.ensures c.eq-2.ensures
