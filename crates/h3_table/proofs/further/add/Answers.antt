use Rattle.std.proofs.Common.{◌∙◌, ◌∷◌, [], ◌++◌, sym, ap, subst, refl, List, Some, Option, IsSome}
use Rattle.std.specs.Ordering.{nat_cmp}
use Rattle.std.specs.BTreeMap.{is_at}
use Rattle.std.specs.Map.{set_value}
use Rattle.std.proofs.lemmas.Map.Steps.{set_value_same}
use Rattle.std.proofs.lemmas.Result.{err_from_is_err_and}
use Rattle.h3_table.specs.declared.tracking.NamedEntries.{NamedEntries}
use Rattle.h3_table.specs.Sections.{sections_of}
use Rattle.h3_table.proofs.Streams.{one_more}
use Rattle.h3_table.proofs.further.add.Goals as goal

pub returns-clause-ok : goal.returns-clause-ok
returns-clause-ok c =
    let written = c.get_mut.follows.holds c.add.new.self in
    let changed = written.3 (subst IsSome c.in-Some.ensures.value refl) in
    one_more c.args.section.stream (record { oldest = c.args.section.oldest; newest = c.args.section.newest }) c.args.streams.now.entries (c.get_mut.follows.lender c.add.new.self).entries (Some c.in-Some.entries.now) (sym c.in-Some.ensures.value) c.get_mut.ensures.ordered
    (record { ordered = written.4; own = changed.1 ∙ ap {A = List NamedEntries} {B = Option (List NamedEntries)} Some c.in_ok-add.ensures.ok ∙ ap (λ n. Some (c.in-Some.entries.now ++ n ∷ [])) c.named.ensures; others = changed.2 })

pub returns-in_err-add-clause-err : goal.returns-in_err-add-clause-err
returns-in_err-add-clause-err c =
    let p = err_from_is_err_and c.from_residual.result c.from_residual.ensures.1 in
    let es = c.args.streams.now.entries in
    rw p.1 (ap sections_of ((c.get_mut.follows.holds _).0 ∙ ap (λ (ns : List NamedEntries). set_value (is_at (nat_cmp c.args.section.stream)) es ns) c.in_err-add.ensures.err
    ∙ set_value_same (is_at (nat_cmp c.args.section.stream)) es c.in-Some.entries.now (sym c.in-Some.ensures.value)))
