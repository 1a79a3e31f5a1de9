use Rattle.std.proofs.Common.{◌≡◌, ◌∙◌, sym, ap, subst, refl, List, Some, None, Option, IsSome}
use Rattle.std.specs.Ordering.{nat_cmp}
use Rattle.std.specs.BTreeMap.{is_at}
use Rattle.std.specs.Map.{lookup, set_value}
use Rattle.std.proofs.lemmas.Map.Steps.{set_value_same}
use Rattle.h3_table.specs.declared.tracking.NamedEntries.{NamedEntries}
use Rattle.h3_table.specs.Sections.{sections_of, IsChanged}
use Rattle.h3_table.specs.ByStream.{IsFirstTaken}
use Rattle.h3_table.proofs.Streams.{first_taken, no_first, only_one}
use Rattle.h3_table.proofs.further.take_oldest.Goals as goal

pub returns-in_err-entries : goal.returns-in_err-entries
returns-in_err-entries c = rw (c.from_residual.ensures, c.get_mut.follows.holds-at-none) (no_first c.args.stream c.args.streams.now.entries (sym c.in_err-entries.ensures.value))

pub returns-in-Some : goal.returns-in-Some
returns-in-Some c =
    let written = c.get_mut.follows.holds c.take_first.new.self in
    let changed = written.3 (subst IsSome c.in_ok-entries.ensures.value refl) in
    let found = sym c.in_ok-entries.ensures.value ∙ ap {A = List NamedEntries} {B = Option (List NamedEntries)} Some c.in-Some.ensures.some in
    first_taken c.args.stream c.in-Some.named c.args.streams.now.entries (c.get_mut.follows.lender c.take_first.new.self).entries (Some c.take_first.new.self) found c.get_mut.ensures.ordered
    (record { ordered = written.4; own = changed.1; others = changed.2 })

pub returns : goal.returns
returns c =
    let es = c.args.streams.now.entries in
    let same : (c.get_mut.follows.lender c.take_first.new.self).entries ≡ es =
    (c.get_mut.follows.holds _).0 ∙ ap (λ (ns : List NamedEntries). set_value (is_at (nat_cmp c.args.stream)) es ns) c.in_default.ensures.none.1 ∙ set_value_same (is_at (nat_cmp c.args.stream)) es c.in_ok-entries.entries.now (sym c.in_ok-entries.ensures.value) in
    let one = only_one c.in_ok-entries.entries.now c.in_default.ensures.none.0 in
    let found = sym c.in_ok-entries.ensures.value ∙ ap {A = List NamedEntries} {B = Option (List NamedEntries)} Some one.1 in
    let changed : IsChanged c.args.stream es c.take_only.new.streams.entries None = subst (λ ms. IsChanged c.args.stream ms c.take_only.new.streams.entries None) same c.take_only.ensures.after in
    subst (IsFirstTaken c.args.stream (sections_of es) (sections_of c.take_only.new.streams.entries)) (sym (c.take_only.ensures.only one.0 (ap (lookup (is_at (nat_cmp c.args.stream))) same ∙ found)))
    (first_taken c.args.stream one.0 es c.take_only.new.streams.entries None found c.get_mut.ensures.ordered changed)
