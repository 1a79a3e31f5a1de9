use Rattle.std.proofs.Common.{◌≡◌, ◌<◌, ℕ, true, arith, sym, ◌∙◌, ap, List, [], ◌∷◌, length, Some}
use Rattle.std.specs.List.{list_any}
use Rattle.std.specs.List.Sorted.{IsStrictlySortedBy}
use Rattle.std.specs.Ordering.{nat_cmp}
use Rattle.std.specs.Option.{unwrap_or}
use Rattle.std.specs.BTreeMap.{is_at}
use Rattle.std.specs.Map.{keys_of, lookup}
use Rattle.h3_table.specs.declared.tracking.NamedEntries.{NamedEntries}
use Rattle.h3_table.specs.Sections.{sections_on, sections_of}
use Rattle.h3_table.specs.Tracking.{is_of}
use Rattle.h3_table.proofs.ByStream.{none_there, some_there}
use Rattle.h3_table.proofs.Streams.{none_of_map, of_map, climbs}
use Rattle.h3_table.proofs.further.FurtherSections.has.Goals as goal

found : (stream : ℕ) (es : List (ℕ × List NamedEntries)) (ns : List NamedEntries) → IsStrictlySortedBy nat_cmp (keys_of es) → lookup (is_at (nat_cmp stream)) es ≡ Some ns → 0 < length ns
    → list_any (is_of stream) (sections_of es) ≡ true
found stream es [] up is some = absurd (omega (arith, some))
found stream es (n ∷ ns) up is some =
    some_there stream (sections_of es) (sections_on stream ns) (record { stream = stream; oldest = n.oldest; newest = n.newest })
    (of_map stream es (climbs es up) ∙ ap (λ o. sections_on stream (unwrap_or o [])) is)

pub returns-in_default-clause-value : goal.returns-in_default-clause-value
returns-in_default-clause-value c =
    let es = c.self.inside.streams.entries in
    rw (← c.self.view_is) (sym (none_there c.args.stream (sections_of es) (none_of_map c.args.stream es (sym c.in_default.ensures.value))))

pub returns-in_default-clause-absent : goal.returns-in_default-clause-absent
returns-in_default-clause-absent c = λ none. rw (← c.self.view_is) (none_of_map c.args.stream c.self.inside.streams.entries (sym c.in_default.ensures.value))

pub returns-clause-value : goal.returns-clause-value
returns-clause-value c =
    rw (← c.self.view_is) (sym (found c.args.stream c.self.inside.streams.entries c.in-Some.entries.now c.len.ensures.ordered (sym c.in-Some.ensures.value) c.has_some.ensures))
