use Rattle.std.proofs.Common.{◌≡◌, ◌++◌, ℕ, slice_get, sym, ◌∙◌, ap, arith, Some}
use Rattle.std.proofs.lemmas.Option.{slice_get_past, slice_get_within, get_or_from_slice_get}
use Rattle.h3_table.specs.declared.field_queue.FieldSlices.TheInside.{Inside}
use Rattle.h3_table.specs.declared.field_queue.Record.{Record}
use Rattle.h3_table.specs.FieldQueueInside.{fields_inside, AreFieldSlices}
use Rattle.h3_table.proofs.Laid.{IsThere, laid_at, length-fields_of}
use Rattle.h3_table.proofs.field_queue.FieldSlices.get.Goals as goal

-- the record that is read is of the field at its place
there : (f : Inside) (place : ℕ) (r : Record) → AreFieldSlices f → slice_get (f.records.first.now ++ f.records.further.now) place ≡ Some r → IsThere f.first f.bytes.now r (slice_get (fields_inside f) place)
there f place r laid at = laid_at _ _ _ place r laid.laid at

pub returns-in_default-clause-none : goal.returns-in_default-clause-none
returns-in_default-clause-none c =
    rw (← c.self.view_is) (omega (arith, length-fields_of c.self.inside.bytes.now (c.self.inside.records.first.now ++ c.self.inside.records.further.now), c.in_default.ensures.none))

pub returns-in_default-clause-value : goal.returns-in_default-clause-value
returns-in_default-clause-value c = sym (slice_get_past c.args.self.now c.args.place (returns-in_default-clause-none c))

pub overflow_sub-at : goal.overflow_sub-at
overflow_sub-at c = (there c.self.inside c.args.place c.in-Some.record.now c.self.invariant c.in-Some.ensures.some).low

pub overflow_cast-at : goal.overflow_cast-at
overflow_cast-at c = omega (arith, (there c.self.inside c.args.place c.in-Some.record.now c.self.invariant c.in-Some.ensures.some).within, c.self.invariant.few)

pub entry_at-requires-clause-within : goal.entry_at-requires-clause-within
entry_at-requires-clause-within c = (there c.self.inside c.args.place c.in-Some.record.now c.self.invariant c.in-Some.ensures.some).within

pub entry_at-requires-clause-static_name : goal.entry_at-requires-clause-static_name
entry_at-requires-clause-static_name c = (there c.self.inside c.args.place c.in-Some.record.now c.self.invariant c.in-Some.ensures.some).static_name

pub returns-clause-value : goal.returns-clause-value
returns-clause-value c =
    ap Some c.entry_at.ensures ∙ sym (there c.self.inside c.args.place c.in-Some.record.now c.self.invariant c.in-Some.ensures.some).found_is ∙ ap (λ fields. slice_get fields c.args.place) c.self.view_is

pub returns-clause-lookup : goal.returns-clause-lookup
returns-clause-lookup c = sym (get_or_from_slice_get c.args.self.now c.args.place _ _ (sym (returns-clause-value c)))

pub returns-clause-inside : goal.returns-clause-inside
returns-clause-inside c = slice_get_within c.args.self.now c.args.place _ (sym (returns-clause-value c))
