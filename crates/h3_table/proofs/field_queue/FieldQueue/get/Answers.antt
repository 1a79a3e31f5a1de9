use Rattle.std.proofs.Common.{◌-◌, drop, slice_get, refl, sym, ◌∙◌, ap, arith, Some}
use Rattle.std.proofs.lemmas.Option.{slice_get_read, slice_get_past, get_or_from_slice_get}
use Rattle.h3_table.specs.FieldRow.{FieldRow}
use Rattle.h3_table.specs.Records.{first_field, fields_of}
use Rattle.h3_table.proofs.Laid.{laid_at, length-fields_of}
use Rattle.h3_table.proofs.field_queue.FieldQueue.get.Goals as goal

pub returns-in_default-clause-none : goal.returns-in_default-clause-none
returns-in_default-clause-none c =
    rw (← c.self.view_is) (omega (arith, length-fields_of c.self.inside.bytes.bytes c.self.inside.records.items, c.in_default.ensures.item.3))

pub returns-in_default-clause-value : goal.returns-in_default-clause-value
returns-in_default-clause-value c =
    let len = length-fields_of c.self.inside.bytes.bytes c.self.inside.records.items in
    sym (slice_get_past (fields_of c.self.inside.bytes.bytes c.self.inside.records.items) c.args.place (omega (arith, len, c.in_default.ensures.item.3))) ∙ ap (λ (k : FieldRow). slice_get k.fields c.args.place) c.self.view_is

pub overflow_sub-at : goal.overflow_sub-at
overflow_sub-at c =
    let item = c.in-Some.ensures.item in
    let there = laid_at _ _ _ c.args.place c.in-Some.record.now c.self.invariant.laid (slice_get_read c.self.inside.records.items _ c.args.place c.in-Some.record.now refl item.3.0 item.1) in
    there.low

pub overflow_cast-at : goal.overflow_cast-at
overflow_cast-at c =
    let item = c.in-Some.ensures.item in
    let there = laid_at _ _ _ c.args.place c.in-Some.record.now c.self.invariant.laid (slice_get_read c.self.inside.records.items _ c.args.place c.in-Some.record.now refl item.3.0 item.1) in
    omega (arith, there.within, c.self.invariant.few)

pub entry_at-requires-clause-within : goal.entry_at-requires-clause-within
entry_at-requires-clause-within c =
    let item = c.in-Some.ensures.item in
    let there = laid_at _ _ _ c.args.place c.in-Some.record.now c.self.invariant.laid (slice_get_read c.self.inside.records.items _ c.args.place c.in-Some.record.now refl item.3.0 item.1) in
    rw c.as_slice.ensures there.within

pub entry_at-requires-clause-few : goal.entry_at-requires-clause-few
entry_at-requires-clause-few c = rw c.as_slice.ensures c.self.invariant.few

pub entry_at-requires-clause-static_name : goal.entry_at-requires-clause-static_name
entry_at-requires-clause-static_name c =
    let item = c.in-Some.ensures.item in
    let there = laid_at _ _ _ c.args.place c.in-Some.record.now c.self.invariant.laid (slice_get_read c.self.inside.records.items _ c.args.place c.in-Some.record.now refl item.3.0 item.1) in
    rw c.as_slice.ensures there.static_name

pub returns-clause-value : goal.returns-clause-value
returns-clause-value c =
    let item = c.in-Some.ensures.item in
    let r = c.in-Some.record.now in
    let there = laid_at _ _ _ c.args.place r c.self.invariant.laid (slice_get_read c.self.inside.records.items _ c.args.place r refl item.3.0 item.1) in
    let entry_is = c.entry_at.ensures ∙ ap (λ bytes. first_field (drop (r.place - c.self.inside.first) bytes) r) c.as_slice.ensures in
    ap Some entry_is ∙ sym there.found_is ∙ ap (λ (k : FieldRow). slice_get k.fields c.args.place) c.self.view_is

pub returns-clause-lookup : goal.returns-clause-lookup
returns-clause-lookup c = sym (get_or_from_slice_get c.args.self.now.fields c.args.place _ _ (sym (returns-clause-value c)))

pub returns-clause-inside : goal.returns-clause-inside
returns-clause-inside c =
    rw (← c.self.view_is) (omega (arith, length-fields_of c.self.inside.bytes.bytes c.self.inside.records.items, c.in-Some.ensures.item.3.0))
