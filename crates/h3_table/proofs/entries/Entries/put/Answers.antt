use Rattle.std.proofs.Common.{◌≡◌, ◌≤◌, ◌+◌, ◌-◌, ◌*◌, ◌/◌, ℕ, List, [], ◌∷◌, ◌++◌, length, Option, Some, None, sym, ◌∙◌, ap, arith}
use Rattle.std.specs.Prelude.{IfSome}
use Rattle.std.specs.Vec.{vec_capacity}
use Rattle.h3_field.specs.Field.{Field, plain_field, field_size, section_size}
use Rattle.h3_table.specs.FieldRow.{FieldRow}
use Rattle.h3_table.specs.Table.{table}
use Rattle.h3_table.specs.TableState.{TableState, with_entry}
use Rattle.h3_table.specs.TableLaws.{table-one}
use Rattle.h3_table.proofs.entries.Entries.put.Goals as goal

-- the block has room for what is left and for the new entry
fits : {B : Type 0} (block : Option B) (capacity : B → ℕ) (kept count : ℕ) (left there : List Field) → there ≡ left → section_size left ≤ kept + 32 * length left → IfSome block (λ b. capacity b ≡ kept + kept / 4 + count + 512)
    → IfSome block (λ b. section_size there + count ≤ capacity b + 32 * length there)
fits None capacity kept count left there same most len = tt
fits (Some b) capacity kept count left there same most len = rw same (omega (arith, most, len))

-- what is left and the new entry are the table
inserted_is : (h : TableState) (capacity inserted : ℕ) (before left after : List Field) (f : Field) → record { capacity = capacity; entries = before; inserted = inserted } ≡ h → field_size f ≤ capacity
    → left ≡ table (capacity - field_size f) before → after ≡ left ++ f ∷ [] → record { capacity = capacity; entries = after; inserted = inserted + 1 } ≡ with_entry h f
inserted_is h capacity inserted before left after f view fits left_is after_is =
    let e = after_is ∙ ap (λ (l : List Field). l ++ f ∷ []) left_is ∙ sym (table-one capacity before f fits) in
    ap (λ (l : List Field). record { capacity = capacity; entries = l; inserted = inserted + 1 }) e ∙ ap (λ (k : TableState). with_entry k f) view

pub push-requires-clause-fits : goal.push-requires-clause-fits
push-requires-clause-fits c =
    let left = ap (λ (k : FieldRow). k.fields) c.evict_oldest-size.ensures.fields ∙ ap (table _) c.in_ok-block.ensures.fields in
    fits c.in_ok-block.block vec_capacity _ _ _ _ left (rw (← c.self.view_is) at c.kept_within-kept.ensures.most) c.in_ok-block.ensures.len

pub returns-clause-ok : goal.returns-clause-ok
returns-clause-ok c =
    let left = ap (λ (k : FieldRow). k.fields) c.evict_oldest-size.ensures.fields ∙ ap (table _) c.in_ok-block.ensures.fields in
    inserted_is c.args.self.now c.self.inside.capacity c.self.inside.inserted c.self.inside.fields.fields _ _ (plain_field c.args.name.now c.args.value.now) c.self.view_is (rw (← c.self.view_is) at c.requires.fits) left c.push.ensures.fields
