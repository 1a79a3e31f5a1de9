-- What an encoder's insertion names at the decoder: the field that was inserted.
use Rattle.std.proofs.lemmas.List.{take-append-le}
use Rattle.std.proofs.Math.Seq.{take-length}
use Rattle.h3_field.specs.FieldLaws.{same_bytes, same_field}
use Rattle.std.proofs.Common.{take, ◌≡◌, ℕ, ◌+◌, ◌-◌, ◌^◌, ◌<◌, ◌≤◌, Bool, true, false, ◌&&◌, List, [], ◌∷◌, ◌++◌, length, max, refl, sym, ◌∙◌, ap, subst, arith, length-append, Option, Some, None, nat_le, nat_lt, bytes_eq, fold, append-nil, append_assoc, slice_get}
use Rattle.std.proofs.lemmas.Grind.{common_steps}
use Rattle.std.proofs.lemmas.Bool.{and_parts}
use Rattle.h3_field.specs.Field.{Field, field_eq, field_size}
use Rattle.h3_field.specs.Section.{with_value}
use Rattle.h3_field.specs.StaticTable.{static_table, static_field, static_name}
use Rattle.h3_field.specs.Instruction.{EncoderInstruction}
use Rattle.h3_table.specs.Table.{evictions}
use Rattle.h3_qpack.specs.EncoderHistory.{EncoderHistory}
use Rattle.h3_qpack.specs.SectionEncoding.{Draft, found, marks_after, evictions_by, is_insertable, remaining, insertion, add_literal, write_field, add_field, first_draft, guarded_fields, draft_of, found_name, instructions_for}
use Rattle.h3_qpack.specs.TableHistory.{TableHistory, entry_still_at, field_inserted, table_after_insertion, table_after, table_after_all, table_of, IsReadAs}
use Rattle.h3_table.specs.TableLaws.{evictions-append}
use Rattle.h3_qpack.proofs.Newest.{chosen, newest_from-passes}
use Rattle.h3_qpack.proofs.Drafts.{MayInsert, may_insert, may_insert_ahead, either_way, with_field}
use Rattle.h3_qpack.proofs.NamedFieldsOf.{insertion_found, name_at}

-- an entry that remains after the insertion is there, and stands at its index
remains : (s : EncoderHistory) (d : Draft) (f : Field) (test : Field → Bool) (number : ℕ) → remaining s d f test ≡ Some number
    → (g : Field) × (test g ≡ true) × (entry_still_at (table_of s.capacity d.inserted) (length d.inserted - (length d.inserted - number)) ≡ Some g)
remains s d f test number h =
    let p = newest_from-passes _ 1 d.inserted number h in
    let b = and_parts (nat_lt (evictions_by s d f) number) (test p.entry) p.test_is in
    let back : length d.inserted - (length d.inserted - number) ≡ number = omega (arith, p.below) in
    let there : nat_lt (evictions s.capacity d.inserted) number ≡ true = still (evictions s.capacity d.inserted) (evictions_by s d f) number (evictions-append s.capacity d.inserted (f ∷ [])) b.0 in
    (p.entry, b.1, ap (entry_still_at (table_of s.capacity d.inserted)) back ∙ rw there (insertion_found _ d.inserted number h))
  where
    still : (a b n : ℕ) → a ≤ b → nat_lt b n ≡ true → nat_lt a n ≡ true
    still a b n le e = grind (arith, common_steps)

-- the insertion names the field
pub insertion_names : (s : EncoderHistory) (d : Draft) (f : Field) → f.never_indexed ≡ false → field_inserted (table_of s.capacity d.inserted) (insertion s d f) ≡ Some f
unfolding static_table static_name
insertion_names s d f plain =
    let P : EncoderInstruction → Type 0 = λ i. field_inserted (table_of s.capacity d.inserted) i ≡ Some f in
    chosen P (remaining s d f (λ entry. field_eq entry f)) _ _
    (λ number e. let r = remains s d f (λ entry. field_eq entry f) number e in r.2 ∙ ap Some (same_field r.0 f r.1)) (λ none.
    chosen P (static_name f.name) _ _ (λ index e. ap (λ n. with_value f.value n (slice_get static_table index)) (sym plain) ∙ name_at static_table f index e) (λ none.
    chosen P (remaining s d f (λ entry. bytes_eq entry.name f.name)) _ _
    (λ number e. let r = remains s d f (λ entry. bytes_eq entry.name f.name) number e in
    let n = same_bytes r.0.name f.name r.1 in
    let flag = sym plain in
    ap (with_value f.value false) r.2 ∙ ap Some (λ i. record { name = n i; value = f.value; never_indexed = flag i })) (λ none. ap (λ n. Some (record { name = f.name; value = f.value; never_indexed = n })) (sym plain))))

-- an insertion is no change of the capacity
inserts : (greatest : ℕ) (h : TableHistory) (s : EncoderHistory) (d : Draft) (f : Field) → table_after greatest h (insertion s d f) ≡ table_after_insertion h (field_inserted h (insertion s d f))
inserts greatest h s d f =
    let P : EncoderInstruction → Type 0 = λ i. table_after greatest h i ≡ table_after_insertion h (field_inserted h i) in
    chosen P (remaining s d f (λ entry. field_eq entry f)) _ _ (λ number e. refl) (λ none.
    chosen P (static_name f.name) _ _ (λ index e. refl) (λ none.
    chosen P (remaining s d f (λ entry. bytes_eq entry.name f.name)) _ _ (λ number e. refl) (λ none. refl)))

fits_longer : (capacity : ℕ) (inserted : List Field) (f : Field) → length inserted + 1 < 2 ^ 62 → field_size f ≤ capacity
    → table_after_insertion (table_of capacity inserted) (Some f) ≡ Some (table_of capacity (inserted ++ f ∷ []))
fits_longer capacity inserted f few fits =
    let room : (nat_lt (length inserted + 1) (2 ^ 62) && nat_le (field_size f) capacity) ≡ true = grind (arith, common_steps) in
    let evicted : max (evictions capacity inserted) (evictions capacity (inserted ++ f ∷ [])) ≡ evictions capacity (inserted ++ f ∷ []) =
    omega (arith, evictions-append capacity inserted (f ∷ [])) in
    rw (room, evicted) refl

-- The decoder inserts what the encoder inserted.
pub insertion_read : (greatest : ℕ) (s : EncoderHistory) (d : Draft) (f : Field) → MayInsert s d f
    → table_after greatest (table_of s.capacity d.inserted) (insertion s d f) ≡ Some (table_of s.capacity (d.inserted ++ f ∷ []))
insertion_read greatest s d f m =
    inserts greatest (table_of s.capacity d.inserted) s d f
    ∙ ap (table_after_insertion (table_of s.capacity d.inserted)) (insertion_names s d f m.plain)
    ∙ fits_longer s.capacity d.inserted f m.few m.fits

pub table_after_all-append : (greatest : ℕ) (h : Option TableHistory) (xs ys : List EncoderInstruction) → table_after_all greatest h (xs ++ ys) ≡ table_after_all greatest (table_after_all greatest h xs) ys
table_after_all-append greatest h [] ys = refl
table_after_all-append greatest None (x ∷ xs) ys = nothing ys
  where
    nothing : (ys : List EncoderInstruction) → None ≡ table_after_all greatest None ys
    nothing [] = refl
    nothing (y ∷ ys) = refl
table_after_all-append greatest (Some h) (x ∷ xs) ys = table_after_all-append greatest (table_after greatest h x) xs ys

take_all : {X : Type 0} (k : ℕ) (xs : List X) → k ≡ length xs → take k xs ≡ xs
take_all k xs e = rw e (take-length xs)

-- one instruction and one insertion more
one_read : (greatest capacity : ℕ) (instructions : List EncoderInstruction) (inserted : List Field) (i : EncoderInstruction) (f : Field)
    → table_after greatest (table_of capacity inserted) i ≡ Some (table_of capacity (inserted ++ f ∷ [])) → IsReadAs greatest capacity instructions inserted
    → IsReadAs greatest capacity (instructions ++ i ∷ []) (inserted ++ f ∷ [])
one_read greatest capacity instructions inserted i f step h =
    record {
      one_each = omega (arith, h.one_each, length-append instructions (i ∷ []), length-append inserted (f ∷ []));
      tables = λ k le. by_order k (nat_le k (length instructions)) refl le;
    }
  where
    whole : (k : ℕ) → k ≡ length instructions + 1 → table_after_all greatest (Some (table_of capacity [])) (take k (instructions ++ i ∷ [])) ≡ Some (table_of capacity (take k (inserted ++ f ∷ [])))
    whole k e =
        let left : take k (instructions ++ i ∷ []) ≡ instructions ++ i ∷ [] = take_all k (instructions ++ i ∷ []) (omega (arith, e, length-append instructions (i ∷ []))) in
        let right : take k (inserted ++ f ∷ []) ≡ inserted ++ f ∷ [] = take_all k (inserted ++ f ∷ []) (omega (arith, e, h.one_each, length-append inserted (f ∷ []))) in
        let before = h.tables (length instructions) (omega arith) in
        let before_all : table_after_all greatest (Some (table_of capacity [])) instructions ≡ Some (table_of capacity inserted) =
        ap (table_after_all greatest (Some (table_of capacity []))) (sym (take_all (length instructions) instructions refl)) ∙ before ∙ ap (λ fs. Some (table_of capacity fs)) (take_all (length instructions) inserted h.one_each) in
        ap (table_after_all greatest (Some (table_of capacity []))) left
        ∙ table_after_all-append greatest (Some (table_of capacity [])) instructions (i ∷ [])
        ∙ ap (λ o. table_after_all greatest o (i ∷ [])) before_all
        ∙ step
        ∙ ap (λ fs. Some (table_of capacity fs)) (sym right)

    front : (k : ℕ) → k ≤ length instructions → table_after_all greatest (Some (table_of capacity [])) (take k (instructions ++ i ∷ [])) ≡ Some (table_of capacity (take k (inserted ++ f ∷ [])))
    front k le =
        ap (table_after_all greatest (Some (table_of capacity []))) (take-append-le k instructions (i ∷ []) le)
        ∙ h.tables k le
        ∙ ap (λ fs. Some (table_of capacity fs)) (sym (take-append-le k inserted (f ∷ []) (omega (arith, le, h.one_each))))

    by_order : (k : ℕ) (b : Bool) → nat_le k (length instructions) ≡ b → k ≤ length (instructions ++ i ∷ [])
        → table_after_all greatest (Some (table_of capacity [])) (take k (instructions ++ i ∷ [])) ≡ Some (table_of capacity (take k (inserted ++ f ∷ [])))
    by_order k true e le = front k (grind (arith, common_steps))
    by_order k false e le = let far : length instructions < k = grind (arith, common_steps) in whole k (omega (arith, far, le, length-append instructions (i ∷ [])))

literal_read_as : (greatest : ℕ) (s : EncoderHistory) (before : List EncoderInstruction) (d : Draft) (f : Field)
    → IsReadAs greatest s.capacity (before ++ d.instructions) d.inserted → IsReadAs greatest s.capacity (before ++ (add_literal s d f).instructions) (add_literal s d f).inserted
literal_read_as greatest s before d f h =
    let P : Draft → Type 0 = λ e. IsReadAs greatest s.capacity (before ++ e.instructions) e.inserted in
    chosen P (static_name f.name) _ _ (λ index e. h) (λ none. chosen P (found_name s d f) _ _ (λ number e. h) (λ none. h))

inserted_read_as : (greatest : ℕ) (s : EncoderHistory) (before : List EncoderInstruction) (d : Draft) (f : Field) → MayInsert s d f
    → IsReadAs greatest s.capacity (before ++ d.instructions) d.inserted → IsReadAs greatest s.capacity (before ++ (d.instructions ++ insertion s d f ∷ [])) (d.inserted ++ f ∷ [])
inserted_read_as greatest s before d f m h =
    subst (λ is. IsReadAs greatest s.capacity is (d.inserted ++ f ∷ [])) (append_assoc before d.instructions (insertion s d f ∷ []))
    (one_read greatest s.capacity (before ++ d.instructions) d.inserted (insertion s d f) f (insertion_read greatest s d f m) h)

line_of_field_read_as : (greatest : ℕ) (s : EncoderHistory) (before : List EncoderInstruction) (d : Draft) (f : Field)
    → IsReadAs greatest s.capacity (before ++ d.instructions) d.inserted → IsReadAs greatest s.capacity (before ++ (write_field s d f).instructions) (write_field s d f).inserted
line_of_field_read_as greatest s before d f h =
    let P : Draft → Type 0 = λ e. IsReadAs greatest s.capacity (before ++ e.instructions) e.inserted in
    either_way P f.never_indexed _ _ (λ never. literal_read_as greatest s before d f h) (
    chosen P (static_field f) _ _ (λ index e. h) (λ none.
    chosen P (found s d f) _ _ (λ number e. h) (λ none.
    either_way P (is_insertable s d f) _ _
    (λ e. inserted_read_as greatest s before d f (may_insert s d f e) h)
    (literal_read_as greatest s before d f h))))

field_read_as : (greatest : ℕ) (s : EncoderHistory) (before : List EncoderInstruction) (d : Draft) (f : Field)
    → IsReadAs greatest s.capacity (before ++ d.instructions) d.inserted → IsReadAs greatest s.capacity (before ++ (add_field s d f).instructions) (add_field s d f).inserted
field_read_as greatest s before d f h =
    with_field (λ e. IsReadAs greatest s.capacity (before ++ e.instructions) e.inserted) s d f (line_of_field_read_as greatest s before d f h)
    (λ e test k. inserted_read_as greatest s before e f (may_insert_ahead s (marks_after s d.lines) e f test) k)

fields_read_as : (greatest : ℕ) (s : EncoderHistory) (before : List EncoderInstruction) (d : Draft) (fields : List Field)
    → IsReadAs greatest s.capacity (before ++ d.instructions) d.inserted → IsReadAs greatest s.capacity (before ++ (fold (add_field s) d fields).instructions) (fold (add_field s) d fields).inserted
fields_read_as greatest s before d [] h = h
fields_read_as greatest s before d (f ∷ fields) h = fields_read_as greatest s before (add_field s d f) fields (field_read_as greatest s before d f h)

-- What is written for a section is read as what was inserted for it.
pub section_read_as : (greatest : ℕ) (s : EncoderHistory) (before : List EncoderInstruction) (fields : List Field)
    → IsReadAs greatest s.capacity before s.inserted → IsReadAs greatest s.capacity (before ++ instructions_for s fields) (draft_of s fields).inserted
section_read_as greatest s before fields h =
    fields_read_as greatest s before (first_draft s) (guarded_fields s fields) (rw append-nil h)
