-- A never-indexed field is a literal line with the bit N, and no entry.
use Rattle.std.proofs.Common.{◌≡◌, ℕ, ◌-◌, Bool, true, false, ◌&&◌, ◌||◌, List, [], ◌∷◌, ◌++◌, length, map, fold, refl, sym, ◌∙◌, ap, append_assoc, append-nil, nat_le, if◌then◌else◌}
use Rattle.std.specs.List.{AllByRecursion}
use Rattle.h3_field.specs.Field.{Field}
use Rattle.h3_field.specs.Secret.{is_secret, guarded}
use Rattle.h3_field.specs.SecretLaws.{guarded_flag}
use Rattle.h3_field.specs.StringLiteral.{Text, coded}
use Rattle.h3_field.specs.StaticTable.{static_field, static_name}
use Rattle.h3_field.specs.Line.{FieldLine}
use Rattle.h3_field.specs.Line.FieldLine.{StaticField, RelativeField, PostBaseField, StaticName, RelativeName, PostBaseName, Literal}
use Rattle.h3_table.specs.ReleasingLaws.{All-join}
use Rattle.h3_qpack.specs.EncoderHistory.{EncoderHistory}
use Rattle.h3_qpack.specs.SectionEncoding.{Draft, found, found_name, marks_after, is_insertable, add_literal, write_indexed, write_field, add_field, first_draft, guarded_fields, draft_of, entry_name_line}
use Rattle.h3_qpack.specs.Secrets.{MayBeIndexed, has_bit_n}
use Rattle.h3_qpack.proofs.Newest.{chosen}
use Rattle.h3_qpack.proofs.Drafts.{either_way, with_field, may_insert, may_insert_ahead}

-- What is inserted may be indexed.
literal_inserts : (s : EncoderHistory) (d : Draft) (f : Field) → AllByRecursion MayBeIndexed d.inserted → AllByRecursion MayBeIndexed (add_literal s d f).inserted
literal_inserts s d f h =
    let P : Draft → Type 0 = λ e. AllByRecursion MayBeIndexed e.inserted in
    chosen P (static_name f.name) _ _ (λ index e. h) (λ none. chosen P (found_name s d f) _ _ (λ number e. h) (λ none. h))

line_inserts : (s : EncoderHistory) (d : Draft) (f : Field) → AllByRecursion MayBeIndexed d.inserted → AllByRecursion MayBeIndexed (write_field s d f).inserted
line_inserts s d f h =
    let P : Draft → Type 0 = λ e. AllByRecursion MayBeIndexed e.inserted in
    either_way P f.never_indexed _ _ (λ never. literal_inserts s d f h) (
    chosen P (static_field f) _ _ (λ index e. h) (λ none.
    chosen P (found s d f) _ _ (λ number e. h) (λ none.
    either_way P (is_insertable s d f) _ _ (λ e. All-join MayBeIndexed d.inserted (f ∷ []) h ((may_insert s d f e).plain, tt)) (literal_inserts s d f h))))

fields_insert : (s : EncoderHistory) (d : Draft) (fields : List Field) → AllByRecursion MayBeIndexed d.inserted → AllByRecursion MayBeIndexed (fold (add_field s) d fields).inserted
fields_insert s d [] h = h
fields_insert s d (f ∷ fields) h =
    fields_insert s (add_field s d f) fields
    (with_field (λ e. AllByRecursion MayBeIndexed e.inserted) s d f (line_inserts s d f h)
    (λ e test k. All-join MayBeIndexed e.inserted (f ∷ []) k ((may_insert_ahead s (marks_after s d.lines) e f test).plain, tt)))

pub section_inserts : (s : EncoderHistory) (fields : List Field) → AllByRecursion MayBeIndexed s.inserted → AllByRecursion MayBeIndexed (draft_of s fields).inserted
section_inserts s fields h = fields_insert s (first_draft s) (guarded_fields s fields) h

-- one line and one field more
map_more : {X Y : Type 0} (g : X → Y) (xs : List X) (x : X) → map g (xs ++ x ∷ []) ≡ map g xs ++ g x ∷ []
map_more g [] x = refl
map_more g (y ∷ xs) x = ap (λ ys. g y ∷ ys) (map_more g xs x)

bits_more : (lines : List FieldLine) (fields : List Field) (l : FieldLine) (f : Field) → map has_bit_n lines ≡ map (λ (g : Field). g.never_indexed) fields → has_bit_n l ≡ f.never_indexed
    → map has_bit_n (lines ++ l ∷ []) ≡ map (λ (g : Field). g.never_indexed) (fields ++ f ∷ [])
bits_more lines fields l f h e =
    map_more has_bit_n lines l ∙ ap (λ bits. bits ++ has_bit_n l ∷ []) h ∙ ap (λ b. map (λ (g : Field). g.never_indexed) fields ++ b ∷ []) e
    ∙ sym (map_more (λ (g : Field). g.never_indexed) fields f)

entry_name_bit : (base number : ℕ) (value : Text) (n : Bool) → has_bit_n (entry_name_line base number value n) ≡ n
entry_name_bit base number value n = by_order (nat_le number base)
  where
    by_order : (b : Bool) → has_bit_n (if b then RelativeName (base - number) value n else PostBaseName (number - base - 1) value n) ≡ n
    by_order true = refl
    by_order false = refl

-- The bits of the lines so far are the flags of the fields so far.
abbrev AreFlags : List Field → Draft → Type 0
AreFlags fields d = map has_bit_n d.lines ≡ map (λ (g : Field). g.never_indexed) fields

literal_bits : (s : EncoderHistory) (d : Draft) (fields : List Field) (f : Field) → AreFlags fields d → AreFlags (fields ++ f ∷ []) (add_literal s d f)
literal_bits s d fields f h =
    chosen (AreFlags (fields ++ f ∷ [])) (static_name f.name) _ _ (λ index e. bits_more d.lines fields (StaticName index (coded s.choices.shortest_strings f.value) f.never_indexed) f h refl) (λ none.
    chosen (AreFlags (fields ++ f ∷ [])) (found_name s d f) _ _
    (λ number e. bits_more d.lines fields (entry_name_line (length s.inserted) number (coded s.choices.shortest_strings f.value) f.never_indexed) f h (entry_name_bit (length s.inserted) number (coded s.choices.shortest_strings f.value) f.never_indexed)) (λ none.
    bits_more d.lines fields (Literal (coded s.choices.shortest_strings f.name) (coded s.choices.shortest_strings f.value) f.never_indexed) f h refl))

indexed_bits : (s : EncoderHistory) (d : Draft) (fields : List Field) (f : Field) → AreFlags fields d → f.never_indexed ≡ false → AreFlags (fields ++ f ∷ []) (write_indexed s d f)
indexed_bits s d fields f h plain =
    chosen (AreFlags (fields ++ f ∷ [])) (static_field f) _ _ (λ index e. bits_more d.lines fields (StaticField index) f h (sym plain)) (λ none.
    chosen (AreFlags (fields ++ f ∷ [])) (found s d f) _ _ (λ number e. bits_more d.lines fields (RelativeField (length s.inserted - number)) f h (sym plain)) (λ none.
    either_way (AreFlags (fields ++ f ∷ [])) (is_insertable s d f) _ _
    (λ e. bits_more d.lines fields (PostBaseField (length d.inserted - length s.inserted)) f h (sym plain)) (literal_bits s d fields f h)))

line_bits : (s : EncoderHistory) (d : Draft) (fields : List Field) (f : Field) → AreFlags fields d → AreFlags (fields ++ f ∷ []) (write_field s d f)
line_bits s d fields f h = by_flag f.never_indexed refl
  where
    by_flag : (b : Bool) → f.never_indexed ≡ b → AreFlags (fields ++ f ∷ []) (if b then add_literal s d f else write_indexed s d f)
    by_flag true never = literal_bits s d fields f h
    by_flag false plain = indexed_bits s d fields f h plain

fields_bits : (s : EncoderHistory) (d : Draft) (before fields : List Field) → AreFlags before d → AreFlags (before ++ fields) (fold (add_field s) d fields)
fields_bits s d before [] h = rw append-nil h
fields_bits s d before (f ∷ fields) h =
    rw (← append_assoc before (f ∷ []) fields) (fields_bits s (add_field s d f) (before ++ f ∷ []) fields
    (with_field (AreFlags (before ++ f ∷ [])) s d f (line_bits s d before f h) (λ e test k. k)))

-- the flags behind the guard
flags_are : (guards : Bool) (fields : List Field) → map (λ (f : Field). f.never_indexed) (map (guarded guards) fields) ≡ map (λ f. f.never_indexed || (guards && is_secret f)) fields
flags_are guards [] = refl
flags_are guards (f ∷ fields) =
    ap (λ b. b ∷ map (λ (g : Field). g.never_indexed) (map (guarded guards) fields)) (guarded_flag guards f)
    ∙ ap (λ bits. (f.never_indexed || (guards && is_secret f)) ∷ bits) (flags_are guards fields)

pub section_bits : (s : EncoderHistory) (fields : List Field) → map has_bit_n (draft_of s fields).lines ≡ map (λ f. f.never_indexed || (s.choices.guards_secrets && is_secret f)) fields
section_bits s fields = fields_bits s (first_draft s) [] (guarded_fields s fields) refl ∙ flags_are s.choices.guards_secrets fields
