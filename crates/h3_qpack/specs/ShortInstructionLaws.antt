-- What an encoder writes for a decoder that takes it, and what a decoder writes, is short.
use Rattle.std.proofs.Common.{◌≡◌, ℕ, ◌+◌, ◌-◌, ◌^◌, ◌≤◌, Bool, true, false, List, [], ◌∷◌, ◌++◌, length, Option, Some, None, refl, sym, ap, ◌∙◌, arith, length-append, nat_le, if◌then◌else◌}
use Rattle.std.specs.List.{AllByRecursion}
use Rattle.std.specs.Prelude.{nat_lt, slice_get, unwrap_or}
use Rattle.std.proofs.lemmas.Bool.{and_parts, leb-true}
use Rattle.h3_field.specs.Field.{Field, plain_field, field_size}
use Rattle.h3_field.specs.Instruction.{DecoderInstruction, EncoderInstruction, decoder_bytes, encoder_bytes}
use Rattle.h3_field.specs.Instruction.DecoderInstruction.{Acknowledge, CancelStream, Increment}
use Rattle.h3_field.specs.Instruction.EncoderInstruction.{Duplicate, InsertLiteral, InsertWithEntryName, InsertWithStaticName, SetCapacity}
use Rattle.h3_field.specs.Integer.{prefixed}
use Rattle.h3_field.specs.Section.{with_value}
use Rattle.h3_field.specs.StaticTable.{static_table}
use Rattle.h3_field.specs.StringLiteral.{Text, string_literal}
use Rattle.h3_table.specs.TableState.{entry_at, has_room, with_capacity, with_entry}
use Rattle.h3_qpack.specs.DecoderState.{DecoderState, announcing, checking, decoder_after, decoder_after_all, greatest_capacity, inserting}
use Rattle.h3_qpack.specs.InstructionSizes.{HasAnnounced, most_instruction}
use Rattle.h3_qpack.specs.ShortLaws.{prefixed_short, string_short}

some_same : {X : Type 0} (x y : X) → Some x ≡ Some y → x ≡ y
some_same x y e = cc

none_some : {X : Type 0} (x : X) → None ≡ Some x → ⊥
none_some x e = absurd (cc)

-- a capacity that is taken is not above the one announced
capacity_taken : (announced capacity : ℕ) (r new : DecoderState) → HasAnnounced announced r → decoder_after r (SetCapacity capacity) ≡ Some new → HasAnnounced announced new
capacity_taken announced capacity r new h e = by_test (nat_le capacity (greatest_capacity r)) refl e
  where
    next : DecoderState
    next = record r { table = with_capacity r.table capacity }

    by_test : (b : Bool) → nat_le capacity (greatest_capacity r) ≡ b → (if b then Some next else None) ≡ Some new → HasAnnounced announced new
    by_test false test e = absurd (none_some new e)
    by_test true test e =
        let is : next ≡ new = some_same next new e in
        let most : greatest_capacity r ≡ announced = ap (λ o. unwrap_or o (2 ^ 30 - 1)) h.is in
        let within = leb-true capacity (greatest_capacity r) test in
        record {
          is = sym (ap (λ (d : DecoderState). d.announced) is) ∙ h.is;
          within = omega (arith, within, most, ap (λ (d : DecoderState). d.table.capacity) is);
        }

-- an entry that is taken fits the capacity
entry_taken : (announced : ℕ) (r new : DecoderState) (f : Field) → HasAnnounced announced r → inserting r (Some f) ≡ Some new → (field_size f ≤ announced) × HasAnnounced announced new
entry_taken announced r new f h e = by_room (has_room r.table f) refl e
  where
    next : DecoderState
    next = record r { table = with_entry r.table f }

    by_room : (b : Bool) → has_room r.table f ≡ b → (if b then Some next else None) ≡ Some new → (field_size f ≤ announced) × HasAnnounced announced new
    by_room false test e = absurd (none_some new e)
    by_room true test e =
        let is : next ≡ new = some_same next new e in
        let fits = leb-true (field_size f) r.table.capacity (and_parts (nat_lt (r.table.inserted + 1) (2 ^ 62)) (nat_le (field_size f) r.table.capacity) test).1 in
        (omega (arith, fits, h.within), record { is = sym (ap (λ (d : DecoderState). d.announced) is) ∙ h.is; within = omega (arith, h.within, ap (λ (d : DecoderState). d.table.capacity) is) })

-- an entry with that value, where what it is named by is there
valued_taken : (announced : ℕ) (r new : DecoderState) (value : List ℕ) (o : Option Field) → HasAnnounced announced r → inserting r (with_value value false o) ≡ Some new
    → (length value + 32 ≤ announced) × HasAnnounced announced new
valued_taken announced r new value None h e = absurd (none_some new e)
valued_taken announced r new value (Some f) h e =
    let fits = entry_taken announced r new (plain_field f.name value) h e in
    (omega (arith, fits.0), fits.1)

any_taken : (announced : ℕ) (r new : DecoderState) (o : Option Field) → HasAnnounced announced r → inserting r o ≡ Some new → HasAnnounced announced new
any_taken announced r new None h e = absurd (none_some new e)
any_taken announced r new (Some f) h e = (entry_taken announced r new f h e).1

index_and_string : (announced flags index : ℕ) (value : Text) → length value.bytes + 32 ≤ announced → length (prefixed 6 flags index ++ string_literal 8 0 value) ≤ most_instruction announced
index_and_string announced flags index value fits =
    omega (arith, fits, length-append (prefixed 6 flags index) (string_literal 8 0 value), prefixed_short 6 flags index, string_short 8 0 value)

one_taken : (announced : ℕ) (r new : DecoderState) (i : EncoderInstruction) → HasAnnounced announced r → decoder_after r i ≡ Some new → (length (encoder_bytes i) ≤ most_instruction announced) × HasAnnounced announced new
one_taken announced r new (SetCapacity capacity) h e = (omega (arith, prefixed_short 5 1 capacity), capacity_taken announced capacity r new h e)
one_taken announced r new (InsertWithStaticName index value) h e =
    let taken = valued_taken announced r new value.bytes (slice_get static_table index) h e in
    (index_and_string announced 3 index value taken.0, taken.1)
one_taken announced r new (InsertWithEntryName index value) h e =
    let taken = valued_taken announced r new value.bytes (entry_at r.table (r.table.inserted - index)) h e in
    (index_and_string announced 2 index value taken.0, taken.1)
one_taken announced r new (InsertLiteral name value) h e =
    let fits = entry_taken announced r new (plain_field name.bytes value.bytes) h e in
    (omega (arith, fits.0, length-append (string_literal 6 1 name) (string_literal 8 0 value), string_short 6 1 name, string_short 8 0 value), fits.1)
one_taken announced r new (Duplicate index) h e = (omega (arith, prefixed_short 5 0 index), any_taken announced r new (entry_at r.table (r.table.inserted - index)) h e)

nothing_after : (is : List EncoderInstruction) (new : DecoderState) → decoder_after_all None is ≡ Some new → ⊥
nothing_after [] new e = absurd (none_some new e)
nothing_after (i ∷ is) new e = absurd (none_some new e)

all_taken : (announced : ℕ) (is : List EncoderInstruction) (o : Option DecoderState) (new : DecoderState) → ((r : DecoderState) → o ≡ Some r → HasAnnounced announced r) → decoder_after_all o is ≡ Some new
    → AllByRecursion (λ i. length (encoder_bytes i) ≤ most_instruction announced) is
all_taken announced [] o new h e = tt
all_taken announced (i ∷ is) None new h e = absurd (none_some new e)
all_taken announced (i ∷ is) (Some r) new h e = (first (decoder_after r i) refl e, all_taken announced is (decoder_after r i) new (λ s taken. (one_taken announced r s i (h r refl) taken).1) e)
  where
    first : (o : Option DecoderState) → decoder_after r i ≡ o → decoder_after_all o is ≡ Some new → length (encoder_bytes i) ≤ most_instruction announced
    first (Some s) is_next e = (one_taken announced r s i (h r refl) is_next).0
    first None is_next e = absurd (nothing_after is new e)

-- **The instructions that a decoder takes.**
pub taken_instructions_short : (checks : Bool) (announced : ℕ) (instructions : List EncoderInstruction) (new : DecoderState) → decoder_after_all (Some (checking checks (announcing announced))) instructions ≡ Some new
    → AllByRecursion (λ i. length (encoder_bytes i) ≤ most_instruction announced) instructions
taken_instructions_short checks announced instructions new e =
    all_taken announced instructions (Some (checking checks (announcing announced))) new (λ r is. record { is = sym (ap (λ (d : DecoderState). d.announced) (some_same (checking checks (announcing announced)) r is)); within = omega (arith, ap (λ (d : DecoderState). d.table.capacity) (some_same (checking checks (announcing announced)) r is)) }) e

-- **What a decoder writes.**
pub reply_short : (i : DecoderInstruction) → length (decoder_bytes i) ≤ 10
reply_short (Acknowledge stream) = prefixed_short 7 1 stream
reply_short (CancelStream stream) = prefixed_short 6 1 stream
reply_short (Increment count) = prefixed_short 6 0 count
