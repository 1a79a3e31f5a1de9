-- An instruction at the front of some bytes, and the field that it inserts.
use Rattle.std.proofs.Common.{◌≡◌, inl, inr, ℕ, ◌<◌, ◌≤◌, nat_le, true, false, List, length, Option, Some, None, Ok, Err, refl, ap, sym, ◌∙◌, subst, arith}
use Rattle.h3_field.specs.Field.{Field, plain_field}
use Rattle.h3_field.specs.Reading.{Reading, Whole, Unfinished, Bad}
use Rattle.h3_field.specs.Instruction.{EncoderInstruction, huffman_instruction}
use Rattle.h3_field.specs.CodingLaws.{told_instruction}
use Rattle.h3_field.specs.ReadBack.{HasInstruction}
use Rattle.h3_field.specs.InstructionReading.{InstructionForm, Says, instruction}
use Rattle.h3_field.specs.InstructionAnswer.{AnswersInstruction, short_named_insertion}
use Rattle.h3_field.specs.declared.block.literal.NameRef as name_ref
use Rattle.h3_field.specs.ShapeAnswer.{Place, error_at}
use Rattle.h3_qpack.proofs.LinesAt.{bad_at}
use Rattle.h3_field.specs.ValueLaws.{one_instruction_said}
use Rattle.h3_field.specs.Errors.{decoder_parse}
use Rattle.h3_field.specs.declared.prefix_int.Error.TheVariants.{Overflow}
use Rattle.h3_field.specs.declared.prefix_string.Error as string
use Rattle.h3_field.specs.declared.parse_error.ParseError.{ParseError}
use Rattle.h3_field.specs.declared.parse_error.ParseError.TheVariants.{Integer, String, InvalidPrefix, InvalidBase, OutOfMemory}
use Rattle.std.proofs.lemmas.Grind.{common_steps}
use Rattle.h3_field.specs.Instruction.EncoderInstruction.{SetCapacity, InsertWithStaticName, InsertWithEntryName, InsertLiteral, Duplicate}
use Rattle.h3_table.specs.TableState.{TableState, has_room, with_capacity}
use Rattle.h3_qpack.specs.DecoderState.{DecoderState, insertion_of, inserting, decoder_after, greatest_capacity}
use Rattle.h3_qpack.specs.WholeInstructions.{is_insertion}
use Rattle.h3_qpack.specs.Instructions.{BeginsBad}
use Rattle.h3_qpack.specs.SectionAnswers.{IsReasonFor}
use Rattle.h3_qpack.specs.InstructionAnswers.{BeginsInsertion, BeginsNoInsertion, HasReadOne}

-- how the strings of an instruction are coded plays no part in what it inserts
inserts_alike : (i : EncoderInstruction) → is_insertion (huffman_instruction i) ≡ is_insertion i
inserts_alike (SetCapacity n) = refl
inserts_alike (InsertWithStaticName index value) = refl
inserts_alike (InsertWithEntryName index value) = refl
inserts_alike (InsertLiteral name value) = refl
inserts_alike (Duplicate index) = refl

coding_plays_no_part : (h : TableState) (i : EncoderInstruction) → insertion_of h (huffman_instruction i) ≡ insertion_of h i
coding_plays_no_part h (SetCapacity n) = refl
coding_plays_no_part h (InsertWithStaticName index value) = refl
coding_plays_no_part h (InsertWithEntryName index value) = refl
coding_plays_no_part h (InsertLiteral name value) = refl
coding_plays_no_part h (Duplicate index) = refl

-- an instruction without strings is that one
capacity_alike : (i : EncoderInstruction) (n : ℕ) → huffman_instruction i ≡ SetCapacity n → i ≡ SetCapacity n
capacity_alike (SetCapacity m) n e = e
capacity_alike (InsertWithStaticName index value) n e = absurd (cc)
capacity_alike (InsertWithEntryName index value) n e = absurd (cc)
capacity_alike (InsertLiteral name value) n e = absurd (cc)
capacity_alike (Duplicate index) n e = absurd (cc)

pub capacity_told : (old new : List ℕ) (n : ℕ) → (j : EncoderInstruction) × HasInstruction old j new × (huffman_instruction j ≡ SetCapacity n) → HasInstruction old (SetCapacity n) new
capacity_told old new n told = subst (λ i. HasInstruction old i new) (capacity_alike told.0 n told.2) told.1

pub has_instruction : {I : Type 0} (place : Place) (says : I → EncoderInstruction) (r : Reading InstructionForm) (old new : List ℕ) (o : Option I) (i : I) → instruction old ≡ r → o ≡ Some i
    → AnswersInstruction says place r old new (Ok o) → (j : EncoderInstruction) × HasInstruction old j new × (huffman_instruction j ≡ says i)
has_instruction {I} place says r old new o i e is answer = from r e (subst (λ (x : Option I). AnswersInstruction says place r old new (Ok x)) is answer)
  where
    from : (r : Reading InstructionForm) → instruction old ≡ r → AnswersInstruction says place r old new (Ok (Some i)) → (j : EncoderInstruction) × HasInstruction old j new × (huffman_instruction j ≡ says i)
    from (Whole form rest) e h =
        let told = told_instruction form (says i) h.0 in
        (told.0, record { form = form; whole = rw h.1 e; says = told.1 }, told.2)
    from Unfinished e h = absurd (cc)
    from Bad e h = absurd (cc)

-- the field of an insertion that was read
pub begins_insertion : {I : Type 0} (place : Place) (h : TableState) (says : I → EncoderInstruction) (read : List ℕ → Reading InstructionForm) (old new : List ℕ) (o : Option I) (i : I) (f : Field)
    → ((bytes rest : List ℕ) (form : InstructionForm) → read bytes ≡ Whole form rest → length rest < length bytes) → instruction old ≡ read old
    → o ≡ Some i → AnswersInstruction says place (read old) old new (Ok o) → is_insertion (says i) ≡ true → insertion_of h (says i) ≡ Some f → f.never_indexed ≡ false → BeginsInsertion h old f new
begins_insertion place h says read old new o i f shorter e is answer inserts names plain =
    let told = has_instruction place says (read old) old new o i e is answer in
    record {
      i = told.0;
      here = told.1;
      inserts = sym (inserts_alike told.0) ∙ ap is_insertion told.2 ∙ inserts;
      names = sym (coding_plays_no_part h told.0) ∙ ap (insertion_of h) told.2 ∙ names;
      plain = plain;
      less = shorter old new told.1.form (sym e ∙ told.1.whole);
    }

-- a name and a value are an insertion, and so is a field without the flag, of itself
pub named_inserts : (value : List ℕ) (name : name_ref.NameRef) → is_insertion (short_named_insertion value name) ≡ true
named_inserts value (name_ref.TheVariants.Static index) = refl
named_inserts value (name_ref.TheVariants.Dynamic index) = refl

pub plain_field_is : (f : Field) → f.never_indexed ≡ false → Some (plain_field f.name f.value) ≡ Some f
plain_field_is f plain = ap (λ flag. let x : Field = record { name = f.name; value = f.value; never_indexed = flag } in Some x) (sym plain)

-- an insertion that was read and names no field
pub begins_no_insertion : {I : Type 0} (place : Place) (h : TableState) (says : I → EncoderInstruction) (read : Reading InstructionForm) (old new : List ℕ) (o : Option I) (i : I) → instruction old ≡ read
    → o ≡ Some i → AnswersInstruction says place read old new (Ok o) → is_insertion (says i) ≡ true → insertion_of h (says i) ≡ None → BeginsNoInsertion h old
begins_no_insertion place h says read old new o i e is answer inserts none =
    let told = has_instruction place says read old new o i e is answer in
    let own : is_insertion told.0 ≡ true = sym (inserts_alike told.0) ∙ ap is_insertion told.2 ∙ inserts in
    let no_field : insertion_of h told.0 ≡ None = sym (coding_plays_no_part h told.0) ∙ ap (insertion_of h) told.2 ∙ none in
    inr (told.1.form, new, told.1.whole, λ j s. let same = one_instruction_said told.1.form told.0 j told.1.says s in (sym (ap is_insertion same) ∙ own, sym (ap (insertion_of h) same) ∙ no_field))

not_said : (h : TableState) (old rest : List ℕ) (form : InstructionForm) → instruction old ≡ Whole form rest → ((i : EncoderInstruction) → Says form i → ⊥) → BeginsNoInsertion h old
not_said h old rest form e none = inr (form, rest, e, λ i s. absurd (none i s))

-- a refused instruction
pub refused : {I : Type 0} (place : Place) (h : TableState) (says : I → EncoderInstruction) (r : Reading InstructionForm) (old new : List ℕ) (e : ParseError) → instruction old ≡ r
    → AnswersInstruction says place r old new (Err e) → IsReasonFor (BeginsNoInsertion h old) (λ count. ⊥) (decoder_parse e)
refused place h says (Whole form rest) old new (String string.TheVariants.HuffmanDecoding) is k = not_said h old rest form is k.1
refused place h says (Whole form rest) old new OutOfMemory is k = tt
refused place h says (Whole form rest) old new (String string.TheVariants.OutOfMemory) is k = tt
refused place h says (Whole form rest) old new (String string.TheVariants.UnexpectedEnd) is k = absurd k.1
refused place h says (Whole form rest) old new (String (string.TheVariants.Integer e)) is k = absurd k.1
refused place h says (Whole form rest) old new (String string.TheVariants.HuffmanEncoding) is k = absurd k.1
refused place h says (Whole form rest) old new (String string.TheVariants.BufSize) is k = absurd k.1
refused place h says (Whole form rest) old new (Integer e) is k = absurd k.1
refused place h says (Whole form rest) old new (InvalidPrefix first) is k = absurd k.1
refused place h says (Whole form rest) old new InvalidBase is k = absurd k.1
refused place h says Unfinished old new e is k = absurd (cc)
refused place h says Bad old new e is k =
    let same : e ≡ error_at place Overflow = cc in
    rw same (bad_at (Unit {0}) (BeginsNoInsertion h old) place Overflow (inl is))

-- an insertion is no change of the capacity
pub insertion_reads : (r : DecoderState) (i : EncoderInstruction) → is_insertion i ≡ true → decoder_after r i ≡ inserting r (insertion_of r.table i)
insertion_reads r (SetCapacity n) e = absurd (cc)
insertion_reads r (InsertWithStaticName index value) e = refl
insertion_reads r (InsertWithEntryName index value) e = refl
insertion_reads r (InsertLiteral name value) e = refl
insertion_reads r (Duplicate index) e = refl

pub no_insertion_bad : (r : DecoderState) (bytes : List ℕ) → BeginsNoInsertion r.table bytes → BeginsBad r bytes
no_insertion_bad r bytes (inl bad) = inl bad
no_insertion_bad r bytes (inr h) = inr (h.0, h.1, h.2, λ i s. let k = h.3 i s in insertion_reads r i k.0 ∙ ap (inserting r) k.1)

-- a field for which there is no room
pub no_room_bad : (r : DecoderState) (bytes rest : List ℕ) (f : Field) → BeginsInsertion r.table bytes f rest → has_room r.table f ≡ false → BeginsBad r bytes
no_room_bad r bytes rest f b none = inr (
  b.here.form,
  rest,
  b.here.whole,
  λ i s.
      let same = one_instruction_said b.here.form i b.i s b.here.says in
      ap (decoder_after r) same ∙ insertion_reads r b.i b.inserts ∙ ap (inserting r) b.names ∙ rw none refl,
)

-- a capacity that is set, one that is too large, and one that is refused
pub capacity_reads : (r : DecoderState) (bytes rest : List ℕ) (n : ℕ) → HasInstruction bytes (SetCapacity n) rest → length rest < length bytes → n ≤ greatest_capacity r
    → HasReadOne r (record r { table = with_capacity r.table n }) bytes rest
capacity_reads r bytes rest n here less le =
    record { i = SetCapacity n; here = here; table = (let yes : nat_le n (greatest_capacity r) ≡ true = grind (arith, common_steps) in rw yes refl); less = less; grows = omega arith }
