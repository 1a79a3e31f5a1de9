-- What a decoder that checks counts has in common with one that does not.
use Rattle.std.proofs.Common.{◌≡◌, ℕ, Bool, true, false, if◌then◌else◌, List, [], ◌∷◌, ◌++◌, length, take, Option, Some, None, option_map, refl, ◌∙◌, ap, ◌-◌, ◌≤◌, nat_le}
use Rattle.h3_field.specs.Field.{Field}
use Rattle.h3_field.specs.Instruction.{EncoderInstruction}
use Rattle.h3_field.specs.Instruction.EncoderInstruction.{SetCapacity, InsertWithStaticName, InsertWithEntryName, InsertLiteral, Duplicate}
use Rattle.h3_field.specs.PrefixReading.{EncodedPrefix}
use Rattle.h3_table.specs.TableState.{has_room, with_entry, with_capacity}
use Rattle.h3_qpack.specs.DecoderState.{DecoderState, announcing, checking, greatest_capacity, insertion_of, inserting, decoder_after, decoder_after_all}
use Rattle.h3_qpack.specs.Encodings.{HasInsertions}
use Rattle.h3_qpack.specs.Exchange.{opening}
use Rattle.h3_qpack.specs.Meaning.{is_allowed, table_for, HasPrefix, MeansFields, IsMissing}
use Rattle.h3_qpack.specs.TableHistory.{IsReadAs}
use Rattle.h3_qpack.proofs.TablesRead.{insertions_at}
use Rattle.h3_qpack.proofs.UpTo.{lines_cut}

-- a decoder that checks no counts
pub whole_table : (r : DecoderState) (count : ℕ) → r.checks_count ≡ false → table_for r count ≡ r.table
whole_table r count off = rw off refl

pub any_prefix : (r : DecoderState) (p : EncodedPrefix) → r.checks_count ≡ false → is_allowed r p ≡ true
any_prefix r p off = rw off refl

prefix_unchecked : (r : DecoderState) (bytes rest : List ℕ) (count base : ℕ) → HasPrefix (checking true r) bytes rest count base → HasPrefix (checking false r) bytes rest count base
prefix_unchecked r bytes rest count base h = record { encoded = h.encoded; whole = h.whole; allowed = refl; is = h.is }

-- what it takes with its counts checked it takes alike without
pub fields_unchecked : (r : DecoderState) (bytes : List ℕ) (count : ℕ) (fields : List Field) → MeansFields (checking true r) bytes count fields → MeansFields (checking false r) bytes count fields
fields_unchecked r bytes count fields m =
    record {
      rest = m.rest;
      base = m.base;
      lines = m.lines;
      begins = prefix_unchecked r bytes m.rest count m.base m.begins;
      received = m.received;
      split = m.split;
      named = lines_cut count r.table m.base m.lines fields m.named;
    }

pub missing_unchecked : (r : DecoderState) (bytes : List ℕ) (count : ℕ) → IsMissing (checking true r) bytes count → IsMissing (checking false r) bytes count
missing_unchecked r bytes count m = record { rest = m.rest; base = m.base; begins = prefix_unchecked r bytes m.rest count m.base m.begins; missing = m.missing }

-- instructions are read alike
inserted_alike : (checks : Bool) (r : DecoderState) (o : Option Field) → inserting (checking checks r) o ≡ option_map (checking checks) (inserting r o)
inserted_alike checks r None = refl
inserted_alike checks r (Some f) = by_test (has_room r.table f)
  where
    by_test : (b : Bool) → ◌≡◌ {A = Option DecoderState} (if b then Some (record (checking checks r) { table = with_entry r.table f }) else None) (option_map (checking checks) (if b then Some (record r { table = with_entry r.table f }) else None))
    by_test true = refl
    by_test false = refl

read_alike : (checks : Bool) (r : DecoderState) (i : EncoderInstruction) → decoder_after (checking checks r) i ≡ option_map (checking checks) (decoder_after r i)
read_alike checks r (SetCapacity capacity) = by_test (nat_le capacity (greatest_capacity r))
  where
    by_test : (b : Bool) → ◌≡◌ {A = Option DecoderState} (if b then Some (record (checking checks r) { table = with_capacity r.table capacity }) else None) (option_map (checking checks) (if b then Some (record r { table = with_capacity r.table capacity }) else None))
    by_test true = refl
    by_test false = refl
read_alike checks r (InsertWithStaticName index value) = inserted_alike checks r (insertion_of r.table (InsertWithStaticName index value))
read_alike checks r (InsertWithEntryName index value) = inserted_alike checks r (insertion_of r.table (InsertWithEntryName index value))
read_alike checks r (InsertLiteral name value) = inserted_alike checks r (insertion_of r.table (InsertLiteral name value))
read_alike checks r (Duplicate index) = inserted_alike checks r (insertion_of r.table (Duplicate index))

pub all_read_alike : (checks : Bool) (r : Option DecoderState) (instructions : List EncoderInstruction) → decoder_after_all (option_map (checking checks) r) instructions ≡ option_map (checking checks) (decoder_after_all r instructions)
all_read_alike checks None [] = refl
all_read_alike checks None (i ∷ rest) = refl
all_read_alike checks (Some r) [] = refl
all_read_alike checks (Some r) (i ∷ rest) = ap (λ o. decoder_after_all o rest) (read_alike checks r i) ∙ all_read_alike checks (decoder_after r i) rest

-- a decoder after any first instructions
pub record ChecksInsertions (checks : Bool) (announced capacity : ℕ) (instructions : List EncoderInstruction) (inserted : List Field) (k : ℕ) : Type 0 where
  pub decoder : DecoderState
  pub reads : decoder_after_all (Some (checking checks (announcing announced))) (take k (opening capacity ++ instructions)) ≡ Some decoder
  pub has : HasInsertions announced capacity (take (k - length (opening capacity)) inserted) decoder

pub insertions_checked : (checks : Bool) (announced capacity : ℕ) (instructions : List EncoderInstruction) (inserted : List Field) (k : ℕ) → capacity ≤ announced → IsReadAs announced capacity instructions inserted
    → k ≤ length (opening capacity ++ instructions) → ChecksInsertions checks announced capacity instructions inserted k
insertions_checked checks announced capacity instructions inserted k low r le =
    let at = insertions_at announced capacity instructions inserted k low r le in
    record {
      decoder = checking checks at.decoder;
      reads = all_read_alike checks (Some (announcing announced)) (take k (opening capacity ++ instructions)) ∙ ap (option_map (checking checks)) at.reads;
      has = record { announced_is = at.has.announced_is; entries = at.has.entries; count = at.has.count };
    }
