-- A decoder that reads what an encoder wrote has the encoder's table after as many insertions.
use Rattle.std.proofs.Common.{◌≡◌, ◌⊎◌, inl, inr, ℕ, zero, suc, ◌+◌, ◌-◌, ◌^◌, ◌<◌, ◌≤◌, Bool, true, false, ◌&&◌, List, [], ◌∷◌, ◌++◌, length, take, drop, max, Option, Some, None, refl, sym, ◌∙◌, ap, subst, arith, length-drop, nat_lt, nat_le, if◌then◌else◌, unwrap_or, get_or}
use Rattle.std.specs.Prelude.{◌==◌}
use Rattle.std.proofs.lemmas.Grind.{common_steps}
use Rattle.std.proofs.lemmas.List.{take_more, length-take-le}
use Rattle.std.proofs.lemmas.Bool.{and_parts}
use Rattle.h3_field.specs.Field.{Field, field_size}
use Rattle.h3_field.specs.Instruction.{EncoderInstruction}
use Rattle.h3_field.specs.Instruction.EncoderInstruction.{SetCapacity, InsertWithStaticName, InsertWithEntryName, InsertLiteral, Duplicate}
use Rattle.h3_table.specs.Table.{evictions}
use Rattle.h3_qpack.specs.NamedFields.{insertion_at}
use Rattle.h3_table.specs.TableState.{entry_at, with_entry}
use Rattle.h3_qpack.specs.TableHistory.{TableHistory, table_state, entry_still_at, field_inserted, table_after_insertion, table_after, table_after_all, table_of, IsReadAs}
use Rattle.h3_qpack.specs.DecoderState.{DecoderState, announcing, insertion_of, inserting, decoder_after, decoder_after_all}
use Rattle.h3_qpack.specs.Encodings.{HasInsertions}
use Rattle.h3_qpack.specs.Exchange.{opening}
use Rattle.h3_qpack.proofs.TableStates.{table_state_of, table-end, with_entry-held}
use Rattle.h3_qpack.proofs.Insertions.{table_after_all-append}
use Rattle.h3_qpack.specs.InstructionLaws.{decoder_after_all-append}
use Rattle.h3_qpack.proofs.Encodings.{still_held}
use Rattle.h3_qpack.proofs.NamedFieldsOf.{with_value-more}

-- a decoder that announced a capacity and has read the one that was set, and then these insertions
abbrev pub decoder_at : ℕ → ℕ → List Field → DecoderState
decoder_at announced capacity inserted = record { announced = Some announced; checks_count = false; table = table_state (table_of capacity inserted) }

table_state_is : (capacity : ℕ) (fs : List Field) → table_state (table_of capacity fs) ≡ table_state_of capacity fs
table_state_is capacity fs = ap (λ es. record { capacity = capacity; entries = es; inserted = length fs }) (sym (table-end capacity fs))

entry_added : (capacity : ℕ) (fs : List Field) (f : Field) → field_size f ≤ capacity → with_entry (table_state (table_of capacity fs)) f ≡ table_state (table_of capacity (fs ++ f ∷ []))
entry_added capacity fs f fits = ap (λ h. with_entry h f) (table_state_is capacity fs) ∙ with_entry-held capacity fs f fits ∙ sym (table_state_is capacity (fs ++ f ∷ []))

-- an entry that is still there is held
still_there : (capacity : ℕ) (fs : List Field) (n : ℕ) (f : Field) → entry_still_at (table_of capacity fs) n ≡ Some f → entry_at (table_state (table_of capacity fs)) n ≡ Some f
still_there capacity fs n f h = by_test (nat_lt (evictions capacity fs) n) refl h
  where
    left : length fs - length (drop (evictions capacity fs) fs) ≡ evictions capacity fs
    left = omega (arith, length-drop (evictions capacity fs) fs)

    by_test : (b : Bool) → nat_lt (evictions capacity fs) n ≡ b → (if b then insertion_at fs n else None) ≡ Some f → entry_at (table_state (table_of capacity fs)) n ≡ Some f
    by_test true e h =
        let there : evictions capacity fs < n = grind (arith, common_steps) in
        rw (left, e) (still_held fs (evictions capacity fs) n f there (omega arith) h)
    by_test false e h = absurd (cc)

-- what an insertion names at the decoder
names_same : (capacity : ℕ) (fs : List Field) (i : EncoderInstruction) (f : Field) → field_inserted (table_of capacity fs) i ≡ Some f → insertion_of (table_state (table_of capacity fs)) i ≡ Some f
names_same capacity fs (SetCapacity c) f h = absurd (cc)
names_same capacity fs (InsertWithStaticName index value) f h = h
names_same capacity fs (InsertWithEntryName index value) f h =
    with_value-more value.bytes false (entry_still_at (table_of capacity fs) (length fs - index)) _ f (λ g e. still_there capacity fs (length fs - index) g e) h
names_same capacity fs (InsertLiteral name value) f h = h
names_same capacity fs (Duplicate index) f h = still_there capacity fs (length fs - index) f h

record Longer (capacity : ℕ) (fs gs : List Field) (o : Option Field) : Type 0 where
  pub field : Field
  pub is : o ≡ Some field
  pub room : (nat_lt (length fs + 1) (2 ^ 62) && nat_le (field_size field) capacity) ≡ true
  pub more : gs ≡ fs ++ field ∷ []

longer_by : (capacity : ℕ) (fs gs : List Field) (o : Option Field) → table_after_insertion (table_of capacity fs) o ≡ Some (table_of capacity gs) → Longer capacity fs gs o
longer_by capacity fs gs None h = absurd (cc)
longer_by capacity fs gs (Some f) h = by_test (nat_lt (length fs + 1) (2 ^ 62) && nat_le (field_size f) capacity) refl h
  where
    by_test : (b : Bool) → (nat_lt (length fs + 1) (2 ^ 62) && nat_le (field_size f) capacity) ≡ b
        → ◌≡◌ {A = Option TableHistory} (if b then Some (record (table_of capacity fs) { inserted = fs ++ f ∷ []; evicted = max (evictions capacity fs) (evictions capacity (fs ++ f ∷ [])) }) else None) (Some (table_of capacity gs))
        → Longer capacity fs gs (Some f)
    by_test true e h = record { field = f; is = refl; room = e; more = sym (ap (λ o. (unwrap_or o (table_of capacity fs)).inserted) h) }
    by_test false e h = absurd (cc)

-- the same at the decoder
inserted_same : (announced capacity : ℕ) (fs gs : List Field) (i : EncoderInstruction) → decoder_after (decoder_at announced capacity fs) i ≡ inserting (decoder_at announced capacity fs) (insertion_of (table_state (table_of capacity fs)) i)
    → table_after_insertion (table_of capacity fs) (field_inserted (table_of capacity fs) i) ≡ Some (table_of capacity gs) → decoder_after (decoder_at announced capacity fs) i ≡ Some (decoder_at announced capacity gs)
inserted_same announced capacity fs gs i reads h =
    let l = longer_by capacity fs gs (field_inserted (table_of capacity fs) i) h in
    let named = names_same capacity fs i l.field l.is in
    let fits : field_size l.field ≤ capacity = small (field_size l.field) capacity (and_parts (nat_lt (length fs + 1) (2 ^ 62)) (nat_le (field_size l.field) capacity) l.room).1 in
    let made : inserting (decoder_at announced capacity fs) (Some l.field) ≡ Some (decoder_at announced capacity (fs ++ l.field ∷ [])) =
    rw l.room (ap (λ t. Some (record (decoder_at announced capacity fs) { table = t })) (entry_added capacity fs l.field fits)) in
    reads ∙ ap (inserting (decoder_at announced capacity fs)) named ∙ made ∙ ap (λ hs. Some (decoder_at announced capacity hs)) (sym l.more)
  where
    small : (a b : ℕ) → nat_le a b ≡ true → a ≤ b
    small a b e = grind (arith, common_steps)

-- One instruction that adds an insertion to the encoder's table adds it to the decoder's.
pub step_read : (announced capacity : ℕ) (fs gs : List Field) (i : EncoderInstruction) → table_after announced (table_of capacity fs) i ≡ Some (table_of capacity gs) → length fs < length gs
    → decoder_after (decoder_at announced capacity fs) i ≡ Some (decoder_at announced capacity gs)
step_read announced capacity fs gs (SetCapacity c) h lt = by_test (nat_le c announced) h
  where
    by_test : (b : Bool) → ◌≡◌ {A = Option TableHistory} (if b then Some (record (table_of capacity fs) { capacity = c; evicted = max (evictions capacity fs) (evictions c fs) }) else None) (Some (table_of capacity gs))
        → decoder_after (decoder_at announced capacity fs) (SetCapacity c) ≡ Some (decoder_at announced capacity gs)
    by_test true h =
        let same : fs ≡ gs = ap (λ o. (unwrap_or o (table_of capacity fs)).inserted) h in
        absurd (omega (arith, lt, ap length same))
    by_test false h = absurd (cc)
step_read announced capacity fs gs (InsertWithStaticName index value) h lt = inserted_same announced capacity fs gs (InsertWithStaticName index value) refl h
step_read announced capacity fs gs (InsertWithEntryName index value) h lt = inserted_same announced capacity fs gs (InsertWithEntryName index value) refl h
step_read announced capacity fs gs (InsertLiteral name value) h lt = inserted_same announced capacity fs gs (InsertLiteral name value) refl h
step_read announced capacity fs gs (Duplicate index) h lt = inserted_same announced capacity fs gs (Duplicate index) refl h

-- After any number of instructions behind the capacity the tables agree.
pub behind_capacity : (announced capacity : ℕ) (instructions : List EncoderInstruction) (inserted : List Field) (k : ℕ) → IsReadAs announced capacity instructions inserted → k ≤ length instructions
    → decoder_after_all (Some (decoder_at announced capacity [])) (take k instructions) ≡ Some (decoder_at announced capacity (take k inserted))
behind_capacity announced capacity instructions inserted zero r le = refl
behind_capacity announced capacity instructions inserted (suc k) r le = next instructions inserted (behind_capacity announced capacity instructions inserted k r (omega (arith, le))) (r.tables k (omega (arith, le))) (r.tables (suc k) le) r.one_each le
  where
    next : (is : List EncoderInstruction) (fs : List Field) → decoder_after_all (Some (decoder_at announced capacity [])) (take k is) ≡ Some (decoder_at announced capacity (take k fs))
        → table_after_all announced (Some (table_of capacity [])) (take k is) ≡ Some (table_of capacity (take k fs))
        → table_after_all announced (Some (table_of capacity [])) (take (suc k) is) ≡ Some (table_of capacity (take (suc k) fs)) → length is ≡ length fs → suc k ≤ length is
        → decoder_after_all (Some (decoder_at announced capacity [])) (take (suc k) is) ≡ Some (decoder_at announced capacity (take (suc k) fs))
    next [] fs before now later each le = absurd (omega (arith, le))
    next (i ∷ is) fs before now later each le =
        let at = get_or (i ∷ is) k i in
        let one : k + 1 ≡ suc k = omega arith in
        let front : take (suc k) (i ∷ is) ≡ take k (i ∷ is) ++ at ∷ [] = ap (λ n. take n (i ∷ is)) (sym one) ∙ take_more (i ∷ is) k i (omega (arith, le)) in
        let step : table_after announced (table_of capacity (take k fs)) at ≡ Some (table_of capacity (take (suc k) fs)) =
        ap (λ o. table_after_all announced o (at ∷ [])) (sym now) ∙ sym (table_after_all-append announced (Some (table_of capacity [])) (take k (i ∷ is)) (at ∷ [])) ∙ ap (table_after_all announced (Some (table_of capacity []))) (sym front) ∙ later in
        let less : length (take k fs) < length (take (suc k) fs) = omega (arith, length-take-le k fs (omega (arith, each, le)), length-take-le (suc k) fs (omega (arith, each, le))) in
        ap (decoder_after_all (Some (decoder_at announced capacity []))) front
        ∙ decoder_after_all-append (Some (decoder_at announced capacity [])) (take k (i ∷ is)) (at ∷ [])
        ∙ ap (λ o. decoder_after_all o (at ∷ [])) before
        ∙ step_read announced capacity (take k fs) (take (suc k) fs) at step less

-- what a decoder is after so many instructions
pub record AtRead (announced capacity : ℕ) (instructions : List EncoderInstruction) (inserted : List Field) (k : ℕ) : Type 0 where
  pub decoder : DecoderState
  pub reads : decoder_after_all (Some (announcing announced)) (take k (opening capacity ++ instructions)) ≡ Some decoder
  pub is : ((k ≡ 0) × (decoder ≡ announcing announced)) ⊎ (decoder ≡ decoder_at announced capacity (take (k - length (opening capacity)) inserted))

pub at_read : (announced capacity : ℕ) (instructions : List EncoderInstruction) (inserted : List Field) (k : ℕ) → capacity ≤ announced → IsReadAs announced capacity instructions inserted → k ≤ length (opening capacity ++ instructions)
    → AtRead announced capacity instructions inserted k
at_read announced zero instructions inserted k low r le =
    let h = behind_capacity announced 0 instructions inserted k r le in
    let same : k - 0 ≡ k = omega arith in
    record { decoder = decoder_at announced 0 (take k inserted); reads = h; is = inr (rw same refl) }
at_read announced (suc c) instructions inserted k low r le = opened k (suc c == 0) refl le
  where
    opened : (k : ℕ) (b : Bool) → (suc c == 0) ≡ b → k ≤ length ((if b then [] else SetCapacity (suc c) ∷ []) ++ instructions) → AtRead announced (suc c) instructions inserted k
    opened k true e le = absurd (grind (arith, common_steps))
    opened zero false e le = record { decoder = announcing announced; reads = refl; is = inl (refl, refl) }
    opened (suc k) false e le =
        let yes : nat_le (suc c) announced ≡ true = grind (arith, common_steps, low) in
        let begun : decoder_after (announcing announced) (SetCapacity (suc c)) ≡ Some (decoder_at announced (suc c) []) = rw yes refl in
        let h = behind_capacity announced (suc c) instructions inserted k r (omega (arith, le)) in
        let same : suc k - 1 ≡ k = omega arith in
        record {
          decoder = decoder_at announced (suc c) (take k inserted);
          reads = rw e (ap (λ o. decoder_after_all o (take k instructions)) begun ∙ h);
          is = inr (rw (e, same) refl);
        }

-- a decoder after any first instructions
pub record ReadInsertions (announced capacity : ℕ) (instructions : List EncoderInstruction) (inserted : List Field) (k : ℕ) : Type 0 where
  pub decoder : DecoderState
  pub reads : decoder_after_all (Some (announcing announced)) (take k (opening capacity ++ instructions)) ≡ Some decoder
  pub has : HasInsertions announced capacity (take (k - length (opening capacity)) inserted) decoder

pub insertions_at : (announced capacity : ℕ) (instructions : List EncoderInstruction) (inserted : List Field) (k : ℕ) → capacity ≤ announced → IsReadAs announced capacity instructions inserted → k ≤ length (opening capacity ++ instructions)
    → ReadInsertions announced capacity instructions inserted k
insertions_at announced capacity instructions inserted k low r le = let at = at_read announced capacity instructions inserted k low r le in record { decoder = at.decoder; reads = at.reads; has = by_start at.decoder at.is }
  where
    by_start : (d : DecoderState) → ((k ≡ 0) × (d ≡ announcing announced)) ⊎ (d ≡ decoder_at announced capacity (take (k - length (opening capacity)) inserted)) → HasInsertions announced capacity (take (k - length (opening capacity)) inserted) d
    by_start d (inl start) =
        let none : k - length (opening capacity) ≡ 0 = omega (arith, start.0) in
        subst (λ n. HasInsertions announced capacity (take n inserted) d) (sym none) (subst (HasInsertions announced capacity []) (sym start.1) (record { announced_is = refl; entries = refl; count = refl }))
    by_start d (inr is) = subst (HasInsertions announced capacity (take (k - length (opening capacity)) inserted)) (sym is) (record { announced_is = refl; entries = refl; count = refl })
