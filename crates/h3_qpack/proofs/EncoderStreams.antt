-- The encoder's stream, which the decoder reads without a refusal.
use Rattle.std.proofs.Common.{◌≡◌, ◌⊎◌, inl, inr, ℕ, zero, suc, ◌+◌, ◌-◌, ◌≤◌, List, [], ◌∷◌, ◌++◌, length, take, drop, Option, Some, unwrap_or, refl, sym, ◌∙◌, ap, subst, arith, length-append, length-drop, flat_map}
use Rattle.std.specs.List.{AllByRecursion}
use Rattle.std.proofs.lemmas.List.{take-append-drop, length-take-le}
use Rattle.std.proofs.lemmas.Grind.{flat_map-append}
use Rattle.std.proofs.Math.Seq.{drop-append_seam}
use Rattle.h3_field.specs.Field.{Field}
use Rattle.h3_field.specs.Instruction.{EncoderInstruction, encoder_bytes}
use Rattle.h3_qpack.specs.Encodings.{IsWrittenInstruction}
use Rattle.h3_qpack.specs.TableHistory.{IsReadAs}
use Rattle.h3_qpack.specs.DecoderState.{DecoderState, announcing, decoder_after_all}
use Rattle.h3_qpack.specs.Instructions.{HasRead, BeginsBad}
use Rattle.h3_qpack.specs.Exchange.{Stream, opening, unread, undelivered, arriving, reading}
use Rattle.h3_qpack.proofs.Drafts.{All-second}
use Rattle.h3_qpack.specs.InstructionLaws.{decoder_after_all-append}
use Rattle.h3_qpack.proofs.TablesRead.{decoder_at, at_read}
use Rattle.h3_qpack.proofs.FrontsRead.{front_read, no_bad}

pub take_further : {X : Type 0} (k m : ℕ) (xs : List X) → take (k + m) xs ≡ take k xs ++ take m (drop k xs)
take_further zero m xs = let same : 0 + m ≡ m = omega arith in rw same refl
take_further (suc k) m [] = none m
  where
    none : {X : Type 0} (m : ℕ) → ◌≡◌ {A = List X} (take (suc k + m) []) (take m [])
    none zero = let same : suc k + 0 ≡ suc k = omega arith in rw same refl
    none (suc m) = let same : suc k + suc m ≡ suc (k + suc m) = omega arith in rw same refl
take_further (suc k) m (x ∷ xs) = let same : suc k + m ≡ suc (k + m) = omega arith in rw same (ap (λ ys. x ∷ ys) (take_further k m xs))

pub drop_further : {X : Type 0} (k m : ℕ) (xs : List X) → drop m (drop k xs) ≡ drop (k + m) xs
drop_further zero m xs = let same : 0 + m ≡ m = omega arith in rw same refl
drop_further (suc k) m [] = none m
  where
    none : {X : Type 0} (m : ℕ) → ◌≡◌ {A = List X} (drop m []) (drop (suc k + m) [])
    none zero = let same : suc k + 0 ≡ suc k = omega arith in rw same refl
    none (suc m) = let same : suc k + suc m ≡ suc (k + suc m) = omega arith in rw same refl
drop_further (suc k) m (x ∷ xs) = let same : suc k + m ≡ suc (k + m) = omega arith in rw same (drop_further k m xs)

-- what stands behind the first units
pub behind_front : {X : Type 0} (bytes_of : X → List ℕ) (k : ℕ) (xs : List X) → flat_map bytes_of xs ≡ flat_map bytes_of (take k xs) ++ flat_map bytes_of (drop k xs)
behind_front bytes_of k xs = ap (flat_map bytes_of) (sym (take-append-drop k xs)) ∙ flat_map-append bytes_of (take k xs) (drop k xs)

pub drop_front : {X : Type 0} (bytes_of : X → List ℕ) (k : ℕ) (xs : List X) → drop (length (flat_map bytes_of (take k xs))) (flat_map bytes_of xs) ≡ flat_map bytes_of (drop k xs)
drop_front bytes_of k xs = ap (drop (length (flat_map bytes_of (take k xs)))) (behind_front bytes_of k xs) ∙ drop-append_seam (flat_map bytes_of (take k xs)) (flat_map bytes_of (drop k xs))

-- The stream holds the instructions, of which so many are read, and the decoder is what they make of it.
pub record EncoderStream (capacity : ℕ) (instructions : List EncoderInstruction) (t : Stream) (r : DecoderState) (count : ℕ) : Type 0 where
  pub bytes_are : t.bytes ≡ flat_map encoder_bytes (opening capacity ++ instructions)
  pub written : AllByRecursion IsWrittenInstruction (opening capacity ++ instructions)
  pub within : count ≤ length (opening capacity ++ instructions)
  pub read : t.read ≡ length (flat_map encoder_bytes (take count (opening capacity ++ instructions)))
  pub before : t.read ≤ t.arrived
  pub after : t.arrived ≤ length t.bytes
  pub decoder : decoder_after_all (Some (announcing capacity)) (take count (opening capacity ++ instructions)) ≡ Some r

some_one : {X : Type 0} (x y : X) → ◌≡◌ {A = Option X} (Some x) (Some y) → x ≡ y
some_one x y e = ap (λ o. unwrap_or o x) e

-- what the decoder is
pub encoder_stream_is : (capacity : ℕ) (instructions : List EncoderInstruction) (inserted : List Field) (t : Stream) (r : DecoderState) (count : ℕ) → IsReadAs capacity capacity instructions inserted → EncoderStream capacity instructions t r count
    → ((count ≡ 0) × (r ≡ announcing capacity)) ⊎ (r ≡ decoder_at capacity capacity (take (count - length (opening capacity)) inserted))
encoder_stream_is capacity instructions inserted t r count reads f =
    let a = at_read capacity capacity instructions inserted count (omega arith) reads f.within in
    subst (λ q. ((count ≡ 0) × (q ≡ announcing capacity)) ⊎ (q ≡ decoder_at capacity capacity (take (count - length (opening capacity)) inserted))) (some_one a.decoder r (sym a.reads ∙ f.decoder)) a.is

pub encoder_stream_count : (capacity : ℕ) (instructions : List EncoderInstruction) (inserted : List Field) (t : Stream) (r : DecoderState) (count : ℕ) → IsReadAs capacity capacity instructions inserted → EncoderStream capacity instructions t r count
    → r.table.inserted ≡ count - length (opening capacity)
encoder_stream_count capacity instructions inserted t r count reads f = by_case (encoder_stream_is capacity instructions inserted t r count reads f)
  where
    by_case : ((count ≡ 0) × (r ≡ announcing capacity)) ⊎ (r ≡ decoder_at capacity capacity (take (count - length (opening capacity)) inserted)) → r.table.inserted ≡ count - length (opening capacity)
    by_case (inl none) = omega (arith, none.0, ap (λ (q : DecoderState). q.table.inserted) none.1)
    by_case (inr is) =
        ap (λ (q : DecoderState). q.table.inserted) is
        ∙ length-take-le (count - length (opening capacity)) inserted (omega (arith, f.within, reads.one_each, length-append (opening capacity) instructions))

pub record Further (capacity : ℕ) (instructions : List EncoderInstruction) (t : Stream) (r : DecoderState) (count : ℕ) (left : List ℕ) : Type 0 where
  pub more : ℕ
  pub encoder_stream : EncoderStream capacity instructions t r (count + more)
  pub not_bad : BeginsBad r left → ⊥

-- More bytes come, and what is whole is read.
pub encoder_stream_reads : (capacity : ℕ) (instructions : List EncoderInstruction) (inserted : List Field) (t : Stream) (r new : DecoderState) (count more : ℕ) (left : List ℕ) → IsReadAs capacity capacity instructions inserted
    → EncoderStream capacity instructions t r count → more ≤ undelivered t → HasRead r new (unread (arriving t more)) left → Further capacity instructions (reading (arriving t more) (length left)) new count left
encoder_stream_reads capacity instructions inserted t r new count more left reads f enough h =
    let all = opening capacity ++ instructions in
    let rest = drop count all in
    let n = t.arrived + more - t.read in
    let split = ap length f.bytes_are ∙ ap length (behind_front encoder_bytes count all) ∙ length-append (flat_map encoder_bytes (take count all)) (flat_map encoder_bytes rest) in
    let here : unread (arriving t more) ≡ take n (flat_map encoder_bytes rest) =
    ap (λ bs. take n (drop t.read bs)) f.bytes_are ∙ ap (λ k. take n (drop k (flat_map encoder_bytes all))) f.read ∙ ap (take n) (drop_front encoder_bytes count all) in
    let written_rest : AllByRecursion IsWrittenInstruction rest = All-second IsWrittenInstruction (take count all) rest (subst (AllByRecursion IsWrittenInstruction) (sym (take-append-drop count all)) f.written) in
    let front = front_read rest n (unread (arriving t more)) left h.instructions written_rest (omega (arith, enough, split, f.read, f.after, f.before)) here h.split in
    let split_rest = ap length (behind_front encoder_bytes front.count rest) ∙ length-append (flat_map encoder_bytes (take front.count rest)) (flat_map encoder_bytes (drop front.count rest)) in
    let left_len : length left ≡ n - length (flat_map encoder_bytes (take front.count rest)) =
    ap length front.left_is ∙ length-take-le _ (flat_map encoder_bytes (drop front.count rest)) (omega (arith, enough, split, split_rest, f.read, f.after, f.before)) in
    let longer : take (count + front.count) all ≡ take count all ++ take front.count rest = take_further count front.count all in
    let longer_len = ap (λ xs. length (flat_map encoder_bytes xs)) longer ∙ ap length (flat_map-append encoder_bytes (take count all) (take front.count rest)) ∙ length-append (flat_map encoder_bytes (take count all)) (flat_map encoder_bytes (take front.count rest)) in
    let inside : count + front.count ≤ length all = omega (arith, front.within, length-drop count all, f.within) in
    let table : decoder_after_all (Some (announcing capacity)) (take (count + front.count) all) ≡ Some new =
    ap (decoder_after_all (Some (announcing capacity))) longer ∙ decoder_after_all-append (Some (announcing capacity)) (take count all) (take front.count rest)
    ∙ ap (λ o. decoder_after_all o (take front.count rest)) f.decoder ∙ ap (decoder_after_all (Some r)) (sym front.are) ∙ h.table in
    record {
      more = front.count;
      encoder_stream = record {
        bytes_are = f.bytes_are;
        written = f.written;
        within = inside;
        read = omega (arith, left_len, longer_len, f.read, f.before, front.fits);
        before = omega arith;
        after = omega (arith, enough, f.after);
        decoder = table;
      };
      not_bad = λ bad. no_bad (drop front.count rest) (n - length (flat_map encoder_bytes (take front.count rest))) new
          (All-second IsWrittenInstruction (take front.count rest) (drop front.count rest) (subst (AllByRecursion IsWrittenInstruction) (sym (take-append-drop front.count rest)) written_rest))
          (λ j js e.
          let at : drop (count + front.count) all ≡ j ∷ js = sym (drop_further count front.count all) ∙ e in
          let some = ap length at ∙ refl in
          let next = at_read capacity capacity instructions inserted (count + front.count + 1) (omega arith) reads (omega (arith, inside, length-drop (count + front.count) all, ap length at)) in
          let one : take (count + front.count + 1) all ≡ take (count + front.count) all ++ j ∷ [] = take_further (count + front.count) 1 all ∙ ap (λ xs. take (count + front.count) all ++ take 1 xs) at in (
            next.decoder,
            sym (ap (decoder_after_all (Some (announcing capacity))) one ∙ decoder_after_all-append (Some (announcing capacity)) (take (count + front.count) all) (j ∷ []) ∙ ap (λ o. decoder_after_all o (j ∷ [])) table) ∙ next.reads,
          ))
          (subst (BeginsBad new) front.left_is bad);
    }
