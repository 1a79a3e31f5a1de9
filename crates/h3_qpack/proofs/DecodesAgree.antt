-- What a decoder that read an encoder's instructions answers to its sections.
use Rattle.std.proofs.Common.{◌≡◌, ◌⊎◌, inl, inr, ℕ, ◌^◌, ◌<◌, ◌≤◌, Bool, true, false, if◌then◌else◌, List, [], length, take, refl, sym, ◌∙◌, ap, arith, length-append, Some, nat_lt, nat_le}
use Rattle.std.proofs.lemmas.Grind.{common_steps}
use Rattle.std.proofs.lemmas.List.{length-take-le}
use Rattle.h3_field.specs.Field.{Field}
use Rattle.h3_qpack.specs.TableHistory.{table_state, table_of}
use Rattle.h3_qpack.specs.DecoderState.{DecoderState, announcing, count_capacity}
use Rattle.h3_qpack.specs.Meaning.{MeansFields, IsMissing, IsBadSection}
use Rattle.h3_qpack.specs.DecodedSection.{Fields, Missing, decode_section}
use Rattle.h3_qpack.specs.SectionEncoding.{guarded_fields, draft_of, encoded_section}
use Rattle.h3_qpack.specs.Encodings.{decoder_of, IsWritten, IsDecoderAt, tried}
use Rattle.h3_qpack.specs.Session.{Session, UndecodedSection, oldest, is_canceled, count_of, IsSound, IsWrittenOver}
use Rattle.h3_qpack.proofs.Decoding.{section_counted, count_holds, oldest_holds}
use Rattle.h3_qpack.proofs.DecodedLaws.{section_fields, section_missing, one_meaning, one_missing, not_both}
use Rattle.h3_qpack.proofs.Encodings.{HasReadFor, section_begins, section_means, base_of}

-- The decoder is that of the session, or has not read the capacity yet.
abbrev pub IsDecoderOf : Session → DecoderState → Type 0
IsDecoderOf s r = (r ≡ decoder_of s) ⊎ ((s.received ≡ 0) × (r ≡ announcing s.encoder.announced))

announced_at : (s : Session) (r : DecoderState) → IsDecoderOf s r → count_capacity r ≡ s.encoder.announced
announced_at s r (inl same) = ap count_capacity same
announced_at s r (inr none) = ap count_capacity none.1

received_at : (s : Session) (r : DecoderState) → IsSound s → IsDecoderOf s r → r.table.inserted ≡ s.received
received_at s r h (inl same) = ap (λ (q : DecoderState). q.table.inserted) same ∙ length-take-le s.received s.encoder.inserted h.received
received_at s r h (inr none) = ap (λ (q : DecoderState). q.table.inserted) none.1 ∙ sym none.0

entries_after : Session → ℕ → List Field
entries_after s n = (table_state (table_of s.encoder.capacity (take n s.encoder.inserted))).entries

entries_at : (s : Session) (r : DecoderState) → IsDecoderOf s r → r.table.entries ≡ (decoder_of s).table.entries
unfolding entries_after
entries_at s r (inl same) = ap (λ (q : DecoderState). q.table.entries) same
entries_at s r (inr none) = ap (λ (q : DecoderState). q.table.entries) none.1 ∙ ap (entries_after s) (sym none.0)

has_read_of : (s : Session) (b : UndecodedSection) (r : DecoderState) → IsSound s → IsDecoderOf s r → HasReadFor s b r
has_read_of s b r h of = record { inserted = received_at s r h of; entries = entries_at s r of; announced = λ above. announced_at s r of }

-- a section's count is at most the insertions
count_made : (s : Session) (b : UndecodedSection) → IsSound s → oldest b.stream s.sections ≡ Some b → count_of b ≤ length s.encoder.inserted
count_made s b h is = by_test (nat_lt 0 (count_of b)) refl
  where
    by_test : (t : Bool) → nat_lt 0 (count_of b) ≡ t → count_of b ≤ length s.encoder.inserted
    by_test true e =
        let w = oldest_holds (IsWrittenOver s.encoder.inserted) b.stream s.sections b h.written is in
        let d = draft_of b.encoder b.fields in
        let above : 0 < count_of b = grind (arith, common_steps) in
        let made : count_of b ≤ length d.inserted = count_holds (λ n. n ≤ length d.inserted) d.references above (section_counted b.encoder b.fields).made in
        omega (arith, made, ap length w.begins, length-append d.inserted w.more)
    by_test false e = let none : count_of b ≡ 0 = grind (arith, common_steps) in omega (arith, none)

-- a decoder whose announced capacity the encoder has learned, or that has nothing to read
pub has_read_at : (announced : ℕ) (s : Session) (b : UndecodedSection) (r : DecoderState) → IsSound s → oldest b.stream s.sections ≡ Some b → IsDecoderAt announced s r → HasReadFor s b r
has_read_at announced s b r h is at =
    record { inserted = at.inserted; entries = at.entries; announced = λ above. learned above at.learned }
  where
    known : count_capacity r ≡ announced
    known = ap (λ o. count_capacity (record r { announced = o })) at.capacity

    learned : 0 < count_of b → (s.encoder.announced ≡ announced) ⊎ (s.encoder.inserted ≡ []) → count_capacity r ≡ s.encoder.announced
    learned above (inl same) = known ∙ sym same
    learned above (inr none) = absurd (omega (arith, above, count_made s b h is, ap length none))

is_missing : (s : Session) (b : UndecodedSection) (r : DecoderState) → IsSound s → HasReadFor s b r → oldest b.stream s.sections ≡ Some b → is_canceled s b.stream ≡ false → IsWritten s b → s.received < count_of b
    → IsMissing r (encoded_section b.encoder b.fields) (count_of b)
is_missing s b r h of is alive w far =
    let few : count_of b < 2 ^ 62 = omega (arith, count_made s b h is, h.small) in
    record { rest = _; base = base_of b (nat_lt 0 (count_of b)); begins = (section_begins s b r h of is alive few w).begins; missing = omega (arith, far, of.inserted) }

-- What a section is whenever it is tried.
pub section_value : (s : Session) (b : UndecodedSection) (r : DecoderState) → IsSound s → HasReadFor s b r → oldest b.stream s.sections ≡ Some b → is_canceled s b.stream ≡ false → IsWritten s b
    → decode_section r (encoded_section b.encoder b.fields) ≡ tried s b
section_value s b r h of is alive w = by_order (nat_le (count_of b) s.received) refl
  where
    by_order : (t : Bool) → nat_le (count_of b) s.received ≡ t → decode_section r (encoded_section b.encoder b.fields) ≡ (if t then Fields (guarded_fields b.encoder b.fields) (count_of b) else Missing (count_of b))
    by_order true e =
        let came : count_of b ≤ s.received = grind (arith, common_steps) in
        section_fields r (encoded_section b.encoder b.fields) (count_of b) (guarded_fields b.encoder b.fields) (section_means s b r h of is alive came w)
    by_order false e =
        let far : s.received < count_of b = grind (arith, common_steps) in
        section_missing r (encoded_section b.encoder b.fields) (count_of b) (is_missing s b r h of is alive w far)

pub record DecodesRight (s : Session) (b : UndecodedSection) (count : ℕ) (fields : List Field) : Type 0 where
  pub came : count_of b ≤ s.received
  pub count_is : count ≡ count_of b
  pub fields_are : fields ≡ guarded_fields b.encoder b.fields

-- What is decoded is what was encoded.
pub decodes_right : (s : Session) (b : UndecodedSection) (r : DecoderState) (count : ℕ) (fields : List Field) → IsSound s → IsDecoderOf s r → oldest b.stream s.sections ≡ Some b → is_canceled s b.stream ≡ false → IsWritten s b
    → MeansFields r (encoded_section b.encoder b.fields) count fields → DecodesRight s b count fields
decodes_right s b r count fields h of is alive w m = by_order (nat_le (count_of b) s.received) refl
  where
    by_order : (t : Bool) → nat_le (count_of b) s.received ≡ t → DecodesRight s b count fields
    by_order true e =
        let came : count_of b ≤ s.received = grind (arith, common_steps) in
        let one = one_meaning r (encoded_section b.encoder b.fields) count (count_of b) fields (guarded_fields b.encoder b.fields) m (section_means s b r h (has_read_of s b r h of) is alive came w) in
        record { came = came; count_is = one.0; fields_are = one.1 }
    by_order false e =
        let far : s.received < count_of b = grind (arith, common_steps) in
        absurd (not_both r (encoded_section b.encoder b.fields) count (count_of b) fields m (is_missing s b r h (has_read_of s b r h of) is alive w far))

-- What is missing is missing.
pub misses_right : (s : Session) (b : UndecodedSection) (r : DecoderState) (count : ℕ) → IsSound s → IsDecoderOf s r → oldest b.stream s.sections ≡ Some b → is_canceled s b.stream ≡ false → IsWritten s b
    → IsMissing r (encoded_section b.encoder b.fields) count → (count ≡ count_of b) × (s.received < count)
misses_right s b r count h of is alive w m = by_order (nat_le (count_of b) s.received) refl
  where
    by_order : (t : Bool) → nat_le (count_of b) s.received ≡ t → (count ≡ count_of b) × (s.received < count)
    by_order true e =
        let came : count_of b ≤ s.received = grind (arith, common_steps) in
        absurd (not_both r (encoded_section b.encoder b.fields) (count_of b) count (guarded_fields b.encoder b.fields) (section_means s b r h (has_read_of s b r h of) is alive came w) m)
    by_order false e =
        let far : s.received < count_of b = grind (arith, common_steps) in
        let one = one_missing r (encoded_section b.encoder b.fields) count (count_of b) m (is_missing s b r h (has_read_of s b r h of) is alive w far) in
        (one, omega (arith, one, far))

-- No section is bad.
pub none_bad : (s : Session) (b : UndecodedSection) (r : DecoderState) → IsSound s → IsDecoderOf s r → oldest b.stream s.sections ≡ Some b → is_canceled s b.stream ≡ false → IsWritten s b
    → IsBadSection r (encoded_section b.encoder b.fields) → ⊥
none_bad s b r h of is alive w bad = by_order (nat_le (count_of b) s.received) refl
  where
    by_order : (t : Bool) → nat_le (count_of b) s.received ≡ t → ⊥
    by_order true e =
        let came : count_of b ≤ s.received = grind (arith, common_steps) in
        bad.no_fields (count_of b) (guarded_fields b.encoder b.fields) (section_means s b r h (has_read_of s b r h of) is alive came w)
    by_order false e =
        let far : s.received < count_of b = grind (arith, common_steps) in
        bad.none_missing (count_of b) (is_missing s b r h (has_read_of s b r h of) is alive w far)
