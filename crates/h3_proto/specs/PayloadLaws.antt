-- What holds of payloads and the settings that they stand for.
use Rattle.std.proofs.Common.{◌≡◌, ℕ, zero, suc, ◌≤◌, List, [], ◌∷◌, ◌++◌, length, arith, sym, ◌∙◌, ap, ap₂, refl, append_assoc, Result, Ok, Err, inl, inr, subst}
use Rattle.std.specs.Prelude.{All}
use Rattle.std.specs.List.{AllByRecursion}
use Rattle.std.proofs.lemmas.List.Elements.{All-head, All-rest}
use Rattle.h3_coding.specs.Encodings.{IsByte, encoding}
use Rattle.h3_coding.specs.EncodingLaws.{encoding_is_valid}
use Rattle.h3_coding.specs.VarintLaws.{reads_encoding, is_read, none_at_end}
use Rattle.h3_proto.specs.Pairs.{IsPair, payload_of, Split, pairs_in, split_of, IsSplit}
use Rattle.h3_proto.specs.PairLaws.{no_id, both, both_at, pair_shorter, cases_pair, split_none, split_pair}
use Rattle.h3_proto.specs.Payloads.{IsPayload, none, more, StandsFor}
use Rattle.h3_proto.specs.Settings.{received_all, received_then, at_rest, settings_of}
use Rattle.h3_proto.specs.declared.frame.SettingsError.{SettingsError}

none_split : IsSplit [] (split_of [])
none_split = subst (IsSplit []) (sym (split_none [] (no_id [] none_at_end))) (record { pairs_are = refl; whole = refl })

pub split_whole : (pairs : List (ℕ × ℕ)) (bytes : List ℕ) → IsPayload pairs bytes → IsSplit pairs (split_of bytes)
split_whole pairs bytes none = none_split
split_whole pairs bytes (more p others id value rest all k i v r) =
    let ids = reads_encoding p.0 id (value ++ rest) i in
    let values = reads_encoding p.1 value rest v in
    let pair = both p.0 p.1 (id ++ (value ++ rest)) (value ++ rest) rest ids values in
    let is = ap split_of k ∙ split_pair p (id ++ (value ++ rest)) rest pair in
    let behind = split_whole others rest r in
    subst (IsSplit (p ∷ others)) (sym is) (record { pairs_are = ap (λ ps. p ∷ ps) behind.pairs_are; whole = behind.whole })

nothing_left : (r : Result (List (ℕ × ℕ)) SettingsError) → received_then (at_rest []) r ≡ r
nothing_left (Ok kept) = refl
nothing_left (Err e) = refl

-- a payload stands for its pairs, received in order
pub payload_stands : (pairs : List (ℕ × ℕ)) (bytes : List ℕ) → IsPayload pairs bytes → settings_of bytes ≡ received_all [] pairs
payload_stands pairs bytes p =
    let is = split_whole pairs bytes p in
    ap₂ (λ rest ps. received_then (at_rest rest) (received_all [] ps)) is.whole is.pairs_are ∙ nothing_left (received_all [] pairs)

-- what is written of pairs is a payload of them
pub written_payload : (pairs : List (ℕ × ℕ)) → All IsPair pairs → IsPayload pairs (payload_of pairs)
written_payload [] h = none
written_payload (p ∷ pairs) h =
    more p pairs (encoding p.0) (encoding p.1) (payload_of pairs) (payload_of (p ∷ pairs)) (append_assoc (encoding p.0) (encoding p.1) (payload_of pairs))
    (encoding_is_valid p.0 (All-head IsPair p pairs h).id) (encoding_is_valid p.1 (All-head IsPair p pairs h).value) (written_payload pairs (All-rest IsPair p pairs (p ∷ pairs) refl h))

-- so what was written is read back as its pairs, received in order
pub written_is_read : (pairs : List (ℕ × ℕ)) → All IsPair pairs → settings_of (payload_of pairs) ≡ received_all [] pairs
written_is_read pairs h = payload_stands pairs (payload_of pairs) (written_payload pairs h)

each_rest : (xs ys : List ℕ) → AllByRecursion IsByte (xs ++ ys) → AllByRecursion IsByte ys
each_rest [] ys h = h
each_rest (x ∷ xs) ys h = each_rest xs ys h.1

empty_split : IsPayload (pairs_in (split_of [])) []
empty_split = subst (λ (s : Split). IsPayload (pairs_in s) []) (sym (split_none [] (no_id [] none_at_end))) none

-- bytes that are pairs up to their end are a payload of these
pub whole_split : (n : ℕ) (bytes : List ℕ) → length bytes ≤ n → AllByRecursion IsByte bytes → (split_of bytes).rest ≡ [] → IsPayload (pairs_in (split_of bytes)) bytes
whole_split zero [] h each e = empty_split
whole_split zero (x ∷ xs) h each e = absurd (omega arith)
whole_split (suc n) bytes h each e = elim (cases_pair bytes) [
  | inl no_pair ↦
      let is = split_none bytes no_pair in
      let nothing : bytes ≡ [] = sym (ap (λ (s : Split). s.rest) is) ∙ e in
      subst (λ l. IsPayload (pairs_in (split_of l)) l) (sym nothing) empty_split
  | inr some ↦
      let p = some.0 in
      let rest = some.1 in
      let is = split_pair p bytes rest some.2 in
      let b = both_at p bytes rest some.2 in
      let less = pair_shorter p bytes rest some.2 in
      let id = is_read p.0 bytes b.mid each b.id in
      let each_mid = each_rest id.octets b.mid (subst (λ l. AllByRecursion IsByte l) id.parts each) in
      let value = is_read p.1 b.mid rest each_mid b.value in
      let each_behind = each_rest value.octets rest (subst (λ l. AllByRecursion IsByte l) value.parts each_mid) in
      let others = whole_split n rest (omega arith) each_behind (sym (ap (λ (s : Split). s.rest) is) ∙ e) in
      let whole : IsPayload (p ∷ pairs_in (split_of rest)) bytes =
      more p (pairs_in (split_of rest)) id.octets value.octets rest bytes (id.parts ∙ ap (λ l. id.octets ++ l) value.parts) id.is_encoding value.is_encoding others in
      subst (λ ps. IsPayload ps bytes) (sym (ap pairs_in is)) whole
]

was_ok : (r : Result (List (ℕ × ℕ)) SettingsError) (rest : List ℕ) (kept : List (ℕ × ℕ)) → received_then (at_rest rest) r ≡ Ok kept → (rest ≡ []) × (r ≡ Ok kept)
was_ok (Ok k) [] kept e = (refl, e)
was_ok (Ok k) (byte ∷ bytes) kept e = absurd (cc)
was_ok (Err x) rest kept e = absurd (cc)

-- Bytes that are accepted are the payload of some pairs, and what is kept are these, received in order.
pub accepted_is_payload : (bytes : List ℕ) (kept : List (ℕ × ℕ)) → AllByRecursion IsByte bytes → settings_of bytes ≡ Ok kept → StandsFor bytes kept
accepted_is_payload bytes kept each e =
    let ok = was_ok (received_all [] (pairs_in (split_of bytes))) (split_of bytes).rest kept e in
    record {
      pairs = pairs_in (split_of bytes);
      payload = whole_split (length bytes) bytes (omega arith) each ok.0;
      received = ok.1;
    }
