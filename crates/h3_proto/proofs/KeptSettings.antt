-- Settings that are read back, and what is kept of them in an array.
use Rattle.std.proofs.Common.{◌≡◌, inl, inr, ℕ, ◌+◌, ◌<◌, ◌≤◌, ◌==◌, Bool, true, false, not, List, [], ◌∷◌, ◌++◌, Some, Ok, refl, ap, sym, ◌∙◌, subst, arith, append-nil, length, take, slice_set}
use Rattle.std.proofs.lemmas.Bool.{and_parts, eqb-true, eq-eqb, not-true}
use Rattle.std.proofs.lemmas.List.{take_more_set, length-set}
use Rattle.std.proofs.lemmas.List.Elements.{All-push}
use Rattle.std.specs.Prelude.{All}
use Rattle.h3_proto.specs.Pairs.{IsPair, payload_of}
use Rattle.h3_proto.specs.PayloadLaws.{written_is_read}
use Rattle.h3_proto.specs.Settings.{has_id, value_of, ids_differ, are_known, settings_of}
use Rattle.h3_proto.specs.KeptLaws.{cases_bool}
use Rattle.h3_proto.specs.Config.{flag, own_pairs, table_pairs, announced, peer_settings}
use Rattle.h3_proto.specs.declared.config.Settings.{Settings}
use Rattle.h3_proto.specs.declared.config.Config.{Config}
use Rattle.h3_proto.specs.ReceivedLaws.{is_false, all_received, none_kept, announced_is, received_behind}

-- the payload of settings that have a meaning, no two alike, is read back as these
pub kept_settings_read_back : (pairs : List (ℕ × ℕ)) → All IsPair pairs → are_known pairs ≡ true → ids_differ pairs ≡ true → settings_of (payload_of pairs) ≡ Ok pairs
kept_settings_read_back pairs all known d = written_is_read pairs all ∙ all_received [] pairs none_kept all known d

-- what an end announces is received without the setting that has no meaning
pub announced_received : (c : Config) (grease : ℕ) (pairs : List (ℕ × ℕ)) → grease < 0x210842108421083 → announced c grease ≡ Ok pairs → settings_of (payload_of pairs) ≡ Ok (own_pairs c.settings)
announced_received c grease pairs low h =
    ap (λ l. settings_of (payload_of l)) (sym (append-nil pairs))
    ∙ received_behind c grease pairs [] (announced_is c grease pairs h) low tt refl refl

flag_is : (b : Bool) → not (flag b == 0) ≡ b
flag_is true = refl
flag_is false = refl

-- the peer takes what was configured
pub own_settings : (s : Settings) → peer_settings (own_pairs s) ≡ s
own_settings s = rw (flag_is s.enable_extended_connect, flag_is s.enable_webtransport, flag_is s.enable_datagram) refl

pub own_settings_with_table : (s : Settings) (capacity blocked : ℕ) → peer_settings (own_pairs s ++ table_pairs capacity blocked) ≡ s
own_settings_with_table s capacity blocked = rw (flag_is s.enable_extended_connect, flag_is s.enable_webtransport, flag_is s.enable_datagram) refl

pub own_table : (s : Settings) (capacity blocked : ℕ) → (value_of 1 (own_pairs s ++ table_pairs capacity blocked) ≡ Some capacity) × (value_of 7 (own_pairs s ++ table_pairs capacity blocked) ≡ Some blocked)
own_table s capacity blocked = (refl, refl)

-- a setting whose id is new keeps the ids different
has_more : (id : ℕ) (kept : List (ℕ × ℕ)) (p : ℕ × ℕ) → has_id id kept ≡ false → (p.0 == id) ≡ false → has_id id (kept ++ p ∷ []) ≡ false
has_more id [] p h e = rw e refl
has_more id (k ∷ kept) p h e = elim (cases_bool (k.0 == id)) [
  | inl same ↦ let there = rw same at h in absurd (cc)
  | inr apart ↦ rw (apart, has_more id kept p (rw apart at h) e) refl
]

pub differ_more : (kept : List (ℕ × ℕ)) (p : ℕ × ℕ) → ids_differ kept ≡ true → has_id p.0 kept ≡ false → ids_differ (kept ++ p ∷ []) ≡ true
differ_more [] p d new = refl
differ_more (k ∷ kept) p d new =
    let parts = and_parts (not (has_id k.0 kept)) (ids_differ kept) d in
    let none = not-true (has_id k.0 kept) parts.0 in
    elim (cases_bool (k.0 == p.0)) [
      | inl same ↦ let there = rw same at new in absurd (cc)
      | inr apart ↦
          let turned : (p.0 == k.0) ≡ false = is_false (p.0 == k.0) (λ e. let same = eq-eqb k.0 p.0 (sym (eqb-true p.0 k.0 e)) in cc) in
          rw (has_more k.0 kept p none turned, differ_more kept p parts.1 (rw apart at new)) refl
    ]

-- What is kept in the first places of an array of eight.
pub record HasKept (entries : List (ℕ × ℕ)) (len : ℕ) : Type 0 where
  pub few : len ≤ 8
  pub places : length entries ≡ 8
  pub pairs : All IsPair (take len entries)
  pub differ : ids_differ (take len entries) ≡ true

pub kept_more : (entries : List (ℕ × ℕ)) (len : ℕ) (p : ℕ × ℕ) → HasKept entries len → len < 8 → IsPair p → has_id p.0 (take len entries) ≡ false → HasKept (slice_set entries len p) (len + 1)
kept_more entries len p k room pair new =
    let more = take_more_set entries len p (omega (arith, room, k.places)) in
    record {
      few = omega arith;
      places = length-set entries len p ∙ k.places;
      pairs = subst (λ l. All IsPair l) (sym more) (All-push IsPair (take len entries) p k.pairs pair);
      differ = subst (λ l. ids_differ l ≡ true) (sym more) (differ_more (take len entries) p k.differ new);
    }
