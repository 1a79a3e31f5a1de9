-- Settings that are kept, or announced, are received as they are.
use Rattle.std.proofs.Common.{◌≡◌, inl, inr, ℕ, ◌+◌, ◌^◌, ◌<◌, ◌==◌, ◌||◌, Bool, true, false, not, nat_le, if◌then◌else◌, List, [], ◌∷◌, ◌++◌, Result, Ok, Err, refl, ap, sym, ◌∙◌, subst, arith, append_assoc, append-nil, length}
use Rattle.std.specs.Prelude.{All}
use Rattle.std.specs.List.{AllByRecursion, list_any, list_all}
use Rattle.std.proofs.lemmas.Bool.{and_parts, lt-leb, leb-false, eqb-true, eq-eqb, not-true}
use Rattle.std.proofs.lemmas.List.Elements.{All-head, All-tail, All-from_recursion}
use Rattle.h3_proto.specs.Ids.{reserved}
use Rattle.h3_proto.specs.Pairs.{IsPair, payload_of}
use Rattle.h3_proto.specs.PayloadLaws.{written_is_read}
use Rattle.h3_proto.specs.Settings.{is_forbidden, is_known, known_ids, has_id, ids_differ, are_known, received, received_all, received_then, settings_of}
use Rattle.h3_proto.specs.KeptLaws.{cases_bool, received-kept, not_full}
use Rattle.h3_proto.specs.Kept.{IsKept}
use Rattle.h3_proto.specs.Config.{flag, grease_pairs, own_pairs, table_pairs, announced}
use Rattle.h3_proto.specs.declared.config.Settings.{Settings}
use Rattle.h3_proto.specs.declared.config.Config.{Config}
use Rattle.h3_proto.specs.declared.frame.SettingsError.{SettingsError}
use Rattle.h3_proto.specs.declared.frame.SettingsError.TheVariants.{InvalidSettingValue}
use Rattle.h3_proto.specs.Announced.{Announced}

pub is_false : (b : Bool) → (b ≡ true → ⊥) → b ≡ false
is_false true h = absurd (h refl)
is_false false h = refl

-- what holds of each id of a list holds of one of them
one_holds : (p : ℕ → Bool) (id : ℕ) (ids : List ℕ) → list_all p ids ≡ true → list_any (λ x. x == id) ids ≡ true → p id ≡ true
one_holds p id [] each h = absurd (cc)
one_holds p id (x ∷ ids) each h =
    let parts = and_parts (p x) (list_all p ids) each in
    elim (cases_bool (x == id)) [
      | inl e ↦ let same = eqb-true x id e in rw (← same) parts.0
      | inr e ↦ one_holds p id ids parts.1 (rw e at h)
    ]

-- no id that has a meaning is refused
known_allowed : (id : ℕ) → is_known id ≡ true → is_forbidden id ≡ false
known_allowed id h = not-true (is_forbidden id) (one_holds (λ x. not (is_forbidden x)) id known_ids refl h)

or_right : (b : Bool) → (b || true) ≡ true
or_right true = refl
or_right false = refl

has_at : (id : ℕ) (kept pairs : List (ℕ × ℕ)) (p : ℕ × ℕ) → p.0 ≡ id → has_id id (kept ++ p ∷ pairs) ≡ true
has_at id [] pairs p e = rw (eq-eqb p.0 id e) refl
has_at id (k ∷ kept) pairs p e = rw (has_at id kept pairs p e) (or_right (k.0 == id))

-- an id that comes later was not there before
not_before : (kept pairs : List (ℕ × ℕ)) (p : ℕ × ℕ) → ids_differ (kept ++ p ∷ pairs) ≡ true → has_id p.0 kept ≡ false
not_before [] pairs p d = refl
not_before (k ∷ kept) pairs p d =
    let parts = and_parts (not (has_id k.0 (kept ++ p ∷ pairs))) (ids_differ (kept ++ p ∷ pairs)) d in
    let none = not-true (has_id k.0 (kept ++ p ∷ pairs)) parts.0 in
    elim (cases_bool (k.0 == p.0)) [
      | inl e ↦
          let there = has_at k.0 kept pairs p (sym (eqb-true k.0 p.0 e)) in
          absurd (cc)
      | inr e ↦ rw (e, not_before kept pairs p parts.1) refl
    ]

-- a setting that has a meaning and comes for the first time is kept
one_received : (kept : List (ℕ × ℕ)) (p : ℕ × ℕ) → IsKept kept → IsPair p → is_known p.0 ≡ true → has_id p.0 kept ≡ false → received kept p ≡ Ok (kept ++ p ∷ [])
one_received kept p k pair known new =
    rw (known_allowed p.0 known, known, is_false (nat_le 8 (length kept)) (not_full kept k), new, lt-leb (2 ^ 62) p.0 pair.id, lt-leb (2 ^ 62) p.1 pair.value) refl

pub all_received : (kept pairs : List (ℕ × ℕ)) → IsKept kept → All IsPair pairs → are_known pairs ≡ true → ids_differ (kept ++ pairs) ≡ true → received_all kept pairs ≡ Ok (kept ++ pairs)
all_received kept [] k all known d = ap (λ l. Ok l) (sym (append-nil kept))
all_received kept (p ∷ pairs) k all known d =
    let parts = and_parts (is_known p.0) (are_known pairs) known in
    let one = one_received kept p k (All-head IsPair p pairs all) parts.0 (not_before kept pairs p d) in
    let joined = append_assoc kept (p ∷ []) pairs in
    ap (received_then (λ more. received_all more pairs)) one
    ∙ all_received (kept ++ p ∷ []) pairs (received-kept kept (kept ++ p ∷ []) p one k) (All-tail IsPair p pairs all) parts.1 (subst (λ l. ids_differ l ≡ true) (sym joined) d)
    ∙ ap (λ l. Ok l) joined

pub none_kept : IsKept []
none_kept = omega arith

-- a reserved setting is let go
other : (id n : ℕ) → (id ≡ reserved n → ⊥) → (id == reserved n) ≡ false
other id n h = is_false (id == reserved n) (λ e. h (eqb-true id (reserved n) e))

reserved_allowed : (n : ℕ) → is_forbidden (reserved n) ≡ false
reserved_allowed n =
    rw (other 0 n (λ e. omega (arith, e)), other 2 n (λ e. omega (arith, e)), other 3 n (λ e. omega (arith, e)), other 4 n (λ e. omega (arith, e)), other 5 n (λ e. omega (arith, e))) refl

reserved_unknown : (n : ℕ) → is_known (reserved n) ≡ false
reserved_unknown n =
    rw (
      other 1 n (λ e. omega (arith, e)),
      other 6 n (λ e. omega (arith, e)),
      other 7 n (λ e. omega (arith, e)),
      other 8 n (λ e. omega (arith, e)),
      other 0x33 n (λ e. omega (arith, e)),
      other 0x2b603742 n (λ e. omega (arith, e)),
      other 0x2b603743 n (λ e. omega (arith, e)),
    ) refl

grease_let_go : (send : Bool) (n : ℕ) (pairs : List (ℕ × ℕ)) → received_all [] (grease_pairs send n ++ pairs) ≡ received_all [] pairs
grease_let_go true n pairs = rw (reserved_allowed n, reserved_unknown n) refl
grease_let_go false n pairs = refl

flag_bound : (b : Bool) → flag b < 2 ^ 62
flag_bound true = omega arith
flag_bound false = omega arith

same_ok : (x y : List (ℕ × ℕ)) → ◌≡◌ {A = Result (List (ℕ × ℕ)) SettingsError} (Ok x) (Ok y) → x ≡ y
same_ok x y e = cc

pub announced_is : (c : Config) (grease : ℕ) (pairs : List (ℕ × ℕ)) → announced c grease ≡ Ok pairs → Announced c.settings c.send_grease grease pairs
announced_is c grease pairs h = by_tests _ _ refl refl h
  where
    by_tests : (wide many : Bool) → nat_le (2 ^ 62) c.settings.max_field_section_size ≡ wide → nat_le (2 ^ 62) c.settings.max_webtransport_sessions ≡ many
        → (if wide then Err (InvalidSettingValue 6 c.settings.max_field_section_size)
        else (if many then Err (InvalidSettingValue 0x2b603743 c.settings.max_webtransport_sessions)
        else Ok (grease_pairs c.send_grease grease ++ own_pairs c.settings))) ≡ Ok pairs
        → Announced c.settings c.send_grease grease pairs
    by_tests true many e f h = absurd (cc)
    by_tests false true e f h = absurd (cc)
    by_tests false false e f h = record { size = e; sessions = f; pairs_are = same_ok (grease_pairs c.send_grease grease ++ own_pairs c.settings) pairs h }

own_are_pairs : (s : Settings) (more : List (ℕ × ℕ)) → nat_le (2 ^ 62) s.max_field_section_size ≡ false → nat_le (2 ^ 62) s.max_webtransport_sessions ≡ false → AllByRecursion IsPair more → AllByRecursion IsPair (own_pairs s ++ more)
own_are_pairs s more size sessions each =
    let size_is : IsPair (6, s.max_field_section_size) = record { id = omega arith; value = leb-false (2 ^ 62) s.max_field_section_size size } in
    let connect : IsPair (8, flag s.enable_extended_connect) = record { id = omega arith; value = flag_bound s.enable_extended_connect } in
    let webtransport : IsPair (0x2b603742, flag s.enable_webtransport) = record { id = omega arith; value = flag_bound s.enable_webtransport } in
    let datagram : IsPair (0x33, flag s.enable_datagram) = record { id = omega arith; value = flag_bound s.enable_datagram } in
    let sessions_are : IsPair (0x2b603743, s.max_webtransport_sessions) = record { id = omega arith; value = leb-false (2 ^ 62) s.max_webtransport_sessions sessions } in
    (size_is, (connect, (webtransport, (datagram, (sessions_are, each)))))

limits_are_pairs : (capacity blocked : ℕ) → capacity < 2 ^ 62 → blocked < 2 ^ 62 → AllByRecursion IsPair (table_pairs capacity blocked)
limits_are_pairs capacity blocked h k = (record { id = omega arith; value = h }, (record { id = omega arith; value = k }, tt))

with_grease : (send : Bool) (n : ℕ) (pairs : List (ℕ × ℕ)) → n < 0x210842108421083 → AllByRecursion IsPair pairs → AllByRecursion IsPair (grease_pairs send n ++ pairs)
with_grease true n pairs h each = (record { id = omega (arith, h); value = omega arith }, each)
with_grease false n pairs h each = each

pub received_behind : (c : Config) (grease : ℕ) (pairs more : List (ℕ × ℕ)) → Announced c.settings c.send_grease grease pairs → grease < 0x210842108421083 → AllByRecursion IsPair more
    → are_known (own_pairs c.settings ++ more) ≡ true → ids_differ (own_pairs c.settings ++ more) ≡ true → settings_of (payload_of (pairs ++ more)) ≡ Ok (own_pairs c.settings ++ more)
received_behind c grease pairs more a low each known d =
    let own = own_are_pairs c.settings more a.size a.sessions each in
    let all = with_grease c.send_grease grease (own_pairs c.settings ++ more) low own in
    let joined : grease_pairs c.send_grease grease ++ (own_pairs c.settings ++ more) ≡ pairs ++ more =
    sym (append_assoc (grease_pairs c.send_grease grease) (own_pairs c.settings) more) ∙ ap (λ l. l ++ more) a.pairs_are in
    ap (λ l. settings_of (payload_of l)) (sym joined)
    ∙ written_is_read (grease_pairs c.send_grease grease ++ (own_pairs c.settings ++ more)) (All-from_recursion IsPair (grease_pairs c.send_grease grease ++ (own_pairs c.settings ++ more)) all)
    ∙ grease_let_go c.send_grease grease (own_pairs c.settings ++ more)
    ∙ all_received [] (own_pairs c.settings ++ more) none_kept (All-from_recursion IsPair (own_pairs c.settings ++ more) own) known d

-- and so with the limits of its table behind
pub announced_received_with_table : (c : Config) (grease capacity blocked : ℕ) (pairs : List (ℕ × ℕ)) → grease < 0x210842108421083 → capacity < 2 ^ 62 → blocked < 2 ^ 62 → announced c grease ≡ Ok pairs
    → settings_of (payload_of (pairs ++ table_pairs capacity blocked)) ≡ Ok (own_pairs c.settings ++ table_pairs capacity blocked)
announced_received_with_table c grease capacity blocked pairs low h k e =
    received_behind c grease pairs (table_pairs capacity blocked) (announced_is c grease pairs e) low (limits_are_pairs capacity blocked h k) refl refl
