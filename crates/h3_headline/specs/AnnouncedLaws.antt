-- What a side announces is what the other side keeps of it.
use Rattle.std.proofs.Common.{◌≡◌, Ok, ℕ, ◌<◌, nat_le, false, arith, ◌≤◌, nat_lt, ◌+◌, ◌^◌, Bool, true, if◌then◌else◌, List, ◌++◌, Err, sym, [], ◌∷◌, refl, ap, ◌∙◌, ◌*◌, length, length-append, ◌==◌, not, min, subst, append_assoc}
use Rattle.std.proofs.lemmas.Grind.{common_steps}
use Rattle.h3_proto.specs.Config.{announced, grease_pairs, own_pairs, table_pairs}
use Rattle.h3_proto.specs.declared.config.Config.{Config}
use Rattle.h3_proto.specs.declared.frame.SettingsError.TheVariants.{InvalidSettingValue}
use Rattle.h3_connection.specs.declared.setup.Announced.{Announced}
use Rattle.h3_world.specs.Setup.{IsMade, IsMadeSetup, Setup, announced_at}
use Rattle.h3_world.specs.TakesLaws.{refusal_is}
use Rattle.std.proofs.lemmas.Bool.{eqb-true, ne_eqb}
use Rattle.std.specs.Prelude.{◌&&◌, ◌||◌, find, Option, Some, option_map}
use Rattle.h3_proto.specs.Config.{is_enabled}
use Rattle.h3_connection.specs.OwnIds.{other}
use Rattle.h3_connection.specs.StrictConnection.{is_strict, judges_connect, refuses_settings, settings_refused}
use Rattle.h3_proto.specs.Ids.{reserved}
use Rattle.h3_proto.specs.Settings.{is_known, value_of, settings_of}
use Rattle.h3_proto.specs.declared.config.Settings.{Settings}
use Rattle.std.specs.Int.{bytes_high_first}
use Rattle.h3_coding.specs.Encodings.{encoding}
use Rattle.h3_proto.specs.Pairs.{payload_of}
use Rattle.h3_connection.specs.Control.{is_table_usable}
use Rattle.h3_field.specs.Instruction.EncoderInstruction.{SetCapacity}
use Rattle.h3_qpack.specs.Exchange as exchange
use Rattle.h3_connection.specs.declared.setup.Limits.{Limits}
use Rattle.h3_world.specs.Following.{opening}
use Rattle.std.specs.Prelude.{unwrap_or}
use Rattle.h3_proto.specs.ReceivedLaws.{announced_received_with_table}
use Rattle.h3_proto.specs.declared.stream.Side.{Side}
use Rattle.h3_headline.specs.PeerStreams.{Announces, Parts}
use Rattle.h3_headline.specs.Standing.{with_meaning}

not_above : (a b : ℕ) → a < b → nat_le b a ≡ false
not_above a b h = grind (arith, common_steps, h)

-- some configuration announces it
configured : (c : Config) (grease : ℕ) → c.settings.max_field_section_size < 2 ^ 62 → c.settings.max_webtransport_sessions < 2 ^ 62 → announced c grease ≡ Ok (grease_pairs c.send_grease grease ++ own_pairs c.settings)
configured c grease section sessions =
    ap (λ b. if b then Err (InvalidSettingValue 6 c.settings.max_field_section_size)
    else (if nat_le (2 ^ 62) c.settings.max_webtransport_sessions then Err (InvalidSettingValue 0x2b603743 c.settings.max_webtransport_sessions)
    else Ok (grease_pairs c.send_grease grease ++ own_pairs c.settings))) (not_above c.settings.max_field_section_size (2 ^ 62) section)
    ∙ ap (λ b. if b then Err (InvalidSettingValue 0x2b603743 c.settings.max_webtransport_sessions) else Ok (grease_pairs c.send_grease grease ++ own_pairs c.settings))
    (not_above c.settings.max_webtransport_sessions (2 ^ 62) sessions)

parts_of : (a : Announced) → IsMade a → Parts a
parts_of a made =
    let config : Config = record { send_grease = made.sends_grease; settings = made.settings; choices = a.choices } in
    record {
      send = made.sends_grease;
      grease = made.grease;
      own = made.settings;
      config = config;
      low = made.small;
      made = configured config made.grease made.section made.sessions;
      own_is = refl;
      settings = made.are;
      table = made.table;
      blocked = made.blocked;
    }

-- a reserved setting has no meaning
reserved_unknown : (n : ℕ) → is_known (reserved n) ≡ false
reserved_unknown n =
    let k = reserved n in
    rw (
      ne_eqb 1 k (omega arith),
      ne_eqb 6 k (omega arith),
      ne_eqb 7 k (omega arith),
      ne_eqb 8 k (omega arith),
      ne_eqb 0x33 k (omega arith),
      ne_eqb 0x2b603742 k (omega arith),
      ne_eqb 0x2b603743 k (omega arith),
    ) refl

grease_left_out : (send : Bool) (grease : ℕ) (pairs : List (ℕ × ℕ)) → with_meaning (grease_pairs send grease ++ pairs) ≡ with_meaning pairs
grease_left_out false grease pairs = refl
grease_left_out true grease pairs = ap (λ b. if b then (reserved grease, 0) ∷ with_meaning pairs else with_meaning pairs) (reserved_unknown grease)

meaning_kept : (s : Settings) (capacity blocked : ℕ) → with_meaning (own_pairs s ++ table_pairs capacity blocked) ≡ own_pairs s ++ table_pairs capacity blocked
meaning_kept s capacity blocked = refl

-- no number has more than 8 bytes
length-encoding : (v : ℕ) → length (encoding v) ≤ 8
unfolding encoding
length-encoding v = by_tests (nat_lt v (2 ^ 6)) (nat_lt v (2 ^ 14)) (nat_lt v (2 ^ 30))
  where
    by_tests : (a b c : Bool)
        → length (if a then bytes_high_first 1 v else (if b then bytes_high_first 2 (2 ^ 14 + v) else (if c then bytes_high_first 4 (2 * 2 ^ 30 + v) else bytes_high_first 8 (3 * 2 ^ 62 + v)))) ≤ 8
    by_tests true b c = omega arith
    by_tests false true c = omega arith
    by_tests false false true = omega arith
    by_tests false false false = omega arith

length-payload : (pairs : List (ℕ × ℕ)) → length (payload_of pairs) ≤ 16 * length pairs
length-payload [] = omega arith
length-payload (p ∷ pairs) =
    omega (arith, length-append (encoding p.0 ++ encoding p.1) (payload_of pairs), length-append (encoding p.0) (encoding p.1), length-encoding p.0, length-encoding p.1, length-payload pairs)

few_pairs : (send : Bool) (grease : ℕ) (s : Settings) (capacity blocked : ℕ) → length ((grease_pairs send grease ++ own_pairs s) ++ table_pairs capacity blocked) ≤ 8
few_pairs true grease s capacity blocked = omega arith
few_pairs false grease s capacity blocked = omega arith

-- the capacity opens the encoder's stream where there is a table
usable : (most table blocked : ℕ) → table < 2 ^ 30 → blocked < 2 ^ 16 → is_table_usable most table blocked ≡ not (min most table == 0)
usable most table blocked h k = grind (arith, common_steps, h, k)

opening_same : (most : ℕ) (limits : Limits) → limits.table < 2 ^ 30 → limits.blocked < 2 ^ 16 → opening most limits ≡ exchange.opening (min most limits.table)
opening_same most limits h k = ap (λ b. if b then SetCapacity (min most limits.table) ∷ [] else []) (usable most limits.table limits.blocked h k) ∙ by_test (min most limits.table == 0)
  where
    by_test : (b : Bool) → (if not b then SetCapacity (min most limits.table) ∷ [] else []) ≡ (if b then [] else SetCapacity (min most limits.table) ∷ [])
    by_test true = refl
    by_test false = refl

pub announces : (a : Announced) → IsMade a → Announces a
announces a made =
    let p = parts_of a made in
    let capacity = a.limits.table in
    let blocked = a.limits.blocked in
    let front = grease_pairs p.send p.grease in
    let kept = own_pairs p.own ++ table_pairs capacity blocked in
    let table_small : capacity < 2 ^ 62 = let h = p.table in omega (arith, h) in
    let blocked_small : blocked < 2 ^ 62 = let h = p.blocked in omega (arith, h) in
    let meaning : with_meaning a.settings ≡ kept =
    ap with_meaning p.settings ∙ ap with_meaning (append_assoc front (own_pairs p.own) (table_pairs capacity blocked)) ∙ grease_left_out p.send p.grease kept ∙ meaning_kept p.own capacity blocked in
    let received =
    ap (λ ps. settings_of (payload_of ps)) p.settings
    ∙ announced_received_with_table p.config p.grease capacity blocked (front ++ own_pairs p.own) p.low table_small blocked_small p.made
    ∙ ap (λ s. Ok (own_pairs s ++ table_pairs capacity blocked)) p.own_is ∙ ap (λ ps. Ok ps) (sym meaning) in
    let pairs : length a.settings ≤ 8 = subst (λ ps. length ps ≤ 8) (sym p.settings) (few_pairs p.send p.grease p.own capacity blocked) in
    record {
      received = received;
      small = omega (arith, length-payload a.settings, pairs);
      few = omega (arith, length-payload a.settings, pairs);
      table = ap (λ ps. unwrap_or (value_of 1 ps) 0) meaning;
      blocked = ap (λ ps. unwrap_or (value_of 7 ps) 0) meaning;
      opening = λ most. opening_same most a.limits p.table p.blocked;
      low = p.table;
    }

-- settings with a meaning have the values of all
same_value : (id : ℕ) (pairs : List (ℕ × ℕ)) → is_known id ≡ true → value_of id (with_meaning pairs) ≡ value_of id pairs
same_value id [] known = refl
same_value id (p ∷ pairs) known = by_known (same_value id pairs known) (is_known p.0) (p.0 == id) refl refl
  where
    rest : Option ℕ
    rest = value_of id pairs

    first : (b : Bool) → Option ℕ
    first b = option_map (λ (q : ℕ × ℕ). q.1) (if b then Some p else find (λ (q : ℕ × ℕ). q.0 == id) pairs)

    found : (m : Bool) → Option ℕ
    found m = value_of id (if m then p ∷ with_meaning pairs else with_meaning pairs)

    kept : (b : Bool) → Option ℕ
    kept b = option_map (λ (q : ℕ × ℕ). q.1) (if b then Some p else find (λ (q : ℕ × ℕ). q.0 == id) (with_meaning pairs))

    by_known : value_of id (with_meaning pairs) ≡ value_of id pairs → (m b : Bool) → is_known p.0 ≡ m → (p.0 == id) ≡ b → found m ≡ first b
    by_known behind true true k e = ap kept e
    by_known behind true false k e = ap kept e ∙ behind
    by_known behind false true k e = let same : p.0 ≡ id = eqb-true p.0 id e in let wrong : false ≡ true = sym k ∙ ap is_known same ∙ known in absurd (cc)
    by_known behind false false k e = behind

-- so what is judged of them is judged of all
judged_alike : (side : Side) (own : Announced) (pairs : List (ℕ × ℕ)) → refuses_settings side own (with_meaning pairs) ≡ refuses_settings side own pairs
judged_alike side own pairs =
    ap (judged (value_of 0x33 (with_meaning pairs)) (value_of 0x2b603742 (with_meaning pairs))) (same_value 8 pairs refl)
    ∙ ap (λ d. judged d (value_of 0x2b603742 (with_meaning pairs)) (value_of 8 pairs)) (same_value 0x33 pairs refl)
    ∙ ap (λ w. judged (value_of 0x33 pairs) w (value_of 8 pairs)) (same_value 0x2b603742 pairs refl)
  where
    judged : Option ℕ → Option ℕ → Option ℕ → Bool
    judged d w c =
        is_strict own && ((judges_connect side && nat_lt 1 (unwrap_or c 0)) || nat_lt 1 (unwrap_or d 0)
        || (is_enabled 0x2b603742 own.settings && (nat_lt 1 (unwrap_or w 0) || (not (unwrap_or w 0 == 0) && not (not (unwrap_or d 0 == 0))))))

-- **Each side takes the settings of the other one.**
pub takes_at : (setup : Setup) (side : Side) → IsMadeSetup setup → settings_refused side (announced_at setup side) (Some (with_meaning (announced_at setup (other side)).settings)) ≡ false
takes_at setup side made =
    judged_alike side (announced_at setup side) (announced_at setup (other side)).settings
    ∙ refusal_is side (announced_at setup side) (announced_at setup (other side)) (made.sides side) (made.sides (other side)) ∙ made.take side

pub announces_at : (setup : Setup) (side : Side) → IsMadeSetup setup → Announces (announced_at setup side)
announces_at setup side made = announces (announced_at setup side) (made.sides side)
