-- What a configuration announces is made as a setup has it.
use Rattle.std.proofs.Common.{◌≡◌, ℕ, ◌<◌, ◌≤◌, ◌^◌, ◌++◌, Bool, true, false, if◌then◌else◌, List, refl, sym, subst, ap, ◌∙◌, arith, nat_le, nat_lt, Result, Ok, Err}
use Rattle.std.proofs.lemmas.Grind.{common_steps}
use Rattle.h3_proto.specs.Config.{announced, grease_pairs, own_pairs, table_pairs}
use Rattle.h3_proto.specs.declared.config.Config.{Config}
use Rattle.h3_proto.specs.declared.frame.SettingsError.{SettingsError}
use Rattle.h3_proto.specs.declared.frame.SettingsError.TheVariants.{InvalidSettingValue}
use Rattle.h3_connection.specs.Announcing.{announced_by}
use Rattle.h3_connection.specs.AnnouncingLaws.{announced_as}
use Rattle.h3_connection.specs.declared.setup.Announced.{Announced}
use Rattle.h3_connection.specs.declared.setup.Limits.{Limits}
use Rattle.h3_world.specs.Setup.{IsMade}

same_ok : {X E : Type 0} (x y : X) → ◌≡◌ {A = Result X E} (Ok x) (Ok y) → x ≡ y
same_ok x y e = cc

not_above : (a b : ℕ) → nat_le a b ≡ false → b < a
not_above a b e = grind (arith, common_steps, e)

at_most : (a b : ℕ) → nat_lt a b ≡ false → b ≤ a
at_most a b e = grind (arith, common_steps, e)

-- the pairs of a configuration, and that no number is too large
configured : (c : Config) (grease : ℕ) (pairs : List (ℕ × ℕ)) → announced c grease ≡ Ok pairs
    → (pairs ≡ grease_pairs c.send_grease grease ++ own_pairs c.settings) × (c.settings.max_field_section_size < 2 ^ 62) × (c.settings.max_webtransport_sessions < 2 ^ 62)
configured c grease pairs h = by_tests (nat_le (2 ^ 62) c.settings.max_field_section_size) refl (nat_le (2 ^ 62) c.settings.max_webtransport_sessions) refl h
  where
    by_tests : (wide : Bool) → nat_le (2 ^ 62) c.settings.max_field_section_size ≡ wide → (many : Bool) → nat_le (2 ^ 62) c.settings.max_webtransport_sessions ≡ many
        → ◌≡◌ {A = Result (List (ℕ × ℕ)) SettingsError} (if wide then Err (InvalidSettingValue 6 c.settings.max_field_section_size)
        else (if many then Err (InvalidSettingValue 0x2b603743 c.settings.max_webtransport_sessions)
        else Ok (grease_pairs c.send_grease grease ++ own_pairs c.settings))) (Ok pairs)
        → (pairs ≡ grease_pairs c.send_grease grease ++ own_pairs c.settings) × (c.settings.max_field_section_size < 2 ^ 62) × (c.settings.max_webtransport_sessions < 2 ^ 62)
    by_tests true w many m h = absurd (cc)
    by_tests false w true m h = absurd (cc)
    by_tests false w false m h = (
      sym (same_ok (grease_pairs c.send_grease grease ++ own_pairs c.settings) pairs h),
      not_above (2 ^ 62) c.settings.max_field_section_size w,
      not_above (2 ^ 62) c.settings.max_webtransport_sessions m,
    )

-- **What `Announced::new` returns is made.**
pub is_made : (config : Config) (limits : Limits) (grease : ℕ) (a : Announced) → grease < 0x210842108421083 → announced_by (announced config grease) limits config.choices ≡ Ok a → IsMade a
is_made config limits grease a small e =
    let is = announced_as (announced config grease) limits config.choices a e in
    let c = configured config grease is.pairs is.is in
    let same : a.limits ≡ limits = ap (λ (x : Announced). x.limits) is.announced in
    let few = at_most 65535 limits.blocked is.blocked in
    record {
      settings = config.settings;
      sends_grease = config.send_grease;
      grease = grease;
      small = small;
      section = c.1;
      sessions = c.2;
      are =
          ap (λ (x : Announced). x.settings) is.announced ∙ ap (λ ps. ps ++ table_pairs limits.table limits.blocked) c.0
          ∙ ap (λ (l : Limits). (grease_pairs config.send_grease grease ++ own_pairs config.settings) ++ table_pairs l.table l.blocked) (sym same);
      table = subst (λ (l : Limits). l.table < 2 ^ 30) (sym same) (not_above (2 ^ 30) limits.table is.table);
      blocked = subst (λ (l : Limits). l.blocked < 2 ^ 16) (sym same) (omega (arith, few));
      within = is.within;
      remembered = ap (λ (x : Announced). x.remembered) is.announced;
    }
