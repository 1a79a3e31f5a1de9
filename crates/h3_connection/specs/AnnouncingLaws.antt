-- What an endpoint announces where no setup is refused.
use Rattle.std.proofs.Common.{◌≡◌, ℕ, ◌^◌, ◌*◌, ◌≤◌, Bool, true, false, ◌&&◌, if◌then◌else◌, List, refl, sym, ap, ◌∙◌, subst, arith, inl, inr, nat_le, nat_lt, Result, Ok, Err}
use Rattle.std.proofs.lemmas.Bool.{cases_lt, lt-ltb}
use Rattle.h3_proto.specs.Config.{is_limit}
use Rattle.h3_proto.specs.declared.config.Choices.{Choices}
use Rattle.h3_proto.specs.declared.frame.SettingsError.{SettingsError}
use Rattle.h3_proto.specs.declared.frame.SettingsError.TheVariants.{InvalidSettingValue}
use Rattle.h3_qpack.specs.InstructionSizes.{most_instruction}
use Rattle.h3_connection.specs.Announcing.{IsAnnounced, announced_by, announcing, is_below_announced, least_limit, section_of, unless_alone, unless_below, with_limits}
use Rattle.h3_connection.specs.StrictConnection.{announces_alone}
use Rattle.h3_connection.specs.declared.setup.Announced.{Announced}
use Rattle.h3_connection.specs.declared.setup.Limits.{Limits}
use Rattle.h3_connection.specs.declared.setup.NewError.{NewError}
use Rattle.h3_connection.specs.declared.setup.NewError.TheVariants.{BlockedLimit, Settings, TableLimit, UnfinishedLimit}

same_ok : {X E : Type 0} (x y : X) → ◌≡◌ {A = Result X E} (Ok x) (Ok y) → x ≡ y
same_ok x y e = cc

not_below : (made a : Announced) → unless_below made ≡ Ok a → (made ≡ a) × (is_below_announced made ≡ false)
not_below made a e = by_test (is_below_announced made) refl e
  where
    by_test : (b : Bool) → is_below_announced made ≡ b → ◌≡◌ {A = Result Announced NewError} (if b then Err UnfinishedLimit else Ok made) (Ok a) → (made ≡ a) × (is_below_announced made ≡ false)
    by_test true k e = absurd (cc)
    by_test false k e = (same_ok made a e, k)

not_alone : (made a : Announced) → unless_alone made ≡ Ok a → (unless_below made ≡ Ok a) × (announces_alone made ≡ false)
not_alone made a e = by_test (announces_alone made) refl e
  where
    by_test : (b : Bool) → announces_alone made ≡ b → ◌≡◌ {A = Result Announced NewError} (if b then Err (Settings (InvalidSettingValue 0x2b603742 1)) else unless_below made) (Ok a)
        → (unless_below made ≡ Ok a) × (announces_alone made ≡ false)
    by_test true k e = absurd (cc)
    by_test false k e = (e, k)

pub announced_as : (settings : Result (List (ℕ × ℕ)) SettingsError) (limits : Limits) (choices : Choices) (a : Announced) → announced_by settings limits choices ≡ Ok a → IsAnnounced settings limits choices a
announced_as settings limits choices a e = by_tests (nat_le (2 ^ 30) limits.table) refl (nat_lt 65535 limits.blocked) refl settings refl e
  where
    by_tests : (b : Bool) → nat_le (2 ^ 30) limits.table ≡ b → (c : Bool) → nat_lt 65535 limits.blocked ≡ c → (r : Result (List (ℕ × ℕ)) SettingsError) → settings ≡ r
        → ◌≡◌ {A = Result Announced NewError} (if b then Err TableLimit else (if c then Err BlockedLimit else with_limits r limits choices)) (Ok a) → IsAnnounced settings limits choices a
    by_tests true k c l r is e = absurd (cc)
    by_tests false k true l r is e = absurd (cc)
    by_tests false k false l (Err why) is e = absurd (cc)
    by_tests false k false l (Ok pairs) is e =
        let beside = not_alone (announcing pairs limits choices) a e in
        let made = not_below (announcing pairs limits choices) a beside.0 in
        record { pairs = pairs; is = is; table = k; blocked = l; announced = sym made.0; within = subst (λ x. is_below_announced x ≡ false) made.0 made.1; beside = subst (λ x. announces_alone x ≡ false) made.0 beside.1 }

-- **A limit takes whatever a peer sends that keeps to what is announced**: a list of the greatest size and an instruction for the whole table in up to
-- four bytes for each of their bytes, and whatever has 256 bytes.
pub limit_takes_announced : (a : Announced) → is_limit a.choices.unfinished_limit ≡ true → is_below_announced a ≡ false
    → (4 * section_of a ≤ a.choices.unfinished_limit) × (most_instruction a.limits.table ≤ a.choices.unfinished_limit) × (256 ≤ a.choices.unfinished_limit)
limit_takes_announced a limited within = elim (cases_lt a.choices.unfinished_limit (least_limit a)) [
  | inl below ↦
      let is : is_below_announced a ≡ true = ap (λ b. b && nat_lt a.choices.unfinished_limit (least_limit a)) limited ∙ lt-ltb a.choices.unfinished_limit (least_limit a) below in
      absurd (let never : true ≡ false = sym is ∙ within in cc)
  | inr enough ↦ (omega (arith, enough), omega (arith, enough), omega (arith, enough))
]
