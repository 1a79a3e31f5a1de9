-- A payload has at most seven settings that are kept, so reading one never answers that there are too many.
use Rattle.std.proofs.Common.{◌≡◌, ℕ, ◌+◌, ◌≤◌, Bool, true, false, List, [], ◌∷◌, ◌++◌, length, arith, ◌∙◌, ap, refl, length-append, Result, Ok, Err, ◌⊎◌, inl, inr}
use Rattle.std.specs.Prelude.{◌==◌, ◌||◌, nat_le, if◌then◌else◌, ◌^◌}
use Rattle.std.specs.List.{list_any}
use Rattle.std.proofs.lemmas.Bool.{eq-eqb, eqb-true, leb-true}
use Rattle.std.proofs.lemmas.List.Folds.{list_any-append}
use Rattle.h3_proto.specs.Pairs.{pairs_in, split_of}
use Rattle.h3_proto.specs.Settings.{known_ids, is_forbidden, is_known, has_id, inserted, received, received_all, received_then, at_rest, settings_of}
use Rattle.h3_proto.specs.declared.frame.SettingsError.{SettingsError}
use Rattle.h3_proto.specs.declared.frame.SettingsError.TheVariants.{Exceeded, Malformed, Repeated, InvalidSettingId, InvalidSettingValue}
use Rattle.h3_proto.specs.Kept.{one_if, present, IsKept, insert_by}

at_most_one : (b : Bool) → one_if b ≤ 1
at_most_one true = omega arith
at_most_one false = omega arith

present-bound : (ids : List ℕ) (kept : List (ℕ × ℕ)) → present ids kept ≤ length ids
present-bound [] kept = omega arith
present-bound (id ∷ ids) kept = omega (arith, at_most_one (has_id id kept), present-bound ids kept)

more_or : (a b : Bool) → one_if a ≤ one_if (a || b)
more_or true b = omega arith
more_or false b = omega arith

has_more : (id : ℕ) (kept : List (ℕ × ℕ)) (p : ℕ × ℕ) → has_id id (kept ++ p ∷ []) ≡ (has_id id kept || has_id id (p ∷ []))
has_more id kept p = list_any-append (λ (q : ℕ × ℕ). q.0 == id) kept (p ∷ [])

one_more : (id : ℕ) (kept : List (ℕ × ℕ)) (p : ℕ × ℕ) → one_if (has_id id kept) ≤ one_if (has_id id (kept ++ p ∷ []))
one_more id kept p = rw (has_more id kept p) (more_or (has_id id kept) (has_id id (p ∷ [])))

present-more : (ids : List ℕ) (kept : List (ℕ × ℕ)) (p : ℕ × ℕ) → present ids kept ≤ present ids (kept ++ p ∷ [])
present-more [] kept p = omega arith
present-more (id ∷ ids) kept p = omega (arith, one_more id kept p, present-more ids kept p)

or_true : (a b : Bool) → b ≡ true → (a || (b || false)) ≡ true
or_true true b e = refl
or_true false true e = refl
or_true false false e = absurd (cc)

found : (p : ℕ × ℕ) (kept : List (ℕ × ℕ)) → has_id p.0 (kept ++ p ∷ []) ≡ true
found p kept = has_more p.0 kept p ∙ or_true (has_id p.0 kept) (p.0 == p.0) (eq-eqb p.0 p.0 refl)

rest_of : (a b : Bool) → a ≡ false → (a || b) ≡ true → b ≡ true
rest_of true b e h = absurd (cc)
rest_of false b e h = h

pub cases_bool : (b : Bool) → (b ≡ true) ⊎ (b ≡ false)
cases_bool true = inl refl
cases_bool false = inr refl

-- one of the ids, which was not among the pairs, is there now
present-new : (ids : List ℕ) (kept : List (ℕ × ℕ)) (p : ℕ × ℕ) → list_any (λ x. x == p.0) ids ≡ true → has_id p.0 kept ≡ false → present ids kept + 1 ≤ present ids (kept ++ p ∷ [])
present-new [] kept p h k = absurd (cc)
present-new (x ∷ ids) kept p h k = elim (cases_bool (x == p.0)) [
  | inl e ↦
      let same = eqb-true x p.0 e in
      let before : one_if (has_id x kept) ≡ 0 = ap (λ i. one_if (has_id i kept)) same ∙ ap one_if k in
      let behind : one_if (has_id x (kept ++ p ∷ [])) ≡ 1 = ap (λ i. one_if (has_id i (kept ++ p ∷ []))) same ∙ ap one_if (found p kept) in
      omega (arith, before, behind, present-more ids kept p)
  | inr e ↦
      omega (arith, one_more x kept p, present-new ids kept p (rest_of (x == p.0) (list_any (λ y. y == p.0) ids) e h) k)
]

same_ok : {T E : Type 0} (x y : T) → ◌≡◌ {A = Result T E} (Ok x) (Ok y) → x ≡ y
same_ok x y e = cc

same_err : {T E : Type 0} (x y : E) → ◌≡◌ {A = Result T E} (Err x) (Err y) → x ≡ y
same_err x y e = cc

inserted_is : (full repeated wide_id wide_value : Bool) (kept more : List (ℕ × ℕ)) (id value : ℕ) → insert_by full repeated wide_id wide_value kept id value ≡ Ok more → (repeated ≡ false) × (kept ++ (id, value) ∷ [] ≡ more)
inserted_is true b c d kept more id value h = absurd (cc)
inserted_is false true c d kept more id value h = absurd (cc)
inserted_is false false true d kept more id value h = absurd (cc)
inserted_is false false false true kept more id value h = absurd (cc)
inserted_is false false false false kept more id value h = (refl, same_ok {E = SettingsError} (kept ++ (id, value) ∷ []) more h)

apart_repeated : (id : ℕ) → Repeated id ≡ Exceeded → ⊥
apart_repeated id e = cc

apart_id : (id : ℕ) → InvalidSettingId id ≡ Exceeded → ⊥
apart_id id e = cc

apart_value : (id value : ℕ) → InvalidSettingValue id value ≡ Exceeded → ⊥
apart_value id value e = cc

inserted_fits : (full repeated wide_id wide_value : Bool) (kept : List (ℕ × ℕ)) (id value : ℕ) → (full ≡ true → ⊥) → insert_by full repeated wide_id wide_value kept id value ≡ Err Exceeded → ⊥
inserted_fits true b c d kept id value room h = room refl
inserted_fits false true c d kept id value room h = apart_repeated id (same_err {T = List (ℕ × ℕ)} (Repeated id) Exceeded h)
inserted_fits false false true d kept id value room h = apart_id id (same_err {T = List (ℕ × ℕ)} (InvalidSettingId id) Exceeded h)
inserted_fits false false false true kept id value room h = apart_value id value (same_err {T = List (ℕ × ℕ)} (InvalidSettingValue id value) Exceeded h)
inserted_fits false false false false kept id value room h = absurd (cc)

inserted-kept : (kept more : List (ℕ × ℕ)) (p : ℕ × ℕ) → is_known p.0 ≡ true → inserted kept p.0 p.1 ≡ Ok more → IsKept kept → IsKept more
inserted-kept kept more p known h k =
    let is = inserted_is (nat_le 8 (length kept)) (has_id p.0 kept) (nat_le (2 ^ 62) p.0) (nat_le (2 ^ 62) p.1) kept more p.0 p.1 h in
    let new = present-new known_ids kept p known is.0 in
    rw (← is.1) (omega (arith, new, k, length-append kept (p ∷ [])))

judged-kept : (forbidden known : Bool) (kept more : List (ℕ × ℕ)) (p : ℕ × ℕ) → is_known p.0 ≡ known
    → (if forbidden then Err (InvalidSettingId p.0) else (if known then inserted kept p.0 p.1 else Ok kept)) ≡ Ok more → IsKept kept → IsKept more
judged-kept true known kept more p e h k = absurd (cc)
judged-kept false true kept more p e h k = inserted-kept kept more p e h k
judged-kept false false kept more p e h k = rw (← (same_ok {E = SettingsError} kept more h)) k

pub received-kept : (kept more : List (ℕ × ℕ)) (p : ℕ × ℕ) → received kept p ≡ Ok more → IsKept kept → IsKept more
received-kept kept more p h k = judged-kept (is_forbidden p.0) (is_known p.0) kept more p refl h k

pub not_full : (kept : List (ℕ × ℕ)) → IsKept kept → nat_le 8 (length kept) ≡ true → ⊥
not_full kept k e =
    let full = leb-true 8 (length kept) e in
    omega (arith, k, full, present-bound known_ids kept)

judged-fits : (forbidden known : Bool) (kept : List (ℕ × ℕ)) (p : ℕ × ℕ) → IsKept kept
    → (if forbidden then Err (InvalidSettingId p.0) else (if known then inserted kept p.0 p.1 else Ok kept)) ≡ Err Exceeded → ⊥
judged-fits true known kept p k h = apart_id p.0 (same_err {T = List (ℕ × ℕ)} (InvalidSettingId p.0) Exceeded h)
judged-fits false true kept p k h = inserted_fits (nat_le 8 (length kept)) (has_id p.0 kept) (nat_le (2 ^ 62) p.0) (nat_le (2 ^ 62) p.1) kept p.0 p.1 (not_full kept k) h
judged-fits false false kept p k h = absurd (cc)

then_fits : (r : Result (List (ℕ × ℕ)) SettingsError) (go : List (ℕ × ℕ) → Result (List (ℕ × ℕ)) SettingsError) → (r ≡ Err Exceeded → ⊥)
    → ((kept : List (ℕ × ℕ)) → r ≡ Ok kept → go kept ≡ Err Exceeded → ⊥) → received_then go r ≡ Err Exceeded → ⊥
then_fits (Ok kept) go first behind h = behind kept refl h
then_fits (Err e) go first behind h = first h

all-fits : (pairs kept : List (ℕ × ℕ)) → IsKept kept → received_all kept pairs ≡ Err Exceeded → ⊥
all-fits [] kept k h = absurd (cc)
all-fits (p ∷ pairs) kept k h =
    then_fits (received kept p) (λ more. received_all more pairs) (judged-fits (is_forbidden p.0) (is_known p.0) kept p k)
    (λ more e. all-fits pairs more (received-kept kept more p e k)) h

rest-fits : (rest : List ℕ) (kept : List (ℕ × ℕ)) → at_rest rest kept ≡ Err Exceeded → ⊥
rest-fits [] kept h = absurd (cc)
rest-fits (byte ∷ bytes) kept h = let e : Malformed ≡ Exceeded = same_err {T = List (ℕ × ℕ)} Malformed Exceeded h in absurd (cc)

-- no payload has too many settings
pub never_exceeded : (payload : List ℕ) → settings_of payload ≡ Err Exceeded → ⊥
never_exceeded payload h =
    then_fits (received_all [] (pairs_in (split_of payload))) (at_rest (split_of payload).rest) (all-fits (pairs_in (split_of payload)) [] (omega arith))
    (λ kept e. rest-fits (split_of payload).rest kept) h
