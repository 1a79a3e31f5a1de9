-- A response that breaks no rule has one status: so the first is the last, which a reader keeps of a list that is too large.
use Rattle.std.proofs.Common.{◌≡◌, ℕ, ◌+◌, ◌≤◌, Bool, true, false, List, [], ◌∷◌, Option, Some, None, refl, sym, ap, ◌∙◌, arith, if◌then◌else◌, cond}
use Rattle.std.specs.Prelude.{nat_lt, not, ◌||◌, codes, bytes_eq, fold, count_by}
use Rattle.std.specs.List.{list_any}
use Rattle.std.proofs.lemmas.Grind.{common_steps}
use Rattle.std.proofs.lemmas.List.Sums.{sum_by-cons}
use Rattle.h3_field.specs.Field.{Field}
use Rattle.h3_messages.specs.Messages.{first_broken, has_connection_field, has_name, has_space_around, holds, is_length_misplaced, is_length_wrong, only_pseudo_of, pseudo_first, repeats, response_names, value_of, violation_of_response}
use Rattle.h3_messages.specs.declared.violation.Violation.{Violation}
use Rattle.h3_messages.specs.declared.violation.Violation.TheVariants as violation
use Rattle.h3_qpack.specs.Sizes.{last_value, value_after}

-- no field has that name
counted : (name : List ℕ) (f : Field) (fields : List Field) (b : Bool) → has_name name f ≡ b → count_by (has_name name) (f ∷ fields) ≡ cond b 1 0 + count_by (has_name name) fields
counted name f fields b e = sum_by-cons (λ x. cond (has_name name x) 1 0) f fields ∙ ap (λ (c : Bool). cond c 1 0 + count_by (has_name name) fields) e

none_counted : (name : List ℕ) (f : Field) (fields : List Field) → count_by (has_name name) (f ∷ fields) ≡ 0 → (has_name name f ≡ false) × (count_by (has_name name) fields ≡ 0)
none_counted name f fields h = by_name (has_name name f) refl
  where
    by_name : (b : Bool) → has_name name f ≡ b → (has_name name f ≡ false) × (count_by (has_name name) fields ≡ 0)
    by_name true e = let one : 1 + count_by (has_name name) fields ≡ 0 = sym (counted name f fields true e) ∙ h in absurd (omega (arith, one))
    by_name false e = let none : 0 + count_by (has_name name) fields ≡ 0 = sym (counted name f fields false e) ∙ h in (e, omega (arith, none))

last_stays : (name : List ℕ) (last : Option (List ℕ)) (fields : List Field) → count_by (has_name name) fields ≡ 0 → fold (value_after name) last fields ≡ last
last_stays name last [] h = refl
last_stays name last (f ∷ fields) h =
    let none = none_counted name f fields h in
    ap (λ b. fold (value_after name) (if b then Some f.value else last) fields) none.0 ∙ last_stays name last fields none.1

-- one field has it
one_more : (name : List ℕ) (last : Option (List ℕ)) (f : Field) (fields : List Field) → holds name (f ∷ fields) ≡ true → count_by (has_name name) (f ∷ fields) ≤ 1
    → (holds name fields ≡ true → count_by (has_name name) fields ≤ 1 → fold (value_after name) last fields ≡ Some (value_of name fields))
    → fold (value_after name) (value_after name last f) fields ≡ Some (value_of name (f ∷ fields))
one_more name last f fields there few behind = by_name (has_name name f) refl there
  where
    by_name : (b : Bool) → has_name name f ≡ b → (b || holds name fields) ≡ true
        → fold (value_after name) (if b then Some f.value else last) fields ≡ Some (if b then f.value else value_of name fields)
    by_name true e there = last_stays name (Some f.value) fields (omega (arith, counted name f fields true e, few))
    by_name false e there = behind there (omega (arith, counted name f fields false e, few))

one_counted : (name : List ℕ) (last : Option (List ℕ)) (fields : List Field) → holds name fields ≡ true → count_by (has_name name) fields ≤ 1
    → fold (value_after name) last fields ≡ Some (value_of name fields)
one_counted name last [] there few = absurd (cc)
one_counted name last (f ∷ fields) there few = one_more name last f fields there few (λ h k. one_counted name last fields h k)

at_most_one : (n : ℕ) → nat_lt 1 n ≡ false → n ≤ 1
at_most_one n e = grind (arith, common_steps, e)

-- the rules behind one that holds
passed : (b : Bool) (v : Violation) (rules : List (Bool × Violation)) → first_broken ((b, v) ∷ rules) ≡ None → (b ≡ false) × (first_broken rules ≡ None)
passed true v rules e = absurd (cc)
passed false v rules e = (refl, e)

is_true : (b : Bool) → not b ≡ false → b ≡ true
is_true true h = refl
is_true false h = absurd (cc)

-- **The last status of a response that breaks no rule is its status.**
pub one_status : (fields : List Field) → violation_of_response fields ≡ None → last_value (codes ":status") fields ≡ Some (value_of (codes ":status") fields)
unfolding violation_of_response
one_status fields h =
    let last : List (Bool × Violation) =
    (bytes_eq (value_of (codes ":status") fields) (codes "101"), violation.Status) ∷
    (is_length_misplaced fields, violation.ContentLength) ∷
    (list_any has_space_around fields, violation.Value) ∷ [] in
    let missing : List (Bool × Violation) = (not (holds (codes ":status") fields), violation.MissingPseudo) ∷ last in
    let length : List (Bool × Violation) = (is_length_wrong fields, violation.ContentLength) ∷ missing in
    let connection : List (Bool × Violation) = (has_connection_field fields || holds (codes "te") fields, violation.ConnectionField) ∷ length in
    let repeated : List (Bool × Violation) = (repeats (codes ":status") fields, violation.RepeatedPseudo) ∷ connection in
    let wrong : List (Bool × Violation) = (not (only_pseudo_of response_names fields), violation.WrongPseudo) ∷ repeated in
    let one = passed (repeats (codes ":status") fields) violation.RepeatedPseudo connection
    (passed (not (only_pseudo_of response_names fields)) violation.WrongPseudo repeated (passed (not (pseudo_first fields)) violation.PseudoOrder wrong h).1).1 in
    let there = passed (not (holds (codes ":status") fields)) violation.MissingPseudo last
    (passed (is_length_wrong fields) violation.ContentLength missing (passed (has_connection_field fields || holds (codes "te") fields) violation.ConnectionField length one.1).1).1 in
    one_counted (codes ":status") None fields (is_true (holds (codes ":status") fields) there.0) (at_most_one (count_by (has_name (codes ":status")) fields) one.0)
