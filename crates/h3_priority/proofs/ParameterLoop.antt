-- The loop over parameters: what is left reads as the whole does.
use Rattle.std.proofs.Common.{◌≡◌, ℕ, ◌<◌, Bool, true, false, if◌then◌else◌, List, length, drop, Some, None, refl, ◌∙◌, arith}
use Rattle.h3_priority.specs.declared.item.Item.{Item}
use Rattle.h3_priority.specs.Items.{parameter_at, parameters_at}
use Rattle.h3_priority.specs.Reading.{begins_with}
use Rattle.h3_priority.proofs.Shorter.{behind_one, parameter_shorter, parameters_next}

-- a parameter was read, behind its ";"
pub record IsParameter (text taken rest : List ℕ) (item : Item) : Type 0 where
  pub begins : begins_with 59 text ≡ true
  pub taken_is : taken ≡ drop 1 text
  pub read : parameter_at taken ≡ Some (item, rest)

pub shorter : (text taken rest : List ℕ) (item : Item) → IsParameter text taken rest item → length rest < length text
shorter text taken rest item p =
    let left = rw p.read at (parameter_shorter taken) in
    let behind = rw (← p.taken_is) at (behind_one 59 text p.begins) in
    omega (arith, left, behind)

pub same : (text taken rest : List ℕ) (item : Item) → IsParameter text taken rest item → parameters_at text ≡ parameters_at rest
same text taken rest item p =
    let read : parameter_at (drop 1 text) ≡ Some (item, rest) = rw p.taken_is at p.read in
    parameters_next text ∙ rw (p.begins, read) refl

pub refused : (text taken : List ℕ) → begins_with 59 text ≡ true → taken ≡ drop 1 text → parameter_at taken ≡ None → parameters_at text ≡ None
refused text taken begins taken_is none =
    let none_read : parameter_at (drop 1 text) ≡ None = rw taken_is at none in
    parameters_next text ∙ rw (begins, none_read) refl

pub done : (text : List ℕ) → begins_with 59 text ≡ false → parameters_at text ≡ Some (tt, text)
done text none = parameters_next text ∙ rw none refl

-- what `take` leaves where it took
pub taken : (b : Bool) (text rest : List ℕ) → b ≡ true → rest ≡ (if b then drop 1 text else text) → rest ≡ drop 1 text
taken b text rest h e = rw h at e
