-- What is said of the list of an answer.
use Rattle.std.proofs.Common.{◌≡◌, List, Some, sym, subst}
use Rattle.std.specs.Prelude.{Option, IfSome}
use Rattle.h3_field.specs.Field.{Field}

-- what is said of a list that reads as a head
pub if_same : (P : List Field → Type 0) (listed : Option (List Field)) (fields : List Field) → listed ≡ Some fields → P fields → IfSome listed P
if_same P listed fields e h = subst (λ o. IfSome o P) (sym e) h
